-- A file that is whole records lays out what they draw, and nothing else.
use Rattle.std.proofs.Common.{◌≡◌, ℕ, zero, suc, ◌+◌, ◌*◌, ◌<◌, ◌≤◌, true, List, [], ◌∷◌, ◌++◌, length, drop, Some, None, Option, sym, refl, ap, ◌∙◌, arith}
use Rattle.std.proofs.lemmas.List.{append-nil, append_assoc, length-append, drop_all}
use Rattle.std.proofs.lemmas.Bool.{eqb-true, false≢true}
use Rattle.record.specs.Bytes.{field_at}
use Rattle.record.specs.Kinds.{kind_of}
use Rattle.record.specs.Frames.{whole, exact, exact_as}
use Rattle.record.specs.Decoding.{entry_at}
use Rattle.record.specs.declared.kind.Kind.{Kind}
use Rattle.record.specs.declared.entry.Entry.{Entry}
use Rattle.procedure.specs.Drawings.{Drawing, nothing_drawn, grown}
use Rattle.procedure.proofs.Framed.{Framed}
use Rattle.procedure.specs.Layout.{fields_in, fields_of, record_of, records_of, NeatEntry, NeatEntries, drawn_after, Lays}
use Rattle.procedure.specs.Reading.{start_of, entry_as, entry_here, drawn_by, ranged_as, ranged}
use Rattle.procedure.proofs.Fields.{fields_from, length_fields, fields_split}
use Rattle.procedure.proofs.Entries.{Read, kind-code, entry_read}
use Rattle.procedure.proofs.Stepping.{whole_is}
use Rattle.procedure.proofs.Unique.{records-once}

-- one entry more at the end
records-push : (xs : List Entry) (x : Entry) → records_of (xs ++ x ∷ []) ≡ records_of xs ++ record_of x
records-push [] x = append-nil (record_of x)
records-push (y ∷ ys) x = rw (records-push ys x) (sym (append_assoc (record_of y) (records_of ys) (record_of x)))

neat-push : (xs : List Entry) (x : Entry) → NeatEntries xs → NeatEntry x → NeatEntries (xs ++ x ∷ [])
neat-push [] x h g = (g, tt)
neat-push (y ∷ ys) x h g = (h.0, neat-push ys x h.1 g)

drawn-push : (d : Drawing) (xs : List Entry) (x : Entry) → drawn_after d (xs ++ x ∷ []) ≡ grown (drawn_after d xs) (Some x)
drawn-push d [] x = refl
drawn-push d (y ∷ ys) x = drawn-push (grown d (Some y)) ys x

-- what the record at `at` is
record Here (b : List ℕ) (at : ℕ) : Type 0 where
  entry : Entry
  is : entry_here b at ≡ Some entry
  read : Read b at entry

here-as : (b : List ℕ) (at : ℕ) (o : Option Kind) → kind_of (field_at b (at + 2)) ≡ o → exact_as o b at ≡ true → ranged_as o b at ≡ true → Here b at
unfolding entry_here
here-as b at None e x r = absurd (false≢true x)
here-as b at (Some k) e x r =
    record { entry = entry_at k b at; is = ap (λ o. entry_as o b at) e; read = entry_read b at k (kind-code (field_at b (at + 2)) k e) (eqb-true _ _ x) r }

here : (b : List ℕ) (at : ℕ) → exact b at ≡ true → ranged b at ≡ true → Here b at
unfolding ranged
here b at x r = here-as b at (kind_of (field_at b (at + 2))) refl x r

-- its fields are the entry's record
here-record : (b : List ℕ) (at : ℕ) (h : Here b at) → record_of h.entry ≡ fields_from b at (suc h.read.count)
here-record b at h =
    let f = h.read.fields in
    let l : length (fields_of h.entry) ≡ h.read.count = ap length f ∙ length_fields b (at + 2) h.read.count in
    let s : 2 * length (fields_of h.entry) ≡ field_at b at = ap (λ n. 2 * n) l ∙ sym h.read.size in
    cc

-- the first i records lay out what they draw
record Laid (b : List ℕ) (i : ℕ) : Type 0 where
  entries : List Entry
  fields : fields_in b ≡ records_of entries ++ fields_in (drop (start_of b i) b)
  bytes : start_of b i ≡ 2 * length (records_of entries)
  neat : NeatEntries entries
  draws : drawn_after nothing_drawn entries ≡ drawn_by b i

laid_more : (b : List ℕ) (i : ℕ) → Laid b i → Here b (start_of b i) → whole b (start_of b i) ≡ true → Laid b (suc i)
laid_more b i l h w =
    let at = start_of b i in
    let x = h.entry in
    let xs = l.entries in
    let m = suc h.read.count in
    let s = h.read.size in
    let rest = fields_in (drop (at + 2 + field_at b at) b) in
    let e : at + 2 * m ≡ at + 2 + field_at b at = omega arith in
    let q = whole_is b at w in
    let r = here-record b at h in
    let k : length (record_of x) ≡ m = ap length r ∙ length_fields b at m in
    let f : fields_in (drop at b) ≡ record_of x ++ rest =
    fields_split b at m (omega arith) ∙ ap (λ a. a ++ fields_in (drop (at + 2 * m) b)) (sym r) ∙ ap (λ n. record_of x ++ fields_in (drop n b)) e in
    let push = records-push xs x in
    record {
      entries = xs ++ x ∷ [];
      fields = l.fields ∙ ap (λ a. records_of xs ++ a) f ∙ sym (append_assoc (records_of xs) (record_of x) rest) ∙ ap (λ a. a ++ rest) (sym push);
      bytes = omega (arith, l.bytes, ap length push, length-append (records_of xs) (record_of x), k);
      neat = neat-push xs x l.neat h.read.neat;
      draws = drawn-push nothing_drawn xs x ∙ ap (λ d. grown d (Some x)) l.draws ∙ ap (grown (drawn_by b i)) (sym h.is);
    }

laid-to : (b : List ℕ) (n i : ℕ) → Framed b n → i ≤ n → Laid b i
laid-to b n zero f le = record { entries = []; fields = refl; bytes = refl; neat = tt; draws = refl }
laid-to b n (suc i) f le =
    let lt : i < n = omega arith in
    laid_more b i (laid-to b n i f (omega arith)) (here b (start_of b i) (f.each-exact i lt) (f.each-ranged i lt)) (f.each-whole i lt)

pub laid_out : (b : List ℕ) (n : ℕ) → Framed b n → Lays b (drawn_by b n)
laid_out b n f =
    let l = laid-to b n n f (omega arith) in
    let d : drop (start_of b n) b ≡ [] = drop_all (start_of b n) b (omega (arith, f.ends)) in
    record {
      entries = l.entries;
      fields = l.fields ∙ ap (λ r. records_of l.entries ++ fields_in r) d ∙ append-nil (records_of l.entries);
      bytes = sym f.ends ∙ l.bytes;
      neat = l.neat;
      draws = l.draws;
    }

pub laid-once : (b : List ℕ) (n : ℕ) (d : Drawing) → Framed b n → Lays b d → d ≡ drawn_by b n
laid-once b n d f h =
    let g = laid_out b n f in
    let same = records-once h.entries g.entries h.neat g.neat (sym h.fields ∙ g.fields) in
    sym h.draws ∙ ap (drawn_after nothing_drawn) same ∙ g.draws
