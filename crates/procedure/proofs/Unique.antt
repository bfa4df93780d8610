-- A list of fields is the record of one entry only.
use Rattle.std.proofs.Common.{◌≡◌, ℕ, suc, ◌*◌, Bool, true, false, cond, eqb, List, [], ◌∷◌, ◌++◌, length, get_or, take, drop, Some, None, Option, sym, refl, ap, ◌∙◌, arith}
use Rattle.std.proofs.lemmas.List.{append-nil, take_at, drop_at}
use Rattle.std.proofs.lemmas.Bool.{cond-false, ne_eqb}
use Rattle.notation.specs.Parts.{blank_state}
use Rattle.notation.specs.declared.node.Mark.{Mark}
use Rattle.notation.specs.declared.node.Mark.TheVariants.{Unmarked, Shallow, Deep}
use Rattle.notation.specs.declared.node.State.{State}
use Rattle.notation.specs.Tables.{Table}
use Rattle.notation.specs.declared.node.Node.TheVariants.{Closure, Automaton, Sequence, Guard, Choice, Synchronisation, QuantifiedChoice, QuantifiedSynchronisation}
use Rattle.notation.specs.declared.arrow.Arrow.{Arrow}
use Rattle.notation.specs.declared.arrow.Argument.{Argument}
use Rattle.notation.specs.declared.arrow.Argument.TheVariants.{Absent, Constant, Outer, Inner}
use Rattle.record.specs.Kinds.{kind_of}
use Rattle.record.specs.Decoding.{mark_of, unless_none, argument_of}
use Rattle.record.specs.declared.kind.Kind.{Kind}
use Rattle.record.specs.declared.kind.Kind.TheVariants as k
use Rattle.record.specs.declared.entry.Entry.{Entry}
use Rattle.record.specs.declared.entry.Entry.TheVariants as e
use Rattle.procedure.specs.Layout.{mark_field, option_field, argument_fields, state_fields, label_fields, fields_of, records_of, Neat, Written, NeatEntry, NeatEntries}
use Rattle.procedure.proofs.Fields.{padded, neat-padded}

-- the entry that fields tell
abbrev states_in : List ℕ → List State
states_in [] = []
states_in (m ∷ []) = []
states_in (m ∷ c ∷ r) = record { mark = mark_of m; child = unless_none c } ∷ states_in r

abbrev labels_in : List ℕ → Table ℕ
labels_in r = padded 16 0 (drop 1 r)

abbrev argument_in : List ℕ → Argument
argument_in r = argument_of (get_or r 0 0) (get_or r 1 0)

abbrev entry_by : Option Kind → List ℕ → Entry
entry_by None r = e.Node (Closure 0)
entry_by (Some k.Automaton) r = e.Node (Automaton (record { start = get_or r 1 0; table = padded 32 blank_state (states_in (drop 2 r)) }))
entry_by (Some k.Sequence) r = e.Node (Sequence (get_or r 0 0) (get_or r 1 0))
entry_by (Some k.Closure) r = e.Node (Closure (get_or r 0 0))
entry_by (Some k.Guard) r = e.Node (Guard (get_or r 0 0) (get_or r 1 0))
entry_by (Some k.Choice) r = e.Node (Choice (get_or r 0 0) (get_or r 1 0))
entry_by (Some k.Synchronisation) r = e.Node (Synchronisation (get_or r 0 0) (get_or r 1 0) (labels_in (drop 2 r)))
entry_by (Some k.QuantifiedChoice) r = e.Node (QuantifiedChoice (get_or r 0 0) (get_or r 1 0))
entry_by (Some k.QuantifiedSynchronisation) r = e.Node (QuantifiedSynchronisation (get_or r 0 0) (get_or r 1 0) (labels_in (drop 2 r)))
entry_by (Some k.Arrow) r = e.Arrow (record {
  node = get_or r 0 0;
  from = get_or r 1 0;
  to = get_or r 2 0;
  label = get_or r 3 0;
  waits = eqb (get_or r 4 0) 1;
  guard = unless_none (get_or r 5 0);
  first = argument_in (drop 6 r);
  second = argument_in (drop 2 (drop 6 r));
})

abbrev entry_of : List ℕ → Entry
entry_of r = entry_by (kind_of (get_or r 0 0)) (drop 1 r)

-- fields that are written and read again
mark-again : (m : Mark) → mark_of (mark_field m) ≡ m
mark-again Unmarked = refl
mark-again Shallow = refl
mark-again Deep = refl

option-again : (o : Option ℕ) → Written o → unless_none (option_field o) ≡ o
option-again None w = refl
option-again (Some k) w = cond-false (eqb k 65535) None (Some k) (ne_eqb k 65535 w)

waits-again : (w : Bool) → eqb (cond w 1 0) 1 ≡ w
waits-again true = refl
waits-again false = refl

argument-again : (a : Argument) (r : List ℕ) → argument_in (argument_fields a ++ r) ≡ a
argument-again Absent r = refl
argument-again (Constant v) r = refl
argument-again Outer r = refl
argument-again Inner r = refl

argument-behind : (a : Argument) (r : List ℕ) → drop 2 (argument_fields a ++ r) ≡ r
argument-behind Absent r = refl
argument-behind (Constant v) r = refl
argument-behind Outer r = refl
argument-behind Inner r = refl

states-again : (xs : List State) → ((i : ℕ) → Written (get_or xs i blank_state).child) → states_in (state_fields xs) ≡ xs
states-again [] w = refl
states-again (x ∷ xs) w =
    let m = mark-again x.mark in
    let o = option-again x.child (w 0) in
    let r = states-again xs (λ i. w (suc i)) in
    rw (m, o, r) refl

labels-again : (s : Table ℕ) → Neat 16 0 s → labels_in (label_fields s) ≡ s
labels-again s h = neat-padded 16 0 s h

arrow-again : (a : Arrow) → Written a.guard → entry_of (fields_of (e.Arrow a)) ≡ e.Arrow a
arrow-again a h =
    let second = argument_fields a.second in
    let w = waits-again a.waits in
    let g = option-again a.guard h in
    let x = argument-again a.first second in
    let y : argument_in (drop 2 (argument_fields a.first ++ second)) ≡ a.second =
    ap argument_in (argument-behind a.first second ∙ sym (append-nil second)) ∙ argument-again a.second [] in
    rw (w, g, x, y) refl

-- the fields of an entry tell it
pub entry-again : (x : Entry) → NeatEntry x → entry_of (fields_of x) ≡ x
entry-again (e.Node (Automaton s)) h =
    ap (λ t. e.Node (Automaton (record { start = s.start; table = t })))
    (ap (padded 32 blank_state) (states-again s.table.items h.1) ∙ neat-padded 32 blank_state s.table h.0)
entry-again (e.Node (Sequence first second)) h = refl
entry-again (e.Node (Closure body)) h = refl
entry-again (e.Node (Guard guard body)) h = refl
entry-again (e.Node (Choice left right)) h = refl
entry-again (e.Node (Synchronisation left right labels)) h = ap (λ s. e.Node (Synchronisation left right s)) (labels-again labels h)
entry-again (e.Node (QuantifiedChoice over body)) h = refl
entry-again (e.Node (QuantifiedSynchronisation over body labels)) h = ap (λ s. e.Node (QuantifiedSynchronisation over body s)) (labels-again labels h)
entry-again (e.Arrow a) h = arrow-again a h

-- records tell their entries
pub records-once : (xs ys : List Entry) → NeatEntries xs → NeatEntries ys → records_of xs ≡ records_of ys → xs ≡ ys
records-once [] [] h g same = refl
records-once [] (y ∷ ys) h g same = cc
records-once (x ∷ xs) [] h g same = cc
records-once (x ∷ xs) (y ∷ ys) h g same =
    let l : 2 * length (fields_of x) ≡ 2 * length (fields_of y) = cc in
    let t : fields_of x ++ records_of xs ≡ fields_of y ++ records_of ys = cc in
    let n = length (fields_of y) in
    let m : length (fields_of x) ≡ n = omega arith in
    let f : fields_of x ≡ fields_of y =
    sym (take_at (fields_of x) (records_of xs) n m) ∙ ap (take n) t ∙ take_at (fields_of y) (records_of ys) n refl in
    let r : records_of xs ≡ records_of ys =
    sym (drop_at (fields_of x) (records_of xs) n m) ∙ ap (drop n) t ∙ drop_at (fields_of y) (records_of ys) n refl in
    let p : x ≡ y = sym (entry-again x h.0) ∙ ap entry_of f ∙ entry-again y g.0 in
    let q : xs ≡ ys = records-once xs ys h.1 g.1 r in
    cc
