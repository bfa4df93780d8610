-- Calls that are made together come to what they come to one after the other.
use Rattle.std.proofs.Common.{◌≡◌, refl, sym, ◌∙◌, ap, ℕ, ◌+◌, ◌-◌, Bool, true, false, cond, List, [], ◌∷◌, ◌++◌, length, take, drop, map, Option, None, Ok, Err, Result, append_assoc, append-nil, arith, take_all}
use Rattle.std.specs.Prelude.{is_ok, codes}
use Rattle.std.specs.Result.{IsOkAnd}
use Rattle.std.proofs.lemmas.Bool.{le-leb}
use Rattle.std.proofs.lemmas.List.{take-append-le}
use Rattle.fault.specs.declared.fault.Fault.{Fault}
use Rattle.event.specs.declared.event.Event.{Event}
use Rattle.host.specs.Meanings.{Meaning, Told}
use Rattle.procedure.specs.Drawings.{Drawing}
use Rattle.procedure.specs.Reading.{left_by}
use Rattle.rules.specs.Cells.{Cells, initial}
use Rattle.rules.specs.Laws.{meaning_after}
use Rattle.law.specs.Calls.{Outcome, taken_in, taken, outcome_of, outcomes_of, states_then, meaning_then}
use Rattle.law.specs.declared.call.Call.{Call}
use Rattle.law.specs.declared.call.Call.TheVariants.{Offer, Menu}
use Rattle.law.proofs.Logs.{taken-from}
use Rattle.opened.specs.Opening.{told_values, open_answer}
use Rattle.run.specs.Runs.{opened_with, tree_with, ceiling_with, tree_in, ceiling_in, states, Stands}
use Rattle.run.specs.Replays.{places_of, calls_made, outcomes_in, and_then, rehearsed, told_tree}
use Rattle.run.specs.declared.run.Run.{Run}
use Rattle.text.specs.Texts.{◌⌢◌}
use Rattle.script.specs.Texts.{held_line}
use Rattle.script.specs.declared.line.Line.{Line}
use Rattle.script.specs.declared.line.Line.TheVariants.{Open}
use Rattle.logger.specs.Logs.{outcome_line, log_text}
use Rattle.logger.specs.Playing.{Standing, saying, after_outcome, after_call, after_open, after_line, after_lines}
use Rattle.logger.specs.Places.{places_together}
use Rattle.logger.specs.Stretches.{line_of_call, opening_lines, after_calls, standing}

-- there is room for all, where each has an answer and its places
pub made-all : (cs : List Call) → calls_made cs (length cs) (places_together cs) ≡ length cs
made-all [] = refl
made-all (c ∷ cs) =
    let e : places_of c + places_together cs - places_of c ≡ places_together cs = omega arith in
    rw (le-leb (places_of c) (places_of c + places_together cs) (omega arith), e, made-all cs) refl

-- what the host means after one more call before others
before-others : (now : Meaning) (o : Outcome) (os : List Outcome) → ◌≡◌ {A = Meaning} (meaning_after (taken [] os) (meaning_then now o)) (meaning_after (taken [] (o ∷ os)) now)
before-others now o os = λ i es guard e v. now (sides es i) guard e v
  where
    sides : (es : List Event) → taken_in o ++ (taken [] os ++ es) ≡ taken (taken_in o) os ++ es
    sides es = sym (append_assoc (taken_in o) (taken [] os) es) ∙ ap (λ (l : List Event). l ++ es) (sym (taken-from (taken_in o) os))

-- what an opening answers, where all that goes the whole way answers this
first-of : Result (ℕ × ℕ) Fault → ℕ
first-of (Ok both) = both.0
first-of (Err f) = 0

second-of : Result (ℕ × ℕ) Fault → ℕ
second-of (Ok both) = both.1
second-of (Err f) = 0

answered : (r : Result ℕ Fault) (k rows n : ℕ) → Ok (rows, n) ≡ and_then r k → r ≡ Ok rows
unfolding first-of
answered (Ok held) k rows n e = ap Ok (sym (ap first-of e))
answered (Err f) k rows n e = absurd (cc)

counted : (r : Result ℕ Fault) (k rows n : ℕ) → Ok (rows, n) ≡ and_then r k → n ≡ k
unfolding second-of
counted (Ok held) k rows n e = ap second-of e
counted (Err f) k rows n e = absurd (cc)

not-answered : (r : Result ℕ Fault) (k : ℕ) (f : Fault) → Err f ≡ and_then r k → r ≡ Err f
not-answered (Ok held) k f e = absurd (cc)
not-answered (Err g) k f e = cc

-- how it stands after calls that came to something, with these states
abbrev pub after_log : Standing → List Cells → List Outcome → Standing
after_log s held os =
    record { tree = s.tree; ceiling = s.ceiling; held = held; now = meaning_after (taken [] os) s.now; told = s.told; said = s.said ++ log_text os }

-- calls one after the other
pub together : (s : Standing) (cs : List Call) → after_calls s cs ≡ after_log s (states_then s.tree s.ceiling s.held s.now cs) (outcomes_of s.tree s.ceiling s.held s.now cs)
together s [] = λ i. record { tree = s.tree; ceiling = s.ceiling; held = s.held; now = s.now; told = s.told; said = sym (append-nil s.said) i }
together s (c ∷ cs) =
    let o = outcome_of s.tree s.ceiling s.held s.now c in
    let after = after_outcome s o in
    let os = outcomes_of s.tree s.ceiling after.held after.now cs in
    together after cs
    ∙ (λ i. record {
      tree = s.tree;
      ceiling = s.ceiling;
      held = states_then s.tree s.ceiling after.held after.now cs;
      now = before-others s.now o os i;
      told = s.told;
      said = append_assoc s.said (outcome_line o) (log_text os) i;
    })

-- the same as lines
pub as-lines : (d : Drawing) (s : Standing) (cs : List Call) → after_lines d s (map line_of_call cs) ≡ after_calls s cs
as-lines d s [] = refl
as-lines d s (Offer e ∷ cs) = as-lines d (after_call s (Offer e)) cs
as-lines d s (Menu n ∷ cs) = as-lines d (after_call s (Menu n)) cs

-- lines in two parts
pub lines-append : (d : Drawing) (s : Standing) (ls ms : List Line) → after_lines d s (ls ++ ms) ≡ after_lines d (after_lines d s ls) ms
lines-append d s [] ms = refl
lines-append d s (l ∷ ls) ms = lines-append d (after_line d s l) ls ms

-- no lines wait where there is no opening and no call
pub none-wait : (opening : Option ℕ) (cs : List Call) → opening ≡ None → cs ≡ [] → opening_lines opening ++ map line_of_call cs ≡ []
none-wait opening cs shut none = λ i. opening_lines (shut i) ++ map line_of_call (none i)

-- what is written back into a whole list
pub put-back : {X : Type 0} (n : ℕ) (new old : List X) → length new ≡ n → take n (new ++ drop (length new) old) ≡ new
put-back n new old e = take-append-le n new (drop (length new) old) (omega arith) ∙ take_all n new (omega arith)

-- the places of one call more
pub places-more : (cs : List Call) (c : Call) → places_together (cs ++ c ∷ []) ≡ places_together cs + places_of c
places-more [] c = omega arith
places-more (b ∷ cs) c = omega (arith, places-more cs c)

pub offer-counted : (b : Bool) (cs new : List Call) (e : Event) (n : ℕ) → n ≡ places_together cs → new ≡ cond b (cs ++ Offer e ∷ []) cs → n ≡ places_together new
offer-counted true cs new e n is more =
    let one : places_together (cs ++ Offer e ∷ []) ≡ places_together cs + 0 = places-more cs (Offer e) in
    let all : places_together new ≡ places_together (cs ++ Offer e ∷ []) = ap places_together more in
    omega (arith, is, one, all)
offer-counted false cs new e n is more = is ∙ ap places_together (sym more)

pub menu-counted : (cs new : List Call) (k n : ℕ) → n ≡ places_together cs → new ≡ cs ++ Menu k ∷ [] → n + k ≡ places_together new
menu-counted cs new k n is more =
    let one : places_together (cs ++ Menu k ∷ []) ≡ places_together cs + k = places-more cs (Menu k) in
    let all : places_together new ≡ places_together (cs ++ Menu k ∷ []) = ap places_together more in
    omega (arith, is, one, all)

-- how many calls were made, where all that goes the whole way answers this
pub made-of : (x : Result Drawing Fault) (told : ℕ → Option (List ℕ)) (ceiling k rows n : ℕ) → Ok (rows, n) ≡ rehearsed x told ceiling k → n ≡ k
made-of (Ok d) told ceiling k rows n e = counted (open_answer d told ceiling) k rows n e
made-of (Err f) told ceiling k rows n e = absurd (cc)

module _ (cs : List Call) (rs : List (Result ℕ Fault)) (es : List Event) (told : ℕ → Option (List ℕ)) (said said' : List ℕ) (after : Run) (now then : Meaning)
    (n k a p : ℕ) (made : n ≡ k) (room : k ≡ calls_made cs a p) (answers : a ≡ length cs) (places : p ≡ places_together cs) where
  all : take n cs ≡ cs
  all =
      let e : calls_made cs a p ≡ length cs = (λ i. calls_made cs (answers i) (places i)) ∙ made-all cs in
      take_all n cs (omega (arith, made, room, e))

  -- how a run stands after a replay of all calls
  pub replay-stands : (before : Run)
      → outcomes_in (take n cs) rs es ≡ outcomes_of (tree_in before) (ceiling_in before) (states before) now (take n cs)
      → states after ≡ states_then (tree_in before) (ceiling_in before) (states before) now (take n cs)
      → Told now (taken [] (outcomes_in (take n cs) rs es)) then
      → opened_with after ≡ opened_with before
      → said' ≡ said ++ log_text (outcomes_in cs rs es)
      → standing after then told said' ≡ after_calls (standing before now told said) cs
  replay-stands before logs holds tells same says =
      let s = standing before now told said in
      let log : outcomes_in cs rs es ≡ outcomes_of s.tree s.ceiling s.held now cs = rw all at logs in
      let held : states after ≡ states_then s.tree s.ceiling s.held now cs = rw all at holds in
      let heard : Told now (taken [] (outcomes_of s.tree s.ceiling s.held now cs)) then = rw log at (rw all at tells) in
      let text = says ∙ ap (λ (os : List Outcome). said ++ log_text os) log in
      (λ i. record { tree = tree_with (same i); ceiling = ceiling_with (same i); held = held i; now = λ w guard e v. heard w guard e v i; told = told; said = text i })
      ∙ sym (together s cs)

  -- how it stands after an opening and all calls
  pub opening-stands : (x : Result Drawing Fault) (ceiling rows : ℕ) (before : Run) → is_ok x ≡ true
      → Ok (rows, n) ≡ rehearsed x told ceiling k
      → IsOkAnd x (λ d. Stands d (told_values told) ceiling now (taken [] (outcomes_in (take n cs) rs es)) after then)
      → IsOkAnd x (λ d. outcomes_in (take n cs) rs es ≡ outcomes_of (told_tree told d) ceiling (initial (told_tree told d) ∷ []) now (take n cs))
      → IsOkAnd x (λ d. states after ≡ states_then (told_tree told d) ceiling (initial (told_tree told d) ∷ []) now (take n cs))
      → said' ≡ (said ++ (held_line (Open ceiling) (Ok rows) ⌢ codes "\n")) ++ log_text (outcomes_in cs rs es)
      → standing after then told said' ≡ after_lines (left_by x) (standing before now told said) (Open ceiling ∷ map line_of_call cs)
  opening-stands (Err f) ceiling rows before good answer stands logs holds says = absurd (cc)
  opening-stands (Ok d) ceiling rows before good answer stands logs holds says =
      let s = standing before now told said in
      let text : List ℕ = said ++ (held_line (Open ceiling) (Ok rows) ⌢ codes "\n") in
      let t = told_tree told d in
      let begun : Standing = record { tree = t; ceiling = ceiling; held = initial t ∷ []; now = now; told = told; said = text } in
      let opens : open_answer d told ceiling ≡ Ok rows = answered (open_answer d told ceiling) k rows n answer in
      let log : outcomes_in cs rs es ≡ outcomes_of t ceiling (initial t ∷ []) now cs = rw all at logs in
      let held : states after ≡ states_then t ceiling (initial t ∷ []) now cs = rw all at holds in
      let heard : Told now (taken [] (outcomes_of t ceiling (initial t ∷ []) now cs)) then = rw log at (rw all at stands.told) in
      let all-said = says ∙ ap (λ (os : List Outcome). text ++ log_text os) log in
      (λ i. record { tree = stands.is_of i; ceiling = stands.has_ceiling i; held = held i; now = λ w guard e v. heard w guard e v i; told = told; said = all-said i })
      ∙ sym (together begun cs)
      ∙ sym (as-lines d begun cs)
      ∙ sym (ap (λ (r : Result ℕ Fault). after_lines d (saying (held_line (Open ceiling) r ⌢ codes "\n") (after_open d ceiling s r)) (map line_of_call cs)) opens)

-- an opening that is refused says so, and the calls behind it are made on the run as it was
pub opening-refused : (x : Result Drawing Fault) (told : ℕ → Option (List ℕ)) (ceiling k : ℕ) (f : Fault) (before : Run) (now : Meaning) (said : List ℕ) (cs : List Call) → is_ok x ≡ true
    → Err f ≡ rehearsed x told ceiling k
    → after_calls (standing before now told (said ++ (held_line (Open ceiling) (Err f) ⌢ codes "\n"))) cs ≡ after_lines (left_by x) (standing before now told said) (Open ceiling ∷ map line_of_call cs)
opening-refused (Err g) told ceiling k f before now said cs good answer = absurd (cc)
opening-refused (Ok d) told ceiling k f before now said cs good answer =
    let s = standing before now told said in
    let refused : open_answer d told ceiling ≡ Err f = not-answered (open_answer d told ceiling) k f answer in
    sym (as-lines d (saying (held_line (Open ceiling) (Err f) ⌢ codes "\n") s) cs)
    ∙ sym (ap (λ (r : Result ℕ Fault). after_lines d (saying (held_line (Open ceiling) r ⌢ codes "\n") (after_open d ceiling s r)) (map line_of_call cs)) refused)
