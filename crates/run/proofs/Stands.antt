-- A run and its host after some calls stand as the law says.
use Rattle.std.proofs.Common.{◌≡◌, refl, sym, ◌∙◌, ap, ap₂, subst, ℕ, ◌+◌, ◌-◌, ◌<◌, ◌≤◌, List, [], ◌∷◌, ◌++◌, length, take, drop, get_or, set, Option, Some, None, Result, arith}
use borrow.Rule.Slice.PartMut.{put_mid}
use Rattle.std.proofs.lemmas.List.{length-take-le, length-drop, take_more, get_or_default}
use Rattle.fault.specs.declared.fault.Fault.{Fault}
use Rattle.event.specs.declared.event.Event.{Event}
use Rattle.host.specs.Meanings.{Meaning, Told}
use Rattle.rules.specs.Trees.{Tree}
use Rattle.rules.specs.Cells.{Cells}
use Rattle.rules.specs.InRange.{Sound}
use Rattle.rules.specs.Laws.{meaning_after}
use Rattle.rules.proofs.Growing.{tree-sound}
use Rattle.law.specs.Chained.{HoldsEnds}
use Rattle.law.specs.Calls.{Outcome, taken_in, taken, AllLawful, outcome_of, states_after, outcomes_of, states_then}
use Rattle.law.specs.declared.call.Call.{Call}
use Rattle.law.proofs.Offers.{told-taken}
use Rattle.law.proofs.Logs.{taken-from, taken-more, outcomes-more, states-more, states-hold, all-lawful}
use Rattle.run.specs.Runs.{opened_with, tree_with, tree_in, ceiling_with, ceiling_in, states, WhereItStands, KeepsStanding}
use Rattle.opened.specs.Opens.{with_of}
use Rattle.run.specs.Replays.{places_of, outcome_in, outcomes_in, places_after, events_after}
use Rattle.opened.specs.declared.opened.Opened.{Opened}
use Rattle.run.specs.declared.run.Run.{Run}
use Rattle.run.proofs.Replays.{Made, made-log, made-room, made-more}

-- the tree of an opened run is that of a procedure that was read
sound-opened : (o : Option Opened) → Sound (tree_in (record { opened = o }))
sound-opened None = tt
sound-opened (Some o) = tree-sound (with_of o).values (with_of o).drawing o.diagram.plan.procedure.drawn (length (with_of o).drawing.nodes - 1)

-- and that of any run
pub sound-in : (run : Run) → Sound (tree_in run)
sound-in run = sound-opened run.opened

-- what a run and its host come to by calls: it holds the states after them, and the host was told what was taken
pub record Went (before : Run) (now : Meaning) (cs : List Call) (after : Run) (then : Meaning) : Type 0 where
  pub holds : states after ≡ states_then (tree_in before) (ceiling_in before) (states before) now cs
  pub told : Told now (taken [] (outcomes_of (tree_in before) (ceiling_in before) (states before) now cs)) then
  pub same : opened_with after ≡ opened_with before

-- by none
pub went-none : (run : Run) (now : Meaning) → Went run now [] run now
went-none run now = record { holds = refl; told = λ w guard e v. refl; same = refl }

module _ (before : Run) (now : Meaning) where
  abbrev t : Tree
  t = tree_in before

  abbrev ceiling : ℕ
  ceiling = ceiling_in before

  abbrev log : List Call → List Outcome
  log cs = outcomes_of t ceiling (states before) now cs

  abbrev next : List Call → Call → Outcome
  next cs c = outcome_of t ceiling (states_then t ceiling (states before) now cs) (meaning_after (taken [] (log cs)) now) c

  module _ (cs : List Call) (after : Run) (then : Meaning) (k : Went before now cs after then) where
    -- what the host means then
    means : then ≡ meaning_after (taken [] (log cs)) now
    means = λ i w guard e v. k.told w guard e v i

    -- what one call more comes to
    pub comes-to : (c : Call) → outcome_of (tree_in after) (ceiling_in after) (states after) then c ≡ next cs c
    comes-to c =
        let a : tree_in after ≡ t = ap tree_with k.same in
        let b : ceiling_in after ≡ ceiling = ap ceiling_with k.same in
        let h = k.holds in
        let n = means in
        rw (a, b, h, n) refl

    -- the log of one call more
    pub log-more : (c : Call) → log (cs ++ c ∷ []) ≡ log cs ++ next cs c ∷ []
    log-more c = outcomes-more t ceiling (states before) now cs c

    -- one call more
    pub went-more : (c : Call) (o : Outcome) (last : Run) (end : Meaning)
        → o ≡ outcome_of (tree_in after) (ceiling_in after) (states after) then c
        → states last ≡ states_after (tree_in after) (states after) then o → Told then (taken_in o) end → opened_with last ≡ opened_with after
        → Went before now (cs ++ c ∷ []) last end
    went-more c o last end is h told same =
        let new : o ≡ next cs c = is ∙ comes-to c in
        record {
          holds =
              let a : tree_in after ≡ t = ap tree_with k.same in
              let s = k.holds in
              let n = means in
              let p : states_after (tree_in after) (states after) then o ≡ states_after t (states_then t ceiling (states before) now cs) (meaning_after (taken [] (log cs)) now) (next cs c) = rw (a, s, n, new) refl in
              h ∙ p ∙ sym (states-more t ceiling (states before) now cs c);
          told =
              let all : taken [] (log (cs ++ c ∷ [])) ≡ taken [] (log cs) ++ taken_in o =
              ap (taken []) (log-more c) ∙ taken-more [] (log cs) (next cs c) ∙ ap (λ (x : Outcome). taken [] (log cs) ++ taken_in x) (sym new) in
              subst (λ (w : List Event). Told now w end) (sym all) (told-taken now (taken [] (log cs)) then (taken_in o) end k.told told);
          same = same ∙ k.same;
        }

    -- it stands as the law says, where it did
    pub stands-after : KeepsStanding before now (λ w. taken w (log cs)) after then
    stands-after d values c m w s =
        let tree = s.is_of in
        let h : HoldsEnds t m w (states before) = subst (λ (x : Tree). HoldsEnds x m w (states before)) (sym tree) s.holds in
        let held = states-hold t ceiling m w (states before) now h s.told cs in
        record {
          is_of = ap tree_with k.same ∙ tree;
          has_ceiling = ap ceiling_with k.same ∙ s.has_ceiling;
          holds = subst (λ (x : Tree). HoldsEnds x m (taken w (log cs)) (states after)) tree (subst (λ (l : List Cells). HoldsEnds t m (taken w (log cs)) l) (sym k.holds) held);
          told = subst (λ (l : List Event). Told m l then) (sym (taken-from w (log cs))) (told-taken m w now (taken [] (log cs)) then s.told k.told);
        }

  -- every call obeys the law
  pub lawful-after : (cs : List Call) → WhereItStands before now (λ x c m w. AllLawful x c m w (log cs))
  lawful-after cs d values c m w s =
      let tree = s.is_of in
      let h : HoldsEnds t m w (states before) = subst (λ (x : Tree). HoldsEnds x m w (states before)) (sym tree) s.holds in
      subst (λ (x : Tree). AllLawful x c m w (log cs)) tree
      (subst (λ (n : ℕ). AllLawful t n m w (log cs)) s.has_ceiling (all-lawful t ceiling m (sound-in before) w (states before) now h s.told cs))

-- one call more is made, where there is room for its answer and its places
pub one-more : (before : Run) (now : Meaning) (cs : List Call) (rs : List (Result ℕ Fault)) (es : List Event) (i at : ℕ)
    (rs' : List (Result ℕ Fault)) (es' : List Event) (after : Run) (then : Meaning)
    → Made cs (outcomes_of (tree_in before) (ceiling_in before) (states before) now (take i cs)) rs rs' es es' i at
    → Went before now (take i cs) after then
    → (d c : Call) (n k : ℕ) (r : Result ℕ Fault) (ps : List Event) (last : Run) (end : Meaning)
    → c ≡ get_or cs i d → i < length cs → (i ≡ length rs' → ⊥) → n ≡ places_of c → n ≤ length es' - at → k ≡ n → length ps ≡ length (take k (drop at es'))
    → (length (take k (drop at es')) ≡ places_of c → outcome_in c r ps ≡ outcome_of (tree_in after) (ceiling_in after) (states after) then c)
    → (length (take k (drop at es')) ≡ places_of c → ps ≡ places_after (outcome_in c r ps) (take k (drop at es')))
    → states last ≡ states_after (tree_in after) (states after) then (outcome_in c r ps) → Told then (taken_in (outcome_in c r ps)) end
    → opened_with last ≡ opened_with after
    → Made cs (outcomes_of (tree_in before) (ceiling_in before) (states before) now (take (i + 1) cs)) rs (set rs' i r) es (put_mid at k es' ps) (i + 1) (at + n)
    × Went before now (take (i + 1) cs) last end
one-more before now cs rs es i at rs' es' after then m w d c n k r ps last end is below free reads enough wide size comes puts holds told same =
    let there : c ≡ get_or cs i c = is ∙ get_or_default cs i d c below in
    let calls : take (i + 1) cs ≡ take i cs ++ c ∷ [] = take_more cs i c below ∙ ap (λ (x : Call). take i cs ++ x ∷ []) (sym there) in
    let o = outcome_in c r ps in
    let width : k ≡ places_of c = wide ∙ reads in
    let fits : places_of c ≤ length es' - at = omega (arith, reads, enough) in
    let all : length (take k (drop at es')) ≡ places_of c = length-take-le k (drop at es') (omega (arith, width, fits, length-drop at es')) ∙ width in
    let next = next before now (take i cs) c in
    let new : o ≡ next = comes all ∙ comes-to before now (take i cs) after then w c in
    let more = made-more cs (log before now (take i cs)) rs rs' es es' i at m c r ps next below (omega (arith, m.as_many, m.answered, free)) there
    (omega (arith, fits, m.as_wide)) (size ∙ all) new (puts all ∙ ap₂ (λ (x : Outcome) (j : ℕ). places_after x (take j (drop at es'))) new width) in (
      rw (calls, width, reads, log-more before now (take i cs) after then w c) more,
      rw calls (went-more before now (take i cs) after then w c o last end (comes all) holds told same),
    )

-- what a replay leaves when it ends after n calls
pub record Replayed (before : Run) (now : Meaning) (cs : List Call) (rs : List (Result ℕ Fault)) (es : List Event) (n : ℕ)
    (rs' : List (Result ℕ Fault)) (es' : List Event) (after : Run) (then : Meaning) : Type 0 where
  pub logs : outcomes_in (take n cs) rs' es' ≡ outcomes_of (tree_in before) (ceiling_in before) (states before) now (take n cs)
  pub leaves_answers : drop n rs' ≡ drop n rs
  pub leaves_places : es' ≡ events_after (outcomes_in (take n cs) rs' es') es
  pub holds : states after ≡ states_then (tree_in before) (ceiling_in before) (states before) now (take n cs)
  pub tells : Told now (taken [] (outcomes_in (take n cs) rs' es')) then
  pub keeps : opened_with after ≡ opened_with before
  pub stands : KeepsStanding before now (λ w. taken w (outcomes_in (take n cs) rs' es')) after then
  pub lawful : WhereItStands before now (λ t ceiling m w. AllLawful t ceiling m w (outcomes_in (take n cs) rs' es'))

-- it leaves that
pub replayed : (before : Run) (now : Meaning) (cs : List Call) (rs : List (Result ℕ Fault)) (es : List Event) (n at : ℕ)
    (rs' : List (Result ℕ Fault)) (es' : List Event) (after : Run) (then : Meaning)
    → Made cs (outcomes_of (tree_in before) (ceiling_in before) (states before) now (take n cs)) rs rs' es es' n at
    → Went before now (take n cs) after then
    → Replayed before now cs rs es n rs' es' after then
replayed before now cs rs es n at rs' es' after then m k =
    let os = outcomes_of (tree_in before) (ceiling_in before) (states before) now (take n cs) in
    let logs = made-log cs os rs rs' es es' n at m in
    record {
      logs = logs;
      leaves_answers = m.later_answers;
      leaves_places = rw logs (made-room cs os rs rs' es es' n at m);
      holds = k.holds;
      tells = rw logs k.told;
      keeps = k.same;
      stands = rw logs (stands-after before now (take n cs) after then k);
      lawful = rw logs (lawful-after before now (take n cs));
    }
