-- Where a run stands as the law says, what an offer on it is answered obeys the law, and it stands so afterwards.
use Rattle.std.proofs.Common.{◌≡◌, refl, sym, ◌∙◌, ap, subst, ℕ, List, [], ◌++◌, length, Some, None, Ok, Err, Option, Result}
use Rattle.fault.specs.Asking.{refusal, answer_or}
use Rattle.fault.specs.declared.fault.Fault.{Fault}
use Rattle.fault.proofs.Refusals.{refusal-more, refusal-stop, told}
use Rattle.event.specs.Forms.{form_asks}
use Rattle.event.specs.declared.event.Event.{Event}
use Rattle.host.specs.Meanings.{Meaning, Told}
use Rattle.rules.specs.Trees.{Tree}
use Rattle.rules.specs.Cells.{Cells}
use Rattle.rules.specs.Ends.{arranged}
use Rattle.rules.specs.Moves.{over}
use Rattle.law.specs.Offers.{next_states, next_asks, offer_answer, held_after, taken_by}
use Rattle.law.specs.Chained.{HoldsEnds, no_successor, RefusedWithoutChain, RefusedOverCeiling, TakenOtherwise, OfferedInstead}
use Rattle.law.proofs.Offers.{told-taken, offer-holds, offer-stuck, offer-over, offer-taken, offered-instead}
use Rattle.opened.specs.States.{states_in}
use Rattle.opened.specs.Opening.{root_tree}
use Rattle.run.specs.Runs.{tree_with, ceiling_with, opened_with, tree_in, ceiling_in, states, WhereItStands, KeepsStanding}
use Rattle.opened.specs.Opens.{tree_of_opened}
use Rattle.opened.specs.declared.opened.Opened.{Opened}
use Rattle.run.specs.declared.run.Run.{Run}
use Rattle.run.proofs.OpenedRuns.{opened-tree, opened-ceiling, opened-states}

-- without a state nothing comes next
pub nothing-next : (t : Tree) (now : Meaning) (e : Event) → next_states t [] now e ≡ []
unfolding arranged over
nothing-next t now e = refl

-- the questions of an event's form are asked first
pub in-form : {X : Type 0} (x : X) (o : Option Fault) (r : Result X Fault) → r ≡ Ok x → r ≡ answer_or o x → o ≡ None
in-form x o r ok is = told x o (Ok x) (sym ok ∙ is)

pub out-of-form : {X : Type 0} (x : X) (o : Option Fault) (f : Fault) (r : Result X Fault) → r ≡ Err f → r ≡ answer_or o x → o ≡ Some f
out-of-form x o f r err is = told x o (Err f) (sym err ∙ is)

module _ (t : Tree) (ceiling : ℕ) (held : List Cells) (now : Meaning) (e : Event) where
  -- one that is answered no is the refusal
  pub refused-form : (f : Fault) → refusal (form_asks e) ≡ Some f → Err f ≡ offer_answer t ceiling held now e
  refused-form f h =
      sym (ap (λ (o : Option Fault). answer_or o (length (next_states t held now e))) (refusal-stop (form_asks e) (next_asks ceiling held (next_states t held now e)) f h))

  -- and then those of the next states
  pub answered-next : (o : Option Fault) → refusal (form_asks e) ≡ None → refusal (next_asks ceiling held (next_states t held now e)) ≡ o
      → answer_or o (length (next_states t held now e)) ≡ offer_answer t ceiling held now e
  answered-next o h is =
      sym (ap (λ (k : Option Fault). answer_or k (length (next_states t held now e))) (refusal-more (form_asks e) (next_asks ceiling held (next_states t held now e)) h ∙ is))

-- what a run that never was opened answers
pub answered-unopened : (t : Tree) (ceiling : ℕ) (held : List Cells) (now : Meaning) (e : Event) (f : Fault) → held ≡ [] → refusal (form_asks e) ≡ None → f ≡ no_successor 0
    → Err f ≡ offer_answer t ceiling held now e
answered-unopened t ceiling held now e f none h is =
    let refused : refusal (next_asks ceiling held (next_states t held now e)) ≡ Some (no_successor 0) =
    ap (λ (l : List Cells). refusal (next_asks ceiling l (next_states t l now e))) none ∙ ap (λ (n : List Cells). refusal (next_asks ceiling [] n)) (nothing-next t now e) in
    ap {B = Result ℕ Fault} Err is ∙ answered-next t ceiling held now e (Some (no_successor 0)) h refused

module _ (run : Run) (now : Meaning) where
  -- the answer, for an opened run
  pub opened-answer : (o : Opened) (e : Event) → run.opened ≡ Some o → offer_answer (tree_of_opened o) o.ceiling (states_in o.held) now e ≡ offer_answer (tree_in run) (ceiling_in run) (states run) now e
  opened-answer o e is =
      ap (λ (t : Tree). offer_answer t o.ceiling (states_in o.held) now e) (sym (opened-tree run o is))
      ∙ ap (λ (n : ℕ). offer_answer (tree_in run) n (states_in o.held) now e) (sym (opened-ceiling run o is))
      ∙ ap (λ (l : List Cells). offer_answer (tree_in run) (ceiling_in run) l now e) (sym (opened-states run o is))

  module _ (e : Event) (r : Result ℕ Fault) (is : r ≡ offer_answer (tree_in run) (ceiling_in run) (states run) now e) where
    -- what was answered is what the tree and the ceiling of the law answer
    there : (t : Tree) (ceiling : ℕ) → tree_in run ≡ t → ceiling_in run ≡ ceiling → r ≡ offer_answer t ceiling (states run) now e
    there t ceiling p q =
        is ∙ ap (λ (u : Tree). offer_answer u (ceiling_in run) (states run) now e) p ∙ ap (λ (n : ℕ). offer_answer t n (states run) now e) q

    -- and so the answer obeys the law
    pub law-without-chain : WhereItStands run now (λ t ceiling m w. RefusedWithoutChain t m w e r)
    law-without-chain d values ceiling m w s =
        offer-stuck (root_tree values d) ceiling m w (states run) now s.holds s.told e r (there (root_tree values d) ceiling s.is_of s.has_ceiling)

    pub law-over-ceiling : WhereItStands run now (λ t ceiling m w. RefusedOverCeiling t ceiling m w e r)
    law-over-ceiling d values ceiling m w s =
        offer-over (root_tree values d) ceiling m w (states run) now s.holds s.told e r (there (root_tree values d) ceiling s.is_of s.has_ceiling)

    pub law-taken : WhereItStands run now (λ t ceiling m w. TakenOtherwise t ceiling m w e r)
    law-taken d values ceiling m w s =
        offer-taken (root_tree values d) ceiling m w (states run) now s.holds s.told e r (there (root_tree values d) ceiling s.is_of s.has_ceiling)

  -- so would that to another event
  pub law-instead : WhereItStands run now (λ t ceiling m w. OfferedInstead t ceiling m w (states run) now)
  law-instead d values ceiling m w s = offered-instead (root_tree values d) ceiling m w (states run) now s.holds s.told

  -- it stands so afterwards
  pub law-keeps : (e : Event) (r : Result ℕ Fault) (run' : Run) (now' : Meaning) → opened_with run' ≡ opened_with run → states run' ≡ held_after (tree_in run) (states run) now e r
      → Told now (taken_by e r) now' → KeepsStanding run now (λ w. w ++ taken_by e r) run' now'
  law-keeps e r run' now' same holds tells d values ceiling m w s = record {
    is_of = ap tree_with same ∙ s.is_of;
    has_ceiling = ap ceiling_with same ∙ s.has_ceiling;
    holds = subst (λ (l : List Cells). HoldsEnds (root_tree values d) m (w ++ taken_by e r) l)
        (sym (holds ∙ ap (λ (t : Tree). held_after t (states run) now e r) s.is_of))
        (offer-holds (root_tree values d) m w (states run) now s.holds s.told e r);
    told = told-taken m w now (taken_by e r) now' s.told tells;
  }

-- the states that are taken over are those that come next
pub held-next : (run : Run) (now : Meaning) (o : Opened) (e : Event) → run.opened ≡ Some o → (n : ℕ) (next : List Cells)
    → next ≡ next_states (tree_of_opened o) (states_in o.held) now e → next ≡ held_after (tree_in run) (states run) now e (Ok n)
held-next run now o e is n next same =
    same ∙ ap (λ (t : Tree). next_states t (states_in o.held) now e) (sym (opened-tree run o is)) ∙ ap (λ (l : List Cells). next_states (tree_in run) l now e) (sym (opened-states run o is))

-- what is answered where the run is open and the next states were asked for
module _ (run : Run) (now : Meaning) (o : Opened) (e : Event) (is : run.opened ≡ Some o) (form : refusal (form_asks e) ≡ None) where
  pub answered-refused : (f : Fault) → refusal (next_asks o.ceiling (states_in o.held) (next_states (tree_of_opened o) (states_in o.held) now e)) ≡ Some f
      → Err f ≡ offer_answer (tree_in run) (ceiling_in run) (states run) now e
  answered-refused f h = answered-next (tree_of_opened o) o.ceiling (states_in o.held) now e (Some f) form h ∙ opened-answer run now o e is

  pub answered-taken : (n : ℕ) → refusal (next_asks o.ceiling (states_in o.held) (next_states (tree_of_opened o) (states_in o.held) now e)) ≡ None
      → n ≡ length (next_states (tree_of_opened o) (states_in o.held) now e)
      → Ok n ≡ offer_answer (tree_in run) (ceiling_in run) (states run) now e
  answered-taken n h count = ap {B = Result ℕ Fault} Ok count ∙ answered-next (tree_of_opened o) o.ceiling (states_in o.held) now e None form h ∙ opened-answer run now o e is
