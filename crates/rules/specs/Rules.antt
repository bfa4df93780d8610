-- The rules by which an event moves the cells of a part. Each family of rules takes as parameters how the parts of its operator move.
use Rattle.std.specs.Prelude.{◌≡◌, ℕ, suc, Bool, true, false, ◌||◌, List, [], ◌∷◌, ◌++◌, drop, Some, ◌==◌}
use Rattle.std.specs.List.{slice_get}
use mathlib.Core.List.{Memᴰ}
use Rattle.notation.specs.declared.arrow.Arrow.{Arrow}
use Rattle.event.specs.Forms.{first_argument, second_argument}
use Rattle.event.specs.declared.event.Event.{Event}
use Rattle.host.specs.declared.variables.Variables.{Variables}
use Rattle.rules.specs.Trees.{NumberedArrow, Tree, elementary, automaton, sequence, closure, guarded, choice, synchronisation, quantified_choice, quantified_synchronisation, bound, Guards, guard_holds, argument_of}
use Rattle.rules.specs.Cells.{Cells, cell, rest, fit, width, shared_room, body_room, has_value, part, in_state, tagged, initial, finished, may_leave}

-- how a part moves: from which cells to which
abbrev pub Motion : Type 1
Motion = Cells → Cells → Type 0

-- whether a label is in a set
abbrev pub in_set : ℕ → List ℕ → Bool
in_set label [] = false
in_set label (x ∷ xs) = label == x || in_set label xs

-- an arrow carries an event: the label is the same, and so is each argument, absent ones included
pub record Carries (a : Arrow) (e : Event) (v : Variables) : Type 0 where
  pub label : a.label ≡ e.label
  pub first : argument_of a.first v ≡ first_argument e
  pub second : argument_of a.second v ≡ second_argument e

-- an arrow leads out of state q, whose child has the cells s: it carries the event, its guard holds, and it does not wait or the child is finished
pub record Leads (g : Guards) (e : Event) (v : Variables) (q : ℕ) (child : Tree) (s : Cells) (a : Arrow) : Type 0 where
  pub leaves : a.from ≡ q
  pub carries : Carries a e v
  pub allowed : guard_holds g a.guard v ≡ true
  pub waited : may_leave a.waits child s ≡ true

-- An automaton.
pub data AutomatonRule (count : ℕ) (child : ℕ → Tree) (arrows : List NumberedArrow) (g : Guards) (e : Event) (v : Variables) (C : ℕ → Motion) (r r' : Cells) : Type 0 where
  -- an arrow leads out of the present state; its target begins initially
  aut-1 : (a : NumberedArrow) → Memᴰ a arrows → Leads g e v (cell r) (child (cell r)) (part (child (cell r)) (rest r)) a.arrow
      → r' ≡ in_state count child a.arrow.to (initial (child a.arrow.to)) → AutomatonRule count child arrows g e v C r r'
  -- the child of the present state moves
  aut-6 : (s' : Cells) → C (cell r) (part (child (cell r)) (rest r)) s'
      → r' ≡ in_state count child (cell r) s' → AutomatonRule count child arrows g e v C r r'

-- A sequence.
pub data SequenceRule (a b : Tree) (A B : Motion) (r r' : Cells) : Type 0 where
  -- it is in the first part, which moves
  seq-1 : (s' : Cells) → cell r ≡ 0 → A (part a (rest r)) s'
      → r' ≡ tagged (shared_room a b) 0 s' → SequenceRule a b A B r r'
  -- it is in the first part, which is finished, and the second part moves from its initial state
  seq-2 : (s' : Cells) → cell r ≡ 0 → finished a (part a (rest r)) ≡ true → B (initial b) s'
      → r' ≡ tagged (shared_room a b) 1 s' → SequenceRule a b A B r r'
  -- it is in the second part, which moves
  seq-3 : (s' : Cells) → cell r ≡ 1 → B (part b (rest r)) s'
      → r' ≡ tagged (shared_room a b) 1 s' → SequenceRule a b A B r r'

-- A closure.
pub data ClosureRule (b : Tree) (B : Motion) (r r' : Cells) : Type 0 where
  -- it is finished, also when it is not yet started, and the body moves from its initial state
  clo-1 : (s' : Cells) → finished (closure b) r ≡ true → B (initial b) s'
      → r' ≡ tagged (width b) 1 s' → ClosureRule b B r r'
  -- it is started, and the body moves
  clo-2 : (s' : Cells) → cell r ≡ 1 → B (part b (rest r)) s'
      → r' ≡ tagged (width b) 1 s' → ClosureRule b B r r'

-- A guard, where `holds` is its answer to this event.
pub data GuardRule (holds : Bool) (b : Tree) (B : Motion) (r r' : Cells) : Type 0 where
  -- it is not started, it holds, and the body moves from its initial state
  gua-1 : (s' : Cells) → cell r ≡ 0 → holds ≡ true → B (initial b) s'
      → r' ≡ tagged (width b) 1 s' → GuardRule holds b B r r'
  -- it is started, and the body moves; the guard has no say
  gua-2 : (s' : Cells) → cell r ≡ 1 → B (part b (rest r)) s'
      → r' ≡ tagged (width b) 1 s' → GuardRule holds b B r r'

-- A choice.
pub data ChoiceRule (a b : Tree) (A B : Motion) (r r' : Cells) : Type 0 where
  -- none is chosen, and the left side moves from its initial state and is chosen
  cho-1 : (s' : Cells) → cell r ≡ 0 → A (initial a) s'
      → r' ≡ tagged (shared_room a b) 1 s' → ChoiceRule a b A B r r'
  -- none is chosen, and the right side moves from its initial state and is chosen
  cho-2 : (s' : Cells) → cell r ≡ 0 → B (initial b) s'
      → r' ≡ tagged (shared_room a b) 2 s' → ChoiceRule a b A B r r'
  -- the left side is chosen, and it moves
  cho-3 : (s' : Cells) → cell r ≡ 1 → A (part a (rest r)) s'
      → r' ≡ tagged (shared_room a b) 1 s' → ChoiceRule a b A B r r'
  -- the right side is chosen, and it moves
  cho-4 : (s' : Cells) → cell r ≡ 2 → B (part b (rest r)) s'
      → r' ≡ tagged (shared_room a b) 2 s' → ChoiceRule a b A B r r'

-- A synchronisation, where `together` says whether the event's label is in the set.
pub data SynchronisationRule (together : Bool) (a b : Tree) (A B : Motion) (r r' : Cells) : Type 0 where
  -- it is not, and the left side moves alone
  syn-1 : (s' : Cells) → together ≡ false → A (part a r) s'
      → r' ≡ s' ++ part b (drop (width a) r) → SynchronisationRule together a b A B r r'
  -- it is not, and the right side moves alone
  syn-2 : (s' : Cells) → together ≡ false → B (part b (drop (width a) r)) s'
      → r' ≡ part a r ++ s' → SynchronisationRule together a b A B r r'
  -- it is, and both sides move
  syn-3 : (s' t' : Cells) → together ≡ true → A (part a r) s' → B (part b (drop (width a) r)) t'
      → r' ≡ s' ++ t' → SynchronisationRule together a b A B r r'

-- A quantified choice, whose values have positions from 1 in the cells.
pub data QuantifiedChoiceRule (xs : List ℕ) (b : Tree) (B : ℕ → Motion) (r r' : Cells) : Type 0 where
  -- none is chosen, and the body moves from its initial state under some value, which is chosen
  qch-1 : (k x : ℕ) (s' : Cells) → cell r ≡ 0 → slice_get xs k ≡ Some x → B x (initial b) s'
      → r' ≡ tagged (body_room xs b) (suc k) s' → QuantifiedChoiceRule xs b B r r'
  -- a value is chosen, and the body moves under it
  qch-2 : (k x : ℕ) (s' : Cells) → cell r ≡ suc k → slice_get xs k ≡ Some x → B x (part b (rest r)) s'
      → r' ≡ tagged (body_room xs b) (suc k) s' → QuantifiedChoiceRule xs b B r r'

-- one instance of n cells moves, under its own value, and the others stay
pub data OneMoves (n : ℕ) (B : ℕ → Motion) : List ℕ → Cells → Cells → Type 0 where
  -- the first does
  this_one : {x : ℕ} {xs : List ℕ} {r r' : Cells} (s' : Cells) → B x (fit n r) s'
      → r' ≡ s' ++ drop n r → OneMoves n B (x ∷ xs) r r'
  -- one of the others does
  later_one : {x : ℕ} {xs : List ℕ} {r r' : Cells} (q' : Cells) → OneMoves n B xs (drop n r) q'
      → r' ≡ fit n r ++ q' → OneMoves n B (x ∷ xs) r r'

-- every instance of n cells moves, each under its own value
pub data AllMove (n : ℕ) (B : ℕ → Motion) : List ℕ → Cells → Cells → Type 0 where
  -- there is none
  none_left : {r r' : Cells} → r' ≡ [] → AllMove n B [] r r'
  -- the first does, and so do the others
  this_too : {x : ℕ} {xs : List ℕ} {r r' : Cells} (s' q' : Cells) → B x (fit n r) s' → AllMove n B xs (drop n r) q'
      → r' ≡ s' ++ q' → AllMove n B (x ∷ xs) r r'

-- A quantified synchronisation, where `together` says whether the event's label is in the set.
pub data QuantifiedSynchronisationRule (together : Bool) (xs : List ℕ) (b : Tree) (B : ℕ → Motion) (r r' : Cells) : Type 0 where
  -- it is not, and one instance moves under its own value
  qsy-1 : together ≡ false → OneMoves (width b) B xs r r' → QuantifiedSynchronisationRule together xs b B r r'
  -- it is, there is an instance, and all of them move, each under its own value
  qsy-2 : together ≡ true → has_value xs ≡ true → AllMove (width b) B xs r r' → QuantifiedSynchronisationRule together xs b B r r'

-- An event moves the cells r of a part to r', under the variables in scope and by what each guard answers to it.
-- An elementary state never moves.
abbrev pub Step : Tree → Guards → Event → Variables → Cells → Cells → Type 0
Step elementary g e v r r' = ⊥
Step (automaton count start mark child arrows) g e v r r' = AutomatonRule count child arrows g e v (λ q. Step (child q) g e v) r r'
Step (sequence a b) g e v r r' = SequenceRule a b (Step a g e v) (Step b g e v) r r'
Step (closure b) g e v r r' = ClosureRule b (Step b g e v) r r'
Step (guarded guard b) g e v r r' = GuardRule (g guard v) b (Step b g e v) r r'
Step (choice a b) g e v r r' = ChoiceRule a b (Step a g e v) (Step b g e v) r r'
Step (synchronisation labels a b) g e v r r' = SynchronisationRule (in_set e.label labels) a b (Step a g e v) (Step b g e v) r r'
Step (quantified_choice xs b) g e v r r' = QuantifiedChoiceRule xs b (λ x. Step b g e (bound x v)) r r'
Step (quantified_synchronisation xs labels b) g e v r r' = QuantifiedSynchronisationRule (in_set e.label labels) xs b (λ x. Step b g e (bound x v)) r r'
