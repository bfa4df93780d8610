-- The cells to which an event moves a part, as a list that can be computed. Nobody has to believe this file: a theorem says that the lists hold
-- exactly what the rules derive. Each operator takes as parameters the lists of its parts.
use Rattle.std.specs.Prelude.{ℕ, zero, suc, Bool, true, false, not, ◌&&◌, List, [], ◌∷◌, ◌++◌, map, drop, Option, Some, None, ◌==◌}
use Rattle.std.specs.List.{slice_get, flat_map}
use Rattle.notation.specs.declared.arrow.Arrow.{Arrow}
use Rattle.event.specs.Forms.{first_argument, second_argument}
use Rattle.event.specs.declared.event.Event.{Event}
use Rattle.host.specs.declared.variables.Variables.{Variables}
use Rattle.rules.specs.Trees.{NumberedArrow, Tree, elementary, automaton, sequence, closure, guarded, choice, synchronisation, quantified_choice, quantified_synchronisation, bound, Guards, guard_holds, argument_of}
use Rattle.rules.specs.Cells.{Cells, cell, rest, fit, width, shared_room, body_room, has_value, part, in_state, tagged, initial, finished, may_leave}
use Rattle.rules.specs.Rules.{in_set}

-- from which cells to which, as a list
abbrev pub Moves : Type 0
Moves = Cells → List Cells

-- one list after the other
unfoldable pub join : List Cells → List Cells → List Cells
join l m = l ++ m

-- each of a list, put into its place by h, if a test holds
unfoldable pub placed : Bool → (Cells → Cells) → List Cells → List Cells
placed true h l = map h l
placed false h l = []

-- what f gives for each of a list
unfoldable pub over : (Cells → List Cells) → List Cells → List Cells
over f l = flat_map f l

-- what f gives for each value, with its position from 0
unfoldable pub for_each : (ℕ → ℕ → List Cells) → List ℕ → List Cells
for_each f [] = []
for_each f (x ∷ xs) = join (f 0 x) (for_each (λ k. f (suc k)) xs)

-- what f gives for k at the tag k + 1; nothing at 0
unfoldable pub past_zero : (ℕ → List Cells) → ℕ → List Cells
past_zero f zero = []
past_zero f (suc k) = f k

-- what f gives for a value, if there is one
unfoldable pub if_some : (ℕ → List Cells) → Option ℕ → List Cells
if_some f None = []
if_some f (Some x) = f x

-- these cells, if a test holds
unfoldable pub one_if : Bool → Cells → List Cells
one_if true r = r ∷ []
one_if false r = []

-- the targets of the arrows that pass a test
unfoldable pub targets : (Arrow → Bool) → (Arrow → Cells) → List NumberedArrow → List Cells
targets test goal [] = []
targets test goal (a ∷ as') = join (one_if (test a.arrow) (goal a.arrow)) (targets test goal as')

-- whether two arguments are the same, absent ones included
abbrev pub same_argument : Option ℕ → Option ℕ → Bool
same_argument None None = true
same_argument None (Some y) = false
same_argument (Some x) None = false
same_argument (Some x) (Some y) = x == y

-- whether an arrow carries an event
abbrev pub carries : Event → Variables → Arrow → Bool
carries e v a = a.label == e.label && (same_argument (argument_of a.first v) (first_argument e) && same_argument (argument_of a.second v) (second_argument e))

-- whether an arrow leads out of state q
abbrev pub leads : Guards → Event → Variables → ℕ → Tree → Cells → Arrow → Bool
leads g e v q child s a = a.from == q && (carries e v a && (guard_holds g a.guard v && may_leave a.waits child s))

-- aut-1, aut-6
abbrev pub automaton_moves : ℕ → (ℕ → Tree) → List NumberedArrow → Guards → Event → Variables → (ℕ → Moves) → Moves
automaton_moves count child arrows g e v C r =
    join
    (targets (leads g e v (cell r) (child (cell r)) (part (child (cell r)) (rest r))) (λ a. in_state count child a.to (initial (child a.to))) arrows)
    (placed true (in_state count child (cell r)) (C (cell r) (part (child (cell r)) (rest r))))

-- seq-1, seq-2, seq-3
abbrev pub sequence_moves : Tree → Tree → Moves → Moves → Moves
sequence_moves a b A B r =
    join (placed (cell r == 0) (tagged (shared_room a b) 0) (A (part a (rest r))))
    (join (placed (cell r == 0 && finished a (part a (rest r))) (tagged (shared_room a b) 1) (B (initial b)))
    (placed (cell r == 1) (tagged (shared_room a b) 1) (B (part b (rest r)))))

-- clo-1, clo-2
abbrev pub closure_moves : Tree → Moves → Moves
closure_moves b B r =
    join (placed (finished (closure b) r) (tagged (width b) 1) (B (initial b)))
    (placed (cell r == 1) (tagged (width b) 1) (B (part b (rest r))))

-- gua-1, gua-2
abbrev pub guard_moves : Bool → Tree → Moves → Moves
guard_moves holds b B r =
    join (placed (cell r == 0 && holds) (tagged (width b) 1) (B (initial b)))
    (placed (cell r == 1) (tagged (width b) 1) (B (part b (rest r))))

-- cho-1, cho-2, cho-3, cho-4
abbrev pub choice_moves : Tree → Tree → Moves → Moves → Moves
choice_moves a b A B r =
    join (placed (cell r == 0) (tagged (shared_room a b) 1) (A (initial a)))
    (join (placed (cell r == 0) (tagged (shared_room a b) 2) (B (initial b)))
    (join (placed (cell r == 1) (tagged (shared_room a b) 1) (A (part a (rest r))))
    (placed (cell r == 2) (tagged (shared_room a b) 2) (B (part b (rest r))))))

-- syn-1, syn-2, syn-3
abbrev pub synchronisation_moves : Bool → Tree → Tree → Moves → Moves → Moves
synchronisation_moves together a b A B r =
    join (placed (not together) (λ s'. s' ++ part b (drop (width a) r)) (A (part a r)))
    (join (placed (not together) (λ s'. part a r ++ s') (B (part b (drop (width a) r))))
    (over (λ s'. placed together (λ t'. s' ++ t') (B (part b (drop (width a) r)))) (A (part a r))))

-- qch-1, qch-2
abbrev pub quantified_choice_moves : List ℕ → Tree → (ℕ → Moves) → Moves
quantified_choice_moves xs b B r =
    join (for_each (λ k x. placed (cell r == 0) (tagged (body_room xs b) (suc k)) (B x (initial b))) xs)
    (past_zero (λ k. if_some (λ x. placed true (tagged (body_room xs b) (suc k)) (B x (part b (rest r)))) (slice_get xs k)) (cell r))

-- one instance moves
abbrev pub one_moves : ℕ → (ℕ → Moves) → List ℕ → Moves
one_moves n B [] r = []
one_moves n B (x ∷ xs) r =
    join (placed true (λ s'. s' ++ drop n r) (B x (fit n r)))
    (placed true (λ q'. fit n r ++ q') (one_moves n B xs (drop n r)))

-- all instances move
abbrev pub all_move : ℕ → (ℕ → Moves) → List ℕ → Moves
all_move n B [] r = [] ∷ []
all_move n B (x ∷ xs) r = over (λ s'. placed true (λ q'. s' ++ q') (all_move n B xs (drop n r))) (B x (fit n r))

-- qsy-1, qsy-2
abbrev pub quantified_synchronisation_moves : Bool → List ℕ → Tree → (ℕ → Moves) → Moves
quantified_synchronisation_moves together xs b B r =
    join (placed (not together) (λ r'. r') (one_moves (width b) B xs r))
    (placed (together && has_value xs) (λ r'. r') (all_move (width b) B xs r))

-- all cells to which an event moves a part; the same cells may stand there more than once
abbrev pub moves : Tree → Guards → Event → Variables → Cells → List Cells
moves elementary g e v r = []
moves (automaton count start mark child arrows) g e v r = automaton_moves count child arrows g e v (λ q. moves (child q) g e v) r
moves (sequence a b) g e v r = sequence_moves a b (moves a g e v) (moves b g e v) r
moves (closure b) g e v r = closure_moves b (moves b g e v) r
moves (guarded guard b) g e v r = guard_moves (g guard v) b (moves b g e v) r
moves (choice a b) g e v r = choice_moves a b (moves a g e v) (moves b g e v) r
moves (synchronisation labels a b) g e v r = synchronisation_moves (in_set e.label labels) a b (moves a g e v) (moves b g e v) r
moves (quantified_choice xs b) g e v r = quantified_choice_moves xs b (λ x. moves b g e (bound x v)) r
moves (quantified_synchronisation xs labels b) g e v r = quantified_synchronisation_moves (in_set e.label labels) xs b (λ x. moves b g e (bound x v)) r
