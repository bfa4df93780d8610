-- The texts that the program writes, as bytes of ASCII.
use Rattle.std.specs.Prelude.{ℕ, ◌+◌, Bool, true, false, cond, List, [], ◌∷◌, ◌++◌, Some, None, codes, decimal, Option, ◌==◌}
use Rattle.notation.specs.Parts.{is_absent}
use Rattle.notation.specs.declared.arrow.Argument.{Argument}
use Rattle.notation.specs.declared.arrow.Argument.TheVariants.{Absent, Constant, Outer, Inner}
use Rattle.notation.specs.declared.arrow.Arrow.{Arrow}
use Rattle.notation.specs.Tables.{Table}
use Rattle.notation.specs.declared.node.Mark.{Mark}
use Rattle.notation.specs.declared.node.Mark.TheVariants.{Unmarked, Shallow, Deep}
use Rattle.notation.specs.declared.node.Node.{Node}
use Rattle.notation.specs.declared.node.Node.TheVariants.{Closure, Automaton, Sequence, Guard, Choice, Synchronisation, QuantifiedChoice, QuantifiedSynchronisation}
use Rattle.notation.specs.declared.node.State.{State}
use Rattle.notation.specs.declared.node.States.{States}
use Rattle.fault.specs.Faults.{number_of, layer_of, layer_number_of}
use Rattle.fault.specs.declared.fault.Fault.{Fault}
use Rattle.fault.specs.declared.fault.Question.{Question}
use Rattle.fault.specs.declared.fault.Question.TheVariants.{FileWithinLimit, RecordWhole, KindKnown, LengthExact, FieldsInRange, ChildrenFree, ArrowPlaced, OneRoot, BindersFew, VariablesInScope, ProcedureDrawn, TypesKnown, WidthsWithinRow, CeilingInRange, EventInForm, SuccessorExists, SuccessorsWithinCeiling, MenuWithinList, SettingInRange}

-- one text after another
infixr 65 ◌⌢◌
abbrev pub ◌⌢◌ : List ℕ → List ℕ → List ℕ
xs ⌢ ys = xs ++ ys

-- the texts of some items, each made of the item and its number; the first has the number n
abbrev pub each : {X : Type 0} → (ℕ → X → List ℕ) → ℕ → List X → List ℕ
each text n [] = []
each text n (x ∷ xs) = text n x ⌢ each text (n + 1) xs

-- an argument; nothing where it is absent
abbrev pub argument_text : Argument → List ℕ
argument_text Absent = []
argument_text (Constant value) = decimal value
argument_text Outer = codes "outer"
argument_text Inner = codes "inner"

-- a label, and in brackets its arguments, if there are any: `2`, `2(outer)`, `3(7,inner)`
abbrev pub label_text : ℕ → Argument → Argument → List ℕ
label_text number first second =
    cond (is_absent first) (decimal number)
    (cond (is_absent second) (decimal number ⌢ codes "(" ⌢ argument_text first ⌢ codes ")")
    (decimal number ⌢ codes "(" ⌢ argument_text first ⌢ codes "," ⌢ argument_text second ⌢ codes ")"))

-- a label behind another
abbrev pub further_label : ℕ → ℕ → List ℕ
further_label n label = codes ", " ⌢ decimal label

-- labels with commas between them: `labels 2, 5` or `no labels`
abbrev pub labels_text : List ℕ → List ℕ
labels_text [] = codes "no labels"
labels_text (label ∷ labels) = codes "labels " ⌢ decimal label ⌢ each further_label 1 labels

-- the labels that are in use
abbrev pub label_set_text : Table ℕ → List ℕ
label_set_text labels = labels_text labels.items

-- a state's mark, if it has one
abbrev pub text_of_mark : Mark → List ℕ
text_of_mark Unmarked = []
text_of_mark Shallow = codes " shallow"
text_of_mark Deep = codes " deep"

-- a state's child, if it has one
abbrev pub child_text : Option ℕ → List ℕ
child_text None = []
child_text (Some child) = codes " child " ⌢ decimal child

-- a state: its number, its mark and its child
abbrev pub state_text : ℕ → State → List ℕ
state_text number state = decimal number ⌢ text_of_mark state.mark ⌢ child_text state.child

-- a state behind another
abbrev pub further_state : ℕ → State → List ℕ
further_state number state = codes ", " ⌢ state_text number state

-- states with commas between them, numbered from 0: `states 0, 1 shallow, 2 deep child 3`
abbrev pub state_list_text : List State → List ℕ
state_list_text [] = codes "no states"
state_list_text (state ∷ states) = codes "states " ⌢ state_text 0 state ⌢ each further_state 1 states

-- the states that are in use
abbrev pub states_text : States → List ℕ
states_text states = state_list_text states.table.items

-- a node: `choice, left 6, right 7`
abbrev pub node_text : Node → List ℕ
node_text (Automaton states) = codes "automaton, start " ⌢ decimal states.start ⌢ codes ", " ⌢ states_text states
node_text (Sequence first second) = codes "sequence, first " ⌢ decimal first ⌢ codes ", second " ⌢ decimal second
node_text (Closure body) = codes "closure, body " ⌢ decimal body
node_text (Guard guard body) = codes "guard " ⌢ decimal guard ⌢ codes ", body " ⌢ decimal body
node_text (Choice left right) = codes "choice, left " ⌢ decimal left ⌢ codes ", right " ⌢ decimal right
node_text (Synchronisation left right labels) = codes "synchronisation, left " ⌢ decimal left ⌢ codes ", right " ⌢ decimal right ⌢ codes ", " ⌢ label_set_text labels
node_text (QuantifiedChoice over body) = codes "quantified choice, type " ⌢ decimal over ⌢ codes ", body " ⌢ decimal body
node_text (QuantifiedSynchronisation over body labels) = codes "quantified synchronisation, type " ⌢ decimal over ⌢ codes ", body " ⌢ decimal body ⌢ codes ", " ⌢ label_set_text labels

-- the line of a node: `node 8: choice, left 6, right 7`
abbrev pub node_line_text : ℕ → Node → List ℕ
node_line_text number node = codes "node " ⌢ decimal number ⌢ codes ": " ⌢ node_text node

-- whether an arrow waits
abbrev pub text_of_wait : Bool → List ℕ
text_of_wait true = codes "wait"
text_of_wait false = codes "no wait"

-- an arrow's guard, if it has one
abbrev pub guard_text : Option ℕ → List ℕ
guard_text None = codes "no guard"
guard_text (Some guard) = codes "guard " ⌢ decimal guard

-- where an arrow leads
abbrev pub road_text : Arrow → List ℕ
road_text arrow = codes "automaton " ⌢ decimal arrow.node ⌢ codes ", from " ⌢ decimal arrow.from ⌢ codes " to " ⌢ decimal arrow.to

-- the line of an arrow: `arrow 0: automaton 4, from 0 to 1 on 2(outer), wait, guard 3`
abbrev pub arrow_text : ℕ → Arrow → List ℕ
arrow_text number arrow =
    codes "arrow " ⌢ decimal number ⌢ codes ": " ⌢ road_text arrow
    ⌢ codes " on " ⌢ label_text arrow.label arrow.first arrow.second
    ⌢ codes ", " ⌢ text_of_wait arrow.waits ⌢ codes ", " ⌢ guard_text arrow.guard

-- the first line of a sound file
abbrev pub accepted_text : ℕ → ℕ → List ℕ
accepted_text nodes arrows = codes "accepted: " ⌢ decimal nodes ⌢ codes " nodes, " ⌢ decimal arrows ⌢ codes " arrows"

-- the first line of a refusal
abbrev pub refused_line : Fault → List ℕ
refused_line fault =
    codes "refused: number " ⌢ decimal (number_of fault.question) ⌢ codes ", layer " ⌢ decimal (layer_number_of (layer_of fault.question))
    ⌢ codes ", place " ⌢ decimal fault.place

-- what was asked
abbrev pub text_of_question : Question → List ℕ
text_of_question FileWithinLimit = codes "Is the file within 16,384 bytes?"
text_of_question RecordWhole = codes "Is the record whole, with a length of at least 2?"
text_of_question KindKnown = codes "Is the kind one of 1 to 9?"
text_of_question LengthExact = codes "Has the record exactly the length of its kind and count?"
text_of_question FieldsInRange = codes "Are all fields in range, with at most 64 nodes and 256 arrows so far?"
text_of_question ChildrenFree = codes "Is each child below its node and nobody's child yet?"
text_of_question ArrowPlaced = codes "Does the arrow name an earlier automaton and two states of it?"
text_of_question OneRoot = codes "Is there a node, and is every node but the root a child?"
text_of_question BindersFew = codes "Is every binder under at most one other?"
text_of_question VariablesInScope = codes "Is every arrow's variable in scope?"
text_of_question ProcedureDrawn = codes "Has the procedure a node?"
text_of_question TypesKnown = codes "Has each named type 1 to 16 values?"
text_of_question WidthsWithinRow = codes "Is every width within 48?"
text_of_question CeilingInRange = codes "Is the ceiling 1 to 128?"
text_of_question EventInForm = codes "Is the event in form?"
text_of_question SuccessorExists = codes "Is there a successor?"
text_of_question SuccessorsWithinCeiling = codes "Are the different successors within the ceiling?"
text_of_question MenuWithinList = codes "Has the caller's list a place for each event of the menu?"
text_of_question SettingInRange = codes "Is each field of the setting in range?"

-- a no that concerns a record
abbrev pub not_record : ℕ → List ℕ
not_record place = codes "No, not record " ⌢ decimal place ⌢ codes " (counted from 0)."

-- a no that concerns a part of a record
abbrev pub not_in_record : ℕ → List ℕ
not_in_record place = codes "No, not in record " ⌢ decimal place ⌢ codes " (counted from 0)."

-- any other no, with its place
abbrev pub no_at : ℕ → List ℕ
no_at place = codes "No, at " ⌢ decimal place ⌢ codes "."

-- the answer to each question, with its place
abbrev pub answer_text : Question → ℕ → List ℕ
answer_text FileWithinLimit place = codes "No."
answer_text RecordWhole place = not_record place
answer_text KindKnown place = not_in_record place
answer_text LengthExact place = not_record place
answer_text FieldsInRange place = not_in_record place
answer_text ChildrenFree place = not_in_record place
answer_text ArrowPlaced place = not_in_record place
answer_text OneRoot place = cond (place == 65535) (codes "No, there is no node.") (codes "No, node " ⌢ decimal place ⌢ codes " is nobody's child.")
answer_text BindersFew place = codes "No, not node " ⌢ decimal place ⌢ codes "."
answer_text VariablesInScope place = codes "No, not in arrow " ⌢ decimal place ⌢ codes "."
answer_text ProcedureDrawn place = no_at place
answer_text TypesKnown place = no_at place
answer_text WidthsWithinRow place = no_at place
answer_text CeilingInRange place = no_at place
answer_text EventInForm place = no_at place
answer_text SuccessorExists place = no_at place
answer_text SuccessorsWithinCeiling place = no_at place
answer_text MenuWithinList place = no_at place
answer_text SettingInRange place = no_at place

-- the second line of a refusal: what was asked, and where the answer was no
abbrev pub reason_line : Fault → List ℕ
reason_line fault = text_of_question fault.question ⌢ codes " " ⌢ answer_text fault.question fault.place
