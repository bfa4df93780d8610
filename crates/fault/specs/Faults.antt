-- The number and the layer of every question, and the number of every layer.
use Rattle.std.specs.Prelude.{ℕ}
use Rattle.fault.specs.declared.fault.Question.{Question}
use Rattle.fault.specs.declared.fault.Question.TheVariants.{FileWithinLimit, RecordWhole, KindKnown, LengthExact, FieldsInRange, ChildrenFree, ArrowPlaced, OneRoot, BindersFew, VariablesInScope, ProcedureDrawn, TypesKnown, WidthsWithinRow, CeilingInRange, EventInForm, SuccessorExists, SuccessorsWithinCeiling, MenuWithinList, SettingInRange}
use Rattle.fault.specs.declared.fault.Layer.{Layer}
use Rattle.fault.specs.declared.fault.Layer.TheVariants.{Reading, Opening, Running, Settings}

-- the number of a question
abbrev pub number_of : Question → ℕ
number_of FileWithinLimit = 1
number_of RecordWhole = 2
number_of KindKnown = 3
number_of LengthExact = 4
number_of FieldsInRange = 5
number_of ChildrenFree = 6
number_of ArrowPlaced = 7
number_of OneRoot = 8
number_of BindersFew = 9
number_of VariablesInScope = 10
number_of ProcedureDrawn = 11
number_of TypesKnown = 12
number_of WidthsWithinRow = 13
number_of CeilingInRange = 14
number_of EventInForm = 15
number_of SuccessorExists = 16
number_of SuccessorsWithinCeiling = 17
number_of MenuWithinList = 18
number_of SettingInRange = 19

-- the layer in which a question is asked
abbrev pub layer_of : Question → Layer
layer_of FileWithinLimit = Reading
layer_of RecordWhole = Reading
layer_of KindKnown = Reading
layer_of LengthExact = Reading
layer_of FieldsInRange = Reading
layer_of ChildrenFree = Reading
layer_of ArrowPlaced = Reading
layer_of OneRoot = Reading
layer_of BindersFew = Reading
layer_of VariablesInScope = Reading
layer_of ProcedureDrawn = Opening
layer_of TypesKnown = Opening
layer_of WidthsWithinRow = Opening
layer_of CeilingInRange = Opening
layer_of EventInForm = Running
layer_of SuccessorExists = Running
layer_of SuccessorsWithinCeiling = Running
layer_of MenuWithinList = Running
layer_of SettingInRange = Settings

-- the number of a layer
abbrev pub layer_number_of : Layer → ℕ
layer_number_of Reading = 1
layer_number_of Opening = 2
layer_number_of Running = 3
layer_number_of Settings = 4
