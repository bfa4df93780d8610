-- All that the program says of a file: one line after the other, each with its end.
use Rattle.std.specs.Prelude.{ℕ, List, length, Ok, Err, codes, Result}
use Rattle.fault.specs.declared.fault.Fault.{Fault}
use Rattle.notation.specs.declared.node.Node.{Node}
use Rattle.notation.specs.declared.arrow.Arrow.{Arrow}
use Rattle.procedure.specs.Drawings.{Drawing}
use Rattle.text.specs.Texts.{◌⌢◌, each, node_line_text, arrow_text, accepted_text, refused_line, reason_line}

-- the line of a node, with its end
abbrev pub node_row : ℕ → Node → List ℕ
node_row number node = node_line_text number node ⌢ codes "\n"

-- the line of an arrow, with its end
abbrev pub arrow_row : ℕ → Arrow → List ℕ
arrow_row number arrow = arrow_text number arrow ⌢ codes "\n"

-- a line for each node, numbered from 0
abbrev pub node_lines : Drawing → List ℕ
node_lines d = each node_row 0 d.nodes

-- a line for each arrow, numbered from 0
abbrev pub arrow_lines : Drawing → List ℕ
arrow_lines d = each arrow_row 0 d.arrows

-- what is said of a sound file
abbrev pub listing : Drawing → List ℕ
listing d = accepted_text (length d.nodes) (length d.arrows) ⌢ codes "\n" ⌢ node_lines d ⌢ arrow_lines d

-- a sound file is listed, any other refused in two lines
abbrev pub report_text : Result Drawing Fault → List ℕ
report_text (Ok d) = listing d
report_text (Err f) = refused_line f ⌢ codes "\n" ⌢ reason_line f ⌢ codes "\n"
