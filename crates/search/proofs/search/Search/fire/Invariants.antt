-- The rows of the arrows so far are added.
use Rattle.std.proofs.Common.{take, slice_index}
use Rattle.ordered.specs.Held.{held}
use Rattle.rules.specs.Trees.{Guards}
use Rattle.rules.specs.Growing.{state_of}
use Rattle.motions.specs.Collecting.{Stays, Gained}
use Rattle.diagram.specs.Plans.{arrows_in}
use Rattle.answers.specs.Answering.{Agrees}
use Rattle.search.specs.Searching.{Fired}
use Rattle.search.proofs.Looked.{numbered}
use Rattle.search.proofs.search.Search.fire.Given as goal

abbrev pub invariant-loop-short : goal.invariant-loop-short
invariant-loop-short l = record {
  stays : Stays l.initial.out l.out;
  adds : (g : Guards) → Agrees l.self.diagram.now l.self.answers.now g
      → Gained (Fired (take l.short-index (numbered (arrows_in l.self.diagram.now.plan) l.numbers)) l.self.diagram.now l.self.answers.now g l.part l.states (slice_index l.row.cells l.part.at) (state_of l.states (slice_index l.row.cells l.part.at)).child l.row) (held l.initial.out) (held l.out);
}
