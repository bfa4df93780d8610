-- The states' children are below the part's node and within the part.
use Rattle.std.proofs.Common.{◌≡◌, ap, ◌∙◌, slice_index, arith}
use Rattle.notation.specs.declared.node.Node.TheVariants.{Automaton}
use Rattle.rules.specs.Cells.{width}
use Rattle.rules.specs.Growing.{state_of}
use Rattle.motions.proofs.Adds.{added-alike}
use Rattle.diagram.specs.Plans.{tree_at}
use Rattle.diagram.specs.Parts.{part_width}
use Rattle.search.specs.Searching.{Follows}
use Rattle.diagram.proofs.Opens.{opens}
use Rattle.search.proofs.Fires.{child-node, child-narrower, child-inside, state-inside, followed}
use Rattle.search.proofs.search.Search.follow.Goals as goal

pub bounds-row-part : goal.bounds-row-part
bounds-row-part c =
    let d = c.args.self.now.diagram.now in
    let p = c.args.part in
    let s = c.args.states.now in
    state-inside d p s c.requires.is_in_place (opens d.plan p.node (Automaton s) c.requires.is_this_node)

pub leads-requires-clause-is_node : goal.leads-requires-clause-is_node
leads-requires-clause-is_node c =
    let d = c.args.self.now.diagram.now in
    let p = c.args.part in
    let s = c.args.states.now in
    child-node d p s c.requires.is_in_place (opens d.plan p.node (Automaton s) c.requires.is_this_node) _ _ c.state-child.ensures.tells_the_state

pub leads-requires-clause-is_inside : goal.leads-requires-clause-is_inside
leads-requires-clause-is_inside c =
    let d = c.args.self.now.diagram.now in
    let p = c.args.part in
    let s = c.args.states.now in
    child-inside d p s c.requires.is_in_place (opens d.plan p.node (Automaton s) c.requires.is_this_node) _ _ c.state-child.ensures.tells_the_state

pub enter-requires-clause-is_node : goal.enter-requires-clause-is_node
enter-requires-clause-is_node c =
    let d = c.args.self.now.diagram.now in
    let p = c.args.part in
    let s = c.args.states.now in
    child-node d p s c.requires.is_in_place (opens d.plan p.node (Automaton s) c.requires.is_this_node) _ _ c.state-target.ensures.tells_the_state

pub enter-requires-clause-is_inside : goal.enter-requires-clause-is_inside
enter-requires-clause-is_inside c =
    let d = c.args.self.now.diagram.now in
    let p = c.args.part in
    let s = c.args.states.now in
    let i = c.requires.is_in_place in
    let n = child-narrower d p s i (opens d.plan p.node (Automaton s) c.requires.is_this_node) _ _ c.state-target.ensures.tells_the_state in
    let w : c.width-size.result ≡ part_width d p = c.width-size.ensures.is_the_width ∙ ap (λ n. width (tree_at d.plan n)) c.from.ensures in
    let h = i.is_inside in
    (omega arith, omega arith)

pub returns-clause-adds : goal.returns-clause-adds
returns-clause-adds c = λ g agrees here.
    let d = c.args.self.now.diagram.now in
    let a = c.args.self.now.answers.now in
    let p = c.args.part in
    let s = c.args.states.now in
    let r = c.args.row.now in
    let w = c.args.arrow.now in
    let q = slice_index r.cells p.at in
    let l = (c.leads.ensures g agrees here c.requires.is_in_place.suits).0 c.if-not-leads.false in
    added-alike (λ y. y ≡ c.enter.result) (Follows d a g p s q (state_of s q).child r w) c.args.out.now c.put.new.out c.put.result
    (followed d a g p s q r w c.state-child.result c.state-target.result c.width-size.result c.enter.result
    c.state-child.ensures.tells_the_state c.state-target.ensures.tells_the_state (c.width-size.ensures.is_the_width ∙ ap (λ n. width (tree_at d.plan n)) c.from.ensures) l c.enter.ensures.enters)
    c.put.ensures.adds
