use Rattle.std.proofs.Common.{◌≡◌, ap, ◌∙◌, ◌+◌, ◌≤◌, ◌++◌, List, length, arith}
use Rattle.notation.specs.declared.arrow.Arrow.{Arrow}
use Rattle.diagram.specs.Plans.{arrows_in}
use Rattle.diagram.specs.Owning.{keyed}
use Rattle.diagram.proofs.Owned.{below-room, so-far-none, so-far-more, so-far-all}
use Rattle.diagram.proofs.plan.Plan.arrows_by.Goals as goal

pub loop-value-init : goal.loop-value-init
loop-value-init c = so-far-none c.args.key (arrows_in c.args.self.now) c.new-numbers.result.items c.new-numbers.ensures.holds_nothing

pub push_keyed-requires-clause-has_room : goal.push_keyed-requires-clause-has_room
push_keyed-requires-clause-has_room c =
    let key = c.args.key in
    let ws = arrows_in c.args.self.now in
    let n = c.loop-value.value in
    let few : length ws ≤ 256 = c.args.self.now.procedure.scarce in
    let so-far = ap length c.loop-value.invariant.numbers in
    let own = ap (λ (l : List Arrow). length (keyed key l n)) c.arrows-arrows.ensures.tells_the_arrows in
    let room = below-room key ws n in
    let all : length c.loop-value.numbers.items + length (keyed key c.arrows-arrows.result.now n) ≤ 256 = omega arith in
    all

pub loop-value-preserved : goal.loop-value-preserved
loop-value-preserved c =
    let key = c.args.key in
    let ws = arrows_in c.args.self.now in
    let n = c.loop-value.value in
    let xs = c.loop-value.numbers.items in
    let more = c.push_keyed.new.numbers.items in
    let more-is : more ≡ xs ++ keyed key ws n = c.push_keyed.ensures ∙ ap (λ (l : List Arrow). xs ++ keyed key l n) c.arrows-arrows.ensures.tells_the_arrows in
    rw (c.from.ensures, c.len.ensures.counts) (so-far-more key ws n xs more c.loop-value.starts c.loop-value-test.true c.loop-value.invariant more-is)

pub returns : goal.returns
returns c =
    let last : c.loop-value.value ≡ 256 = omega (arith, c.loop-value-test.false, c.loop-value.auto.value-end) in
    so-far-all c.args.key (arrows_in c.args.self.now) c.loop-value.value (record { numbers = c.loop-value.numbers; starts = c.loop-value.starts }) last c.loop-value.invariant
