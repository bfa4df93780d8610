use Rattle.std.proofs.Common.{refl, sym, ap, ◌∙◌, ◌+◌, ◌<◌, length, [], ◌∷◌, ◌++◌, List, ℕ, arith}
use Rattle.std.proofs.lemmas.List.{length-append, append_assoc}
use Rattle.diagram.specs.Owning.{keyed}
use Rattle.diagram.proofs.Owned.{still_keyed, keyed-next, keyed-later, keyed-done}
use Rattle.diagram.proofs.owning.push_keyed.Goals as goal
use Rattle.diagram.proofs.owning.push_keyed.Goals.{then-of-value, else-of-value}

pub loop-number-init : goal.loop-number-init
loop-number-init c = refl

pub push-requires : goal.push-requires
push-requires c =
    let ws = c.args.arrows.now in
    let key = c.args.key in
    let i = c.args.value in
    let n = c.loop-number.number in
    let xs = c.loop-number.numbers.items in
    let next = ap (λ (ys : List ℕ). xs ++ ys) (keyed-next key ws i n c.loop-number-test.true (sym c.of.ensures ∙ c.if-of-value.true)) in
    let all = ap length (sym next ∙ c.loop-number.invariant) in
    let here = length-append xs (n ∷ still_keyed key ws i (n + 1)) in
    let whole = length-append c.args.numbers.now.items (keyed key ws i) in
    let room = c.requires.has_room in
    let few : length xs < 256 = omega arith in
    (omega arith, few)

pub loop-number-preserved : goal.loop-number-preserved
loop-number-preserved c =
    let ws = c.args.arrows.now in
    let key = c.args.key in
    let i = c.args.value in
    let n = c.loop-number.number in
    let xs = c.loop-number.numbers.items in
    elim c.if-of-value.branch [
      | then-of-value w ↦
          rw (w.numbers-is, w.push.ensures.holds_one_more)
          (append_assoc xs (n ∷ []) (still_keyed key ws i (n + 1)) ∙ ap (λ (ys : List ℕ). xs ++ ys) (sym (keyed-next key ws i n c.loop-number-test.true (sym c.of.ensures ∙ w.if-of-value.true))) ∙ c.loop-number.invariant)
      | else-of-value w ↦
          rw w.numbers-is
          (ap (λ (ys : List ℕ). xs ++ ys) (sym (keyed-later key ws i n c.loop-number-test.true (λ e. w.if-of-value.false (c.of.ensures ∙ e)))) ∙ c.loop-number.invariant)
    ]

pub returns : goal.returns
returns c = sym (keyed-done c.args.key c.args.arrows.now c.args.value c.loop-number.number c.loop-number-test.false c.loop-number.numbers.items) ∙ c.loop-number.invariant
