use Rattle.std.proofs.Common.{sym, ap, ◌∙◌, rules, tests, take_all}
use Rattle.std.specs.Prelude.{take}
use Rattle.std.proofs.lemmas.Iterator.{YieldsList-from_slice}
use Rattle.std.proofs.lemmas.Iterator.Search.{position_from_yields_List}
use Rattle.script.specs.Words.{is_hash}
use Rattle.script.proofs.Parts.{position_found, position_past}
use Rattle.script.proofs.words.before_comment.Goals as goal

pub returns-in-None : goal.returns-in-None
returns-in-None c =
    let at = position_from_yields_List is_hash _ _ c.position.result c.position.ensures.ran (YieldsList-from_slice c.args.line.now cc) (λ x b q k. search (rules, tests)) in
    sym (take_all _ _ (position_past is_hash c.args.line.now (sym c.in-None.is ∙ at)))

pub returns-in-Some : goal.returns-in-Some
returns-in-Some c =
    let at = position_from_yields_List is_hash _ _ c.position.result c.position.ensures.ran (YieldsList-from_slice c.args.line.now cc) (λ x b q k. search (rules, tests)) in
    ap (λ k. take k c.args.line.now) (position_found is_hash c.args.line.now _ (sym c.in-Some.is ∙ at)).0
