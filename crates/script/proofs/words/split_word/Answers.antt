use Rattle.std.proofs.Common.{sym, ap, ◌∙◌, rules, tests, take_all}
use Rattle.std.specs.Prelude.{take, drop}
use Rattle.std.proofs.lemmas.Iterator.{YieldsList-from_slice}
use Rattle.std.proofs.lemmas.Iterator.Search.{position_from_yields_List}
use Rattle.std.proofs.lemmas.List.{drop_all}
use Rattle.script.specs.Words.{is_blank}
use Rattle.script.proofs.Parts.{position_found, position_past}
use Rattle.script.proofs.words.split_word.Goals as goal

pub returns-in-None-clause-word : goal.returns-in-None-clause-word
returns-in-None-clause-word c =
    let at = position_from_yields_List is_blank _ _ c.position.result c.position.ensures.ran (YieldsList-from_slice c.args.text.now cc) (λ x b q k. search (rules, tests)) in
    sym (take_all _ _ (position_past is_blank c.args.text.now (sym c.in-None.is ∙ at)))

pub returns-in-None-clause-rest : goal.returns-in-None-clause-rest
returns-in-None-clause-rest c =
    let at = position_from_yields_List is_blank _ _ c.position.result c.position.ensures.ran (YieldsList-from_slice c.args.text.now cc) (λ x b q k. search (rules, tests)) in
    sym (drop_all _ _ (position_past is_blank c.args.text.now (sym c.in-None.is ∙ at)))

pub returns-in-Some-clause-word : goal.returns-in-Some-clause-word
returns-in-Some-clause-word c =
    let at = position_from_yields_List is_blank _ _ c.position.result c.position.ensures.ran (YieldsList-from_slice c.args.text.now cc) (λ x b q k. search (rules, tests)) in
    c.split_at.ensures.front ∙ ap (λ k. take k c.args.text.now) (position_found is_blank c.args.text.now _ (sym c.in-Some.is ∙ at)).0

pub returns-in-Some-clause-rest : goal.returns-in-Some-clause-rest
returns-in-Some-clause-rest c =
    let at = position_from_yields_List is_blank _ _ c.position.result c.position.ensures.ran (YieldsList-from_slice c.args.text.now cc) (λ x b q k. search (rules, tests)) in
    c.split_at.ensures.back ∙ ap (λ k. drop k c.args.text.now) (position_found is_blank c.args.text.now _ (sym c.in-Some.is ∙ at)).0
