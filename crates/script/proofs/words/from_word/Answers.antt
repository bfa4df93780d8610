use Rattle.std.proofs.Common.{sym, ap, ◌∙◌, rules, tests, not, arith}
use Rattle.std.specs.Prelude.{drop}
use Rattle.std.specs.List.{prefix_len}
use Rattle.std.proofs.lemmas.Iterator.{YieldsList-from_slice}
use Rattle.std.proofs.lemmas.Iterator.Search.{position_from_yields_List}
use Rattle.std.proofs.lemmas.List.{drop_all, take_rest}
use Rattle.script.specs.Words.{is_blank}
use Rattle.script.proofs.Parts.{position_found, position_past, position_or_len-not}
use Rattle.script.proofs.words.from_word.Goals as goal

pub returns-in-None : goal.returns-in-None
returns-in-None c =
    let at = position_from_yields_List (λ b. not (is_blank b)) _ _ c.position.result c.position.ensures.ran (YieldsList-from_slice c.args.text.now cc) (λ x b q k. search (rules, tests)) in
    let past = position_past (λ b. not (is_blank b)) c.args.text.now (sym c.in-None.is ∙ at) in
    sym (drop_all (prefix_len is_blank c.args.text.now) c.args.text.now (omega (arith, past, position_or_len-not is_blank c.args.text.now)))

pub returns-in-Some : goal.returns-in-Some
returns-in-Some c =
    let at = position_from_yields_List (λ b. not (is_blank b)) _ _ c.position.result c.position.ensures.ran (YieldsList-from_slice c.args.text.now cc) (λ x b q k. search (rules, tests)) in
    take_rest c.args.text.now c.in-Some.at
    ∙ ap (λ k. drop k c.args.text.now) ((position_found (λ b. not (is_blank b)) c.args.text.now _ (sym c.in-Some.is ∙ at)).0 ∙ position_or_len-not is_blank c.args.text.now)
