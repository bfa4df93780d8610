use Rattle.std.proofs.Common.{sym, ◌∙◌, rules, tests}
use Rattle.std.specs.Char.{is_ascii_digit}
use Rattle.std.proofs.lemmas.Iterator.{YieldsList-from_slice}
use Rattle.std.proofs.lemmas.Iterator.Search.{all_from_yields_List}
use Rattle.script.proofs.Digits.{list_all-digits, digits_are_text, number_of-other, number_of-parse, text_there, text_same}
use Rattle.script.proofs.number.number.Goals as goal

pub returns-then-not-all : goal.returns-then-not-all
returns-then-not-all c =
    let all = all_from_yields_List is_ascii_digit _ _ c.all.result c.all.ensures.ran (YieldsList-from_slice c.args.word.now cc) (λ x b q k. search (rules, tests)) in
    sym (number_of-other c.args.word.now (sym (list_all-digits c.args.word.now) ∙ sym all ∙ c.if-not-all.true))

pub returns-in_err-ok : goal.returns-in_err-ok
returns-in_err-ok c =
    let all = all_from_yields_List is_ascii_digit _ _ c.all.result c.all.ensures.ran (YieldsList-from_slice c.args.word.now cc) (λ x b q k. search (rules, tests)) in
    let text = digits_are_text c.args.word.now (sym (list_all-digits c.args.word.now) ∙ sym all ∙ c.if-not-all.false) in
    absurd (text_there c.args.word.now _ c.from_utf8.result c.from_utf8.ensures.cases text (sym c.ok.ensures.value ∙ c.in_err-ok.was))

pub returns : goal.returns
returns c =
    let all = all_from_yields_List is_ascii_digit _ _ c.all.result c.all.ensures.ran (YieldsList-from_slice c.args.word.now cc) (λ x b q k. search (rules, tests)) in
    let digits = sym (list_all-digits c.args.word.now) ∙ sym all ∙ c.if-not-all.false in
    let same = text_same c.args.word.now _ c.from_utf8.result c.in_ok-ok.field-0 c.from_utf8.ensures.cases (sym c.ok.ensures.value ∙ c.in_ok-ok.was) in
    c.ok-2.ensures.value ∙ number_of-parse c.args.word.now c.parse.result digits (rw same at c.parse.ensures.value.0)
