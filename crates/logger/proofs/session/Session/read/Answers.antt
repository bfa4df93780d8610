use Rattle.std.proofs.Common.{sym, ◌∙◌, ap, subst, ℕ, ◌+◌, List, length, drop, Option, Some, rules, tests}
use Rattle.std.proofs.lemmas.List.{length_push}
use Rattle.std.proofs.lemmas.Iterator.Consumers.{YieldsList-at, YieldsList-from_enumerate, YieldsList-turn, YieldsList-end}
use Rattle.std.proofs.lemmas.Iterator.Splits.{YieldsList-from_slice_split}
use Rattle.procedure.specs.Reading.{reading, left_by}
use Rattle.script.specs.declared.wrong.Wrong.{Wrong}
use Rattle.logger.specs.Scripts.{lines_in, calls_of, calls_in, wrong_in}
use Rattle.logger.specs.Playing.{after_lines}
use Rattle.logger.specs.Sessions.{drawn_in, so_far, choice_of, Came}
use Rattle.logger.proofs.Turns.{read-on, wrong-on, read-stop, wrong-stop, turned, ended}
use Rattle.logger.proofs.session.Session.read.Goals as goal

pub returns-in-Some-2-clause-stands_as_its_calls_say : goal.returns-in-Some-2-clause-stands_as_its_calls_say
returns-in-Some-2-clause-stands_as_its_calls_say c =
    let lines = lines_in c.args.script.now in
    let s = c.loop-i.self in
    let n = length c.loop-i.yielded in
    let line : List ℕ = c.in-Some.line.now in
    let yields = YieldsList-at c.into_iter-i-iterator.ensures.into_iter_gives
    (YieldsList-from_enumerate (YieldsList-at c.enumerate-i-items.ensures.source (YieldsList-from_slice_split _ _ c.args.script.now c.split.ensures.rest c.split.ensures.done c.split.ensures.closure (λ x r q k. search (rules, tests)))) c.enumerate-i-items.ensures.count) in
    let t = turned lines n c.in-Some.i line (YieldsList-turn yields c.loop-i.yielded _ c.loop-i.yielded_by _ _ (c.in-Some.i, c.in-Some.line) c.in-Some.is c.next.ensures.steps) in
    let came = subst (λ (o : Option Wrong). Came s o (calls_of line) c.line.new.self) c.in-Some-2.is c.in_ok-wrong.ensures.is_made_unless_wrong in
    read-stop (drawn_in s) (choice_of s) (choice_of s) line (drop (n + 1) lines) (drop n lines) t.1 (so_far s) (so_far c.line.new.self) c.in-Some-2.wrong
    (sym c.in_ok-wrong.ensures.finds_what_is_wrong ∙ c.in-Some-2.is) came.stands
    ∙ c.loop-i.invariant.stands

pub returns-in-Some-2-clause-finds_the_first_wrong_line : goal.returns-in-Some-2-clause-finds_the_first_wrong_line
returns-in-Some-2-clause-finds_the_first_wrong_line c =
    let lines = lines_in c.args.script.now in
    let s = c.loop-i.self in
    let n = length c.loop-i.yielded in
    let line : List ℕ = c.in-Some.line.now in
    let yields = YieldsList-at c.into_iter-i-iterator.ensures.into_iter_gives
    (YieldsList-from_enumerate (YieldsList-at c.enumerate-i-items.ensures.source (YieldsList-from_slice_split _ _ c.args.script.now c.split.ensures.rest c.split.ensures.done c.split.ensures.closure (λ x r q k. search (rules, tests)))) c.enumerate-i-items.ensures.count) in
    let t = turned lines n c.in-Some.i line (YieldsList-turn yields c.loop-i.yielded _ c.loop-i.yielded_by _ _ (c.in-Some.i, c.in-Some.line) c.in-Some.is c.next.ensures.steps) in
    (λ j. Some (record { number = t.0 j + 1; wrong = c.in-Some-2.wrong }))
    ∙ wrong-stop (drawn_in s) (choice_of s) (choice_of s) line (drop (n + 1) lines) (drop n lines) t.1 (n + 1) c.in-Some-2.wrong
    (sym c.in_ok-wrong.ensures.finds_what_is_wrong ∙ c.in-Some-2.is)
    ∙ c.loop-i.invariant.wrong

pub loop-i-preserved : goal.loop-i-preserved
loop-i-preserved c =
    let lines = lines_in c.args.script.now in
    let s = c.loop-i.self in
    let m = c.line.new.self in
    let n = length c.loop-i.yielded in
    let line : List ℕ = c.in-Some.line.now in
    let yields = YieldsList-at c.into_iter-i-iterator.ensures.into_iter_gives
    (YieldsList-from_enumerate (YieldsList-at c.enumerate-i-items.ensures.source (YieldsList-from_slice_split _ _ c.args.script.now c.split.ensures.rest c.split.ensures.done c.split.ensures.closure (λ x r q k. search (rules, tests)))) c.enumerate-i-items.ensures.count) in
    let t = turned lines n c.in-Some.i line (YieldsList-turn yields c.loop-i.yielded _ c.loop-i.yielded_by _ _ (c.in-Some.i, c.in-Some.line) c.in-Some.is c.next.ensures.steps) in
    let goes = subst (λ (o : Option Wrong). Came s o (calls_of line) m) c.in_default.is c.in_ok-wrong.ensures.is_made_unless_wrong in
    let right = sym c.in_ok-wrong.ensures.finds_what_is_wrong ∙ c.in_default.is in
    let one = length_push c.loop-i.yielded (c.in-Some.i, c.in-Some.line) in
    rw one (record {
      stands =
          (λ i. after_lines (left_by (reading (goes.file i))) (so_far m) (calls_in (choice_of m) (drop (n + 1) lines)))
          ∙ read-on (drawn_in s) (choice_of s) (choice_of m) line (drop (n + 1) lines) (drop n lines) t.1 (so_far s) (so_far m) right goes.stands goes.knows
          ∙ c.loop-i.invariant.stands;
      wrong = wrong-on (drawn_in s) (choice_of s) (choice_of m) line (drop (n + 1) lines) (drop n lines) t.1 (n + 1) right goes.knows ∙ c.loop-i.invariant.wrong;
    })

pub returns-clause-stands_as_its_calls_say : goal.returns-clause-stands_as_its_calls_say
returns-clause-stands_as_its_calls_say c =
    let lines = lines_in c.args.script.now in
    let s = c.loop-i.self in
    let n = length c.loop-i.yielded in
    let yields = YieldsList-at c.into_iter-i-iterator.ensures.into_iter_gives
    (YieldsList-from_enumerate (YieldsList-at c.enumerate-i-items.ensures.source (YieldsList-from_slice_split _ _ c.args.script.now c.split.ensures.rest c.split.ensures.done c.split.ensures.closure (λ x r q k. search (rules, tests)))) c.enumerate-i-items.ensures.count) in
    let none = ended lines n (YieldsList-end yields c.loop-i.yielded _ c.loop-i.yielded_by _ _ c.in-None.is c.next.ensures.steps).1 in
    ap (λ (ls : List (List ℕ)). after_lines (drawn_in s) (so_far s) (calls_in (choice_of s) ls)) (sym none) ∙ c.loop-i.invariant.stands

pub returns-clause-finds_the_first_wrong_line : goal.returns-clause-finds_the_first_wrong_line
returns-clause-finds_the_first_wrong_line c =
    let lines = lines_in c.args.script.now in
    let s = c.loop-i.self in
    let n = length c.loop-i.yielded in
    let yields = YieldsList-at c.into_iter-i-iterator.ensures.into_iter_gives
    (YieldsList-from_enumerate (YieldsList-at c.enumerate-i-items.ensures.source (YieldsList-from_slice_split _ _ c.args.script.now c.split.ensures.rest c.split.ensures.done c.split.ensures.closure (λ x r q k. search (rules, tests)))) c.enumerate-i-items.ensures.count) in
    let none = ended lines n (YieldsList-end yields c.loop-i.yielded _ c.loop-i.yielded_by _ _ c.in-None.is c.next.ensures.steps).1 in
    ap (wrong_in (choice_of s) (n + 1)) (sym none) ∙ c.loop-i.invariant.wrong
