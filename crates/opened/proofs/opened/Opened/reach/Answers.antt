use Rattle.std.proofs.Common.{rules, ◌≡◌, refl, sym, ap, subst, length, List, [], arith}
use Rattle.std.proofs.lemmas.Result.{err_from_is_err_and}
use Rattle.row.specs.declared.row.Row.{Row}
use Rattle.ordered.specs.Held.{held, room}
use Rattle.motions.specs.Collecting.{Gained, Exceeds, FromEach}
use Rattle.rules.specs.Chains.{answers_after}
use Rattle.search.specs.Searching.{Reached}
use Rattle.opened.proofs.Advances.{found, overflown}
use Rattle.opened.proofs.opened.Opened.reach.Goals as goal

-- src/advancing.rt:37:9
pub returns-in_err-each-clause-finds_all_unless_they_are_more :
    goal.returns-in_err-each-clause-finds_all_unless_they_are_more
returns-in_err-each-clause-finds_all_unless_they_are_more c now agrees =
    let r = err_from_is_err_and c.from_residual.result c.from_residual.ensures.1 in
    let o = c.args.self.now in
    let e = c.args.answers.now.event in
    let a = c.args.answers.now in
    let out = c.over-out.result in
    let room-is : length c.args.places.now ≡ room out = ap length (sym c.over-out.ensures.lends_these_places) in
    let all = c.in_err-each.ensures.adds_the_successors_of_each (answers_after now [] e) agrees (omega arith) in
    let exceeds = subst (λ (l : List Row). Exceeds (λ y. FromEach l (λ x z. Reached o.diagram a (answers_after now [] e) o.root x z) y) (room out) (held out)) c.rows.ensures.are_those_in_use in
    rw r.1 (overflown o now e a refl out c.each.new.out c.over-out.ensures.holds_nothing (length c.args.places.now) room-is (exceeds all))

-- src/advancing.rt:20:5
pub returns-clause-finds_all_unless_they_are_more :
    goal.returns-clause-finds_all_unless_they_are_more
returns-clause-finds_all_unless_they_are_more c now agrees =
    let o = c.args.self.now in
    let e = c.args.answers.now.event in
    let a = c.args.answers.now in
    let out = c.over-out.result in
    let room-is : room out ≡ length c.args.places.now = ap length c.over-out.ensures.lends_these_places in
    let all = c.in_ok-each.ensures.adds_the_successors_of_each (answers_after now [] e) agrees (omega arith) in
    let gained = subst (λ (l : List Row). Gained (λ y. FromEach l (λ x z. Reached o.diagram a (answers_after now [] e) o.root x z) y) (held out) (held c.each.new.out)) c.rows.ensures.are_those_in_use in
    found o now e a refl out c.each.new.out c.over-out.ensures.holds_nothing c.len.result _
    (gained all) c.len.ensures.counts_what_is_held c.len.ensures.so_many_first_places_are_what_is_held (search rules)
