use Rattle.std.proofs.Common.{◌≡◌, ℕ, ◌≤◌, ◌==◌, false, List, length, take, refl, subst, sym, arith}
use Rattle.std.proofs.lemmas.Bool.Decides.{nat_tests}
use Rattle.std.proofs.lemmas.List.{take_all, length-take-le}
use Rattle.ordered.specs.Order.{Order, Rising, kept, spills, insert_ordered}
use Rattle.ordered.specs.Seeking.{ComesAt}
use Rattle.ordered.proofs.Fitted.{put-in, full-spills}
use Rattle.ordered.proofs.Laws.{Promised, promised, rising-kept}
use Rattle.ordered.proofs.Steps.{met}
use Rattle.ordered.proofs.list.Ordered.insert.Given.{Over}
use Rattle.ordered.proofs.list.Ordered.insert.Goals as goal

order : (g : Over) → Order g.T.Rank.rank
order g = record { flip = g.met.T.Rank.flip; chain = g.met.T.Rank.chain; same = g.met.T.Rank.same }

pub returns-in_default : goal.returns-in_default
returns-in_default g c =
    let rank = g.T.Rank.rank in
    let s : List g.row.T.Denot = c.args.self.now.places.now in
    let used : ℕ = c.args.self.now.used in
    let xs : List g.row.T.Denot = take used s in
    let x = c.args.x in
    let in-use : used ≤ length s = c.args.self.now.fits in
    let fits : length xs ≤ length s = omega (arith, length-take-le used s in-use) in
    let same : insert_ordered rank xs x ≡ xs = met rank x xs _ (rw c.as_slice.ensures.tells_what_is_held at c.in_default.ensures) in
    let is : xs ≡ kept rank (length s) xs x = rw same (sym (take_all (length s) xs fits)) in
    let over : false ≡ spills rank (length s) xs x = rw same (grind (arith, nat_tests, fits)) in
    let p : Promised rank xs x xs false = promised rank (order g) (length s) xs x xs false fits is over in
    record {
      holds_the_first_in_order = is;
      says_whether_one_is_left_out = over;
      leaves_later_places = λ n le. refl;
      holds_no_fewer = p.grows;
      keeps_its_room = refl;
      keeps_its_lender = refl;
      stays_rising = p.rises;
      holds_nothing_else = p.only;
      holds_exactly_old_and_new_unless_one_is_left_out = p.exactly;
      leaves_out_only_what_is_above = p.above;
    }

pub invariant_of-self : goal.invariant_of-self
invariant_of-self g c =
    let rank = g.T.Rank.rank in
    let s : List g.row.T.Denot = c.args.self.now.places.now in
    let used : ℕ = c.args.self.now.used in
    let end : ℕ = c.grown-end.result in
    let t : List g.row.T.Denot = c.insert_at.new.places in
    let in-use : used ≤ length s = c.args.self.now.fits in
    let here : ComesAt rank (take used s) c.args.x c.in-Err.at = rw c.as_slice.ensures.tells_what_is_held at c.in-Err.ensures in
    let is : take end t ≡ kept rank (length s) (take used s) c.args.x = put-in rank s t c.in-Err.at used end c.args.x in-use here c.grown-end.ensures c.insert_at.ensures.puts in
    record {
      fits = omega (arith, c.grown-end.ensures, c.insert_at.auto.places);
      rises = subst (λ l. Rising rank l) (sym is) (rising-kept rank (order g) (length s) (take used s) c.args.x c.args.self.now.rises);
    }

pub returns : goal.returns
returns g c =
    let rank = g.T.Rank.rank in
    let s : List g.row.T.Denot = c.args.self.now.places.now in
    let used : ℕ = c.args.self.now.used in
    let xs : List g.row.T.Denot = take used s in
    let x = c.args.x in
    let at = c.in-Err.at in
    let end : ℕ = c.grown-end.result in
    let t : List g.row.T.Denot = c.insert_at.new.places in
    let in-use : used ≤ length s = c.args.self.now.fits in
    let fits : length xs ≤ length s = omega (arith, length-take-le used s in-use) in
    let here : ComesAt rank xs x at = rw c.as_slice.ensures.tells_what_is_held at c.in-Err.ensures in
    let is : take end t ≡ kept rank (length s) xs x = put-in rank s t at used end x in-use here c.grown-end.ensures c.insert_at.ensures.puts in
    let full = end == used in
    let over : full ≡ spills rank (length s) xs x = full-spills rank s at used end x in-use here c.grown-end.ensures in
    let p : Promised rank xs x (take end t) full = promised rank (order g) (length s) xs x (take end t) full fits is over in
    let fills : length (take end t) ≡ end = length-take-le end t (omega (arith, c.grown-end.ensures, c.insert_at.auto.places)) in
    record {
      holds_the_first_in_order = is;
      says_whether_one_is_left_out = over;
      leaves_later_places = λ n le. c.insert_at.ensures.leaves n (omega (arith, fills));
      holds_no_fewer = p.grows;
      keeps_its_room = c.insert_at.auto.places;
      keeps_its_lender = refl;
      stays_rising = p.rises;
      holds_nothing_else = p.only;
      holds_exactly_old_and_new_unless_one_is_left_out = p.exactly;
      leaves_out_only_what_is_above = p.above;
    }
