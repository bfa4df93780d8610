use Rattle.std.proofs.Common.{refl, sym, ◌∙◌, true≢false, nat_lt, List, length}
use Rattle.std.proofs.lemmas.List.{take_all}
use mathlib.Core.List.Memᴰ
use Rattle.ordered.specs.Held.{room}
use Rattle.event.specs.declared.event.Event.{Event}
use Rattle.opened.specs.Listing.{MovesSome}
use Rattle.opened.proofs.Putting.{keep-same, keep-more, keep-next}
use Rattle.opened.proofs.Listed.{listed-none, passed-by, held-there, put-there, short-now, short-still}
use Rattle.opened.proofs.opened.Opened.list_moving.Goals.{then-not-has+then-moves+then-insert, else-not-has, else-not-has-via-then-not-has+then-moves+else-insert, else-not-has-via-then-not-has+else-moves, else-not-has-via-else-not-has}
use Rattle.opened.proofs.opened.Opened.list_moving.Goals as goal

abbrev blank : Event
blank = record { label = 0; count = 0; first = 0; second = 0 }

pub loop-event-init : goal.loop-event-init
loop-event-init g c = record {
  lists = λ others is. listed-none _ others c.args.out.now (λ e w. Memᴰ.not-nil w.0) is;
  keeps = keep-same c.args.out.now;
  lender = refl;
}

pub loop-event-preserved : goal.loop-event-preserved
loop-event-preserved g c =
    let i = c.loop-event.invariant in
    let o = c.loop-event.out in
    let n = c.loop-event.event-index in
    let M = MovesSome c.args.self.now (g.H.GuardHost.meaning c.args.host.now) in
    let b = λ (others : List Event). nat_lt (room c.args.out.now) (length others) in
    elim c.if-not-has.branch [
      | then-not-has+then-moves+then-insert w ↦
          let new = w.insert.new.self in
          let e = w.insert.ensures in
          let moved = sym w.moves.ensures ∙ w.if-moves.true in
          rw (w.out-is, w.short-is)
          (record {
            lists = λ others is.
                put-there M others c.args.events.now n blank c.loop-event-test.true o new _ w.insert.result _ moved e.holds_the_first_in_order e.says_whether_one_is_left_out e.keeps_its_room
                (short-now (b others) c.loop-event.short w.insert.result w.if-insert.true) (i.lists others is);
            keeps = keep-more c.args.out.now o new i.keeps (keep-next o new e.keeps_its_room e.holds_no_fewer e.leaves_later_places);
            lender = e.keeps_its_lender ∙ i.lender;
          })
      | else-not-has w ↦ elim w.else-not-has.branch [
        | else-not-has-via-then-not-has+then-moves+else-insert w' ↦
            let new = w'.insert.new.self in
            let e = w'.insert.ensures in
            let moved = sym w'.moves.ensures ∙ w'.if-moves.true in
            rw (w.out-is, w.short-is, w'.out-is)
            (record {
              lists = λ others is.
                  put-there M others c.args.events.now n blank c.loop-event-test.true o new _ w'.insert.result _ moved e.holds_the_first_in_order e.says_whether_one_is_left_out e.keeps_its_room
                  (short-still (b others) c.loop-event.short w'.insert.result w'.if-insert.false) (i.lists others is);
              keeps = keep-more c.args.out.now o new i.keeps (keep-next o new e.keeps_its_room e.holds_no_fewer e.leaves_later_places);
              lender = e.keeps_its_lender ∙ i.lender;
            })
        | else-not-has-via-then-not-has+else-moves w' ↦
            let still = sym w'.moves.ensures ∙ w'.if-moves.false in
            rw (w.out-is, w.short-is, w'.out-is)
            (record {
              lists = λ others is. passed-by M others c.args.events.now n blank c.loop-event-test.true o _ (λ t. true≢false (sym t ∙ still)) (i.lists others is);
              keeps = i.keeps;
              lender = i.lender;
            })
        | else-not-has-via-else-not-has w' ↦
            let here = c.has.ensures.tells_whether_it_is_held.0 w'.if-not-has.false in
            rw (w.out-is, w.short-is, w'.out-is)
            (record {
              lists = λ others is. held-there M others c.args.events.now n blank c.loop-event-test.true o _ here (i.lists others is);
              keeps = i.keeps;
              lender = i.lender;
            })
      ]
    ]

pub returns-clause-lists_those_that_move : goal.returns-clause-lists_those_that_move
returns-clause-lists_those_that_move g c others is =
    rw (← take_all c.loop-event.event-index c.args.events.now c.loop-event-test.false) (c.loop-event.invariant.lists others is)
