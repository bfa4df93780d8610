-- What a run's menu shows, and where it stands as the law says.
use Rattle.std.proofs.Common.{◌≡◌, refl, sym, ◌∙◌, ap, subst, ℕ, List, [], ◌++◌, length, take, drop, Option, Some, None, Ok, Result, ⊎_elim, arith}
use Rattle.std.proofs.Math.Seq.{take-append_seam}
use Rattle.std.proofs.lemmas.Bool.{cases_lt}
use Rattle.std.proofs.lemmas.List.{take_all, take-append-le, length-take-le}
use Rattle.fault.specs.declared.fault.Fault.{Fault}
use Rattle.event.specs.declared.event.Event.{Event}
use Rattle.host.specs.Meanings.{Meaning}
use Rattle.rules.specs.Trees.{Tree, elementary}
use Rattle.rules.specs.InRange.{Sound}
use Rattle.rules.specs.Ends.{arranged}
use Rattle.law.specs.Chained.{OfferedInstead, MenuLaw}
use Rattle.law.specs.Menus.{menu_events, menu_answer, written_over}
use Rattle.law.proofs.Offers.{offered-instead, menu-counts, menu-short, menu-obeys}
use Rattle.opened.specs.States.{states_in}
use Rattle.opened.specs.Opening.{root_tree}
use Rattle.run.specs.Runs.{opened_with_of, tree_with, tree_in, states_of_opened, states, WhereItStands, listed_by}
use Rattle.opened.specs.Opens.{tree_of_opened}
use Rattle.opened.specs.declared.opened.Opened.{Opened}
use Rattle.run.specs.declared.run.Run.{Run}
use Rattle.opened.proofs.Menus.{root-sound}

-- a run that was never opened has an empty menu
nothing-moves : (now : Meaning) → menu_events elementary [] now ≡ []
unfolding arranged
nothing-moves now = refl

pub none-menu : (run : Run) (now : Meaning) → run.opened ≡ None → menu_events (tree_in run) (states run) now ≡ []
none-menu run now is = ap (λ (o : Option Opened). menu_events (tree_with (opened_with_of o)) (states_of_opened o) now) is ∙ nothing-moves now

-- one that was opened has that of what it holds
pub some-menu : (run : Run) (now : Meaning) (o : Opened) → run.opened ≡ Some o → menu_events (tree_of_opened o) (states_in o.held) now ≡ menu_events (tree_in run) (states run) now
some-menu run now o is = ap (λ (p : Option Opened). menu_events (tree_with (opened_with_of p)) (states_of_opened p) now) (sym is)

pub none-answer : (menu : List Event) (places : ℕ) → menu ≡ [] → Ok 0 ≡ menu_answer places menu
none-answer menu places is = sym (menu-counts places [] (omega arith)) ∙ ap (λ (l : List Event). menu_answer places l) (sym is)

pub none-written : (menu before : List Event) → menu ≡ [] → before ≡ written_over menu before
none-written menu before is =
    ap (λ (l : List Event). l ++ before) (sym (take_all (length before) [] (omega arith))) ∙ ap (λ (l : List Event). written_over l before) (sym is)

-- what a menu listed are its first events
pub listed-first : (menu before after : List Event) (r : Result ℕ Fault) → r ≡ menu_answer (length before) menu → after ≡ written_over menu before → take (listed_by (length before) r) after ≡ take (length before) menu
listed-first menu before after r is wrote =
    ⊎_elim
    (λ short.
    let rest = drop (length menu) before in
    let n : length (take (length before) menu) ≡ length before = length-take-le (length before) menu (omega arith) in
    ap (λ (q : Result ℕ Fault). take (listed_by (length before) q) after) (is ∙ menu-short (length before) menu short)
    ∙ ap (λ (l : List Event). take (length before) l) wrote
    ∙ take-append-le (length before) (take (length before) menu) rest (omega arith)
    ∙ take_all (length before) (take (length before) menu) (omega arith))
    (λ room.
    let rest = drop (length menu) before in
    ap (λ (q : Result ℕ Fault). take (listed_by (length before) q) after) (is ∙ menu-counts (length before) menu room)
    ∙ ap (λ (l : List Event). take (length menu) l) (wrote ∙ ap (λ (l : List Event). l ++ rest) (take_all (length before) menu room))
    ∙ take-append_seam menu rest
    ∙ sym (take_all (length before) menu room))
    (cases_lt (length before) (length menu))

run-sound : (o : Option Opened) → Sound (tree_with (opened_with_of o))
run-sound None = tt
run-sound (Some o) = root-sound o

module _ (run : Run) (now : Meaning) where
  pub shows-lawfully : (before after : List Event) (r : Result ℕ Fault) → r ≡ menu_answer (length before) (menu_events (tree_in run) (states run) now)
      → after ≡ written_over (menu_events (tree_in run) (states run) now) before
      → WhereItStands run now (λ t ceiling m w. MenuLaw t m w (length before) r (take (listed_by (length before) r) after))
  shows-lawfully before after r is wrote d values ceiling m w s =
      let menu = λ (t : Tree). menu_events t (states run) now in
      menu-obeys (root_tree values d) m w (states run) now (subst Sound s.is_of (run-sound run.opened)) s.holds s.told (length before) r _
      (is ∙ ap (λ (t : Tree). menu_answer (length before) (menu t)) s.is_of)
      (listed-first (menu (tree_in run)) before after r is wrote ∙ ap (λ (t : Tree). take (length before) (menu t)) s.is_of)

  pub offers-lawfully : WhereItStands run now (λ t ceiling m w. OfferedInstead t ceiling m w (states run) now)
  offers-lawfully d values ceiling m w s = offered-instead (root_tree values d) ceiling m w (states run) now s.holds s.told
