-- What is held and possible after some events, and what is answered, from what is computed.
use Rattle.std.proofs.Common.{◌≡◌, refl, sym, ap, subst, ◌∙◌, ℕ, ◌↔◌, true, List, length, take, Ok, Result, ◌-◌}
use Rattle.std.proofs.Math.Nat.{le_refl}
use Rattle.std.proofs.Math.Seq.{take-length}
use Rattle.fault.specs.declared.fault.Fault.{Fault}
use Rattle.procedure.specs.Drawings.{Drawing}
use Rattle.procedure.specs.Sound.{sound}
use Rattle.event.specs.Forms.{event_rank}
use Rattle.event.specs.declared.event.Event.{Event}
use Rattle.host.specs.Meanings.{Meaning, Told}
use Rattle.rules.specs.Trees.{Tree}
use Rattle.rules.specs.Cells.{Cells}
use Rattle.rules.specs.Ends.{ends}
use Rattle.rules.specs.InRange.{Sound}
use Rattle.rules.specs.Laws.{meaning_after}
use Rattle.rules.specs.Examples.{MenuExactly}
use Rattle.rules.proofs.Growing.{tree-sound}
use Rattle.rules.proofs.Shown.{ends-exactly}
use Rattle.law.specs.Counting.{ListsExactly}
use Rattle.law.specs.Chained.{IsOffered, MenuLaw}
use Rattle.law.specs.Menus.{menu_events, menu_answer}
use Rattle.law.specs.Offers.{offer_answer}
use Rattle.law.proofs.Deciding.{ends-hold, offer-decided, menu-decided}
use Rattle.law.proofs.Offers.{offer-obeys, menu-counts, menu-exact, menu-obeys}
use Rattle.opened.specs.Opening.{told_values, root_tree}
use Rattle.worked.specs.Worked.{Types, After, Answered}

-- a host means after some events what it means after them
told-after : (m : Meaning) (w : List Event) → Told m w (meaning_after w m)
told-after m w u guard d v = refl

-- where the computed menu is a list of events
module _ (t : Tree) (m : Meaning) (w : List Event) (possible : List Event) (fits : Sound t) (is : menu_events t (ends t m w) (meaning_after w m) ≡ possible) where
  exact : ListsExactly event_rank (IsOffered t m w) possible
  exact =
      subst (λ (l : List Event). ListsExactly event_rank (IsOffered t m w) l) is
      (menu-exact t m w (ends t m w) (meaning_after w m) fits (ends-hold t m w) (told-after m w))

  -- these are possible, and no others
  pub possible-exactly : MenuExactly t m w possible
  possible-exactly e f = (λ g. exact.all e (f, g), λ i. (exact.only e i).1)

  -- a menu into as many places lists them, and nothing else is lawful
  pub listed : (r : Result ℕ Fault) (l : List Event) → MenuLaw t m w (length possible) r l ↔ ((r ≡ Ok (length possible)) × (l ≡ possible))
  listed r l = (lists, λ p. obeys p.0 p.1)
    where
      counts : menu_answer (length possible) possible ≡ Ok (length possible)
      counts = menu-counts (length possible) possible (le_refl (length possible))

      lists : MenuLaw t m w (length possible) r l → (r ≡ Ok (length possible)) × (l ≡ possible)
      lists law = let d = menu-decided t m w (length possible) possible exact r l law in (d.0 ∙ counts, d.1 ∙ take-length possible)

      obeys : r ≡ Ok (length possible) → l ≡ possible → MenuLaw t m w (length possible) r l
      obeys p q =
          menu-obeys t m w (ends t m w) (meaning_after w m) fits (ends-hold t m w) (told-after m w) (length possible) r l
          (p ∙ sym counts ∙ ap (λ (k : List Event). menu_answer (length possible) k) (sym is))
          (q ∙ sym (take-length possible) ∙ ap (λ (k : List Event). take (length possible) k) (sym is))

-- the computed ends and the computed menu are what is held and possible
pub after : (told : Types) (d : Drawing) (m : Meaning) (w : List Event) (held : List Cells) (possible : List Event) → sound d.nodes d.arrows ≡ true
    → ends (root_tree (told_values told) d) m w ≡ held
    → menu_events (root_tree (told_values told) d) (ends (root_tree (told_values told) d) m w) (meaning_after w m) ≡ possible
    → After (root_tree (told_values told) d) m w held possible
after told d m w held possible s is lists =
    let t = root_tree (told_values told) d in
    let fits : Sound t = tree-sound (told_values told) d s (length d.nodes - 1) in
    record {
      cells = ends-exactly t m w held is;
      menu = possible-exactly t m w possible fits lists;
      listed = listed t m w possible fits lists;
    }

-- the computed answer is the one that the law allows
pub answered : (t : Tree) (ceiling : ℕ) (m : Meaning) (w : List Event) (e : Event) (r : Result ℕ Fault)
    → offer_answer t ceiling (ends t m w) (meaning_after w m) e ≡ r → Answered t ceiling m w e r
answered t ceiling m w e r is r' = (
  λ law. offer-decided t ceiling m w (ends t m w) (meaning_after w m) (ends-hold t m w) (told-after m w) e r' law ∙ is,
  λ p. offer-obeys t ceiling m w (ends t m w) (meaning_after w m) (ends-hold t m w) (told-after m w) e r' (p ∙ sym is),
)
