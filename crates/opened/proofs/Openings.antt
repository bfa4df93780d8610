-- The questions of an opening, one after the other.
use Rattle.std.proofs.Common.{◌≡◌, refl, sym, ◌∙◌, ap, ℕ, ◌<◌, ◌≤◌, List, [], ◌∷◌, ◌++◌, length, Option, Some, None, nat_le, slice_index_or, ◌&&◌, ◌⊎◌, arith}
use Rattle.std.proofs.lemmas.List.{get_or_default}
use Rattle.std.proofs.lemmas.Bool.{lt-ltb}
use Rattle.fault.specs.Asking.{Asked, refusal}
use Rattle.fault.specs.declared.fault.Fault.{Fault}
use Rattle.fault.specs.declared.fault.Question.TheVariants.{CeilingInRange}
use Rattle.fault.proofs.Refusals.{refusal-more, refusal-stop}
use Rattle.notation.specs.Parts.{blank_node, over_of}
use Rattle.notation.specs.declared.node.Node.{Node}
use Rattle.procedure.specs.Drawings.{Drawing}
use Rattle.opened.specs.Opening.{type_known, type_asks, width_asks, open_asks}

-- a node that is read of a list, and whether its type is known
pub item-known : (told : ℕ → Option (List ℕ)) (ns items : List Node) (i : ℕ) (n : Node) → items ≡ ns → i < length items → n ≡ slice_index_or items i n
    → type_known told (over_of (slice_index_or ns i blank_node)) ≡ type_known told (over_of n)
item-known told ns items i n e lt is =
    ap (λ x. type_known told (over_of x)) (ap (λ l. slice_index_or l i blank_node) (sym e) ∙ get_or_default items i blank_node n lt ∙ sym is)

-- the question of the ceiling
abbrev ceiling_ask : ℕ → List Asked
ceiling_ask ceiling = record { question = CeilingInRange; place = ceiling; yes = nat_le 1 ceiling && nat_le ceiling 128 } ∷ []

module _ (d : Drawing) (told : ℕ → Option (List ℕ)) (ceiling : ℕ) (some : 0 < length d.nodes) where
  -- there is a node: the other questions decide
  drawn : refusal (open_asks d told ceiling) ≡ refusal (type_asks d told ++ (width_asks d told ++ ceiling_ask ceiling))
  drawn = rw (lt-ltb 0 (length d.nodes) some) refl

  -- a type is not known
  pub types-refuse : (f : Fault) → refusal (type_asks d told) ≡ Some f → refusal (open_asks d told ceiling) ≡ Some f
  types-refuse f h = drawn ∙ refusal-stop (type_asks d told) (width_asks d told ++ ceiling_ask ceiling) f h

  module _ (types : refusal (type_asks d told) ≡ None) where
    typed : refusal (open_asks d told ceiling) ≡ refusal (width_asks d told ++ ceiling_ask ceiling)
    typed = drawn ∙ refusal-more (type_asks d told) (width_asks d told ++ ceiling_ask ceiling) types

    -- a node is wider than a row
    pub widths-refuse : (f : Fault) → refusal (width_asks d told) ≡ Some f → refusal (open_asks d told ceiling) ≡ Some f
    widths-refuse f h = typed ∙ refusal-stop (width_asks d told) (ceiling_ask ceiling) f h

    module _ (widths : refusal (width_asks d told) ≡ None) where
      narrow : refusal (open_asks d told ceiling) ≡ refusal (ceiling_ask ceiling)
      narrow = typed ∙ refusal-more (width_asks d told) (ceiling_ask ceiling) widths

      -- the ceiling is out of range, or it is not
      pub ceiling-refuses : ceiling < 1 ⊎ (1 ≤ ceiling × 128 < ceiling) → refusal (open_asks d told ceiling) ≡ Some (record { question = CeilingInRange; place = ceiling })
      ceiling-refuses h = narrow ∙ grind arith

      pub opens : 1 ≤ ceiling → ceiling ≤ 128 → refusal (open_asks d told ceiling) ≡ None
      opens l m = narrow ∙ grind arith
