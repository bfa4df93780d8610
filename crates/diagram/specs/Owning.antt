-- The arrows of each node and of each label, by their numbers in the file.
use Rattle.std.specs.Prelude.{◌≡◌, ℕ, zero, suc, ◌+◌, ◌-◌, ◌≤◌, ◌==◌, cond, List, [], ◌∷◌, ◌++◌, length, take, drop, slice_index}
use Rattle.std.proofs.Props.{props}
use Rattle.notation.specs.declared.arrow.Arrow.{Arrow}
use Rattle.diagram.specs.declared.keyed_arrows.Key.{Key}
use Rattle.diagram.specs.declared.keyed_arrows.Key.TheVariants.{Node, Label}
use Rattle.diagram.specs.declared.keyed_arrows.KeyedArrows.{KeyedArrows}

-- the node or the label of an arrow
abbrev pub key_of : Key → Arrow → ℕ
key_of Node a = a.node
key_of Label a = a.label

-- the numbers of the arrows that have the key i, in order; the first of the list has the number k
abbrev pub keyed_from : Key → ℕ → ℕ → List Arrow → List ℕ
keyed_from key i k [] = []
keyed_from key i k (a ∷ ws) = cond (key_of key a == i) (k ∷ keyed_from key i (suc k) ws) (keyed_from key i (suc k) ws)

abbrev pub keyed : Key → List Arrow → ℕ → List ℕ
keyed key ws i = keyed_from key i 0 ws

-- the numbers of the arrows of a node, in order
abbrev pub own_arrows : List Arrow → ℕ → List ℕ
own_arrows = keyed Node

-- those of the arrows with a label
abbrev pub labelled_arrows : List Arrow → ℕ → List ℕ
labelled_arrows = keyed Label

-- those of the keys below n, key by key
abbrev pub keyed_below : Key → List Arrow → ℕ → List ℕ
keyed_below key ws zero = []
keyed_below key ws (suc n) = keyed_below key ws n ++ keyed key ws n

-- a table has the numbers of some arrows key by key, and tells at which place those of each key begin
pub record KeyByKey (key : Key) (ws : List Arrow) (a : KeyedArrows) : Type 0 where
  pub numbers : a.numbers.items ≡ keyed_below key ws 256
  pub starts : (i : ℕ) → i ≤ 256 → slice_index a.starts i ≡ length (keyed_below key ws i)

-- The same, shut: what is known of every diagram is at hand in each proof about one, and few of them look at its arrows.
unfoldable pub Sorted : Key → List Arrow → KeyedArrows → Type 0
Sorted key ws a = KeyByKey key ws a

-- a type with at most one value, as a ghost field's must be
pub Sorted-prop : (key : Key) (ws : List Arrow) (a : KeyedArrows) → IsProp (Sorted key ws a)
unfolding Sorted
Sorted-prop key ws a = hlevel props

-- a key's numbers lie in a table
pub record HasPlace (a : KeyedArrows) (i : ℕ) : Type 0 where
  pub in_order : slice_index a.starts i ≤ slice_index a.starts (i + 1)
  pub in_table : slice_index a.starts (i + 1) ≤ length a.numbers.items

-- what lies from a key's place up to the next one's
abbrev pub between : KeyedArrows → ℕ → List ℕ
between a i = take (slice_index a.starts (i + 1) - slice_index a.starts i) (drop (slice_index a.starts i) a.numbers.items)
