-- Lists that hold exactly the elements of a kind, and how many these are.
use Rattle.std.proofs.Common.{◌≡◌, ℕ, ◌<◌, ◌≤◌, Ordering, refl, ap, ◌∙◌, List, length, arith}
use Rattle.ordered.specs.Order.{Order}
use Rattle.ordered.proofs.Alone.{one-rising, shorter}
use Rattle.law.specs.Counting.{ListsExactly, NumberOf, MoreThan}

module _ {X : Type 0} (c : X → X → Ordering) (o : Order c) where
  module _ (P : X → Type 0) where
    -- two lists that hold exactly the same are one
    pub one-list : (xs ys : List X) → ListsExactly c P xs → ListsExactly c P ys → xs ≡ ys
    one-list xs ys h k = one-rising c o xs ys h.rises k.rises (λ z i. k.all z (h.only z i)) (λ z i. h.all z (k.only z i))

    -- a list that holds exactly them has as many as there are
    pub number-of : (l : List X) → ListsExactly c P l → NumberOf c P (length l)
    number-of l h = record { list = l; holds = h; counts = refl }

    pub one-number : (l : List X) (n : ℕ) → ListsExactly c P l → NumberOf c P n → n ≡ length l
    one-number l n h k = k.counts ∙ ap (λ (u : List X). length u) (one-list k.list l k.holds h)

    pub more-than : (l : List X) (n : ℕ) → ListsExactly c P l → n < length l → MoreThan c P n
    more-than l n h lt = record { list = l; rises = h.rises; only = h.only; more = lt }

    pub over-length : (l : List X) (n : ℕ) → ListsExactly c P l → MoreThan c P n → n < length l
    over-length l n h k =
        let s : length k.list ≤ length l = shorter c o l k.list k.rises h.rises (λ z i. h.all z (k.only z i)) in
        let q : n < length k.list = k.more in
        omega arith
