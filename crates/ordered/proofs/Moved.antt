-- What turning a part of a list by one and writing its first element leaves.
use Rattle.std.proofs.Common.{◌≡◌, ℕ, suc, ◌+◌, ◌-◌, ◌<◌, ◌≤◌, ◌++◌, List, [], ◌∷◌, length, take, drop, set, sym, ap, ◌∙◌, arith}
use Rattle.std.proofs.Math.Seq.{take-append-add}
use Rattle.std.proofs.lemmas.List.{drop-set-lt, length-take-le, length-drop, set_at, take-append-le, take-take}
use Rattle.std.proofs.lemmas.Slice.{drop-put_mid}
use Rattle.std.specs.List.{insert}
use borrow.Rule.Slice.PartMut.{put_mid}

module _ {X : Type 0} where
  written : (p ds ts post : List X) (n : ℕ) (x : X) → length p ≡ n → length ds ≡ 1 → set (p ++ ((ds ++ ts) ++ post)) n x ≡ p ++ x ∷ (ts ++ post)
  written p [] ts post n x l h = absurd (omega arith)
  written p (d ∷ []) ts post n x l h = set_at p d (ts ++ post) x n l
  written p (d ∷ e ∷ ds) ts post n x l h = absurd (omega arith)

  -- the part has k elements from `at` on, and is read up to e
  module _ (s ys : List X) (at k e : ℕ) (x : X) (some : at < e) (within : e ≤ at + k) (fits : at + k ≤ length s) where
    abbrev part : List X
    part = take k (drop at s)

    long : length part ≡ k
    long = length-take-le k (drop at s) (omega (arith, length-drop at s))

    pub puts : ys ≡ drop (length part - 1) part ++ take (length part - 1) part → take e (set (put_mid at k s ys) at x) ≡ take e (insert s at x)
    puts is =
        let j = length part - 1 in
        let i = e - at - 1 in
        let low : length (take at s) ≡ at = length-take-le at s (omega arith) in
        let to : length (take at s) + suc i ≡ e = omega arith in
        let all : length (take j part) ≡ j = length-take-le j part (omega arith) in
        let cut = λ (zs : List X). rw to at (take-append-add (take at s) (x ∷ zs) (suc i)) in
        let post = drop k (drop at s) in
        ap (λ (zs : List X). take e (set (take at s ++ (zs ++ post)) at x)) is
        ∙ ap (λ (zs : List X). take e zs) (written (take at s) (drop j part) (take j part) post at x low (omega (arith, long, length-drop j part)))
        ∙ cut (take j part ++ post)
        ∙ ap (λ (zs : List X). take at s ++ x ∷ zs)
        (take-append-le i (take j part) post (omega (arith, long)) ∙ take-take i j part (omega (arith, long)) ∙ take-take i k (drop at s) (omega (arith, long)))
        ∙ sym (cut (drop at s))

  pub leaves : (s ys : List X) (at k n : ℕ) (x : X) → at < n → at + k ≤ n → at ≤ length s → length ys ≡ k → drop n (set (put_mid at k s ys) at x) ≡ drop n s
  leaves s ys at k n x some within fits long = drop-set-lt n (put_mid at k s ys) at x some ∙ drop-put_mid at k s ys n within fits long
