-- Items that are written one after another.
use Rattle.std.proofs.Common.{◌≡◌, ℕ, ◌+◌, ◌<◌, List, [], ◌∷◌, ◌++◌, length, get_or, take, sym, ap, ◌∙◌, append_assoc, append-nil, arith}
use Rattle.std.proofs.lemmas.List.{take_more, length-take-le}
use Rattle.text.specs.Texts.{each}

each-push : {X : Type 0} (text : ℕ → X → List ℕ) (n : ℕ) (xs : List X) (x : X) → each text n (xs ++ x ∷ []) ≡ each text n xs ++ text (length xs + n) x
each-push text n [] x = append-nil (text n x) ∙ ap (λ k. text k x) (omega arith)
each-push text n (y ∷ ys) x =
    ap (λ l. text n y ++ l) (each-push text (n + 1) ys x ∙ ap (λ k. each text (n + 1) ys ++ text k x) (omega arith))
    ∙ sym (append_assoc (text n y) (each text (n + 1) ys) (text (length (y ∷ ys) + n) x))

-- the first i items and one more
pub each_more : {X : Type 0} (text : ℕ → X → List ℕ) (n : ℕ) (xs : List X) (i : ℕ) (d : X) → i < length xs → each text n (take (i + 1) xs) ≡ each text n (take i xs) ++ text (i + n) (get_or xs i d)
each_more text n xs i d h =
    rw (take_more xs i d h)
    (each-push text n (take i xs) (get_or xs i d) ∙ ap (λ k. each text n (take i xs) ++ text (k + n) (get_or xs i d)) (length-take-le i xs (omega arith)))
