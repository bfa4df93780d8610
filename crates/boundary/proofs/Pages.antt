-- Texts said one after the other.
use Rattle.std.proofs.Common.{Bool, true, false, cond, nat_lt, ◌≡◌, refl, sym, ◌∙◌, ap, ℕ, suc, ◌+◌, List, [], ◌∷◌, ◌++◌, length, take, drop, min, set, arith}
use Rattle.std.proofs.lemmas.Bool.{lt-ltb, le-ltb}
use Rattle.std.proofs.lemmas.List.{append_assoc, length-append, take_all, drop_all}
use Rattle.boundary.specs.Texts.{Page, page, one_said, said, text_over}

-- to say one text and then another is to say both, one behind the other
pub said-both : (s t : List ℕ) (p : Page) → said (s ++ t) p ≡ said t (said s p)
said-both [] t p = refl
said-both (n ∷ s) t p = said-both s t (one_said n p)

-- what is left of a whole text, once its next part is said
pub rest-said : (whole part rest : List ℕ) (p q r : Page) → whole ≡ part ++ rest → q ≡ said part p → said whole p ≡ r → said rest q ≡ r
rest-said whole part rest p q r is says e = ap (said rest) says ∙ sym (said-both part rest p) ∙ ap (λ t. said t p) (sym is) ∙ e

-- a number in the next place
set-next : (before rest : List ℕ) (n p : ℕ) → set (before ++ p ∷ rest) (length before) n ≡ before ++ n ∷ rest
set-next [] rest n p = refl
set-next (b ∷ before) rest n p = ap (λ (l : List ℕ). b ∷ l) (set-next before rest n p)

-- one number said where a place is left
next-said : (before rest : List ℕ) (n p : ℕ) → one_said n (page (before ++ p ∷ rest) (length before)) ≡ page ((before ++ n ∷ []) ++ rest) (length (before ++ n ∷ []))
next-said before rest n p =
    let b : List ℕ = before ++ p ∷ rest in
    let there : nat_lt (length before) (length b) ≡ true = lt-ltb (length before) (length b) (omega (arith, length-append before (p ∷ rest))) in
    let l : length before + 1 ≡ length (before ++ n ∷ []) = sym (length-append before (n ∷ [])) in
    ap (λ (x : Bool). cond x (page (set b (length before) n) (length before + 1)) (page b (length before))) there
    ∙ (λ i. page ((set-next before rest n p ∙ sym (append_assoc before (n ∷ []) rest)) i) (l i))

-- and where none is
none-said : (before : List ℕ) (n : ℕ) → one_said n (page (before ++ []) (length before)) ≡ page (before ++ []) (length before)
none-said before n =
    let b : List ℕ = before ++ [] in
    let full : nat_lt (length before) (length b) ≡ false = le-ltb (length before) (length b) (omega (arith, length-append before [])) in
    ap (λ (x : Bool). cond x (page (set b (length before) n) (length before + 1)) (page b (length before))) full

-- a text over the places that are left
said-after : (text before rest : List ℕ) → said text (page (before ++ rest) (length before)) ≡ page (before ++ text_over text rest) (length before + min (length text) (length rest))
said-after [] before rest =
    let none : ◌≡◌ {A = List ℕ} [] (take (length rest) []) = sym (take_all (length rest) [] (omega arith)) in
    let l : length before ≡ length before + min 0 (length rest) = omega arith in
    λ i. page (before ++ (none i ++ rest)) (l i)
said-after (n ∷ text) before [] =
    let none : ◌≡◌ {A = List ℕ} (drop (length text) []) [] = drop_all (length text) [] (omega arith) in
    let l : length before + min (length text) 0 ≡ length before + min (suc (length text)) 0 = omega arith in
    ap (said text) (none-said before n) ∙ said-after text before [] ∙ (λ i. page (before ++ none i) (l i))
said-after (n ∷ text) before (p ∷ rest) =
    let more : List ℕ = text_over text rest in
    let l : length (before ++ n ∷ []) + min (length text) (length rest) ≡ length before + min (suc (length text)) (suc (length rest)) = omega (arith, length-append before (n ∷ [])) in
    ap (said text) (next-said before rest n p) ∙ said-after text (before ++ n ∷ []) rest ∙ (λ i. page (append_assoc before (n ∷ []) more i) (l i))

-- a text over all places
pub said-over : (text places : List ℕ) → said text (page places 0) ≡ page (text_over text places) (min (length text) (length places))
said-over text places = said-after text [] places ∙ ap (page (text_over text places)) (omega arith)

-- four texts over all places, each said where the one before it ended
pub four-over : (s t u v places : List ℕ) (p q r z : Page) → p ≡ said s (page places 0) → q ≡ said t p → r ≡ said u q → z ≡ said v r
    → z ≡ page (text_over (s ++ (t ++ (u ++ v))) places) (min (length (s ++ (t ++ (u ++ v)))) (length places))
four-over s t u v places p q r z one two three four =
    four ∙ ap (said v) three ∙ sym (said-both u v q) ∙ ap (said (u ++ v)) two ∙ sym (said-both t (u ++ v) p) ∙ ap (said (t ++ (u ++ v))) one
    ∙ sym (said-both s (t ++ (u ++ v)) (page places 0)) ∙ said-over (s ++ (t ++ (u ++ v))) places
