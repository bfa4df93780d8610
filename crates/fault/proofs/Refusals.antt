-- The first no among questions that are asked one after the other.
use Rattle.std.proofs.Common.{◌≡◌, ℕ, zero, suc, ◌<◌, Bool, true, false, List, [], ◌∷◌, ◌++◌, Some, None, Option, Result, MatchResult, sym, refl, ap, ◌∙◌, ⊎_elim, arith}
use Rattle.std.proofs.lemmas.Bool.{cases_Bool, cases_lt}
use Rattle.std.proofs.lemmas.Option.{none-some}
use Rattle.fault.specs.Asking.{Asked, refusal, AllYes, FirstNo, asked_up_to, asked_of_each, answer_or}
use Rattle.fault.specs.declared.fault.Question.{Question}
use Rattle.fault.specs.declared.fault.Fault.{Fault}

-- all yes in front: what comes behind decides
pub refusal-more : (xs ys : List Asked) → refusal xs ≡ None → refusal (xs ++ ys) ≡ refusal ys
refusal-more [] ys h = refl
refusal-more (x ∷ xs) ys h =
    ⊎_elim
    (λ t. rw t (refusal-more xs ys (rw t at h)))
    (λ f. absurd (none-some _ (sym (rw f at h))))
    (cases_Bool x.yes)

-- a no in front: what comes behind does not matter
pub refusal-stop : (xs ys : List Asked) (f : Fault) → refusal xs ≡ Some f → refusal (xs ++ ys) ≡ Some f
refusal-stop [] ys f h = absurd (none-some _ h)
refusal-stop (x ∷ xs) ys f h =
    ⊎_elim
    (λ t. rw t (refusal-stop xs ys f (rw t at h)))
    (λ n. rw n (rw n at h))
    (cases_Bool x.yes)

pub all_asked : (n : ℕ) (g : ℕ → List Asked) → ((i : ℕ) → i < n → refusal (g i) ≡ None) → refusal (asked_up_to n g) ≡ None
all_asked zero g h = refl
all_asked (suc n) g h = refusal-more (asked_up_to n g) (g n) (all_asked n g (λ i lt. h i (omega arith))) ∙ h n (omega arith)

-- the first no is at i
pub first-asked : (n i : ℕ) (g : ℕ → List Asked) (f : Fault) → i < n → ((j : ℕ) → j < i → refusal (g j) ≡ None) → refusal (g i) ≡ Some f → refusal (asked_up_to n g) ≡ Some f
first-asked zero i g f lt h s = absurd (omega arith)
first-asked (suc n) i g f lt h s =
    ⊎_elim
    (λ l. refusal-stop (asked_up_to n g) (g n) f (first-asked n i g f l h s))
    (λ ge. let e : i ≡ n = omega arith in refusal-more (asked_up_to n g) (g n) (all_asked n g (λ j l. h j (omega arith))) ∙ rw e at s)
    (cases_lt i n)

-- all are answered yes exactly where there is no refusal
pub all_yes : (xs : List Asked) → refusal xs ≡ None → AllYes xs
all_yes [] h = tt
all_yes (x ∷ xs) h = ⊎_elim (λ t. (t, all_yes xs (rw t at h))) (λ f. absurd (none-some _ (sym (rw f at h)))) (cases_Bool x.yes)

pub no-refusal : (xs : List Asked) → AllYes xs → refusal xs ≡ None
no-refusal [] h = refl
no-refusal (x ∷ xs) h = rw h.0 (no-refusal xs h.1)

-- and a refusal is the first that is answered no
pub first-no : (xs : List Asked) (f : Fault) → refusal xs ≡ Some f → FirstNo xs f
first-no [] f h = absurd (none-some _ h)
first-no (x ∷ xs) f h =
    ⊎_elim
    (λ t.
    let r = first-no xs f (rw t at h) in
    record { before = x ∷ r.before; after = r.after; split = ap (λ l. x ∷ l) r.split; passed = (t, r.passed) })
    (λ n.
    let s : ◌≡◌ {A = Option Fault} (Some (record { question = x.question; place = x.place })) (Some f) = rw n at h in
    let e : ◌≡◌ {A = Fault} (record { question = x.question; place = x.place }) f = cc in
    record { before = []; after = xs; split = split-here x xs f n e; passed = tt })
    (cases_Bool x.yes)
  where
    split-here : (x : Asked) (xs : List Asked) (f : Fault) → x.yes ≡ false → ◌≡◌ {A = Fault} (record { question = x.question; place = x.place }) f → x ∷ xs ≡ record { question = f.question; place = f.place; yes = false } ∷ xs
    split-here x xs f n e = rw (← e) (ap (λ b. (let y : Asked = record { question = x.question; place = x.place; yes = b } in y) ∷ xs) n)

pub refused-by : (xs : List Asked) (f : Fault) → FirstNo xs f → refusal xs ≡ Some f
refused-by xs f r =
    ap refusal r.split ∙ refusal-more r.before (record { question = f.question; place = f.place; yes = false } ∷ r.after) (no-refusal r.before r.passed)

-- no refusal of both: none of either
pub refusal-parts : (xs ys : List Asked) → refusal (xs ++ ys) ≡ None → (refusal xs ≡ None) × (refusal ys ≡ None)
refusal-parts [] ys h = (refl, h)
refusal-parts (x ∷ xs) ys h =
    ⊎_elim
    (λ t. let r = refusal-parts xs ys (rw t at h) in (rw t r.0, r.1))
    (λ f. absurd (none-some _ (sym (rw f at h))))
    (cases_Bool x.yes)

pub asked-each : (n : ℕ) (g : ℕ → List Asked) → refusal (asked_up_to n g) ≡ None → (i : ℕ) → i < n → refusal (g i) ≡ None
asked-each zero g h i lt = absurd (omega arith)
asked-each (suc n) g h i lt =
    let r = refusal-parts (asked_up_to n g) (g n) h in
    ⊎_elim (λ l. asked-each n g r.0 i l) (λ ge. let e : n ≡ i = omega arith in rw e at r.1) (cases_lt i n)

pub yes-first : (x : Asked) (xs : List Asked) → refusal (x ∷ xs) ≡ None → (x.yes ≡ true) × (refusal xs ≡ None)
yes-first x xs h = ⊎_elim (λ t. (t, rw t at h)) (λ f. absurd (none-some _ (sym (rw f at h)))) (cases_Bool x.yes)

-- one question of each number below n: all are answered yes, or the first no is at i
pub each-yes : (q : Question) (n : ℕ) (g : ℕ → Bool) → ((k : ℕ) → k < n → g k ≡ true) → refusal (asked_of_each q n g) ≡ None
each-yes q n g h = all_asked n (λ k. record { question = q; place = k; yes = g k } ∷ []) (λ k lt. rw (h k lt) refl)

pub one-no : (q : Question) (n i : ℕ) (g : ℕ → Bool) → i < n → ((k : ℕ) → k < i → g k ≡ true) → g i ≡ false → refusal (asked_of_each q n g) ≡ Some (record { question = q; place = i })
one-no q n i g lt h z =
    first-asked n i (λ k. record { question = q; place = k; yes = g k } ∷ []) (record { question = q; place = i }) lt (λ k l. rw (h k l) refl) (rw z refl)

-- what a call answers tells whether a question is answered no, and which
pub told : {X : Type 0} (x : X) (o : Option Fault) (r : Result X Fault) → r ≡ answer_or o x → MatchResult r (λ _. o ≡ None) (λ f. o ≡ Some f)
told x None r e = rw e refl
told x (Some f) r e = rw e refl
