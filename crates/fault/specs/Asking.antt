-- Questions as they are asked, one after the other, and the first that is answered no.
use Rattle.std.specs.Prelude.{◌≡◌, ℕ, zero, suc, Bool, true, false, cond, List, [], ◌∷◌, ◌++◌, Some, None, Ok, Err, Option, Result, MatchResult}
use Rattle.fault.specs.declared.fault.Fault.{Fault}
use Rattle.fault.specs.declared.fault.Question.{Question}

-- a question, the place where it is asked, and whether it is answered yes
pub record Asked : Type 0 where
  pub question : Question
  pub place : ℕ
  pub yes : Bool

-- the first question that is answered no, with its place; none where all are answered yes
abbrev pub refusal : List Asked → Option Fault
refusal [] = None
refusal (a ∷ as') = cond a.yes (refusal as') (Some (record { question = a.question; place = a.place }))

-- every question is answered yes
abbrev pub AllYes : List Asked → Type 0
AllYes [] = Unit {0}
AllYes (a ∷ as') = (a.yes ≡ true) × AllYes as'

-- among the questions asked, the one of f is answered no at its place, and every one that comes before it is answered yes
pub record FirstNo (asked : List Asked) (f : Fault) : Type 0 where
  pub before : List Asked
  pub after : List Asked
  pub split : asked ≡ before ++ (record { question = f.question; place = f.place; yes = false } ∷ after)
  pub passed : AllYes before

-- what is asked at 0, then at 1, and so on below n
abbrev pub asked_up_to : ℕ → (ℕ → List Asked) → List Asked
asked_up_to zero f = []
asked_up_to (suc n) f = asked_up_to n f ++ f n

-- one question of the fields of a call, one after the other; the place is the field's number, here from i on
abbrev pub asked_of_fields : Question → ℕ → List Bool → List Asked
asked_of_fields q i [] = []
asked_of_fields q i (fits ∷ more) = record { question = q; place = i; yes = fits } ∷ asked_of_fields q (suc i) more

-- what a call answers: the fault of the first no, or else x
abbrev pub answer_or : {X : Type 0} → Option Fault → X → Result X Fault
answer_or None x = Ok x
answer_or (Some f) x = Err f

-- a call is answered as the questions say: none is answered no, or the first no is the refusal
abbrev pub Answers : {X : Type 0} → List Asked → Result X Fault → Type 0
Answers asked r = MatchResult r (λ _. refusal asked ≡ None) (λ f. refusal asked ≡ Some f)

-- P holds if the call was refused (an own word, of calls, for what the library says of results)
abbrev pub IfRefused : {X : Type 0} → Result X Fault → Type 0 → Type 0
IfRefused (Ok x) P = Unit {0}
IfRefused (Err f) P = P

-- P holds unless the call was refused
abbrev pub UnlessRefused : {X : Type 0} → Result X Fault → Type 0 → Type 0
UnlessRefused (Ok x) P = P
UnlessRefused (Err f) P = Unit {0}

-- one question of each number below n, where g says whether it is answered yes
abbrev pub asked_of_each : Question → ℕ → (ℕ → Bool) → List Asked
asked_of_each q n g = asked_up_to n (λ k. record { question = q; place = k; yes = g k } ∷ [])
