-- Calls in numbers, one call more at a time.
use Rattle.std.proofs.Common.{◌≡◌, refl, sym, ◌∙◌, ℕ, ◌<◌, List, [], ◌∷◌, ◌++◌, length, Option, arith}
use Rattle.procedure.specs.Drawings.{Drawing}
use Rattle.boundary.specs.declared.asked.Asked.{Asked}
use Rattle.boundary.specs.Playing.{Standing, asked_in, call_numbers, after_call, calls_numbers}

module _ (d : Drawing) (told : ℕ → Option (List ℕ)) (s : Standing) where
  -- what is said of one call more
  pub calls-more : (x more : List ℕ) → length x ≡ 5 → calls_numbers d told s (x ++ more) ≡ call_numbers d told s (asked_in x) ++ calls_numbers d told (after_call d told s (asked_in x)) more
  calls-more [] more l = absurd (omega arith)
  calls-more (a ∷ []) more l = absurd (omega arith)
  calls-more (a ∷ b ∷ []) more l = absurd (omega arith)
  calls-more (a ∷ b ∷ c ∷ []) more l = absurd (omega arith)
  calls-more (a ∷ b ∷ c ∷ e ∷ []) more l = absurd (omega arith)
  calls-more (a ∷ b ∷ c ∷ e ∷ f ∷ []) more l = refl
  calls-more (a ∷ b ∷ c ∷ e ∷ f ∷ g ∷ x) more l = absurd (omega arith)

  -- numbers that are too few for a call come to nothing
  pub calls-end : (x : List ℕ) → length x < 5 → calls_numbers d told s x ≡ []
  calls-end [] l = refl
  calls-end (a ∷ []) l = refl
  calls-end (a ∷ b ∷ []) l = refl
  calls-end (a ∷ b ∷ c ∷ []) l = refl
  calls-end (a ∷ b ∷ c ∷ e ∷ []) l = refl
  calls-end (a ∷ b ∷ c ∷ e ∷ f ∷ x) l = absurd (omega arith)

  -- the same of a call that was made
  pub call-made : (after : Standing) (asked : Asked) (all x rest : List ℕ) → length x ≡ 5 → all ≡ x ++ rest → asked ≡ asked_in x → after ≡ after_call d told s asked
      → calls_numbers d told s all ≡ call_numbers d told s asked ++ calls_numbers d told after rest
  call-made after asked all x rest five is decodes stands =
      let more : calls_numbers d told s (x ++ rest) ≡ call_numbers d told s asked ++ calls_numbers d told (after_call d told s asked) rest = calls-more x rest five
      ∙ (λ i. call_numbers d told s (sym decodes i) ++ calls_numbers d told (after_call d told s (sym decodes i)) rest) in
      (λ i. calls_numbers d told s (is i)) ∙ more ∙ (λ i. call_numbers d told s asked ++ calls_numbers d told (sym stands i) rest)
