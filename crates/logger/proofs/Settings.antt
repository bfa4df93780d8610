-- What settings leave, refused or not.
use Rattle.std.proofs.Common.{◌≡◌, ◌≢◌, refl, sym, ◌∙◌, ap, subst, ℕ, List, cond, Option, Some, None, Ok, Err, Result, ⊎_elim}
use Rattle.std.proofs.lemmas.Bool.Decides.{eqb_tells}
use Rattle.fault.specs.Asking.{refusal, answer_or, IfRefused, UnlessRefused}
use Rattle.fault.specs.declared.fault.Fault.{Fault}
use Rattle.host.specs.Meanings.{Meaning}
use Rattle.host.specs.Limiting.{limit_asks}
use Rattle.host.specs.Tallying.{tally_asks}
use Rattle.roster.specs.Runs.{ranges_values}
use Rattle.roster.specs.declared.ranges.Ranges.{Ranges}
use Rattle.script.specs.Hosts.{host_meaning, kind_of, limit_answered, tally_answered, Means, IfSet, UnlessSet}
use Rattle.script.specs.declared.hosting.Host.{Host}
use Rattle.script.specs.declared.hosting.Host.TheVariants.{Limits, Tallies}
use Rattle.script.specs.declared.wrong.Wrong.{Wrong}
use Rattle.logger.specs.Scripts.{wrong_limit, wrong_tally}
use Rattle.logger.specs.Playing.{with_values, unless_refused}

-- values that are f and then are g, which is f with x at k
at-one : (f g : ℕ → Option (List ℕ)) (k : ℕ) (x : List ℕ) → g k ≡ Some x → ((j : ℕ) → j ≢ k → g j ≡ f j) → (j : ℕ) → g j ≡ with_values k x f j
at-one f g k x here others j =
    ⊎_elim
    (λ same. ap g same.1 ∙ here ∙ ap (λ b. cond b (Some x) (f j)) (sym same.0))
    (λ other. others j other.1 ∙ ap (λ b. cond b (Some x) (f j)) (sym other.0))
    (eqb_tells j k)

-- what a roster tells after a setting
pub range-set : (o : Option Fault) (r : Result (Unit {0}) Fault) (old new : Ranges) (ty : ℕ) (values : List ℕ) → r ≡ answer_or o tt → IfRefused r (new ≡ old)
    → UnlessRefused r (ranges_values new.entries ty ≡ Some values) → ((j : ℕ) → j ≢ ty → ranges_values new.entries j ≡ ranges_values old.entries j)
    → ranges_values new.entries ≡ unless_refused o (with_values ty values (ranges_values old.entries)) (ranges_values old.entries)
range-set None r old new ty values is same here others =
    let told : ranges_values new.entries ty ≡ Some values = subst (λ (q : Result (Unit {0}) Fault). UnlessRefused q (ranges_values new.entries ty ≡ Some values)) is here in
    λ i j. at-one (ranges_values old.entries) (ranges_values new.entries) ty values told others j i
range-set (Some f) r old new ty values is same here others =
    ap (λ (x : Ranges). ranges_values x.entries) (subst (λ (q : Result (Unit {0}) Fault). IfRefused q (new ≡ old)) is same)

-- what a host means after a setting that its kind knows
meant : (o : Option Fault) (old new : Host) (set : Meaning) → IfSet (Ok (answer_or o tt)) (Means set (host_meaning new)) → UnlessSet (Ok (answer_or o tt)) (new ≡ old)
    → host_meaning new ≡ unless_refused o set (host_meaning old)
meant None old new set means same = λ i w guard e v. means w guard e v i
meant (Some f) old new set means same = ap host_meaning same

-- a limit that is set or refused
pub limit-set : (old new : Host) (guard operand comparison constant : ℕ) (set : Meaning) (r : Result (Result (Unit {0}) Fault) Wrong) (a : Result (Unit {0}) Fault)
    → r ≡ limit_answered old guard operand comparison constant → IfSet r (Means set (host_meaning new)) → UnlessSet r (new ≡ old) → r ≡ Ok a
    → (a ≡ answer_or (refusal (limit_asks guard operand comparison constant)) tt)
    × (host_meaning new ≡ unless_refused (refusal (limit_asks guard operand comparison constant)) set (host_meaning old))
    × (wrong_limit (kind_of old) ≡ None)
limit-set (Limits l) new guard operand comparison constant set r a is means same ok =
    let o = refusal (limit_asks guard operand comparison constant) in (
      cc,
      meant o (Limits l) new set (subst (λ (q : Result (Result (Unit {0}) Fault) Wrong). IfSet q (Means set (host_meaning new))) is means)
          (subst (λ (q : Result (Result (Unit {0}) Fault) Wrong). UnlessSet q (new ≡ Limits l)) is same),
      refl,
    )
limit-set (Tallies t) new guard operand comparison constant set r a is means same ok = absurd (cc)

-- and one that is wrong
pub limit-wrong : (old new : Host) (guard operand comparison constant : ℕ) (r : Result (Result (Unit {0}) Fault) Wrong) (w : Wrong)
    → r ≡ limit_answered old guard operand comparison constant → UnlessSet r (new ≡ old) → r ≡ Err w → (Some w ≡ wrong_limit (kind_of old)) × (new ≡ old)
limit-wrong (Limits l) new guard operand comparison constant r w is same err = absurd (cc)
limit-wrong (Tallies t) new guard operand comparison constant r w is same err =
    (cc, subst (λ (q : Result (Result (Unit {0}) Fault) Wrong). UnlessSet q (new ≡ Tallies t)) err same)

-- the same of a tally
pub tally-set : (old new : Host) (guard label bound : ℕ) (set : Meaning) (r : Result (Result (Unit {0}) Fault) Wrong) (a : Result (Unit {0}) Fault)
    → r ≡ tally_answered old guard label bound → IfSet r (Means set (host_meaning new)) → UnlessSet r (new ≡ old) → r ≡ Ok a
    → (a ≡ answer_or (refusal (tally_asks guard label bound)) tt)
    × (host_meaning new ≡ unless_refused (refusal (tally_asks guard label bound)) set (host_meaning old))
    × (wrong_tally (kind_of old) ≡ None)
tally-set (Limits l) new guard label bound set r a is means same ok = absurd (cc)
tally-set (Tallies t) new guard label bound set r a is means same ok =
    let o = refusal (tally_asks guard label bound) in (
      cc,
      meant o (Tallies t) new set (subst (λ (q : Result (Result (Unit {0}) Fault) Wrong). IfSet q (Means set (host_meaning new))) is means)
          (subst (λ (q : Result (Result (Unit {0}) Fault) Wrong). UnlessSet q (new ≡ Tallies t)) is same),
      refl,
    )

pub tally-wrong : (old new : Host) (guard label bound : ℕ) (r : Result (Result (Unit {0}) Fault) Wrong) (w : Wrong)
    → r ≡ tally_answered old guard label bound → UnlessSet r (new ≡ old) → r ≡ Err w → (Some w ≡ wrong_tally (kind_of old)) × (new ≡ old)
tally-wrong (Limits l) new guard label bound r w is same err =
    (cc, subst (λ (q : Result (Result (Unit {0}) Fault) Wrong). UnlessSet q (new ≡ Limits l)) err same)
tally-wrong (Tallies t) new guard label bound r w is same err = absurd (cc)
