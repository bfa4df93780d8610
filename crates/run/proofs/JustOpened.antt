-- What a run is right after its opening.
use Rattle.std.proofs.Common.{refl, sym, ◌∙◌, ap, subst, ℕ, List, [], ◌∷◌, Some, Option}
use mathlib.Core.List.{Memᴰ}
use mathlib.Core.List.Memᴰ
use Rattle.host.specs.Meanings.{Meaning}
use Rattle.procedure.specs.Drawings.{Drawing}
use Rattle.rules.specs.Trees.{Tree}
use Rattle.rules.specs.Cells.{Cells, initial}
use Rattle.rules.proofs.Joins.{chains-begin}
use Rattle.law.specs.Chained.{HoldsEnds}
use Rattle.opened.specs.Opening.{told_values, root_tree}
use Rattle.run.specs.Runs.{Stands}
use Rattle.opened.specs.Opens.{OpenedWith, OpensWith}
use Rattle.opened.specs.declared.opened.Opened.{Opened}

-- over no event there is one end, the initial state
ends-begin : (t : Tree) (m : Meaning) → HoldsEnds t m [] (initial t ∷ [])
ends-begin t m =
    record {
      rises = (tt, tt);
      only = λ r here. (chains-begin t m (initial t) r).1 (Memᴰ.eq_of_singleton here);
      all = λ r c. Memᴰ.head ((chains-begin t m (initial t) r).0 c);
    }

-- a run that was just opened stands as the law says, whatever its host means
pub opened-stands : (d : Drawing) (told : ℕ → Option (List ℕ)) (ceiling : ℕ) (o : Opened) → OpensWith d told ceiling o → (m : Meaning) → Stands d (told_values told) ceiling m [] (record { opened = Some o }) m
opened-stands d told ceiling o w m =
    record {
      is_of = ap (λ (x : OpenedWith). root_tree x.values x.drawing) w.takes_over ∙ w.has_the_tree;
      has_ceiling = ap (λ (x : OpenedWith). x.ceiling) w.takes_over;
      holds = subst (λ (l : List Cells). HoldsEnds (root_tree (told_values told) d) m [] l) (sym w.begins) (ends-begin (root_tree (told_values told) d) m);
      told = λ w guard e v. refl;
    }
