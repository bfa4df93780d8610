-- What an opened run is, and one that never was opened.
use Rattle.std.proofs.Common.{◌≡◌, ap, [], Option, Some, None}
use Rattle.rules.specs.Trees.{elementary}
use Rattle.opened.specs.States.{states_in}
use Rattle.run.specs.Runs.{opened_with_of, tree_with, ceiling_with, states_of_opened, tree_in, ceiling_in, states}
use Rattle.opened.specs.Opens.{tree_of_opened}
use Rattle.opened.specs.declared.opened.Opened.{Opened}
use Rattle.run.specs.declared.run.Run.{Run}

-- an opened run has the tree, the ceiling and the states of what was opened
module _ (run : Run) (o : Opened) (is : run.opened ≡ Some o) where
  pub opened-tree : tree_in run ≡ tree_of_opened o
  opened-tree = ap (λ (x : Option Opened). tree_with (opened_with_of x)) is

  pub opened-ceiling : ceiling_in run ≡ o.ceiling
  opened-ceiling = ap (λ (x : Option Opened). ceiling_with (opened_with_of x)) is

  pub opened-states : states run ≡ states_in o.held
  opened-states = ap (λ (x : Option Opened). states_of_opened x) is

-- one that never was opened has none of its own
module _ (run : Run) (is : run.opened ≡ None) where
  pub unopened-tree : tree_in run ≡ elementary
  unopened-tree = ap (λ (x : Option Opened). tree_with (opened_with_of x)) is

  pub unopened-ceiling : ceiling_in run ≡ 0
  unopened-ceiling = ap (λ (x : Option Opened). ceiling_with (opened_with_of x)) is

  pub unopened-states : states run ≡ []
  unopened-states = ap (λ (x : Option Opened). states_of_opened x) is
