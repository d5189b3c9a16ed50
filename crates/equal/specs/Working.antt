-- What the rows of the last round say.
use Rattle.std.specs.Prelude.{ℕ, ◌≤◌, ◌<◌, ◌≡◌, List, length, get_or}
use Rattle.chart.specs.Chart.{Step}
use Rattle.relation.specs.Rows.{Within}
use Rattle.equal.specs.Promise.{TellsEqual, pairs_in}

-- the rows of n states have the equal pairs, and no bit else
pub record EqualWords (n : ℕ) (steps : List Step) (words : List ℕ) : Type 0 where
  pub within : Within n words
  pub tells : TellsEqual n steps (pairs_in words)
