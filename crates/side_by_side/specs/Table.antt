-- The tables of codes that putting two charts side by side works with: which codes are declared, and where each of those stands among them.
use Rattle.std.specs.Prelude.{ℕ, ◌<◌, ◌≡◌, Bool, false, List, get_or}
use Rattle.std.proofs.Math.Bool.{So}
use Rattle.settle.specs.Test.{either}
use Rattle.beside.specs.Chosen.{chosen}
use Rattle.beside.specs.Beside.{declares, index_of}

abbrev pub flagged : List Bool → ℕ → Bool
flagged flags x = get_or flags x false

-- each of these codes bears the flag, and all others bear it as they did
pub record Flagged (codes : List ℕ) (old new : List Bool) : Type 0 where
  pub flags : (x : ℕ) → x < 256 → flagged new x ≡ either (declares codes x) (flagged old x)

-- the codes that bear the flag, rising; of each of them, `places` has where it stands
pub record Numbered (flags : List Bool) (places codes : List ℕ) : Type 0 where
  pub codes_are : codes ≡ chosen (flagged flags) 256
  pub places_are : (x : ℕ) → x < 256 → So (flagged flags x) → get_or places x 0 ≡ index_of x (chosen (flagged flags) 256)
