-- What a round of marks keeps: the pairs that no class splits which the last round made.
use Rattle.std.specs.Prelude.{ℕ, ◌+◌, ◌*◌, ◌≡◌, Bool, ◌⊎◌, List}
use Rattle.std.proofs.Math.Bool.{So}
use Rattle.settle.specs.Test.{same, all_of}
use Rattle.settle.specs.Finite.{below}
use Rattle.words.specs.Words.{member}
use Rattle.steps.specs.Walk.{leads}
use Rattle.relation.specs.Rows.{in_rows}

-- all others are alone: two states that are together are one and the same, or both share their class
pub record Sharing (shared : ℕ) (rows : List ℕ) : Type 0 where
  pub else_alone : (p q : ℕ) → So (in_rows rows p q) → (p ≡ q) ⊎ (So (member shared p) × So (member shared q))

-- by each action both or neither of p and q are able to step into the class
unfoldable pub undivided : List ℕ → ℕ → ℕ → ℕ → ℕ → ℕ → Bool
undivided into n m class p q = all_of (λ a. same (leads into ((a + 1) * n) class p) (leads into ((a + 1) * n) class q)) (below m)
