-- Lines that rise by mark, then p, then q: no pair comes twice. Assumes nothing.
use Prim.Native.Nat.{ℕ}
use mathlib.Core.Path.{subst}
use mathlib.Core.List.{List, ◌∷◌}
use Rattle.chart.specs.Layout.{Rising}
use Rattle.chart.proofs.Rising.{less_trans, less_strict, rising_before}
use Rattle.reason.specs.Line.{Line, pair_of}
use Rattle.reason.specs.Good.{Listed}
use Rattle.reason.specs.Own.{Before}

module _ (mark : ℕ × ℕ → ℕ) where
  pub before_trans : (x y z : ℕ × ℕ) → Before mark x y → Before mark y z → Before mark x z
  before_trans x y z = less_trans (mark x) x.0 x.1 (mark y) y.0 y.1 (mark z) z.0 z.1

  pub before_strict : (x : ℕ × ℕ) → Before mark x x → ⊥
  before_strict x = less_strict (mark x) x.0 x.1

  -- the later of two lines stands first
  abbrev pub Later : Line → Line → Type 0
  Later later earlier = Before mark (pair_of earlier) (pair_of later)

  pub later_trans : (k l m : Line) → Later k l → Later l m → Later k m
  later_trans k l m a b = before_trans (pair_of m) (pair_of l) (pair_of k) b a

  module _ (l : Line) (earlier : List Line) (r : Rising Later (l ∷ earlier)) where
    pub listed_before : (x : ℕ × ℕ) → Listed earlier x → Before mark x (pair_of l)
    listed_before x k = subst (λ (y : ℕ × ℕ). Before mark y (pair_of l)) k.2 (rising_before Later later_trans l earlier r k.0 k.1)

    pub never_twice : Listed earlier (pair_of l) → ⊥
    never_twice k = before_strict (pair_of l) (listed_before (pair_of l) k)
