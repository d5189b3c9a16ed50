-- The cells of an n by n matrix and the pairs of numbers below n.
use Prim.Native.Nat.{ℕ, zero, suc, ◌+◌, ◌*◌, ◌/◌, ◌%◌, ◌≤◌, ◌<◌}
use mathlib.Core.Path.{◌≡◌, ap₂}
use native.Mathlib.Omega.{arith}
use native.Mathlib.Nat.{div-lt_iff_lt-mul, mod-lt, div-add-mod', le_trans, mul-le-mul_left, mul-le-mul_right}
use lib.Arith.{digits_lt, digits_div, digits_mod}
use Rattle.relation.specs.Cells.{pair_at}

-- the pair of a cell
module _ (n y : ℕ) (y_in : y < n * n) where
  some_state : (m : ℕ) → y < m * m → 0 < m
  some_state zero h = absurd (omega arith)
  some_state (suc m) h = omega arith

  pub row_in : y / n < n
  row_in = (div-lt_iff_lt-mul (some_state n y_in)).1 y_in

  pub column_in : y % n < n
  column_in = mod-lt y (some_state n y_in)

pub pair_cell : (n y : ℕ) → y / n * n + y % n ≡ y
pair_cell n y = div-add-mod' y n

-- the cell of a pair
pub cell_in : (n p q : ℕ) → p < n → q < n → p * n + q < n * n
cell_in n p q h k = digits_lt h k

pub cell_pair : (n p q : ℕ) → q < n → pair_at n (p * n + q) ≡ (p, q)
cell_pair n p q h = ap₂ (λ (a b : ℕ). (a, b)) (digits_div p h) (digits_mod p h)

-- a chart's matrix is small
pub cells_few : (n : ℕ) → n ≤ 64 → n * n ≤ 4096
cells_few n h = le_trans (mul-le-mul_left n h) (mul-le-mul_right 64 h)
