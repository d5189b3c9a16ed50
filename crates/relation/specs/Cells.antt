-- The cells of a matrix of n states: the pair (p, q) has the cell p * n + q.
use Rattle.std.specs.Prelude.{ℕ, ◌/◌, ◌%◌}

-- cell y is that of this pair
abbrev pub pair_at : ℕ → ℕ → ℕ × ℕ
pair_at n y = (y / n, y % n)
