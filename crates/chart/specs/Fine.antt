-- A triple in which nothing is at fault, told at once: its bytes are in range, and its rank is above that of the one before.
use Rattle.std.specs.Prelude.{ℕ, ◌+◌, ◌-◌, ◌*◌, ◌≤◌, ◌<◌, List, length, get_or, eqb}
use Rattle.settle.specs.Test.{pick}

-- by its rank a triple is in order
abbrev pub rank : ℕ → ℕ → ℕ → ℕ
rank source action target = 65536 * source + 256 * action + target

-- that of the triple at p
abbrev pub rank_at : List ℕ → ℕ → ℕ
rank_at s p = rank (get_or s p 0) (get_or s (p + 1) 0) (get_or s (p + 2) 0)

-- the least that triple number i, at p, may have: more than that of the one before
abbrev pub least_rank : List ℕ → ℕ → ℕ → ℕ
least_rank s p i = pick (eqb i 0) 0 (rank_at s (p - 3) + 1)

-- the triple at p is there, in range, and not below the least rank
abbrev pub Fine : List ℕ → ℕ → ℕ → ℕ → ℕ → Type 0
Fine s n m p least = (p + 2 < length s) × (get_or s p 0 < n) × (get_or s (p + 1) 0 < m) × (get_or s (p + 2) 0 < n) × (least ≤ rank_at s p)
