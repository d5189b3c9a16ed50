-- The relations R0, R1, .. of document 01 (004), and those of simulation (002, as document 01 reads it), for a chart with these steps.
use Rattle.std.specs.Prelude.{ℕ, Bool, List, eqb}
use Rattle.settle.specs.Test.{both, some, each}
use Rattle.settle.specs.Chain.{full, chain}
use Rattle.chart.specs.Chart.{Step}
use Rattle.sheet.specs.Meaning.{leaves}

abbrev pub Relation : Type 0
Relation = ℕ × ℕ → Bool

abbrev pub turned : Relation → Relation
turned R x = R (x.1, x.0)

-- each step of p is matched by a step of q with the same action, the targets in R
unfoldable pub matched : List Step → Relation → ℕ → ℕ → Bool
matched steps R p q =
    each (λ t. eqb t.source p) (λ t. some (leaves q t.action) (λ u. R (t.target, u.target)) steps) steps

-- only p's steps need matching
unfoldable pub simulation_round : List Step → Relation → Relation
simulation_round steps R x = matched steps R x.0 x.1

-- each step of either is matched by a step of the other
unfoldable pub bisimulation_round : List Step → Relation → Relation
bisimulation_round steps R x = both (matched steps R x.0 x.1) (matched steps (turned R) x.1 x.0)

-- R0 is all pairs; R(k+1) follows from Rk
abbrev pub Near : List Step → ℕ → Relation
Near steps = chain (bisimulation_round steps) full

abbrev pub Simulating : List Step → ℕ → Relation
Simulating steps = chain (simulation_round steps) full
