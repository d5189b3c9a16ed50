-- A chart of 64 states, 32 actions and 1,024 transitions; a formula of 200 nodes, all but the last with an action; two charts of 64 states together,
-- none of which has a partner; and one of 64 states, no two of which are equal.
use Rattle.std.specs.Prelude.{ℕ, zero, suc, ◌+◌, ◌-◌, ◌/◌, ◌%◌, List, [], ◌∷◌, eqb}
use Rattle.settle.specs.Test.{pick}
use Rattle.chart.specs.Chart.{Step, Chart}
use Rattle.sheet.specs.Formula.{every, Formula, top, diamond}

-- k items, from number i on
unfoldable pub counted : {A : Type 0} → (ℕ → A) → ℕ → ℕ → List A
counted item i zero = []
counted item i (suc k) = item i ∷ counted item (suc i) k

-- from each of 32 states, one by each action
abbrev pub step_of : ℕ → Step
step_of i = record { source = i / 32; action = i % 32; target = 0 }

abbrev pub full_chart : Chart
full_chart = record { modes = counted (λ i. i) 0 64; codes = counted (λ i. i) 0 32; steps = counted step_of 0 1024 }

-- so many diamonds, and a leaf
unfoldable pub nested : ℕ → Formula
nested zero = top
nested (suc k) = diamond every (nested k)

-- one state that steps to itself, and 63 that rest
abbrev pub loop : Step
loop = record { source = 0; action = 0; target = 0 }

abbrev pub loop_chart : Chart
loop_chart = record { modes = 0 ∷ []; codes = 0 ∷ []; steps = loop ∷ [] }

abbrev pub rest_chart : Chart
rest_chart = record { modes = counted (λ i. i) 0 63; codes = []; steps = [] }

-- 64 states in a row, each with a step to the next
abbrev pub link_of : ℕ → Step
link_of i = record { source = i; action = 0; target = suc i }

abbrev pub row_chart : Chart
row_chart = record { modes = counted (λ i. i) 0 64; codes = 0 ∷ []; steps = counted link_of 0 63 }

-- its marks: 0 of a state and itself, and else how many states there are from the later of the two on
abbrev pub row_mark : ℕ × ℕ → ℕ
row_mark x = pick (eqb x.0 x.1) 0 (64 - (x.0 + (x.1 - x.0)))
