-- A kind that asked before T-06 for the solution that another asks for now has the same states; one that is said asks for what it asked for. Assumes
-- nothing.
use Prim.Native.Nat.{ℕ, ◌≤◌}
use mathlib.Core.Path.{◌≡◌, sym, subst}
use mathlib.Core.Bool.{Bool}
use mathlib.Core.Logic.{◌↔◌}
use native.Mathlib.Omega.{arith}
use native.Mathlib.Decide.{dec_lt}
use Rattle.chart.specs.Chart.{Chart}
use Rattle.sheet.specs.Formula.{Formula}
use Rattle.sheet.specs.Solution.{asks_least, SolutionBy, Satisfies}
use Rattle.sheet.specs.Before.{asked_least, Satisfied}

pub same_asked : (c : Chart) (before now : ℕ) (f : Formula) (s : ℕ) → asked_least before ≡ asks_least now → Satisfied c before f s ↔ Satisfies c now f s
same_asked c before now f s same = (subst (λ (least : Bool). SolutionBy least c f s) same, subst (λ (least : Bool). SolutionBy least c f s) (sym same))

pub said_as_before : (kind : ℕ) → 1 ≤ kind → kind ≤ 2 → asked_least kind ≡ asks_least kind
said_as_before kind some few = elim (dec_lt kind 2) [ yes h ↦ (let e : kind ≡ 1 = omega arith in rw e) | no h ↦ (let e : kind ≡ 2 = omega arith in rw e) ]
