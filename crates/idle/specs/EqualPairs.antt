-- Idle builds of the number of pairs of equal states: document 01's, where they apply (no buffer is lent, no rounds are told), and two whose number is
-- too small. A build gives the answer for every chart. `equal_pairs_not_idle` of proofs/ says that none of the five meets the promise.
use Rattle.std.specs.Prelude.{ℕ, ◌+◌, ◌<◌, ◌≡◌, List}
use Rattle.settle.specs.Test.{count}
use Rattle.settle.specs.Finite.{pairs}
use Rattle.refusal.specs.declared.Refusal.{Refusal}
use Rattle.chart.specs.Chart.{Step}
use Rattle.chart.specs.Reading.{read_chart, chart_in}
use Rattle.chart.specs.declared.Shape.{Shape}
use Rattle.nearness.specs.Relation.{Near}
use Rattle.equal.specs.Promise.{HowMany, PairsPromise}
use Rattle.idle.specs.Slice.{Slice}
use Rattle.std.specs.Prelude.{Result, Ok, Err}

abbrev pub Build : Type 0
Build = Slice → Result ℕ Refusal

abbrev pub Meets : Build → Type 0
Meets b = (chart : Slice) → PairsPromise chart.0 (b chart)

abbrev pub RefusesEverything : Build → Type 0
RefusesEverything b = (chart : Slice) → (r : Refusal) × (b chart ≡ Err r)

-- what is so of every number that is answered, of the states and the steps
abbrev pub Always : (ℕ → List Step → ℕ → Type 0) → Build → Type 0
Always Says b = (chart : Slice) (sh : Shape) (c : ℕ) → read_chart chart.0 ≡ Ok sh → b chart ≡ Ok c → Says sh.n (chart_in chart.0 sh).steps c

-- the same number for every chart of as many states: n, n * n, any number of its own
abbrev pub SameAlways : Build → Type 0
SameAlways b = (number : ℕ → ℕ) × Always (λ n steps c. c ≡ number n) b

-- a real first round, copied after: how many pairs R1 has
abbrev pub CopiesFirstRound : Build → Type 0
CopiesFirstRound = Always (λ n steps c. c ≡ count (Near steps 1) (pairs n))

-- for some chart fewer than its states
abbrev pub FewerThanStates : Build → Type 0
FewerThanStates b = (chart : Slice) × (sh : Shape) × (c : ℕ) × (read_chart chart.0 ≡ Ok sh) × (b chart ≡ Ok c) × (c < sh.n)

-- each state's pair with itself is not counted
abbrev pub WithoutItself : Build → Type 0
WithoutItself = Always (λ n steps c. HowMany n steps (c + n))

pub record NotIdle (b : Build) : Type 0 where
  pub not_refusing : RefusesEverything b → ⊥
  pub not_same : SameAlways b → ⊥
  pub not_first_round : CopiesFirstRound b → ⊥
  pub not_fewer : FewerThanStates b → ⊥
  pub not_without_itself : WithoutItself b → ⊥
