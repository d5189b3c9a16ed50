-- Document 01's idle builds of a question that answers by a matrix. A build gives, for every chart and every lent buffer, the answer and the buffer
-- after it. `marks_not_idle` and `simulation_not_idle` of proofs/ say that none of the five meets the promise.
use Rattle.std.specs.Prelude.{ℕ, ◌<◌, ◌≡◌, List}
use Rattle.settle.specs.Test.{pick}
use Rattle.refusal.specs.declared.Refusal.{Refusal}
use Rattle.chart.specs.Reading.{read_chart, chart_in}
use Rattle.chart.specs.declared.Shape.{Shape}
use Rattle.relation.specs.Promise.{byte_at, Relations}
use Rattle.relation.specs.declared.Matrix.{Matrix}
use Rattle.idle.specs.Slice.{Slice}
use Rattle.std.specs.Prelude.{Result, Ok, Err}

abbrev pub Build : Type 0
Build = Slice → Slice → Result Matrix Refusal × List ℕ

-- it keeps what a question promises of the chart, the lent bytes before and after, and the answer
abbrev pub Meets : (List ℕ → List ℕ → List ℕ → Result Matrix Refusal → Type 0) → Build → Type 0
Meets Promise b = (chart old : Slice) → Promise chart.0 old.0 (b chart old).1 (b chart old).0

abbrev pub RefusesEverything : Build → Type 0
RefusesEverything b = (chart old : Slice) → (r : Refusal) × ((b chart old).0 ≡ Err r)

-- the same matrix for every chart of as many states
abbrev pub SameAlways : Build → Type 0
SameAlways b = (cell : ℕ → ℕ → ℕ → ℕ) × ((chart old : Slice) (given : Matrix) → (b chart old).0 ≡ Ok given
    → (p q : ℕ) → p < given.states → q < given.states → byte_at given.states (b chart old).1 p q ≡ cell given.states p q)

abbrev pub LeavesUnwritten : Build → Type 0
LeavesUnwritten b = (chart old : Slice) → (b chart old).1 ≡ old.0

-- a real first round, copied after: `inside` for the pairs of R1, `outside` for the others
abbrev pub CopiesFirstRound : Relations → ℕ → ℕ → Build → Type 0
CopiesFirstRound R inside outside b = (chart old : Slice) (sh : Shape) (given : Matrix) → read_chart chart.0 ≡ Ok sh → (b chart old).0 ≡ Ok given
    → (p q : ℕ) → p < sh.n → q < sh.n → byte_at sh.n (b chart old).1 p q ≡ pick (R (chart_in chart.0 sh).steps 1 (p, q)) inside outside

-- the same rounds for every chart of as many states
abbrev pub InventsRounds : Build → Type 0
InventsRounds b = (rounds : ℕ → ℕ) × ((chart old : Slice) (given : Matrix) → (b chart old).0 ≡ Ok given → given.rounds ≡ rounds given.states)

pub record NotIdle (R : Relations) (inside outside : ℕ) (b : Build) : Type 0 where
  pub not_refusing : RefusesEverything b → ⊥
  pub not_same : SameAlways b → ⊥
  pub not_unwritten : LeavesUnwritten b → ⊥
  pub not_first_round : CopiesFirstRound R inside outside b → ⊥
  pub not_invented : InventsRounds b → ⊥
