-- Idle builds of the words of equal states: document 01's, where they apply (no rounds are told), and three by which somebody would answer without
-- looking at the steps. A build gives, for every chart and every 64 lent words, the answer and the words after it. `equal_rows_not_idle` of proofs/
-- says that none of the seven meets the promise.
use Rattle.std.specs.Prelude.{ℕ, ◌^◌, ◌<◌, ◌≡◌, Bool, true, false, eqb, length}
use mathlib.Core.List.{List, Memᴰ as Mem}
use Rattle.refusal.specs.declared.Refusal.{Refusal}
use Rattle.chart.specs.Reading.{read_chart, chart_in}
use Rattle.chart.specs.declared.Shape.{Shape}
use Rattle.nearness.specs.Relation.{Near}
use Rattle.relation.specs.Rows.{in_rows}
use Rattle.equal.specs.Promise.{RowsPromise}
use Rattle.idle.specs.Slice.{Slice}
use Rattle.std.specs.Prelude.{Result, Ok, Err}

-- what is lent
abbrev pub Words : Type 0
Words = (words : List ℕ) × (length words ≡ 64) × ((x : ℕ) → Mem x words → x < 2 ^ 64)

abbrev pub Build : Type 0
Build = Slice → Words → Result ℕ Refusal × List ℕ

abbrev pub Meets : Build → Type 0
Meets b = (chart : Slice) (old : Words) → RowsPromise chart.0 old.0 (b chart old).1 (b chart old).0

abbrev pub RefusesEverything : Build → Type 0
RefusesEverything b = (chart : Slice) (old : Words) → (r : Refusal) × ((b chart old).0 ≡ Err r)

-- where it answers that there are n states, these are their bits
abbrev pub Sets : (Words → ℕ → ℕ → ℕ → Bool) → Build → Type 0
Sets bits b = (chart : Slice) (old : Words) (n : ℕ) → (b chart old).0 ≡ Ok n → (p q : ℕ) → p < n → q < n → in_rows (b chart old).1 p q ≡ bits old n p q

-- the same words for every chart of as many states, given the same words
abbrev pub SameAlways : Build → Type 0
SameAlways b = (bits : Words → ℕ → ℕ → ℕ → Bool) × Sets bits b

abbrev pub LeavesUnwritten : Build → Type 0
LeavesUnwritten b = (chart : Slice) (old : Words) → (b chart old).1 ≡ old.0

-- no state equal to any
abbrev pub NoneEqual : Build → Type 0
NoneEqual = Sets (λ old n p q. false)

-- each equal to itself alone
abbrev pub OnlyItself : Build → Type 0
OnlyItself = Sets (λ old n p q. eqb p q)

-- all equal
abbrev pub AllEqual : Build → Type 0
AllEqual = Sets (λ old n p q. true)

-- a real first round, copied after: the pairs of R1
abbrev pub CopiesFirstRound : Build → Type 0
CopiesFirstRound b = (chart : Slice) (old : Words) (sh : Shape) (n : ℕ) → read_chart chart.0 ≡ Ok sh → (b chart old).0 ≡ Ok n
    → (p q : ℕ) → p < sh.n → q < sh.n → in_rows (b chart old).1 p q ≡ Near (chart_in chart.0 sh).steps 1 (p, q)

pub record NotIdle (b : Build) : Type 0 where
  pub not_refusing : RefusesEverything b → ⊥
  pub not_same : SameAlways b → ⊥
  pub not_unwritten : LeavesUnwritten b → ⊥
  pub not_none_equal : NoneEqual b → ⊥
  pub not_only_itself : OnlyItself b → ⊥
  pub not_all_equal : AllEqual b → ⊥
  pub not_first_round : CopiesFirstRound b → ⊥
