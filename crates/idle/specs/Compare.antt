-- Document 01's idle builds of comparing two charts. A build gives, for every first and second chart and every lent buffer, the answer and the buffer
-- after it. `compare_not_idle` of proofs/ says that none of the five meets the promise.
use Rattle.std.specs.Prelude.{ℕ, ◌+◌, ◌≡◌, Bool, List, ◌++◌, ◌⊎◌, get_or, take, drop}
use Rattle.settle.specs.Test.{pick, neg, any_of}
use Rattle.settle.specs.Finite.{below}
use Rattle.refusal.specs.declared.Refusal.{Refusal}
use Rattle.chart.specs.Chart.{Chart, states}
use Rattle.nearness.specs.Relation.{Near}
use Rattle.beside.specs.Chosen.{chosen}
use Rattle.beside.specs.Beside.{beside}
use Rattle.beside.specs.Reading.{two, read_two}
use Rattle.compare.specs.Comparison.{counted}
use Rattle.compare.specs.Promise.{ComparePromise}
use Rattle.compare.specs.declared.Comparison.{Comparison}
use Rattle.idle.specs.Slice.{Slice}
use Rattle.std.specs.Prelude.{Result, Ok, Err}

abbrev pub Build : Type 0
Build = Slice → Slice → Slice → Result Comparison Refusal × List ℕ

abbrev pub Meets : Build → Type 0
Meets b = (first second old : Slice) → ComparePromise first.0 second.0 old.0 (b first second old).1 (b first second old).0

abbrev pub RefusesEverything : Build → Type 0
RefusesEverything b = (first second old : Slice) → (r : Refusal) × ((b first second old).0 ≡ Err r)

-- what holds where a build answers, of the two charts, of the bytes that it says it wrote and of the rounds
pub record WhereAnswered (Says : Chart → Chart → List ℕ → ℕ → Type 0) (b : Build) : Type 0 where
  pub said : (first second old : Slice) (c d : Chart) (given : Comparison) → read_two first.0 second.0 ≡ two c d → (b first second old).0 ≡ Ok given
      → Says c d (take given.written (b first second old).1) given.rounds

-- the same list for all charts of as many states
abbrev pub SameAlways : Build → Type 0
SameAlways b = (list : ℕ → ℕ → List ℕ) × WhereAnswered (λ c d bytes rounds. bytes ≡ list (states c) (states d)) b

abbrev pub LeavesUnwritten : Build → Type 0
LeavesUnwritten b = (first second old : Slice) → (b first second old).1 ≡ old.0

-- the same rounds for all charts of as many states
abbrev pub InventsRounds : Build → Type 0
InventsRounds b = (number : ℕ → ℕ → ℕ) × WhereAnswered (λ c d bytes rounds. rounds ≡ number (states c) (states d)) b

-- ---- a real first round, copied after

-- state p of the first and state q of the second are in R1
abbrev pub near_once : Chart → Chart → ℕ → ℕ → Bool
near_once c d p q = Near (beside c d).steps 1 (p, states c + q)

-- the mark: 0 where the start states are in R1, else 1
abbrev pub CopiesFirstMark : Build → Type 0
CopiesFirstMark = WhereAnswered (λ c d bytes rounds. get_or bytes 0 0 ≡ pick (near_once c d 0 0) 0 1)

-- of `own` states, those with none of the other's `count` states in a relation
abbrev pub with_none : (ℕ → ℕ → Bool) → ℕ → ℕ → List ℕ
with_none R own count = chosen (λ p. neg (any_of (R p) (below count))) own

-- the states listed: those with none of the other chart's in R1
abbrev pub CopiesFirstLists : Build → Type 0
CopiesFirstLists = WhereAnswered (λ c d bytes rounds. drop 1 bytes ≡ counted (with_none (near_once c d) (states c) (states d)) ++ counted (with_none (λ q p. near_once c d p q) (states d) (states c)))

-- either is idle
abbrev pub CopiesFirstRound : Build → Type 0
CopiesFirstRound b = CopiesFirstMark b ⊎ CopiesFirstLists b

-- ---- none of the five

pub record NotIdle (b : Build) : Type 0 where
  pub not_refusing : RefusesEverything b → ⊥
  pub not_same : SameAlways b → ⊥
  pub not_unwritten : LeavesUnwritten b → ⊥
  pub not_first_round : CopiesFirstRound b → ⊥
  pub not_invented : InventsRounds b → ⊥
