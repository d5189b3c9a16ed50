-- Idle builds of the check of a list of reasons. A build gives, for every chart and every list, the answer. `check_not_idle` of proofs/ says that none
-- meets the promise.
use Rattle.std.specs.Prelude.{ℕ, ◌≡◌, length}
use Rattle.refusal.specs.declared.Refusal.{Refusal}
use Rattle.check_reasons.specs.Promise.{CheckPromise}
use Rattle.idle.specs.Slice.{Slice}
use Rattle.std.specs.Prelude.{Result, Ok, Err}

abbrev pub Build : Type 0
Build = Slice → Slice → Result ℕ Refusal

abbrev pub Meets : Build → Type 0
Meets b = (chart list : Slice) → CheckPromise chart.0 list.0 (b chart list)

abbrev pub RefusesEverything : Build → Type 0
RefusesEverything b = (chart list : Slice) → (r : Refusal) × (b chart list ≡ Err r)

abbrev pub AcceptsEverything : Build → Type 0
AcceptsEverything b = (chart list : Slice) → (lines : ℕ) × (b chart list ≡ Ok lines)

-- the lines are counted and not read: lists of the same length get the same answer
abbrev pub CountsOnly : Build → Type 0
CountsOnly b = (chart list other : Slice) → length list.0 ≡ length other.0 → b chart list ≡ b chart other

-- the chart is not looked at
abbrev pub ListOnly : Build → Type 0
ListOnly b = (chart other list : Slice) → b chart list ≡ b other list

pub record NotIdle (b : Build) : Type 0 where
  pub not_refusing : RefusesEverything b → ⊥
  pub not_accepting : AcceptsEverything b → ⊥
  pub not_counting : CountsOnly b → ⊥
  pub not_list_only : ListOnly b → ⊥
