-- No idle build meets the promise of the check: a line that is good for a state that steps to itself beside one at rest, the same with another target,
-- no line at all, and one byte. Assumes nothing.
use Prim.Native.Nat.{ℕ, zero, suc}
use mathlib.Core.Path.{◌≡◌, refl, sym, ap, subst, ◌∙◌}
use mathlib.Core.List.Memᴰ.{eq_of_singleton as only_one}
use mathlib.Core.List.Memᴰ.{head as here}
use mathlib.Core.List.Memᴰ.{not-nil}
use mathlib.Core.List.{List, [], ◌∷◌}
use native.Mathlib.Omega.{arith}
use Rattle.settle.specs.Test.{both, all_of}
use Rattle.chart.specs.Chart.{Step}
use Rattle.chart.specs.Layout.{Bytes}
use Rattle.sheet.specs.Meaning.{leaves}
use Rattle.reason.specs.Line.{lines_in, answers}
use Rattle.reason.specs.Good.{Good}
use Rattle.check_reasons.specs.Promise.{Judges, CheckPromise}
use Rattle.idle.specs.Slice.{Slice}
use Rattle.idle.specs.CheckReasons.{Build, Meets, RefusesEverything, AcceptsEverything, CountsOnly, ListOnly, NotIdle}
use Rattle.idle.proofs.Slice.{are_bytes}
use Rattle.idle.proofs.Reasons.{two, one, loops, read_two_lem, steps_two, read_one, steps_one}
use Rattle.std.specs.Prelude.{Result, Ok, Err}
use Rattle.refusal.specs.declared.Refusal.{Refusal}

-- ---- the lists

list_good : List ℕ
list_good = 0 ∷ 1 ∷ 0 ∷ 0 ∷ 0 ∷ []

-- the step leads elsewhere
list_bad : List ℕ
list_bad = 0 ∷ 1 ∷ 0 ∷ 0 ∷ 1 ∷ []

bytes_good : Bytes list_good
unfolding list_good all_of both
bytes_good = are_bytes list_good refl

bytes_bad : Bytes list_bad
unfolding list_bad all_of both
bytes_bad = are_bytes list_bad refl

bytes_none : Bytes []
bytes_none x m = absurd (not-nil m)

bytes_incomplete : Bytes (0 ∷ [])
unfolding all_of both
bytes_incomplete = are_bytes (0 ∷ []) refl

-- ---- what the promise says of them

-- of the state that steps to itself beside one at rest, and of one state alone
on_two : (list : List ℕ) (answer : Result ℕ Refusal) → CheckPromise two.0 list answer → Judges 2 loops list answer
on_two list answer p = subst (λ (s : List Step). Judges 2 s list answer) steps_two (rw read_two_lem at p)

on_one : (list : List ℕ) (answer : Result ℕ Refusal) → CheckPromise one.0 list answer → Judges 1 [] list answer
on_one list answer p = subst (λ (s : List Step). Judges 1 s list answer) steps_one (rw read_one at p)

good_accepted : (answer : Result ℕ Refusal) → Judges 2 loops list_good answer → (lines : ℕ) × (answer ≡ Ok lines)
unfolding list_good lines_in answers leaves both
good_accepted (Ok lines) j = (lines, refl)
good_accepted (Err r) (zero, e, b) = absurd (b.bad (omega arith) (record { p_in = omega arith; q_in = omega arith; moves = here refl; rests = λ x m. absurd (not-nil m); new = λ k. not-nil k.1 }))
good_accepted (Err r) (suc i, e, b) = absurd (omega (arith, b.begun))

bad_refused : (lines : ℕ) → Judges 2 loops list_bad (Ok lines) → ⊥
unfolding list_bad lines_in Good
bad_refused zero a = omega (arith, a.whole)
bad_refused (suc zero) a = let e = only_one a.good.1.moves in omega (arith, ap (λ (x : Step). x.target) e)
bad_refused (suc (suc k)) a = omega (arith, a.whole)

alone_refused : (lines : ℕ) → Judges 1 [] list_good (Ok lines) → ⊥
unfolding list_good lines_in Good
alone_refused zero a = omega (arith, a.whole)
alone_refused (suc zero) a = omega (arith, a.good.1.q_in)
alone_refused (suc (suc k)) a = omega (arith, a.whole)

-- ---- the law

module _ (b : Build) (meets : Meets b) where
  abbrev good : Slice
  good = (list_good, bytes_good)

  abbrev bad : Slice
  bad = (list_bad, bytes_bad)

  accepted : (lines : ℕ) × (b two good ≡ Ok lines)
  accepted = good_accepted (b two good) (on_two list_good (b two good) (meets two good))

  refusing : RefusesEverything b → ⊥
  refusing f = let r = f two ([], bytes_none) in let j = subst (Judges 2 loops []) r.1 (on_two [] _ (meets two ([], bytes_none))) in omega (arith, j.2.begun)

  accepting : AcceptsEverything b → ⊥
  accepting f = let r = f two (0 ∷ [], bytes_incomplete) in let j = subst (Judges 2 loops (0 ∷ [])) r.1 (on_two (0 ∷ []) _ (meets two (0 ∷ [], bytes_incomplete))) in omega (arith, j.whole)

  counting : CountsOnly b → ⊥
  unfolding list_good list_bad
  counting f = bad_refused accepted.0 (subst (Judges 2 loops list_bad) (sym (f two good bad refl) ∙ accepted.1) (on_two list_bad _ (meets two bad)))

  list_only : ListOnly b → ⊥
  list_only f = alone_refused accepted.0 (subst (Judges 1 [] list_good) (sym (f two one good) ∙ accepted.1) (on_one list_good _ (meets one good)))

  pub check_not_idle : NotIdle b
  check_not_idle = record { not_refusing = refusing; not_accepting = accepting; not_counting = counting; not_list_only = list_only }
