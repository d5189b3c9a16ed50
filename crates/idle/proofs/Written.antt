-- No idle build meets the promise of bytes in a lent buffer, where two of the things that may be given ask for different bytes. Assumes nothing.
use Prim.Native.Nat.{ℕ, ◌≤◌}
use mathlib.Core.Path.{◌≡◌, sym, ap, subst, ◌∙◌}
use mathlib.Core.List.{List}
use lib.ListN.{length, take}
use borrow.Author.Tests.{le-ltb}
use Rattle.lent.specs.Lent.{writes, LentPromise}
use Rattle.lent.proofs.Lent.{not_written, written_fills}
use Rattle.idle.specs.Written.{Build, Meets, RefusesEverything, SameAlways, LeavesUnwritten, NotIdle}
use Rattle.idle.proofs.Slice.{lent}
use Rattle.std.specs.Prelude.{Result, Ok}
use Rattle.refusal.specs.declared.Refusal.{Refusal}

pub filled : (bytes new : List ℕ) (answer : Result ℕ Refusal) → length bytes ≤ 40 → LentPromise (writes bytes) lent.0 new answer → (answer ≡ Ok (length bytes)) × (take (length bytes) new ≡ bytes)
filled bytes new answer room p =
    let a : answer ≡ Ok (length bytes) = rw (le-ltb 40 (length bytes) room) at p.answered in
    let f = written_fills (writes bytes) lent.0 new (length bytes) (subst (LentPromise (writes bytes) lent.0 new) a p) in
    let i = f.is in
    let e : f.bytes ≡ bytes = cc in
    (a, f.start_is ∙ e)

module _ {I : Type 0} (Promise : I → List ℕ → List ℕ → Result ℕ Refusal → Type 0) (i j : I) (first second : List ℕ)
    (at_i : (old new : List ℕ) (answer : Result ℕ Refusal) → Promise i old new answer → LentPromise (writes first) old new answer)
    (at_j : (old new : List ℕ) (answer : Result ℕ Refusal) → Promise j old new answer → LentPromise (writes second) old new answer)
    (room_i : length first ≤ 40) (room_j : length second ≤ 40)
    (apart : first ≡ second → ⊥) (small : take (length first) lent.0 ≡ first → ⊥)
    (b : Build I) (meets : Meets Promise b) where
  of_i : ((b i lent).0 ≡ Ok (length first)) × (take (length first) (b i lent).1 ≡ first)
  of_i = filled first (b i lent).1 (b i lent).0 room_i (at_i lent.0 (b i lent).1 (b i lent).0 (meets i lent))

  of_j : ((b j lent).0 ≡ Ok (length second)) × (take (length second) (b j lent).1 ≡ second)
  of_j = filled second (b j lent).1 (b j lent).0 room_j (at_j lent.0 (b j lent).1 (b j lent).0 (meets j lent))

  refusing : RefusesEverything b → ⊥
  refusing f = not_written (sym (f i lent).1 ∙ of_i.0)

  same : SameAlways b → ⊥
  same (bytes, f) = apart (sym of_i.1 ∙ f i lent _ of_i.0 ∙ sym (f j lent _ of_j.0) ∙ of_j.1)

  unwritten : LeavesUnwritten b → ⊥
  unwritten f = small (sym (ap (take (length first)) (f i lent)) ∙ of_i.1)

  pub not_idle : NotIdle b
  not_idle = record { not_refusing = refusing; not_same = same; not_unwritten = unwritten }
