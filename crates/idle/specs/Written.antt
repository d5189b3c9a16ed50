-- Document 01's idle builds of a question whose bytes go to a lent buffer. I is what the call is given beside the buffer; a build gives, for
-- every one and every buffer, the answer and the buffer after it. `short_form_not_idle`, `reasons_not_idle` and `report_not_idle` of proofs/ say that
-- none of the three meets the promise. A short form tells no rounds; those that the report tells are of the marks.
use Rattle.std.specs.Prelude.{ℕ, ◌≡◌, List, take}
use Rattle.refusal.specs.declared.Refusal.{Refusal}
use Rattle.idle.specs.Slice.{Slice}
use Rattle.std.specs.Prelude.{Result, Ok, Err}

module _ (I : Type 0) where
  abbrev pub Build : Type 0
  Build = I → Slice → Result ℕ Refusal × List ℕ

module _ {I : Type 0} where
  abbrev pub Meets : (I → List ℕ → List ℕ → Result ℕ Refusal → Type 0) → Build I → Type 0
  Meets Promise b = (i : I) (old : Slice) → Promise i old.0 (b i old).1 (b i old).0

  abbrev pub RefusesEverything : Build I → Type 0
  RefusesEverything b = (i : I) (old : Slice) → (r : Refusal) × ((b i old).0 ≡ Err r)

  -- the same bytes, whatever is given
  abbrev pub SameAlways : Build I → Type 0
  SameAlways b = (bytes : List ℕ) × ((i : I) (old : Slice) (size : ℕ) → (b i old).0 ≡ Ok size → take size (b i old).1 ≡ bytes)

  abbrev pub LeavesUnwritten : Build I → Type 0
  LeavesUnwritten b = (i : I) (old : Slice) → (b i old).1 ≡ old.0

  pub record NotIdle (b : Build I) : Type 0 where
    pub not_refusing : RefusesEverything b → ⊥
    pub not_same : SameAlways b → ⊥
    pub not_unwritten : LeavesUnwritten b → ⊥
