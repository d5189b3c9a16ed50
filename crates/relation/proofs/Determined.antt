-- Any two relations on words that a promise allows for the same input agree. Assumes nothing.
use Prim.Native.Nat.{ℕ, ◌<◌}
use mathlib.Core.Path.{◌≡◌, sym, ap₂, ◌∙◌}
use mathlib.Core.Bool.{Bool}
use mathlib.Core.List.{List}
use native.Mathlib.Omega.{arith}
use native.Mathlib.Decide.{dec_le}
use lib.ListN.{length, get_or}
use lib.Seq.{ext_get_or}
use Rattle.settle.proofs.Chain.{rounds_unique}
use Rattle.words.specs.Words.{member}
use Rattle.words.proofs.Words.{same_members}
use Rattle.nearness.specs.Relation.{Relation}
use Rattle.relation.specs.Rows.{in_rows, Within, Holds, Keeps, struck}
use Rattle.relation.specs.Settles.{Settles}
use Rattle.relation.specs.declared.Settled.{Settled}

-- arrays of as many rows, each with the same bits
rows_alike : (n : ℕ) (a b : List ℕ) → length a ≡ length b → Within n a → Within n b → ((p q : ℕ) → p < n → q < n → in_rows a p q ≡ in_rows b p q) → a ≡ b
rows_alike n a b size v w same = ext_get_or 0 a b size (λ p i. elim (dec_le n p) [
  | yes l ↦ v.no_row_above p l ∙ sym (w.no_row_above p l)
  | no f ↦ same_members n _ _ (v.no_bit_above p) (w.no_bit_above p) (λ q l. same p q (omega arith) l)
])

-- as `all_pairs` promises
pub holds_determined : (n : ℕ) (R : Relation) (a b : List ℕ) → length a ≡ length b → Holds n R a → Holds n R b → a ≡ b
holds_determined n R a b size v w = rows_alike n a b size v.within w.within (λ p q i j. v.bits p q i j ∙ sym (w.bits p q i j))

-- as a round does
pub keeps_determined : (n : ℕ) (K : ℕ → ℕ → Bool) (old a b : List ℕ) → length a ≡ length b → Keeps n K old a → Keeps n K old b → a ≡ b
keeps_determined n K old a b size v w = rows_alike n a b size v.within w.within (λ p q i j. v.kept p q ∙ sym (w.kept p q))

-- as `strike` does
pub strike_determined : (hit kept : ℕ) (old a b : List ℕ) → length a ≡ length b → ((p : ℕ) → get_or a p 0 ≡ struck (member hit p) (get_or old p 0) kept)
    → ((p : ℕ) → get_or b p 0 ≡ struck (member hit p) (get_or old p 0) kept) → a ≡ b
strike_determined hit kept old a b size v w = ext_get_or 0 a b size (λ p i. v p ∙ sym (w p))

-- as all rounds do
pub settles_determined : (n : ℕ) (C : ℕ → Relation) (s t : Settled) → length s.rows ≡ length t.rows → Settles n C s → Settles n C t → s ≡ t
settles_determined n C s t size v w =
    let r : s.rounds ≡ t.rounds = rounds_unique _ _ _ _ v.rounds_are w.rounds_are in
    ap₂ (λ (rows : List ℕ) (rounds : ℕ). record { rows = rows; rounds = rounds }) (holds_determined n _ s.rows t.rows size v.rows_hold (rw r w.rows_hold)) r
