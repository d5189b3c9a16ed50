-- What follows of a set whose lowest member is q, and the others rest.
use Prim.Native.Nat.{ℕ, ◌^◌, ◌<◌}
use mathlib.Core.Path.{◌≡◌, refl, sym, ◌∙◌}
use mathlib.Core.Bool.{Bool, true, false, So}
use native.Mathlib.Decide.{dec_le, ℕ_discrete}
use native.Mathlib.Omega.{arith}
use borrow.Author.Tests.{eq-eqb, ne_eqb}
use lib.Dec.{eqb}
use Rattle.settle.specs.Test.{both, either, neg}
use Rattle.settle.proofs.Test.{never, both_e}
use Rattle.words.specs.Words.{member}
use Rattle.words.specs.Members.{Lowest}
use Rattle.words.proofs.Words.{no_member}

module _ {w q rest : ℕ} (h : Lowest w q rest) where
  -- a member is the lowest or one of the rest
  pub lowest_or_rest : (x : ℕ) → member w x ≡ either (eqb q x) (member rest x)
  unfolding both either neg
  lowest_or_rest x = rw (h.others x) (elim (ℕ_discrete q x) [
    | yes e ↦ rw (← e, eq-eqb q q refl) h.in_set
    | no f ↦ rw (ne_eqb q x f) (sym (with_true (member w x)))
  ])
    where
      with_true : (b : Bool) → both b true ≡ b
      with_true true = refl
      with_true false = refl

  pub rest_in : (x : ℕ) → So (member rest x) → So (member w x)
  rest_in x m = (both_e _ _ (sym (h.others x) ∙ m)).0

  pub lowest_out : member rest q ≡ false
  unfolding both neg
  lowest_out = h.others q ∙ rw (eq-eqb q q refl) (without (member w q))
    where
      without : (b : Bool) → both b false ≡ false
      without true = refl
      without false = refl

  -- of a set of states, the lowest is a state
  pub lowest_below : (n : ℕ) → w < 2 ^ n → q < n
  lowest_below n small = elim (dec_le n q) [ yes l ↦ never (sym (no_member n w q small l) ∙ h.in_set) | no f ↦ omega arith ]
