-- Any two answers that a call's promise allows for the same input agree. Assumes nothing.
use Prim.Native.Nat.{ℕ, ◌^◌, ◌<◌}
use mathlib.Core.Path.{◌≡◌, sym, ap, ◌∙◌}
use native.Mathlib.Omega.{arith}
use native.Mathlib.Decide.{dec_le, dec_lt}
use lib.Dec.{eqb}
use Rattle.settle.specs.Test.{both, neg}
use Rattle.settle.proofs.Test.{never}
use Rattle.words.specs.Words.{member, With, All, Size}
use Rattle.words.specs.Members.{Lowest}
use Rattle.words.proofs.Words.{word_ext, same_members}

pub with_determined : (set s a b : ℕ) → With set s a → With set s b → a ≡ b
with_determined set s a b p q = elim (dec_le 64 s) [ yes l ↦ p.1 l ∙ sym (q.1 l) | no f ↦ p.0 (omega arith) ∙ sym (q.0 (omega arith)) ]

pub all_determined : (n a b : ℕ) → All n a → All n b → a ≡ b
all_determined n a b p q = elim (dec_le 64 n) [ yes l ↦ p.1 l ∙ sym (q.1 l) | no f ↦ p.0 (omega arith) ∙ sym (q.0 (omega arith)) ]

-- a 64-bit word is that of its own members
pub size_determined : (set a b : ℕ) → set < 2 ^ 64 → Size set a → Size set b → a ≡ b
size_determined set a b h p q = let e = sym (word_ext 64 set h) in p 64 (member set) e ∙ sym (q 64 (member set) e)

-- which member comes next, and what is left then
pub lowest_determined : (set p q r s : ℕ) → set < 2 ^ 64 → Lowest set p r → Lowest set q s → (p ≡ q) × (r ≡ s)
lowest_determined set p q r s h u v = (e, same_members 64 r s (omega (arith, u.rest_less)) (omega (arith, v.rest_less)) (λ x l. u.others x ∙ ap (λ (y : ℕ). both (member set x) (neg (eqb y x))) e ∙ sym (v.others x)))
  where
    e : p ≡ q
    e = elim (dec_lt p q) [
      | yes l ↦ never (sym (v.none_below p l) ∙ u.in_set)
      | no f ↦ elim (dec_lt q p) [ yes l ↦ never (sym (u.none_below q l) ∙ v.in_set) | no g ↦ omega arith ]
    ]
