-- A walk over the members of a set: what is asked of each is asked of the lowest and of each of the rest; and those of which a test holds are gathered.
use Prim.Native.Nat.{ℕ, ◌^◌}
use mathlib.Core.Path.{◌≡◌, refl, sym, ◌∙◌}
use mathlib.Core.Bool.{Bool, true, false}
use mathlib.Core.Logic.{inl, inr}
use native.Mathlib.Decide.{ℕ_discrete}
use borrow.Author.Tests.{eqb-true, eq-eqb, ne_eqb}
use lib.Bits.{bit_or}
use Rattle.settle.specs.Test.{pick, both, either, each}
use Rattle.settle.specs.Finite.{below}
use Rattle.settle.proofs.Test.{never, ext, both_i, both_e, either_e, either_false, each_i, each_e}
use Rattle.settle.proofs.Finite.{below_i}
use Rattle.words.specs.Words.{member}
use Rattle.words.specs.Members.{Lowest}
use Rattle.words.proofs.Words.{none_member}
use Rattle.words.proofs.Bits.{or_member, one_member}
use Rattle.words.proofs.Lowest.{lowest_or_rest, lowest_out, rest_in}

pub each_none : (f : ℕ → Bool) → each (member 0) f (below 64) ≡ true
each_none f = ext (λ t. refl) (λ t. each_i _ _ _ (λ x m i. never (sym (none_member x) ∙ i)))

pub each_walked : (f : ℕ → Bool) {w q rest : ℕ} → Lowest w q rest → each (member w) f (below 64) ≡ both (f q) (each (member rest) f (below 64))
each_walked f {w} {q} {rest} h =
    ext
    (λ t. both_i (each_e _ _ t (below_i 64 _ h.few) h.in_set) (each_i _ _ _ (λ x m i. each_e _ _ t m (rest_in h x i))))
    (λ t. let d = both_e _ _ t in
    each_i (member w) f (below 64) (λ x m i. elim (either_e _ _ (sym (lowest_or_rest h x) ∙ i)) [
      | inl e ↦ rw (← eqb-true q x e) d.0
      | inr r ↦ each_e _ _ d.1 m r
    ]))

-- ---- the members of which a test holds, gathered bit by bit

-- where none is left, all are gathered
pub bits_done : (f : ℕ → Bool) (acc : ℕ) {left : ℕ} → left ≡ 0 → (s : ℕ) → member acc s ≡ either (member acc s) (both (member left s) (f s))
unfolding both
bits_done f acc e s = rw (e, none_member s) (sym (either_false (member acc s)))

-- with the lowest member's bit taken and the member dropped, what is gathered or still to come is the same
pub bits_walked : (f : ℕ → Bool) {w q rest : ℕ} (acc b s : ℕ) → Lowest w q rest → b ≡ pick (f q) (2 ^ q) 0
    → either (member (bit_or acc b) s) (both (member rest s) (f s)) ≡ either (member acc s) (both (member w s) (f s))
unfolding both either
bits_walked f {w} {q} {rest} acc b s h e = rw (or_member acc b s, e) (elim (ℕ_discrete s q) [
  | yes i ↦ rw (i, own (f q), lowest_out h, h.in_set) (again (member acc q) (f q))
  | no g ↦ rw (other g (f q), either_false (member acc s), lowest_or_rest h s, ne_eqb q s (λ i. g (sym i)))
])
  where
    own : (c : Bool) → member (pick c (2 ^ q) 0) q ≡ c
    own true = one_member q q ∙ eq-eqb q q refl
    own false = none_member q

    other : (s ≡ q → ⊥) → (c : Bool) → member (pick c (2 ^ q) 0) s ≡ false
    other g true = one_member q s ∙ ne_eqb q s (λ i. g (sym i))
    other g false = none_member s

    again : (a b : Bool) → either (either a b) false ≡ either a b
    again true b = refl
    again false true = refl
    again false false = refl
