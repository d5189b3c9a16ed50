-- A step of a set by one row: what makes it (-i), what follows from it (-e), and that a walk over the set's members finds it.
use Prim.Native.Nat.{ℕ, ◌+◌, ◌^◌, ◌≤◌, ◌<◌}
use mathlib.Core.Path.{◌≡◌, refl, sym, ◌∙◌}
use mathlib.Core.Bool.{Bool, true, false, So}
use mathlib.Core.List.{List}
use mathlib.Core.Logic.{inl, inr}
use borrow.Author.Tests.{eqb-true}
use lib.Bits.{bit_or}
use lib.ListN.{get_or}
use Rattle.settle.specs.Test.{either}
use Rattle.settle.specs.Finite.{below}
use Rattle.settle.proofs.Test.{never, ext, either_l, either_r, either_e, either_false, some_i, some_e}
use Rattle.settle.proofs.Finite.{below_i, below_e}
use Rattle.words.specs.Words.{member}
use Rattle.words.proofs.Words.{no_member, none_member}
use Rattle.steps.specs.Walk.{leads}
use Rattle.words.specs.Members.{Lowest}
use Rattle.words.proofs.Bits.{or_member}
use Rattle.words.proofs.Lowest.{lowest_or_rest, rest_in}

pub leads_i : (into : List ℕ) (base set s u : ℕ) → u < 64 → So (member set u) → So (member (get_or into (base + u) 0) s) → So (leads into base set s)
unfolding leads
leads_i into base set s u h m t = some_i _ _ (below_i 64 u h) m t

pub leads_e : (into : List ℕ) (base set s : ℕ) → So (leads into base set s) → (u : ℕ) × (u < 64) × So (member set u) × So (member (get_or into (base + u) 0) s)
unfolding leads
leads_e into base set s t = let r = some_e _ _ (below 64) t in (r.0, below_e 64 r.0 r.1, r.2, r.3)

pub leads_none : (into : List ℕ) (base s : ℕ) → leads into base 0 s ≡ false
leads_none into base s = ext (λ t. let r = leads_e into base 0 s t in sym (none_member r.0) ∙ r.2) never

-- a step to a set that two make up is a step to one of them
pub leads_either : (into : List ℕ) (base v w f s : ℕ) → ((u : ℕ) → u < 64 → member f u ≡ either (member v u) (member w u))
    → leads into base f s ≡ either (leads into base v s) (leads into base w s)
leads_either into base v w f s h =
    ext
    (λ t. let r = leads_e into base f s t in
    elim (either_e _ _ (sym (h r.0 r.1) ∙ r.2)) [
      | inl m ↦ either_l _ (leads_i into base v s r.0 r.1 m r.3)
      | inr m ↦ either_r _ (leads_i into base w s r.0 r.1 m r.3)
    ])
    (λ t. elim (either_e _ _ t) [
      | inl l ↦ let r = leads_e into base v s l in leads_i into base f s r.0 r.1 (h r.0 r.1 ∙ either_l _ r.2) r.3
      | inr l ↦ let r = leads_e into base w s l in leads_i into base f s r.0 r.1 (h r.0 r.1 ∙ either_r _ r.2) r.3
    ])

-- where no word has a bit at n or above, no state from n on has a step
pub leads_small : (n : ℕ) (into : List ℕ) (base set s : ℕ) → ((e : ℕ) → get_or into e 0 < 2 ^ n) → n ≤ s → leads into base set s ≡ false
leads_small n into base set s h l = ext (λ t. let r = leads_e into base set s t in sym (no_member n _ s (h (base + r.0)) l) ∙ r.3) never

-- it depends on no word but those of the set's members
pub leads_same : (into other : List ℕ) (base set s : ℕ) → ((u : ℕ) → So (member set u) → get_or other (base + u) 0 ≡ get_or into (base + u) 0) → leads other base set s ≡ leads into base set s
leads_same into other base set s e =
    ext
    (λ t. let r = leads_e other base set s t in leads_i into base set s r.0 r.1 r.2 (rw (e r.0 r.2) at r.3))
    (λ t. let r = leads_e into base set s t in leads_i other base set s r.0 r.1 r.2 (rw (e r.0 r.2) r.3))

-- ---- the walk over a set's members

-- a step to the set is one to its lowest member or to one of the rest
lowest_leads : {w q rest : ℕ} (into : List ℕ) (base s : ℕ) → Lowest w q rest → leads into base w s ≡ either (member (get_or into (base + q) 0) s) (leads into base rest s)
lowest_leads {w} {q} {rest} into base s h =
    ext
    (λ t. let r = leads_e into base w s t in
    elim (either_e _ _ (sym (lowest_or_rest h r.0) ∙ r.2)) [
      | inl e ↦ either_l _ (rw (eqb-true q r.0 e) r.3)
      | inr m ↦ either_r _ (leads_i into base _ s r.0 r.1 m r.3)
    ])
    (λ t. elim (either_e _ _ t) [
      | inl m ↦ leads_i into base w s q h.few h.in_set m
      | inr l ↦ let r = leads_e into base _ s l in leads_i into base w s r.0 r.1 (rest_in h r.0 r.2) r.3
    ])

-- with the lowest member's word taken and the member dropped, what is out or still to come is the same
pub one_walked : {w q rest : ℕ} (into : List ℕ) (base s out : ℕ) → Lowest w q rest
    → either (member (bit_or out (get_or into (base + q) 0)) s) (leads into base rest s) ≡ either (member out s) (leads into base w s)
unfolding either
one_walked {w} {q} {rest} into base s out h =
    rw (or_member out (get_or into (base + q) 0) s, lowest_leads into base s h) (either_assoc (member out s) _ _)
  where
    either_assoc : (a b c : Bool) → either (either a b) c ≡ either a (either b c)
    either_assoc true b c = refl
    either_assoc false b c = refl

-- and where none is left, all is out
pub all_walked : (into : List ℕ) (base left s out : ℕ) → left ≡ 0 → either (member out s) (leads into base left s) ≡ member out s
all_walked into base left s out e = rw (e, leads_none into base s) (either_false (member out s))
