-- The walks of a round over a set's members, bit by bit: with the lowest looked at and dropped, what is done or still to come is the same.
use Prim.Native.Nat.{ℕ, ◌-◌, ◌^◌, ◌≤◌, ◌<◌}
use mathlib.Core.Path.{◌≡◌, refl, sym, ap, ◌∙◌}
use mathlib.Core.Bool.{Bool, true, false}
use mathlib.Core.List.{List}
use native.Mathlib.Decide.{ℕ_discrete}
use borrow.Author.Tests.{eq-eqb, ne_eqb}
use lib.Bits.{bit_or}
use lib.Dec.{eqb}
use lib.ListN.{length, get_or, set}
use lib.Seq.{get_or-set_same, get_or-set_other}
use Rattle.settle.specs.Test.{pick, both, either, neg}
use Rattle.settle.proofs.Test.{never, ext, either_r, either_false}
use native.Mathlib.Omega.{arith}
use Rattle.words.specs.Words.{member}
use Rattle.words.proofs.Words.{none_member, word_small, word_of_lem}
use Rattle.words.proofs.Bits.{or_member, one_member}
use Rattle.falls.specs.Round.{one_if, fallen, smaller, Noted, Fallen}

pub none_yet : (s : ℕ) (b : Bool) → either (member 0 s) b ≡ b
unfolding either
none_yet s b = ap (λ (a : Bool). either a b) (none_member s)

one_if_member : (b : Bool) (q s : ℕ) → member (one_if b q) s ≡ both b (eqb q s)
unfolding both
one_if_member true q s = one_member q s
one_if_member false q s = none_member s

with_one : (b : Bool) (out q s : ℕ) → member (bit_or out (one_if b q)) s ≡ either (member out s) (both b (eqb q s))
with_one b out q s = or_member out (one_if b q) s ∙ ap (either (member out s)) (one_if_member b q s)

-- ---- what is found is noted

pub one_none : (gone p : ℕ) → gone ≡ 0 → 0 ≡ one_if (neg (eqb gone 0)) p
unfolding neg
one_none gone p e = rw (eq-eqb _ _ e)

pub one_some : (gone p : ℕ) → (gone ≡ 0 → ⊥) → 2 ^ p ≡ one_if (neg (eqb gone 0)) p
unfolding neg
one_some gone p f = rw (ne_eqb _ _ f)

pub noted_more : (found : ℕ → ℕ) (old fell : List ℕ) (changed q : ℕ) → q < length fell
    → ((p : ℕ) → get_or fell p 0 ≡ pick (member changed p) (found p) (get_or old p 0))
    → (p : ℕ) → get_or (pick (eqb (found q) 0) fell (set fell q (found q))) p 0 ≡ pick (member (bit_or changed (one_if (neg (eqb (found q) 0)) q)) p) (found p) (get_or old p 0)
unfolding neg both
noted_more found old fell changed q room is p = go (eqb (found q) 0)
  where
    by : {a b : Bool} → a ≡ b → pick b (found p) (get_or old p 0) ≡ pick a (found p) (get_or old p 0)
    by e = ap (λ (b : Bool). pick b (found p) (get_or old p 0)) (sym e)

    go : (b : Bool) → get_or (pick b fell (set fell q (found q))) p 0 ≡ pick (member (bit_or changed (one_if (neg b) q)) p) (found p) (get_or old p 0)
    go true = is p ∙ by (with_one false changed q p ∙ either_false (member changed p))
    go false = elim (ℕ_discrete p q) [
      | yes e ↦ rw e (get_or-set_same fell q (found q) 0 room ∙ sym (ap (λ (b : Bool). pick b (found q) (get_or old q 0)) (with_one true changed q q ∙ either_r (member changed q) (eq-eqb q q refl))))
      | no f ↦ get_or-set_other fell q p (found q) 0 f ∙ is p ∙ by (with_one true changed q p ∙ ap (either (member changed p)) (ne_eqb q p (λ e. f (sym e))) ∙ either_false (member changed p))
    ]

pub noted_done : (n all : ℕ) (among : ℕ → Bool) (near next old new : List ℕ) (changed : ℕ) → all ≡ 2 ^ n - 1
    → ((p : ℕ) → member changed p ≡ both (among p) (smaller all near next p))
    → ((p : ℕ) → get_or new p 0 ≡ pick (member changed p) (fallen all near next p) (get_or old p 0)) → Noted n among near next old new changed
noted_done n all among near next old new changed e rows is =
    record {
      rows_changed = λ p. rows p ∙ ap (λ (w : ℕ). both (among p) (smaller w near next p)) e;
      fell_noted = λ p. is p ∙ ap (λ (w : ℕ). pick (member changed p) (fallen w near next p) (get_or old p 0)) e;
    }

-- of the same states
pub noted_among : {n : ℕ} {near next old new : List ℕ} {changed : ℕ} (among passing : ℕ → Bool) → ((p : ℕ) → among p ≡ passing p) → Noted n among near next old new changed → Noted n passing near next old new changed
noted_among {n} {near} {next} among passing e w =
    record { rows_changed = λ p. w.rows_changed p ∙ ap (λ (b : Bool). both b (smaller (2 ^ n - 1) near next p)) (e p); fell_noted = w.fell_noted }

-- those from whose rows something fell are states
pub fallen_small : {n : ℕ} (fell : List ℕ) {changed : ℕ} → n ≤ 64 → changed < 2 ^ 64 → Fallen n fell changed → changed < 2 ^ n
fallen_small {n} fell {changed} few h f = word_small n changed _ (word_of_lem n changed (member changed) few h (λ x. refl) (λ x l. ext (λ t. absurd (omega (arith, (f x t).0))) never))
