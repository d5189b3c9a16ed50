-- A split of the rows by one set of states, by each action into a class, and by each class.
use Prim.Native.Nat.{ℕ, ◌+◌, ◌-◌, ◌*◌, ◌^◌, ◌<◌}
use mathlib.Core.Path.{◌≡◌, refl, sym, ap, ◌∙◌}
use mathlib.Core.Bool.{Bool, true, false, So}
use mathlib.Core.List.{List}
use mathlib.Core.Logic.{inl, inr}
use native.Mathlib.Numerals.{add-one}
use lib.Bits.{bit_and}
use Rattle.settle.specs.Test.{both, implies, neg, same, all_of, each}
use Rattle.settle.specs.Finite.{below}
use Rattle.settle.proofs.Test.{both_e, same_i}
use Rattle.words.specs.Words.{member}
use Rattle.words.specs.Members.{Lowest}
use Rattle.words.proofs.Words.{others_member, none_member}
use Rattle.steps.specs.Walk.{leads}
use Rattle.words.proofs.Bits.{and_member}
use Rattle.steps.proofs.Walked.{each_none, each_walked}
use Rattle.relation.specs.Rows.{in_rows, Within, Keeps}
use Rattle.relation.proofs.Keeping.{within_states, keeps_all, keeps_more, keeps_same}
use Rattle.classes.specs.Splitting.{Sharing, undivided}

-- ---- by one set

-- fewer pairs share no more
pub keeps_sharing : {n shared : ℕ} {K : ℕ → ℕ → Bool} {old new : List ℕ} → Sharing shared old → Keeps n K old new → Sharing shared new
keeps_sharing s k = record { else_alone = λ p q i. s.else_alone p q (both_e _ _ (sym (k.kept p q) ∙ i)).0 }

module _ {n shared : ℕ} {old : List ℕ} (w : Within n old) (s : Sharing shared old) (able : ℕ) where
  abbrev Apart : List ℕ → Type 0
  Apart new = Keeps n (λ p q. same (member able p) (member able q)) old new

  -- where all that share are on one side, nothing is split
  one_side : (b : Bool) → ((p : ℕ) → So (member shared p) → member able p ≡ b) → Apart old
  one_side b f = keeps_same (λ p q i. sym (same_i (member able p) (member able q) (elim (s.else_alone p q i) [ inl e ↦ ap (member able) e | inr d ↦ f p d.0 ∙ sym (f q d.1) ]))) (keeps_all w)

  pub split_none : bit_and able shared ≡ 0 → Apart old
  unfolding both
  split_none e = one_side false (λ p i. out (member able p) (sym (ap (both (member able p)) i) ∙ sym (and_member able shared p) ∙ ap (λ (x : ℕ). member x p) e ∙ none_member p))
    where
      out : (a : Bool) → both a true ≡ false → a ≡ false
      out true f = f
      out false f = refl

  pub split_all : bit_and able shared ≡ shared → Apart old
  split_all e = one_side true (λ p i. (both_e _ _ (sym (and_member able shared p) ∙ ap (λ (x : ℕ). member x p) e ∙ i)).0)

  -- those that are able keep those that are, and then the others the others
  pub split_both : able < 2 ^ n → {mid new : List ℕ} (others : ℕ) → others ≡ 2 ^ n - 1 - able
      → Keeps n (λ p q. implies (member (bit_and able shared) p) (member able q)) old mid
      → Keeps n (λ p q. implies (member (bit_and others shared) p) (member others q)) mid new → Apart new
  unfolding both implies same neg
  split_both few others e k l = keeps_same sides (keeps_more k l)
    where
      neither : (p : ℕ) → p < n → member others p ≡ neg (member able p)
      neither p i = rw e (others_member n able p few i)

      itself : (a b : Bool) → both (implies (both (neg a) b) (neg a)) (implies (both a b) a) ≡ same a a
      itself true true = refl
      itself true false = refl
      itself false true = refl
      itself false false = refl

      shares : (a b : Bool) → both (implies (both (neg a) true) (neg b)) (implies (both a true) b) ≡ same a b
      shares true true = refl
      shares true false = refl
      shares false true = refl
      shares false false = refl

      sides : (p q : ℕ) → So (in_rows old p q) → both (implies (member (bit_and others shared) p) (member others q)) (implies (member (bit_and able shared) p) (member able q)) ≡ same (member able p) (member able q)
      sides p q i =
          let b = within_states w p q i in
          rw (and_member others shared p, and_member able shared p, neither p b.0, neither q b.1) (elim (s.else_alone p q i) [
            | inl f ↦ rw (← f) (itself (member able p) (member shared p))
            | inr d ↦ rw d.0 (shares (member able p) (member able q))
          ])

-- ---- by each action

module _ (into : List ℕ) (n class : ℕ) {old : List ℕ} where
  pub undivided_none : Within n old → Keeps n (undivided into n 0 class) old old
  unfolding undivided all_of below
  undivided_none w = keeps_all w

  pub undivided_more : (a able : ℕ) {mid new : List ℕ} → ((s : ℕ) → member able s ≡ leads into ((a + 1) * n) class s)
      → Keeps n (undivided into n a class) old mid → Keeps n (λ p q. same (member able p) (member able q)) mid new → Keeps n (undivided into n (a + 1) class) old new
  unfolding undivided all_of below
  undivided_more a able e k l = rw (add-one a) (keeps_same (λ p q i. rw (e p, e q)) (keeps_more k l))

-- ---- by each class

module _ (K : ℕ → ℕ → ℕ → Bool) where
  -- of the pairs kept so far, those that each class still left keeps
  abbrev pub coming : List ℕ → ℕ → ℕ → ℕ → Bool
  coming rows left p q = both (in_rows rows p q) (each (member left) (λ x. K x p q) (below 64))

  pub coming_done : (rows : List ℕ) {left : ℕ} → left ≡ 0 → (p q : ℕ) → in_rows rows p q ≡ coming rows left p q
  unfolding both
  coming_done rows e p q = rw (e, each_none (λ x. K x p q)) (sym (go (in_rows rows p q)))
    where
      go : (b : Bool) → both b true ≡ b
      go true = refl
      go false = refl

  -- with the lowest of them taken, they are the same
  pub coming_walked : {n w x rest : ℕ} {rows next : List ℕ} → Lowest w x rest → Keeps n (K x) rows next → (p q : ℕ) → coming next rest p q ≡ coming rows w p q
  unfolding both
  coming_walked {rows = rows} h k p q = rw (k.kept p q, each_walked (λ x. K x p q) h) (go (in_rows rows p q) _ _)
    where
      go : (a b c : Bool) → both (both a b) c ≡ both a (both b c)
      go true b c = refl
      go false b c = refl
