-- What the parts of a round strike: from the rows of one action's sources, of all actions, of all states whose rows became smaller.
use Prim.Native.Nat.{ℕ, ◌+◌, ◌-◌, ◌^◌, ◌≤◌, ◌<◌}
use mathlib.Core.Path.{◌≡◌, refl, sym, ap, ap₂, ◌∙◌}
use mathlib.Core.Bool.{Bool, true, false}
use mathlib.Core.List.{List}
use native.Mathlib.Numerals.{add-one}
use lib.ListN.{get_or}
use Rattle.settle.specs.Test.{both, implies, neg, all_of, each}
use Rattle.settle.specs.Finite.{below}
use Rattle.words.specs.Words.{member, word_of}
use Rattle.words.specs.Members.{Lowest}
use Rattle.words.proofs.Words.{no_member, none_member, word_ext, word_of_lem, word_small, word_cong, word_member, others_word}
use Rattle.steps.specs.Walk.{leads}
use Rattle.steps.proofs.Walked.{each_none, each_walked}
use Rattle.relation.specs.Rows.{Within, Keeps, struck}
use Rattle.relation.proofs.Keeping.{within_states, keeps_all, keeps_more, keeps_same, strike_keeps}
use Rattle.falls.specs.Round.{apart, keeps_step}

-- ---- who keeps a step into a row

pub keeping_left : (n base : ℕ) (into out : List ℕ) (left gone r : ℕ) → r < 2 ^ n → ((s : ℕ) → member r s ≡ leads into base left s) → r ≡ word_of n (keeps_step true into out base left gone)
unfolding keeps_step
keeping_left n base into out left gone r small is = sym (word_ext n r small) ∙ word_cong n _ _ (λ x l. is x)

module _ {n : ℕ} (few : n ≤ 64) (base : ℕ) (into out : List ℕ) (left gone c r : ℕ) (c_small : c < 2 ^ n) (c_is : (s : ℕ) → member c s ≡ leads into base gone s)
    (r_is : (q : ℕ) → member r q ≡ both (member c q) (apart (get_or out (base + q) 0) left)) (fits : r < 2 ^ 64) where
  lost_word : r ≡ word_of n (λ q. both (leads into base gone q) (apart (get_or out (base + q) 0) left))
  unfolding both
  lost_word =
      word_of_lem n r _ few fits (λ x. r_is x ∙ ap (λ (b : Bool). both b (apart (get_or out (base + x) 0) left)) (c_is x))
      (λ x l. ap (λ (b : Bool). both b (apart (get_or out (base + x) 0) left)) (sym (c_is x) ∙ no_member n c x c_small l))

  pub lost_small : r < 2 ^ n
  lost_small = word_small n r _ lost_word

  pub keeping_fell : 2 ^ n - 1 - r ≡ word_of n (keeps_step false into out base left gone)
  unfolding keeps_step
  keeping_fell = others_word n r lost_small ∙ word_cong n _ _ (λ x l. ap neg (ap (λ (w : ℕ). member w x) lost_word ∙ word_member n x _ l))

-- ---- the rows of one action's sources

module _ {n : ℕ} {old : List ℕ} (w : Within n old) where
  pub strike_word : {new : List ℕ} (sources kept : ℕ) (K : ℕ → Bool) → kept ≡ word_of n K → ((p : ℕ) → get_or new p 0 ≡ struck (member sources p) (get_or old p 0) kept) → Keeps n (λ p q. implies (member sources p) (K q)) old new
  strike_word sources kept K z e =
      keeps_same (λ p q i. ap (implies (member sources p)) (ap (λ (w : ℕ). member w q) z ∙ word_member n q K (within_states w p q i).1)) (strike_keeps sources kept w e)

  pub strike_none : (sources : ℕ) (K : ℕ → Bool) → sources ≡ 0 → Keeps n (λ p q. implies (member sources p) (K q)) old old
  unfolding implies
  strike_none sources K z = keeps_same (λ p q i. sym (rw z (ap (λ (b : Bool). implies b (K q)) (none_member p)))) (keeps_all w)

  -- those that are able keep those that are able
  pub strike_able : {new : List ℕ} (P : ℕ → Bool) (able : ℕ) → ((s : ℕ) → member able s ≡ P s) → ((p : ℕ) → get_or new p 0 ≡ struck (member able p) (get_or old p 0) able) → Keeps n (λ p q. implies (P p) (P q)) old new
  strike_able P able is e = keeps_same (λ p q i. ap₂ implies (is p) (is q)) (strike_keeps able able w e)

-- ---- of all actions, one after the other

-- by each of the first k actions by which P holds of p, Q holds of q
abbrev pub ByFirst : ℕ → (ℕ → ℕ → Bool) → (ℕ → ℕ → Bool) → ℕ → List ℕ → List ℕ → Type 0
ByFirst n P Q k = Keeps n (λ p q. each (λ a. P a p) (λ a. Q a q) (below k))

pub by_none : {n : ℕ} {rows : List ℕ} (P Q : ℕ → ℕ → Bool) → Within n rows → ByFirst n P Q 0 rows rows
unfolding each all_of below
by_none P Q w = keeps_same (λ p q i. refl) (keeps_all w)

pub by_more : {n : ℕ} {old mid new : List ℕ} (P Q : ℕ → ℕ → Bool) (a : ℕ) → ByFirst n P Q a old mid → Keeps n (λ p q. implies (P a p) (Q a q)) mid new → ByFirst n P Q (a + 1) old new
unfolding each all_of below
by_more P Q a k l = rw (add-one a) (keeps_more k l)

-- ---- of all states whose rows became smaller

both_turned : (a b : Bool) → both a b ≡ both b a
unfolding both
both_turned true true = refl
both_turned true false = refl
both_turned false true = refl
both_turned false false = refl

-- by each member of the set
abbrev pub ByMembers : ℕ → (ℕ → ℕ → ℕ → Bool) → ℕ → List ℕ → List ℕ → Type 0
ByMembers n f w = Keeps n (λ p q. each (member w) (λ x. f x p q) (below 64))

pub members_done : {n : ℕ} {rows : List ℕ} (f : ℕ → ℕ → ℕ → Bool) {left : ℕ} → left ≡ 0 → Within n rows → ByMembers n f left rows rows
members_done f e w = keeps_same (λ p q i. sym (rw e (each_none (λ x. f x p q)))) (keeps_all w)

pub members_more : {n w x rest : ℕ} {old mid new : List ℕ} (f : ℕ → ℕ → ℕ → Bool) → Lowest w x rest → Keeps n (f x) old mid → ByMembers n f rest mid new → ByMembers n f w old new
members_more f h k l = keeps_same (λ p q i. both_turned _ _ ∙ sym (each_walked (λ x. f x p q) h)) (keeps_more k l)
