-- What judging finds, number by number: of the codes, of the triples and of their order.
use Prim.Native.Nat.{ℕ, zero, suc, ◌+◌, ◌-◌, ◌*◌, ◌<◌}
use mathlib.Core.Path.{◌≡◌, refl}
use mathlib.Core.Bool.{Bool, true, false}
use mathlib.Core.List.{List}
use mathlib.Core.Logic.{inl, inr}
use native.Mathlib.Omega.{arith}
use lib.ListN.{length, get_or}
use lib.Dec.{ltb}
use borrow.Author.Tests.{ltb-true, ltb-false, lt-leb, le-ltb, lt-ltb, ne_eqb}
use Rattle.settle.specs.Test.{pick}
use Rattle.refusal.specs.declared.Refusal.{Refusal}
use Rattle.chart.specs.Chart.{Step}
use Rattle.chart.specs.Layout.{Earlier}
use Rattle.chart.specs.Reading.{step_at, presence, code_order, judge_codes, earlier, triple_order, judge_triple, judge_triples}
use Rattle.chart.proofs.Reading.{fine_both, fine_test, present}
use Rattle.std.specs.Prelude.{Err}
use Rattle.chart.specs.Reading.{faultless}

-- ---- the order of triples

pub earlier_is : (a b : Step) → earlier a b ≡ true → Earlier a b
earlier_is a b e =
    go
    (ltb a.source b.source)
    refl
    (ltb b.source a.source)
    refl
    (ltb a.action b.action)
    refl
    (ltb b.action a.action)
    refl
    e
  where
    go : (x : Bool) → ltb a.source b.source ≡ x → (y : Bool) → ltb b.source a.source ≡ y
        → (z : Bool) → ltb a.action b.action ≡ z → (w : Bool) → ltb b.action a.action ≡ w
        → pick x true (pick y false (pick z true (pick w false (ltb a.target b.target)))) ≡ true → Earlier a b
    go true h y h₂ z h₃ w h₄ e = inl (ltb-true _ _ h)
    go false h true h₂ z h₃ w h₄ e = let z : ◌≡◌ {A = ℕ} 0 1 = cc in absurd (omega arith)
    go false h false h₂ true h₃ w h₄ e =
        inr (omega (arith, ltb-false a.source b.source h, ltb-false b.source a.source h₂), inl (ltb-true _ _ h₃))
    go false h false h₂ false h₃ true h₄ e = let z : ◌≡◌ {A = ℕ} 0 1 = cc in absurd (omega arith)
    go false h false h₂ false h₃ false h₄ e =
        inr (omega (arith, ltb-false a.source b.source h, ltb-false b.source a.source h₂), inr (omega (arith, ltb-false a.action b.action h₃, ltb-false b.action a.action h₄), ltb-true _ _ e))

pub is_earlier : (a b : Step) → Earlier a b → earlier a b ≡ true
is_earlier a b (inl h) = rw (lt-ltb _ _ h)
is_earlier a b (inr (e, inl h)) =
    rw (le-ltb a.source b.source (omega arith), le-ltb b.source a.source (omega arith), lt-ltb _ _ h)
is_earlier a b (inr (e, inr (f, h))) =
    rw (
      le-ltb a.source b.source (omega arith),
      le-ltb b.source a.source (omega arith),
      le-ltb a.action b.action (omega arith),
      le-ltb b.action a.action (omega arith),
      lt-ltb _ _ h,
    )

pub not_earlier : (a b : Step) → (Earlier a b → ⊥) → earlier a b ≡ false
not_earlier a b f = go (earlier a b) refl
  where
    go : (x : Bool) → earlier a b ≡ x → x ≡ false
    go true e = absurd (f (earlier_is a b e))
    go false e = refl

-- ---- the codes and the triples, by their numbers: judged fine together exactly if one by one

abbrev pub CodesIn : List ℕ → ℕ → ℕ → ℕ → Type 0
CodesIn s p i left = (j : ℕ) → j < left → (p + j < length s) × (code_order s (p + j) (i + j) ≡ faultless)

pub codes_fine : (s : List ℕ) (p i left : ℕ) → judge_codes s p i left ≡ faultless → CodesIn s p i left
unfolding judge_codes
codes_fine s p i zero e j h = absurd (omega arith)
codes_fine s p i (suc k) e j h =
    let a = fine_both (presence s p) _ e in
    let b = fine_both (code_order s p i) _ a.1 in
    go (present s p a.0) b.0 (codes_fine s (p + 1) (i + 1) k b.1) j h
  where
    go : p < length s → code_order s p i ≡ faultless
        → ((j : ℕ) → j < k → (p + 1 + j < length s) × (code_order s (p + 1 + j) (i + 1 + j) ≡ faultless))
        → (j : ℕ) → j < suc k → (p + j < length s) × (code_order s (p + j) (i + j) ≡ faultless)
    go f g below zero l =
        let q : p + 0 ≡ p = omega arith in
        let r : i + 0 ≡ i = omega arith in
        rw (q, r) (f, g)
    go f g below (suc j) l =
        let q : p + suc j ≡ p + 1 + j = omega arith in
        let r : i + suc j ≡ i + 1 + j = omega arith in
        rw (q, r) (below j (omega arith))

pub fine_codes : (s : List ℕ) (p i left : ℕ) → CodesIn s p i left → judge_codes s p i left ≡ faultless
unfolding judge_codes
fine_codes s p i zero f = refl
fine_codes s p i (suc k) f =
    let q : p + 0 ≡ p = omega arith in
    let r : i + 0 ≡ i = omega arith in
    let here = rw (q, r) at (f 0 (omega arith)) in
    let below : (j : ℕ) → j < k → (p + 1 + j < length s) × (code_order s (p + 1 + j) (i + 1 + j) ≡ faultless) =
    λ j h. (let q : p + suc j ≡ p + 1 + j = omega arith in
    let r : i + suc j ≡ i + 1 + j = omega arith in
    rw (q, r) at (f (suc j) (omega arith))) in
    rw (lt-leb (length s) p here.0, here.1) (fine_codes s (p + 1) (i + 1) k below)

pub triples_fine : (s : List ℕ) (n m p i left : ℕ) → judge_triples s n m p i left ≡ faultless
    → (j : ℕ) → j < left → judge_triple s n m (p + 3 * j) (i + j) ≡ faultless
unfolding judge_triples
triples_fine s n m p i zero e j h = absurd (omega arith)
triples_fine s n m p i (suc k) e j h =
    let a = fine_both (judge_triple s n m p i) _ e in
    go a.0 (triples_fine s n m (p + 3) (i + 1) k a.1) j h
  where
    go : judge_triple s n m p i ≡ faultless → ((j : ℕ) → j < k → judge_triple s n m (p + 3 + 3 * j) (i + 1 + j) ≡ faultless)
        → (j : ℕ) → j < suc k → judge_triple s n m (p + 3 * j) (i + j) ≡ faultless
    go f below zero l =
        let q : p + 3 * 0 ≡ p = omega arith in
        let r : i + 0 ≡ i = omega arith in
        rw (q, r) f
    go f below (suc j) l =
        let q : p + 3 * suc j ≡ p + 3 + 3 * j = omega arith in
        let r : i + suc j ≡ i + 1 + j = omega arith in
        rw (q, r) (below j (omega arith))

pub fine_triples : (s : List ℕ) (n m p i left : ℕ) → ((j : ℕ) → j < left → judge_triple s n m (p + 3 * j) (i + j) ≡ faultless)
    → judge_triples s n m p i left ≡ faultless
unfolding judge_triples
fine_triples s n m p i zero f = refl
fine_triples s n m p i (suc k) f =
    let q : p + 3 * 0 ≡ p = omega arith in
    let r : i + 0 ≡ i = omega arith in
    let here = rw (q, r) at (f 0 (omega arith)) in
    let below : (j : ℕ) → j < k → judge_triple s n m (p + 3 + 3 * j) (i + 1 + j) ≡ faultless =
    λ j h. (let q : p + 3 * suc j ≡ p + 3 + 3 * j = omega arith in
    let r : i + suc j ≡ i + 1 + j = omega arith in
    rw (q, r) at (f (suc j) (omega arith))) in
    rw here (fine_triples s n m (p + 3) (i + 1) k below)

-- the first that is not fine is told
pub first_bad : (s : List ℕ) (n m p i left k : ℕ) (r : Refusal) → k < left → ((j : ℕ) → j < k → judge_triple s n m (p + 3 * j) (i + j) ≡ faultless)
    → judge_triple s n m (p + 3 * k) (i + k) ≡ Err r → judge_triples s n m p i left ≡ Err r
unfolding judge_triples
first_bad s n m p i zero k r h faultless bad = absurd (omega arith)
first_bad s n m p i (suc left) zero r h faultless bad =
    let q : p + 3 * 0 ≡ p = omega arith in
    let w : i + 0 ≡ i = omega arith in
    rw (rw (q, w) at bad)
first_bad s n m p i (suc left) (suc k) r h faultless bad =
    let q : p + 3 * 0 ≡ p = omega arith in
    let w : i + 0 ≡ i = omega arith in
    let here = rw (q, w) at (faultless 0 (omega arith)) in
    let after : (j : ℕ) → p + 3 * suc j ≡ p + 3 + 3 * j = λ j. omega arith in
    let number : (j : ℕ) → i + suc j ≡ i + 1 + j = λ j. omega arith in
    rw here (first_bad s n m (p + 3) (i + 1) left k r (omega arith) (λ j l. rw (after j, number j) at (faultless (suc j) (omega arith))) (rw (after k, number k) at bad))

pub code_rises : (s : List ℕ) (p i : ℕ) → code_order s (p + (i + 1)) (0 + (i + 1)) ≡ faultless → get_or s (p + i) 0 < get_or s (p + (i + 1)) 0
code_rises s p i e =
    let q : p + (i + 1) - 1 ≡ p + i = omega arith in
    let f = rw (ne_eqb (0 + (i + 1)) 0 (λ h. omega arith), q) at e in
    ltb-true _ _ (fine_test (ltb (get_or s (p + i) 0) (get_or s (p + (i + 1)) 0)) _ f)

pub rises_code : (s : List ℕ) (p m : ℕ) → ((i : ℕ) → i + 1 < m → get_or s (p + i) 0 < get_or s (p + (i + 1)) 0)
    → (j : ℕ) → j < m → code_order s (p + j) (0 + j) ≡ faultless
rises_code s p m f zero h = refl
rises_code s p m f (suc i) h =
    let a : i + 1 ≡ suc i = omega arith in
    let q : p + suc i - 1 ≡ p + i = omega arith in
    rw (ne_eqb (0 + suc i) 0 (λ h. omega arith), q, lt-ltb _ _ (rw a at (f i (omega arith))))

pub triple_rises : (s : List ℕ) (p i : ℕ) → triple_order s (p + 3 * (i + 1)) (0 + (i + 1)) ≡ faultless → Earlier (step_at s (p + 3 * i)) (step_at s (p + 3 * (i + 1)))
triple_rises s p i e =
    let q : p + 3 * (i + 1) - 3 ≡ p + 3 * i = omega arith in
    let f = rw (ne_eqb (0 + (i + 1)) 0 (λ h. omega arith), q) at e in
    earlier_is _ _ (fine_test (earlier (step_at s (p + 3 * i)) (step_at s (p + 3 * (i + 1)))) _ f)

pub rises_triple : (s : List ℕ) (p t : ℕ) → ((i : ℕ) → i + 1 < t → Earlier (step_at s (p + 3 * i)) (step_at s (p + 3 * (i + 1))))
    → (j : ℕ) → j < t → triple_order s (p + 3 * j) (0 + j) ≡ faultless
rises_triple s p t f zero h = refl
rises_triple s p t f (suc i) h =
    let a : i + 1 ≡ suc i = omega arith in
    let q : p + 3 * suc i - 3 ≡ p + 3 * i = omega arith in
    rw (ne_eqb (0 + suc i) 0 (λ h. omega arith), q, is_earlier _ _ (rw a at (f i (omega arith))))
