-- The definitions of reading a step at a time, in the code's terms.
use Prim.Native.Nat.{ℕ, suc, ◌+◌, ◌-◌, ◌*◌, ◌<◌, ◌≤◌}
use mathlib.Core.Path.{◌≡◌, refl}
use mathlib.Core.Bool.{Bool, true, false}
use mathlib.Core.List.{List}
use native.Mathlib.Omega.{arith}
use lib.ListN.{length, get_or}
use lib.Dec.{ltb, leb}
use borrow.Author.Tests.{leb-false, ltb-true}
use Rattle.settle.specs.Test.{pick}
use Rattle.refusal.specs.Refusal.{chart_refusal}
use Rattle.refusal.specs.declared.Refusal.{Refusal}
use Rattle.chart.specs.Layout.{StepIn}
use Rattle.chart.specs.Reading.{step_at, and_then, presence, code_order, judge_codes, judge_byte, triple_order, judge_triple, judge_triples}
use Rattle.std.specs.Prelude.{Ok, Err}
use Rattle.chart.specs.Reading.{Judged}
use Rattle.chart.specs.Reading.{faultless}

pub codes_step : (s : List ℕ) (at i m : ℕ) → i < m
    → judge_codes s (at + i) i (m - i) ≡ and_then (presence s (at + i)) (and_then (code_order s (at + i) i) (judge_codes s (at + (i + 1)) (i + 1) (m - (i + 1))))
unfolding judge_codes
codes_step s at i m h =
    let e : m - i ≡ suc (m - (i + 1)) = omega arith in
    let q : at + i + 1 ≡ at + (i + 1) = omega arith in
    rw (e, ← q)

pub codes_none : (s : List ℕ) (p i m : ℕ) → m ≤ i → judge_codes s p i (m - i) ≡ faultless
unfolding judge_codes
codes_none s p i m h =
    let e : m - i ≡ 0 = omega arith in
    rw e

pub triples_step : (s : List ℕ) (n m at i t : ℕ) → i < t
    → judge_triples s n m (at + 3 * i) i (t - i) ≡ and_then (judge_triple s n m (at + 3 * i) i) (judge_triples s n m (at + 3 * (i + 1)) (i + 1) (t - (i + 1)))
unfolding judge_triples
triples_step s n m at i t h =
    let e : t - i ≡ suc (t - (i + 1)) = omega arith in
    let q : at + 3 * i + 3 ≡ at + 3 * (i + 1) = omega arith in
    rw (e, ← q)

pub triples_none : (s : List ℕ) (n m p i t : ℕ) → t ≤ i → judge_triples s n m p i (t - i) ≡ faultless
unfolding judge_triples
triples_none s n m p i t h =
    let e : t - i ≡ 0 = omega arith in
    rw e

-- the first of two parts is fine, and so is the second
pub fine_both : (a b : Judged) → and_then a b ≡ faultless → (a ≡ faultless) × (b ≡ faultless)
fine_both (Ok tt) b e = (refl, e)
fine_both (Err r) b e = let z : ◌≡◌ {A = ℕ} 0 1 = cc in absurd (omega arith)

pub fine_test : (x : Bool) (r : Refusal) → pick x faultless (Err r) ≡ faultless → x ≡ true
fine_test true r e = refl
fine_test false r e = let z : ◌≡◌ {A = ℕ} 0 1 = cc in absurd (omega arith)

pub present : (s : List ℕ) (p : ℕ) → presence s p ≡ faultless → p < length s
present s p e = go (leb (length s) p) refl e
  where
    go : (x : Bool) → leb (length s) p ≡ x → pick x (Err (chart_refusal 1 (length s) 0)) faultless ≡ faultless → p < length s
    go true h e = let z : ◌≡◌ {A = ℕ} 0 1 = cc in absurd (omega arith)
    go false h e = leb-false (length s) p h

-- a byte that was judged fine is there, and below its bound
pub byte_fine : (s : List ℕ) (p bound i byte : ℕ) → judge_byte s p bound i byte ≡ faultless → (p < length s) × (get_or s p 0 < bound)
byte_fine s p bound i byte e =
    let a = fine_both (presence s p) _ e in
    (present s p a.0, ltb-true _ _ (fine_test (ltb (get_or s p 0) bound) _ a.1))

-- and so is a triple
pub triple_fine : (s : List ℕ) (n m p i : ℕ) → judge_triple s n m p i ≡ faultless
    → (p + 2 < length s) × StepIn n m (step_at s p) × (triple_order s p i ≡ faultless)
triple_fine s n m p i e =
    let a = fine_both (judge_byte s p n i 0) _ e in
    let b = fine_both (judge_byte s (p + 1) m i 1) _ a.1 in
    let d = fine_both (judge_byte s (p + 2) n i 2) _ b.1 in
    let last = byte_fine s (p + 2) n i 2 d.0 in
    (last.0, record { source_in = (byte_fine s p n i 0 a.0).1; action_in = (byte_fine s (p + 1) m i 1 b.0).1; target_in = last.1 }, d.1)
