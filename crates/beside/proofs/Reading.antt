-- What is known of two charts that were read, in their order or swapped. Assumes nothing.
use Prim.Native.Nat.{ℕ, ◌+◌, ◌≤◌}
use mathlib.Core.Path.{◌≡◌, refl, ap, ap₂, subst, subst₂, ◌∙◌}
use mathlib.Core.Bool.{Bool, true, false}
use mathlib.Core.List.{List}
use native.Mathlib.Omega.{arith}
use lib.Dec.{ltb}
use lib.ListN.{length}
use Rattle.settle.specs.Test.{pick}
use Rattle.refusal.specs.Refusal.{lent_refusal, of_second}
use Rattle.refusal.specs.declared.Input.TheVariants as Input
use Rattle.refusal.specs.declared.Refusal.{Refusal}
use Rattle.chart.specs.Chart.{Chart, states, transitions}
use Rattle.chart.specs.Layout.{Bytes, WellFormed}
use Rattle.chart.specs.Reading.{chart_in, read_chart}
use Rattle.chart.specs.declared.Shape.{Shape}
use Rattle.chart.specs.Fault.{AtFault}
use Rattle.chart.proofs.Exactly.{read_well_formed}
use Rattle.chart.proofs.Refused.{refused as chart_refused}
use Rattle.beside.specs.Beside.{joint_codes, beside, judge_together}
use Rattle.beside.specs.Reading.{two, refused, where_together, read_second, read_first, read_two}
use Rattle.beside.proofs.Formed.{well_formed_exactly}
use Rattle.beside.proofs.Swapped.{judge_swapped}
use Rattle.std.specs.Prelude.{Result, Ok, Err}
use Rattle.chart.specs.Reading.{Judged}
use Rattle.chart.specs.Reading.{faultless}

-- the two charts were accepted, and nothing is wrong with them together
pub record Both (first second : List ℕ) (c d : Chart) : Type 0 where
  pub a : Shape
  pub b : Shape
  pub first_read : read_chart first ≡ Ok a
  pub second_read : read_chart second ≡ Ok b
  pub first_is : chart_in first a ≡ c
  pub second_is : chart_in second b ≡ d
  pub fine : judge_together c d ≡ faultless

module _ (first second : List ℕ) (c d : Chart) where
  pub two_read : read_two first second ≡ two c d → Both first second c d
  two_read = by_first (read_chart first) refl
    where
      together : (a b : Shape) → read_chart first ≡ Ok a → read_chart second ≡ Ok b → (j : Judged) → judge_together (chart_in first a) (chart_in second b) ≡ j
          → where_together j (chart_in first a) (chart_in second b) ≡ two c d → Both first second c d
      together a b e f (Err r) g h = let z : ◌≡◌ {A = ℕ} 0 1 = cc in absurd (omega arith)
      together a b e f (Ok tt) g h =
          let i : chart_in first a ≡ c = cc in
          let k : chart_in second b ≡ d = cc in
          record { a = a; b = b; first_read = e; second_read = f; first_is = i; second_is = k; fine = subst₂ (λ (x y : Chart). judge_together x y ≡ faultless) i k g }

      by_second : (a : Shape) → read_chart first ≡ Ok a → (r : Result Shape Refusal) → read_chart second ≡ r → read_second second (chart_in first a) r ≡ two c d → Both first second c d
      by_second a e (Ok b) f h = together a b e f (judge_together (chart_in first a) (chart_in second b)) refl h
      by_second a e (Err r) f h = let z : ◌≡◌ {A = ℕ} 0 1 = cc in absurd (omega arith)

      by_first : (r : Result Shape Refusal) → read_chart first ≡ r → read_first first second r ≡ two c d → Both first second c d
      by_first (Ok a) e h = by_second a e (read_chart second) refl h
      by_first (Err r) e h = let z : ◌≡◌ {A = ℕ} 0 1 = cc in absurd (omega arith)

  pub read_two_lem : Both first second c d → read_two first second ≡ two c d
  read_two_lem k =
      ap (read_first first second) k.first_read
      ∙ ap (read_second second (chart_in first k.a)) k.second_read
      ∙ ap₂ (λ (x y : Chart). where_together (judge_together x y) x y) k.first_is k.second_is
      ∙ ap (λ (j : Judged). where_together j c d) k.fine

module _ {first second : List ℕ} {c d : Chart} (k : Both first second c d) where
  pub both_swapped : Both second first d c
  both_swapped =
      record { a = k.b; b = k.a; first_read = k.second_read; second_read = k.first_read; first_is = k.second_is; second_is = k.first_is; fine = judge_swapped d c ∙ k.fine }

  module _ (first_bytes : Bytes first) (second_bytes : Bytes second) where
    pub first_formed : WellFormed c
    first_formed = subst WellFormed k.first_is (read_well_formed first k.a first_bytes k.first_read).0

    pub second_formed : WellFormed d
    second_formed = subst WellFormed k.second_is (read_well_formed second k.b second_bytes k.second_read).0

    pub together_formed : WellFormed (beside c d)
    together_formed = (well_formed_exactly c d first_formed second_formed).1 k.fine

-- ---- what they are refused for

-- the first's own refusal; the second's, with its input; or 18, 19 or 20
pub data Refusing (first second : List ℕ) (r : Refusal) : Type 0 where
  of_first : read_chart first ≡ Err r → Refusing first second r
  of_second_lem : (s : Refusal) → read_chart second ≡ Err s → r ≡ of_second s → Refusing first second r
  of_both : (number : ℕ) → 18 ≤ number → number ≤ 20 → r ≡ lent_refusal number → Refusing first second r

pub two_refused : (first second : List ℕ) (r : Refusal) → read_two first second ≡ refused r → Refusing first second r
two_refused first second r = by_first (read_chart first) refl
  where
    together : (x y z : Bool) (c d : Chart) → where_together (pick x (Err (lent_refusal 18)) (pick y (Err (lent_refusal 19)) (pick z (Err (lent_refusal 20)) faultless))) c d ≡ refused r → Refusing first second r
    together true y z c d h = let e : r ≡ lent_refusal 18 = cc in of_both 18 (omega arith) (omega arith) e
    together false true z c d h = let e : r ≡ lent_refusal 19 = cc in of_both 19 (omega arith) (omega arith) e
    together false false true c d h = let e : r ≡ lent_refusal 20 = cc in of_both 20 (omega arith) (omega arith) e
    together false false false c d h = let z : ◌≡◌ {A = ℕ} 0 1 = cc in absurd (omega arith)

    by_second : (c : Chart) (x : Result Shape Refusal) → read_chart second ≡ x → read_second second c x ≡ refused r → Refusing first second r
    by_second c (Ok b) f h = let d = chart_in second b in together (ltb 64 (states c + states d)) (ltb 32 (length (joint_codes c d))) (ltb 1024 (transitions c + transitions d)) c d h
    by_second c (Err s) f h = let e : r ≡ of_second s = cc in of_second_lem s f e

    by_first : (x : Result Shape Refusal) → read_chart first ≡ x → read_first first second x ≡ refused r → Refusing first second r
    by_first (Ok a) e h = by_second (chart_in first a) (read_chart second) refl h
    by_first (Err s) e h = let f : s ≡ r = cc in of_first (e ∙ ap Err f)

-- a refusal of a chart, the first (input 0) or the second (3), says what is wrong in that chart's own bytes
abbrev pub OwnFault : List ℕ → List ℕ → Refusal → Type 0
OwnFault first second r =
    (r.input ≡ Input.Chart → AtFault first r.number r.place r.byte)
    × (r.input ≡ Input.SecondChart → AtFault second r.number r.place r.byte)

-- one of the buffer, or of both, is of neither
pub lent_own : (first second : List ℕ) (number : ℕ) → OwnFault first second (lent_refusal number)
lent_own first second number = (λ i. (let z : ◌≡◌ {A = ℕ} 0 1 = cc in absurd (omega arith)), λ i. (let z : ◌≡◌ {A = ℕ} 0 1 = cc in absurd (omega arith)))

pub two_at_fault : (first second : List ℕ) (r : Refusal) → read_two first second ≡ refused r → OwnFault first second r
two_at_fault first second r e = go (two_refused first second r e)
  where
    go : Refusing first second r → OwnFault first second r
    go (of_first f) =
        let p = chart_refused first r f in
        let i = p.of_chart in
        (λ _. p.at_fault, λ j. (let z : ◌≡◌ {A = ℕ} 0 1 = cc in absurd (omega arith)))
    go (of_second_lem s f g) =
        let p = chart_refused second s f in
        rw g (λ j. (let z : ◌≡◌ {A = ℕ} 0 1 = cc in absurd (omega arith)), λ _. p.at_fault)
    go (of_both number some few g) = rw g (lent_own first second number)
