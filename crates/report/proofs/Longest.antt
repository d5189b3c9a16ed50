-- How long a report can be: at most 18,164 bytes.
use Prim.Native.Nat.{ℕ, zero, suc, ◌+◌, ◌-◌, ◌*◌, ◌/◌, ◌≤◌, ◌<◌}
use mathlib.Core.Path.{◌≡◌, refl, ap}
use mathlib.Core.Bool.{Bool, true, false}
use mathlib.Core.List.{[], ◌∷◌}
use native.Mathlib.Omega.{arith}
use native.Mathlib.Nat.{le_refl}
use native.Mathlib.Decide.{dec_lt, le_ind}
use lib.Dec.{eqb}
use lib.ListN.{length, length-append}
use Rattle.settle.specs.Test.{pick}
use Rattle.refusal.specs.Refusal.{input_number}
use Rattle.refusal.specs.declared.Refusal.{Refusal}
use Rattle.refusal.specs.declared.Input.TheVariants as Input
use Rattle.text.specs.Text.{decimal, line}
use Rattle.text.proofs.Laws.{width_small, width_step, length_line}
use Rattle.report.specs.Text.{states_word, rounds_word, refused_text, pair_text, row_text, rows_text, chart_text}
use Rattle.report.proofs.Laws.{count_length, refused_length, chart_length}

-- ---- numbers

-- ten times as great, one digit more
ten_times : (d bound : ℕ) → 1 ≤ d → ((y : ℕ) → y < bound → length (decimal y) ≤ d) → (x : ℕ) → x < 10 * bound → length (decimal x) ≤ d + 1
ten_times d bound some less x h = go (dec_lt x 10)
  where
    go : Dec (x < 10) → length (decimal x) ≤ d + 1
    go (yes s) = omega (arith, width_small x s)
    go (no s) =
        let big : 10 ≤ x = omega arith in
        omega (arith, width_step x big, less (x / 10) (omega arith))

one_digit : (x : ℕ) → x < 10 → length (decimal x) ≤ 1
one_digit x h = omega (arith, width_small x h)

two_digits : (x : ℕ) → x < 100 → length (decimal x) ≤ 2
two_digits = ten_times 1 10 (omega arith) one_digit

four_digits : (x : ℕ) → x < 10000 → length (decimal x) ≤ 4
four_digits = ten_times 3 1000 (omega arith) (ten_times 2 100 (omega arith) two_digits)

-- ---- lines

pair_most : (p q mark : ℕ) → p < 100 → q < 100 → mark < 100 → length (pair_text p q mark) ≤ 9
unfolding pair_text
pair_most p q mark hp hq hm = go (eqb mark 0)
  where
    go : (b : Bool) → length {A = ℕ} (pick b [] (line (p ∷ q ∷ mark ∷ []))) ≤ 9
    go true = omega arith
    go false = omega (arith, length_line p q mark, two_digits p hp, two_digits q hq, two_digits mark hm)

-- the lines of so many states of 64, each with those above it
unfoldable total : ℕ → ℕ
total zero = 0
total (suc k) = total k + 9 * (63 - k)

total_all : total 64 ≡ 18144
unfolding total
total_all = refl

total_within : (k : ℕ) → k ≤ 64 → total k ≤ 18144
unfolding total
total_within k h = rw (← total_all) (le_ind (λ j. total k ≤ total j) (le_refl _) (λ j g l. omega arith) 64 h)

module _ (n : ℕ) (few : n ≤ 64) (mark : ℕ → ℕ → ℕ) (small : (p q : ℕ) → p < n → q < n → mark p q < 100) where
  row_most : (p k : ℕ) → p + 1 + k ≤ n → length (row_text mark p k) ≤ 9 * k
  unfolding row_text
  row_most p zero h = omega arith
  row_most p (suc k) h =
      let q : ℕ = p + 1 + k in
      let most : length (pair_text p q (mark p q)) ≤ 9 = pair_most p q (mark p q) (omega arith) (omega arith) (small p q (omega arith) (omega arith)) in
      omega (arith, length-append (row_text mark p k) (pair_text p q (mark p q)), row_most p k (omega arith))

  rows_most : (k : ℕ) → k ≤ n → length (rows_text mark n k) ≤ total k
  unfolding rows_text total
  rows_most zero h = omega arith
  rows_most (suc k) h =
      omega (arith, length-append (rows_text mark n k) (row_text mark k (n - 1 - k)), rows_most k (omega arith), row_most k (n - 1 - k) (omega arith))

  pub chart_most : (rounds : ℕ) → rounds < 100 → length (chart_text n rounds mark) ≤ 18164
  chart_most rounds h =
      omega (
        arith,
        chart_length n rounds mark,
        count_length states_word n,
        count_length rounds_word rounds,
        two_digits n (omega arith),
        two_digits rounds h,
        rows_most n (le_refl n),
        total_within n few,
      )

-- ---- a chart's refusal

pub refused_most : (r : Refusal) → r.input ≡ Input.Chart → r.number ≤ 8 → r.place ≤ 3172 → r.byte < 3 → length (refused_text r) ≤ 19
refused_most r e h k l =
    let i : input_number r.input ≡ 0 = ap input_number e in
    omega (
      arith,
      refused_length r,
      length_line r.number r.place r.byte,
      one_digit (input_number r.input) (omega arith),
      one_digit r.number (omega arith),
      four_digits r.place (omega arith),
      one_digit r.byte (omega arith),
    )
