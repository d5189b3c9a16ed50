-- A number in decimal is what it should be: its digits stand for the number, each is one of '0' to '9', and none leads with a '0' but 0 itself.
use Prim.Native.Nat.{ℕ, ◌+◌, ◌-◌, ◌*◌, ◌/◌, ◌%◌, ◌<◌, ◌≤◌}
use mathlib.Core.Path.{◌≡◌, refl}
use mathlib.Core.List.Memᴰ.{append_cases}
use mathlib.Core.List.Memᴰ.{eq_of_singleton}
use mathlib.Core.List.{List, [], ◌∷◌, ◌++◌, Memᴰ as Mem}
use mathlib.Core.Logic.{⊎_elim}
use native.Mathlib.Omega.{arith}
use lib.ListN.{get_or, get_or-append}
use Rattle.text.specs.Text.{decimal, read_on}
use Rattle.text.proofs.Laws.{by_tenths, decimal_small, decimal_step, width_some}

read_last : (so : ℕ) (s : List ℕ) (digit : ℕ) → read_on so (s ++ (digit ∷ [])) ≡ 10 * read_on so s + (digit - 48)
unfolding read_on
read_last so [] digit = refl
read_last so (x ∷ s) digit = read_last (10 * so + (x - 48)) s digit

pub decimal_reads_back : (x : ℕ) → read_on 0 (decimal x) ≡ x
unfolding read_on
decimal_reads_back = by_tenths (λ x. read_on 0 (decimal x) ≡ x) small step
  where
    small : (x : ℕ) → x < 10 → read_on 0 (decimal x) ≡ x
    small x h = rw (decimal_small x h) (omega arith)

    step : (x : ℕ) → 10 ≤ x → read_on 0 (decimal (x / 10)) ≡ x / 10 → read_on 0 (decimal x) ≡ x
    step x h e = rw (decimal_step x h, read_last, e) (omega arith)

pub decimal_digits : (x digit : ℕ) → Mem digit (decimal x) → (48 ≤ digit) × (digit ≤ 57)
decimal_digits = by_tenths (λ x. (digit : ℕ) → Mem digit (decimal x) → (48 ≤ digit) × (digit ≤ 57)) small step
  where
    small : (x : ℕ) → x < 10 → (digit : ℕ) → Mem digit (decimal x) → (48 ≤ digit) × (digit ≤ 57)
    small x h digit m = let e : digit ≡ 48 + x = eq_of_singleton (rw (decimal_small x h) at m) in omega arith

    step : (x : ℕ) → 10 ≤ x → ((digit : ℕ) → Mem digit (decimal (x / 10)) → (48 ≤ digit) × (digit ≤ 57)) → (digit : ℕ) → Mem digit (decimal x) → (48 ≤ digit) × (digit ≤ 57)
    step x h tenth digit m =
        ⊎_elim (tenth digit) (λ n. let e : digit ≡ 48 + x % 10 = eq_of_singleton n in omega arith) (append_cases (decimal (x / 10)) (rw (decimal_step x h) at m))

pub decimal_leads : (x : ℕ) → 1 ≤ x → 49 ≤ get_or (decimal x) 0 0
decimal_leads = by_tenths (λ x. 1 ≤ x → 49 ≤ get_or (decimal x) 0 0) small step
  where
    small : (x : ℕ) → x < 10 → 1 ≤ x → 49 ≤ get_or (decimal x) 0 0
    small x h l = rw (decimal_small x h) (omega arith)

    step : (x : ℕ) → 10 ≤ x → (1 ≤ x / 10 → 49 ≤ get_or (decimal (x / 10)) 0 0) → 1 ≤ x → 49 ≤ get_or (decimal x) 0 0
    step x h tenth l = rw (decimal_step x h, get_or-append (decimal (x / 10)) ((48 + x % 10) ∷ []) 0 0 (width_some (x / 10))) (tenth (omega arith))
