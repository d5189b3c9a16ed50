-- What the words of a chart's table say of its steps: what makes a state able to step into a set (-i), and what follows where it is (-e).
use Prim.Native.Nat.{ℕ, ◌+◌, ◌*◌, ◌^◌, ◌≤◌, ◌<◌}
use mathlib.Core.Path.{◌≡◌, sym, ap₂, ◌∙◌}
use mathlib.Core.Bool.{So}
use mathlib.Core.List.Memᴰ
use mathlib.Core.List.{List, Memᴰ as Mem}
use native.Mathlib.Nat.{mul-le-mul_right}
use native.Mathlib.Omega.{arith}
use lib.ListN.{length}
use Rattle.settle.specs.Test.{either}
use native.Mathlib.Decide.{dec_le}
use Rattle.settle.proofs.Test.{never}
use Rattle.chart.specs.Chart.{Step}
use Rattle.words.specs.Words.{member}
use Rattle.words.proofs.Words.{no_member, none_member, word_small, word_of_lem}
use Rattle.steps.specs.Table.{Table, Sized, HasStep}
use Rattle.steps.specs.Walk.{leads}
use Rattle.steps.proofs.Leads.{leads_i, leads_e, leads_small}

pub sized : {n m : ℕ} {steps : List Step} {into : List ℕ} → Table n m steps into → Sized n m into
sized T = record { room = T.room; no_bit_above = T.no_bit_above }

-- a member of a set of states is a state
pub member_below : (n w x : ℕ) → w < 2 ^ n → So (member w x) → x < n
member_below n w x h t = elim (dec_le n x) [ yes l ↦ never (sym (no_member n w x h l) ∙ t) | no f ↦ omega arith ]

-- ---- a step of a set by one row of a table

module _ {n m : ℕ} {into : List ℕ} (T : Sized n m into) (row set : ℕ) where
  -- the words of the row are there
  pub row_there : row ≤ m → set < 2 ^ n → (u : ℕ) → So (member set u) → row * n + u < length into
  row_there row_in small u i = omega (arith, T.room, mul-le-mul_right {m = row + 1} {n = m + 1} n (omega arith), member_below n set u small i)

  module _ (r : ℕ) (is : (s : ℕ) → member r s ≡ either (member 0 s) (leads into (row * n) set s)) where
    pub sources_are : (s : ℕ) → member r s ≡ leads into (row * n) set s
    unfolding either
    sources_are s = is s ∙ rw (none_member s)

    -- all of which are states
    pub sources_small : n ≤ 64 → r < 2 ^ 64 → r < 2 ^ n
    sources_small few h = word_small n r _ (word_of_lem n r (leads into (row * n) set) few h sources_are (λ s l. leads_small n into _ set s T.no_bit_above l))

-- a step, by its source and its action
pub has_step : {steps : List Step} {q a : ℕ} (u : Step) → Mem u steps → u.source ≡ q → u.action ≡ a → HasStep steps q a u.target
has_step u i e f = Memᴰ.cast (ap₂ (λ (s b : ℕ). record { source = s; action = b; target = u.target }) (sym e) (sym f)) i

module _ {n m : ℕ} {steps : List Step} {into : List ℕ} (few : n ≤ 64) (T : Table n m steps into) (a : ℕ) (a_in : a < m) where
  pub lead_i : (set q u : ℕ) → u < n → So (member set u) → HasStep steps q a u → So (leads into ((a + 1) * n) set q)
  lead_i set q u u_in s i = leads_i into ((a + 1) * n) set q u (omega arith) s ((T.by_action a u q a_in u_in).1 i)

  pub lead_e : (set q : ℕ) → set < 2 ^ n → So (leads into ((a + 1) * n) set q) → (u : ℕ) × So (member set u) × HasStep steps q a u
  lead_e set q small t = let r = leads_e into ((a + 1) * n) set q t in (r.0, r.2, (T.by_action a r.0 q a_in (member_below n set r.0 small r.2)).0 r.3)
