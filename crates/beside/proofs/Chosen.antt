-- The numbers below k that pass a test: which they are, how many, and that they rise. Assumes nothing.
use Prim.Native.Nat.{ℕ, zero, suc, ◌+◌, ◌≤◌, ◌<◌}
use mathlib.Core.Path.{◌≡◌, refl, ap, ◌∙◌}
use mathlib.Core.Bool.{Bool, true, false, So}
use mathlib.Core.List.Memᴰ
use mathlib.Core.List.Memᴰ.{eq_of_singleton as only_one}
use mathlib.Core.List.Memᴰ.{head as here}
use mathlib.Core.List.Memᴰ.{not-nil}
use mathlib.Core.List.{List, [], ◌∷◌, ◌++◌, append-nil, Memᴰ as Mem}
use mathlib.Core.Logic.{inl, inr}
use native.Mathlib.Nat.{not-suc-le-zero}
use native.Mathlib.Decide.{ℕ_discrete}
use native.Mathlib.Numerals.{add-one}
use native.Mathlib.Omega.{arith}
use lib.ListN.{length, length-append}
use Rattle.settle.specs.Test.{pick}
use Rattle.settle.proofs.Test.{never, picked, unpicked}
use Rattle.chart.specs.Layout.{Rising}
use Rattle.beside.specs.Chosen.{chosen}
use Rattle.chart.proofs.Rising.{rising_append}

-- ---- the last of them

last_i : (b : Bool) (k x : ℕ) → x ≡ k → So b → Mem x (pick b (k ∷ []) [])
last_i true k x e t = here e
last_i false k x e t = never t

last_e : (b : Bool) (k x : ℕ) → Mem x (pick b (k ∷ []) []) → (x ≡ k) × So b
last_e true k x m = (only_one m, refl)
last_e false k x m = absurd (not-nil m)

last_rising : (b : Bool) (k : ℕ) → Rising ◌<◌ (pick b (k ∷ []) [])
unfolding Rising
last_rising true k = tt
last_rising false k = tt

last_length : (b : Bool) (k : ℕ) → length (pick b (k ∷ []) []) ≤ 1
last_length true k = omega arith
last_length false k = omega arith

-- ---- all of them

pub chosen_i : (passes : ℕ → Bool) (k x : ℕ) → x < k → So (passes x) → Mem x (chosen passes k)
unfolding chosen
chosen_i passes zero x h t = absurd (not-suc-le-zero h)
chosen_i passes (suc k) x h t = elim (ℕ_discrete x k) [ yes e ↦ Memᴰ.append_right (chosen passes k) (last_i (passes k) k x e (rw e at t)) | no f ↦ Memᴰ.append_left _ (chosen_i passes k x (omega arith) t) ]

pub chosen_e : (passes : ℕ → Bool) (k x : ℕ) → Mem x (chosen passes k) → (x < k) × So (passes x)
unfolding chosen
chosen_e passes zero x m = absurd (not-nil m)
chosen_e passes (suc k) x m = elim (Memᴰ.append_cases (chosen passes k) m) [ inl i ↦ let r = chosen_e passes k x i in (omega arith, r.1) | inr i ↦ let r = last_e (passes k) k x i in (omega arith, rw r.0 r.1) ]

pub chosen_rising : (passes : ℕ → Bool) (k : ℕ) → Rising ◌<◌ (chosen passes k)
unfolding chosen Rising
chosen_rising passes zero = tt
chosen_rising passes (suc k) = rising_append ◌<◌ (chosen passes k) _ (chosen_rising passes k) (last_rising (passes k) k) (λ x y i j. omega (arith, (chosen_e passes k x i).0, (last_e (passes k) k y j).0))

pub chosen_length : (passes : ℕ → Bool) (k : ℕ) → length (chosen passes k) ≤ k
unfolding chosen
chosen_length passes zero = omega arith
chosen_length passes (suc k) = omega (arith, length-append (chosen passes k) (pick (passes k) (k ∷ []) []), chosen_length passes k, last_length (passes k) k)

-- where every number passes
pub chosen_all : (k : ℕ) → length (chosen (λ x. true) k) ≡ k
unfolding chosen
chosen_all zero = refl
chosen_all (suc k) = omega (arith, length-append (chosen (λ x. true) k) (k ∷ []), chosen_all k)

pub chosen_cong : (passes others : ℕ → Bool) (k : ℕ) → ((x : ℕ) → x < k → passes x ≡ others x) → chosen passes k ≡ chosen others k
unfolding chosen
chosen_cong passes others zero e = refl
chosen_cong passes others (suc k) e = rw (chosen_cong passes others k (λ x h. e x (omega arith)), e k (omega arith))

-- one number further
pub chosen_more : (passes : ℕ → Bool) (k : ℕ) → So (passes k) → chosen passes (k + 1) ≡ chosen passes k ++ (k ∷ [])
unfolding chosen
chosen_more passes k t = rw add-one (ap (λ (l : List ℕ). chosen passes k ++ l) (picked (k ∷ []) [] (passes k) t))

pub chosen_skip : (passes : ℕ → Bool) (k : ℕ) → (So (passes k) → ⊥) → chosen passes (k + 1) ≡ chosen passes k
unfolding chosen
chosen_skip passes k f = rw add-one (ap (λ (l : List ℕ). chosen passes k ++ l) (unpicked (k ∷ []) [] (passes k) f) ∙ append-nil (chosen passes k))
