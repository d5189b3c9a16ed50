-- Which pairs a line relies on, step by step. Assumes nothing.
use Prim.Native.Nat.{ℕ, zero, suc}
use mathlib.Core.Path.{◌≡◌, refl, ap, subst, subst⁻¹, ◌∙◌}
use mathlib.Core.Bool.{Bool, true, false, So}
use mathlib.Core.List.Memᴰ.{cases_cons}
use mathlib.Core.List.Memᴰ.{head as here}
use mathlib.Core.List.Memᴰ.{not-nil}
use mathlib.Core.List.Memᴰ.{tail as there}
use mathlib.Core.List.{List, [], ◌∷◌, map, Memᴰ as Mem}
use mathlib.Core.Logic.{◌⊎◌, inl, inr, ⊎_elim, ◌↔◌}
use Rattle.settle.specs.Test.{pick}
use Rattle.settle.proofs.Test.{never}
use Rattle.chart.specs.Chart.{Step}
use Rattle.sheet.specs.Meaning.{leaves}
use Rattle.sheet.proofs.Meaning.{leaves_i, leaves_e}
use Rattle.reason.specs.Line.{Line, MovesBy, IsMove, answers, relies, relies_by}

-- ---- the members of a list that is mapped

module _ {A B : Type 0} (f : A → B) where
  map_i : (xs : List A) (x : A) → Mem x xs → Mem (f x) (map f xs)
  map_i [] x m = absurd (not-nil m)
  map_i (y ∷ xs) x m = ⊎_elim (λ e. here (rw e)) (λ k. there (map_i xs x k)) (cases_cons m)

  map_e : (xs : List A) (y : B) → Mem y (map f xs) → (x : A) × Mem x xs × (y ≡ f x)
  map_e [] y m = absurd (not-nil m)
  map_e (x ∷ xs) y m = ⊎_elim (λ e. (x, here refl, e)) (λ k. let r = map_e xs y k in (r.0, there r.1, r.2)) (cases_cons m)

-- ---- the answering states

module _ (s action : ℕ) where
  answers_i : (steps : List Step) (u : Step) → Mem u steps → u.source ≡ s → u.action ≡ action → Mem u.target (answers steps s action)
  unfolding answers
  answers_i [] u m e f = absurd (not-nil m)
  answers_i (t ∷ rest) u m e f = ⊎_elim (λ h. first (leaves s action t) (subst (λ (x : Step). So (leaves s action x)) h (leaves_i s action u e f)) (rw h)) (λ k. later (leaves s action t) (answers_i rest u k e f)) (cases_cons m)
    where
      first : (b : Bool) → So b → u.target ≡ t.target → Mem u.target (pick b (t.target ∷ answers rest s action) (answers rest s action))
      first true h g = here g
      first false h g = never h

      later : (b : Bool) → Mem u.target (answers rest s action) → Mem u.target (pick b (t.target ∷ answers rest s action) (answers rest s action))
      later true k = there k
      later false k = k

  abbrev Answering : List Step → ℕ → Type 0
  Answering steps x = (u : Step) × Mem u steps × (u.source ≡ s) × (u.action ≡ action) × (x ≡ u.target)

  answers_e : (steps : List Step) (x : ℕ) → Mem x (answers steps s action) → Answering steps x
  unfolding answers
  answers_e [] x m = absurd (not-nil m)
  answers_e (t ∷ rest) x m = go (leaves s action t) refl (answers_e rest x) m
    where
      further : Answering rest x → Answering (t ∷ rest) x
      further r = (r.0, there r.1, r.2, r.3, r.4)

      go : (b : Bool) → leaves s action t ≡ b → (Mem x (answers rest s action) → Answering rest x) → Mem x (pick b (t.target ∷ answers rest s action) (answers rest s action)) → Answering (t ∷ rest) x
      go true e f k = ⊎_elim (λ h. let d = leaves_e s action t e in (t, here refl, d.0, d.1, h)) (λ i. further (f i)) (cases_cons k)
      go false e f k = further (f k)

-- ---- the pairs

-- each answering state of s in a pair
answering : (steps : List Step) (s action : ℕ) (f : ℕ → ℕ × ℕ) (x : ℕ × ℕ) → Mem x (map f (answers steps s action)) ↔ ((u : Step) × Mem u steps × (u.source ≡ s) × (u.action ≡ action) × (x ≡ f u.target))
answering steps s action f x = (
  λ m. let r = map_e f _ x m in let a = answers_e s action steps r.0 r.1 in (a.0, a.1, a.2, a.3, r.2 ∙ ap f a.4),
  λ a. subst⁻¹ (λ (y : ℕ × ℕ). Mem y (map f (answers steps s action))) a.4 (map_i f _ a.0.target (answers_i s action steps a.0 a.1 a.2 a.3)),
)

module _ (steps : List Step) (l : Line) where
  pub relies_0 : l.side ≡ 0 → (x : ℕ × ℕ) → Mem x (relies steps l) ↔ ((u : Step) × Mem u steps × (u.source ≡ l.q) × (u.action ≡ l.action) × (x ≡ (l.target, u.target)))
  relies_0 e x =
      let a = answering steps l.q l.action (λ u. (l.target, u)) x in
      (λ m. a.0 (subst (λ (side : ℕ). Mem x (relies_by steps side l)) e m), λ u. subst⁻¹ (λ (side : ℕ). Mem x (relies_by steps side l)) e (a.1 u))

  pub relies_1 : l.side ≡ 1 → (x : ℕ × ℕ) → Mem x (relies steps l) ↔ ((u : Step) × Mem u steps × (u.source ≡ l.p) × (u.action ≡ l.action) × (x ≡ (u.target, l.target)))
  relies_1 e x =
      let a = answering steps l.p l.action (λ u. (u, l.target)) x in
      (λ m. a.0 (subst (λ (side : ℕ). Mem x (relies_by steps side l)) e m), λ u. subst⁻¹ (λ (side : ℕ). Mem x (relies_by steps side l)) e (a.1 u))

-- ---- the move

pub no_other_side : (steps : List Step) (l : Line) → IsMove steps l → (l.side ≡ 0) ⊎ (l.side ≡ 1)
no_other_side steps l = by_side l.side refl
  where
    by_side : (side : ℕ) → l.side ≡ side → MovesBy steps side l → (l.side ≡ 0) ⊎ (l.side ≡ 1)
    by_side zero e m = inl e
    by_side (suc zero) e m = inr e
    by_side (suc (suc side)) e m = absurd m

module _ (steps : List Step) (l : Line) where
  pub move_0 : l.side ≡ 0 → IsMove steps l ↔ Mem (record { source = l.p; action = l.action; target = l.target }) steps
  move_0 e = (λ m. subst (λ (side : ℕ). MovesBy steps side l) e m, λ m. subst⁻¹ (λ (side : ℕ). MovesBy steps side l) e m)

  pub move_1 : l.side ≡ 1 → IsMove steps l ↔ Mem (record { source = l.q; action = l.action; target = l.target }) steps
  move_1 e = (λ m. subst (λ (side : ℕ). MovesBy steps side l) e m, λ m. subst⁻¹ (λ (side : ℕ). MovesBy steps side l) e m)
