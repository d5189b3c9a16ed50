-- What the short forms mean, in 001's words. Assumes nothing.
use mathlib.Core.Path.{◌≡◌, refl, sym, subst, ◌∙◌}
use mathlib.Core.Bool.{Bool, So}
use mathlib.Core.List.{List, Memᴰ as Mem}
use mathlib.Core.Logic.{inl, inr, ◌↔◌}
use Prim.Native.Nat.{ℕ, zero, suc, ◌<◌}
use lib.Dec.{eqb}
use borrow.Author.Tests.{eqb-true, eq-eqb}
use Rattle.settle.specs.Test.{some, each}
use Rattle.settle.specs.Finite.{below}
use Rattle.settle.specs.Chain.{Inside, empty, full, chain, Settled}
use Rattle.settle.proofs.Test.{never, stable, both_i, both_e, both_n, either_l, either_r, either_e, some_i, some_e, each_i, each_e, each_n}
use Rattle.settle.proofs.Finite.{below_i}
use Rattle.chart.specs.Chart.{Step, Chart, states, actions}
use Rattle.chart.specs.Layout.{StepIn}
use Rattle.sheet.specs.Formula.{every, Formula, variable_free}
use Rattle.sheet.specs.Meaning.{some_label, every_label, holds}
use Rattle.sheet.specs.Solution.{applied, Satisfies, applications}
use Rattle.sheet.proofs.Meaning.{some_every, every_every, free_same}
use Rattle.sheet.proofs.Solution.{sheet_rounds, satisfies_iff}
use Rattle.short_form.specs.ShortForm.{always, possible, safe_path, eventually, kind_written}
use Rattle.short_form.specs.Reachable.{Reachable, stay, onward, Goes, Run}

-- where each kept state has a next, there is a run through kept states
module _ (steps : List Step) (Kept : ℕ → Type 0) (next : (u : ℕ) → Kept u → (v : ℕ) × Kept v × Goes steps u v) (s : ℕ) (kept : Kept s) where
  walk : ℕ → (u : ℕ) × Kept u
  walk zero = (s, kept)
  walk (suc k) = let x = walk k in let y = next x.0 x.1 in (y.0, y.1)

  run_through : (at : ℕ → ℕ) × Run steps s at × ((k : ℕ) → Kept (at k))
  unfolding walk
  run_through = (λ k. (walk k).0, record { starts = refl; goes = λ k. (next (walk k).0 (walk k).1).2 }, λ k. (walk k).1)

module _ (c : Chart) (steps_in : (t : Step) → Mem t c.steps → StepIn (states c) (actions c) t) where
  -- ---- every action: any step at all

  module _ (P : ℕ → Bool) (s : ℕ) where
    some_is : some_label (actions c) c.steps every P s ≡ some (λ t. eqb t.source s) (λ t. P t.target) c.steps
    some_is = some_every (actions c) c.steps P s (λ t i. (steps_in t i).action_in)

    each_is : every_label (actions c) c.steps every P s ≡ each (λ t. eqb t.source s) (λ t. P t.target) c.steps
    each_is = every_every (actions c) c.steps P s (λ t i. (steps_in t i).action_in)

    pub diamond_i : (t : Step) → Mem t c.steps → t.source ≡ s → So (P t.target) → So (some_label (actions c) c.steps every P s)
    diamond_i t i e h = some_is ∙ some_i _ _ i (eq-eqb _ _ e) h

    diamond_e : So (some_label (actions c) c.steps every P s) → (t : Step) × Mem t c.steps × (t.source ≡ s) × So (P t.target)
    diamond_e h = let r = some_e _ _ _ (sym some_is ∙ h) in (r.0, r.1, eqb-true _ _ r.2, r.3)

    pub box_i : ((t : Step) → Mem t c.steps → t.source ≡ s → So (P t.target)) → So (every_label (actions c) c.steps every P s)
    box_i f = each_is ∙ each_i _ _ _ (λ t i e. f t i (eqb-true _ _ e))

    pub box_e : So (every_label (actions c) c.steps every P s) → (t : Step) → Mem t c.steps → t.source ≡ s → So (P t.target)
    box_e h t i e = each_e _ _ (sym each_is ∙ h) i (eq-eqb _ _ e)

    pub box_n : (So (every_label (actions c) c.steps every P s) → ⊥) → (t : Step) × Mem t c.steps × (t.source ≡ s) × (So (P t.target) → ⊥)
    box_n f = let r = each_n _ _ _ (λ h. f (each_is ∙ h)) in (r.0, r.1, eqb-true _ _ r.2, r.3)

  -- ---- a sheet's solution is the last of its rounds

  module _ (kind : ℕ) (g : Formula) where
    settles : ℕ
    settles = (sheet_rounds c (λ t i. (steps_in t i).target_in) g kind).0

    settled : Settled (below (states c)) (applications c kind g) settles
    unfolding settles
    settled = (sheet_rounds c (λ t i. (steps_in t i).target_in) g kind).2.0

    last_round : (s : ℕ) → s < states c → So (applications c kind g settles s) ↔ Satisfies c kind g s
    last_round s h = satisfies_iff c (λ t i. (steps_in t i).target_in) g kind settles settled s h

  -- ---- the forms

  module _ (f : Formula) (free : So (variable_free f)) where
    -- F holds at a state
    abbrev pub F : ℕ → Type 0
    F s = So (holds (actions c) c.steps f empty s)

    known : (T : ℕ → Bool) (s : ℕ) → So (holds (actions c) c.steps f T s) → F s
    known T s h = free_same _ _ f free empty T s ∙ h

    given : (T : ℕ → Bool) (s : ℕ) → F s → So (holds (actions c) c.steps f T s)
    given T s h = free_same _ _ f free T empty s ∙ h

    -- F always: it holds at every state that can be reached
    pub always_means : (s : ℕ) → s < states c → Satisfies c (kind_written 0) (always f) s ↔ ((u : ℕ) → Reachable c.steps s u → F u)
    unfolding holds chain full
    always_means s h = (λ r u p. along r.0 r.1 p h r.2, λ all. (last_round (kind_written 0) (always f) s h).0 (lasts (settles (kind_written 0) (always f)) s all))
      where
        along : (T : ℕ → Bool) → Inside (below (states c)) T (applied c (always f) T) → {s u : ℕ} → Reachable c.steps s u → s < states c → So (T s) → F u
        along T inside {s} stay h t = known T s (both_e _ _ (inside s (below_i _ s h) t)).0
        along T inside {s} (onward v i e p) h t = along T inside p (steps_in v i).target_in (box_e _ s (both_e _ _ (inside s (below_i _ s h) t)).1 v i e)

        lasts : (k s : ℕ) → ((u : ℕ) → Reachable c.steps s u → F u) → So (chain (applied c (always f)) full k s)
        lasts zero s all = refl
        lasts (suc k) s all = both_i (given _ s (all s stay)) (box_i _ s (λ t i e. lasts k t.target (λ u p. all u (onward t i e p))))

    -- F possible: it holds at some state that can be reached
    pub possible_means : (s : ℕ) → s < states c → Satisfies c (kind_written 1) (possible f) s ↔ ((u : ℕ) × Reachable c.steps s u × F u)
    unfolding holds chain empty
    possible_means s h = (λ r. found (settles (kind_written 1) (possible f)) s ((last_round (kind_written 1) (possible f) s h).1 r), λ r T inside. back T inside r.1 h r.2)
      where
        found : (k s : ℕ) → So (chain (applied c (possible f)) empty k s) → (u : ℕ) × Reachable c.steps s u × F u
        found zero s t = never t
        found (suc k) s t = elim (either_e _ _ t) [ inl p ↦ (s, stay, known _ s p) | inr p ↦ let d = diamond_e _ s p in let r = found k d.0.target d.3 in (r.0, onward d.0 d.1 d.2 r.1, r.2) ]

        back : (T : ℕ → Bool) → Inside (below (states c)) (applied c (possible f) T) T → {s u : ℕ} → Reachable c.steps s u → s < states c → F u → So (T s)
        back T inside {s} stay h t = inside s (below_i _ s h) (either_l _ (given T s t))
        back T inside {s} (onward v i e p) h t = inside s (below_i _ s h) (either_r _ (diamond_i _ s v i e (back T inside p (steps_in v i).target_in t)))

    -- a safe path: F holds all along some run
    pub safe_path_means : (s : ℕ) → s < states c → Satisfies c (kind_written 2) (safe_path f) s ↔ ((at : ℕ → ℕ) × Run c.steps s at × ((k : ℕ) → F (at k)))
    unfolding holds chain full
    safe_path_means s h = (
      λ r.
          let T = r.0 in
          let w = run_through c.steps (λ u. (u < states c) × So (T u)) (λ u p. next T r.1 u p.0 p.1) s (h, r.2) in
          (w.0, w.1, λ k. known T (w.0 k) (both_e _ _ (r.1 (w.0 k) (below_i _ _ (w.2 k).0) (w.2 k).1)).0),
      λ r. (last_round (kind_written 2) (safe_path f) s h).0 (subst (λ u. So (chain (applied c (safe_path f)) full (settles (kind_written 2) (safe_path f)) u)) r.1.starts (lasts r.0 r.1.goes r.2 (settles (kind_written 2) (safe_path f)) 0)),
    )
      where
        next : (T : ℕ → Bool) → Inside (below (states c)) T (applied c (safe_path f) T) → (u : ℕ) → u < states c → So (T u)
            → (v : ℕ) × ((v < states c) × So (T v)) × Goes c.steps u v
        next T inside u h t = elim (either_e _ _ (both_e _ _ (inside u (below_i _ u h) t)).1) [ inl b ↦ (u, (h, t), inr (λ t i e. never (box_e _ u b t i e), refl)) | inr p ↦ let d = diamond_e _ u p in (d.0.target, ((steps_in _ d.1).target_in, d.3), inl (d.0, d.1, d.2, refl)) ]

        lasts : (at : ℕ → ℕ) → ((k : ℕ) → Goes c.steps (at k) (at (suc k))) → ((k : ℕ) → F (at k)) → (k j : ℕ) → So (chain (applied c (safe_path f)) full k (at j))
        lasts at goes all zero j = refl
        lasts at goes all (suc k) j = both_i (given _ (at j) (all j)) (elim (goes j) [ inl t ↦ either_r _ (diamond_i _ (at j) t.0 t.1 t.2 (subst (λ u. So (chain (applied c (safe_path f)) full k u)) (sym t.3) (lasts at goes all k (suc j)))) | inr p ↦ either_l _ (box_i _ (at j) (λ t i e. absurd (p.0 t i e))) ])

    -- where eventually F is not satisfied, some run never comes to F
    pub missed : (s : ℕ) → s < states c → (Satisfies c (kind_written 3) (eventually f) s → ⊥) → (at : ℕ → ℕ) × Run c.steps s at × ((k : ℕ) → F (at k) → ⊥)
    unfolding holds chain empty
    missed s h not =
        let w = run_through c.steps (λ u. (u < states c) × (So (T u) → ⊥)) (λ u p. next u p.0 p.1) s (h, λ t. not ((last_round (kind_written 3) (eventually f) s h).0 t)) in
        (w.0, w.1, λ k t. (w.2 k).1 (here _ (w.2 k).0 (either_l _ (given T _ t))))
      where
        T : ℕ → Bool
        T = applications c (kind_written 3) (eventually f) (settles (kind_written 3) (eventually f))

        here : (u : ℕ) → u < states c → So (applied c (eventually f) T u) → So (T u)
        here u h t = settled (kind_written 3) (eventually f) u (below_i _ u h) ∙ t

        next : (u : ℕ) → u < states c → (So (T u) → ⊥) → (v : ℕ) × ((v < states c) × (So (T v) → ⊥)) × Goes c.steps u v
        next u h not = elim (both_n _ _ (λ b. not (here u h (either_r _ b)))) [ inl none ↦ (u, (h, not), inr (λ t i e. none (diamond_i _ u t i e refl), refl)) | inr some ↦ let d = box_n T u some in (d.0.target, ((steps_in _ d.1).target_in, d.3), inl (d.0, d.1, d.2, refl)) ]

    -- F eventually: every run comes to F; one that is stuck where F has not come does not
    pub eventually_means : (s : ℕ) → s < states c → Satisfies c (kind_written 3) (eventually f) s ↔ ((at : ℕ → ℕ) → Run c.steps s at → (k : ℕ) × F (at k))
    unfolding holds chain empty
    eventually_means s h = (
      λ r at run. comes at run.goes rounds 0 (subst (λ u. So (applications c (kind_written 3) (eventually f) rounds u)) (sym run.starts) ((last_round (kind_written 3) (eventually f) s h).1 r)),
      λ all. (last_round (kind_written 3) (eventually f) s h).0 (stable _ (λ not.
          let w = missed s h (λ r. not ((last_round (kind_written 3) (eventually f) s h).1 r)) in
          let r = all w.0 w.1 in
          w.2 r.0 r.1)),
    )
      where
        rounds : ℕ
        rounds = settles (kind_written 3) (eventually f)

        comes : (at : ℕ → ℕ) → ((k : ℕ) → Goes c.steps (at k) (at (suc k))) → (k j : ℕ) → So (chain (applied c (eventually f)) empty k (at j)) → (i : ℕ) × F (at i)
        comes at goes zero j t = never t
        comes at goes (suc k) j t = elim (either_e _ _ t) [ inl p ↦ (j, known _ (at j) p) | inr b ↦ let e = both_e _ _ b in elim (goes j) [ inl m ↦ comes at goes k (suc j) (subst (λ u. So (chain (applied c (eventually f)) empty k u)) m.3 (box_e _ (at j) e.1 m.0 m.1 m.2)) | inr p ↦ let d = diamond_e _ (at j) e.0 in absurd (p.0 d.0 d.1 d.2) ] ]
