-- Every pair of a good list is told apart by the formula that its lines spell; so its mark is not 0 and not above that formula's depth. Assumes nothing.
use Prim.Native.Nat.{ℕ, zero, suc, ◌≤◌, ◌<◌}
use mathlib.Core.Path.{◌≡◌, refl, sym, subst, subst⁻¹, ap, ◌∙◌}
use mathlib.Core.Bool.{So}
use mathlib.Core.List.Memᴰ.{cases_cons}
use mathlib.Core.List.Memᴰ.{head as here}
use mathlib.Core.List.Memᴰ.{not-nil}
use mathlib.Core.List.Memᴰ.{tail as there}
use mathlib.Core.List.{List, [], ◌∷◌, map, Memᴰ as Mem}
use mathlib.Core.Logic.{◌⊎◌, inl, inr, ⊎_elim}
use native.Mathlib.Omega.{arith}
use native.Mathlib.Decide.{dec_le}
use borrow.Author.Tests.{eqb-true, eq-eqb}
use Rattle.settle.specs.Chain.{empty}
use Rattle.settle.proofs.Test.{never, both_i, both_e, either_l, either_r, either_n, tested, picked, unpicked}
use Rattle.chart.specs.Chart.{Step}
use Rattle.sheet.specs.Formula.{only, Formula, top, bottom, and, or, diamond, box, depth, variable_free}
use Rattle.sheet.specs.Meaning.{holds, some_label, every_label}
use Rattle.sheet.proofs.Meaning.{some_step_i, some_step_e, every_step_i, every_step_e}
use Rattle.nearness.specs.Mark.{TellsApart, Mark}
use Rattle.nearness.proofs.Mark.{mark_zero, mark_depth}
use Rattle.reason.specs.Line.{Line, pair_of, IsMove, relies}
use Rattle.reason.specs.Good.{Listed, Good}
use Rattle.reason.specs.Spelled.{all_true, some_true, spells_by, is_pair, spelled}
use Rattle.reason.proofs.Relies.{relies_0, relies_1, no_other_side, move_0, move_1}

-- ---- the and and the or of formulas

module _ {A : Type 0} (g : A → Formula) where
  -- what true has and an and of two keeps
  pub all_true_lem : (Q : Formula → Type 0) → Q top → ((f h : Formula) → Q f → Q h → Q (and f h)) → (xs : List A) → ((x : A) → Mem x xs → Q (g x)) → Q (all_true (map g xs))
  unfolding all_true
  all_true_lem Q none two [] k = none
  all_true_lem Q none two (x ∷ []) k = k x (here refl)
  all_true_lem Q none two (x ∷ (y ∷ xs)) k = two _ _ (k x (here refl)) (all_true_lem Q none two (y ∷ xs) (λ z m. k z (there m)))

  -- what false has and an or of two keeps
  pub some_true_lem : (Q : Formula → Type 0) → Q bottom → ((f h : Formula) → Q f → Q h → Q (or f h)) → (xs : List A) → ((x : A) → Mem x xs → Q (g x)) → Q (some_true (map g xs))
  unfolding some_true
  some_true_lem Q none two [] k = none
  some_true_lem Q none two (x ∷ []) k = k x (here refl)
  some_true_lem Q none two (x ∷ (y ∷ xs)) k = two _ _ (k x (here refl)) (some_true_lem Q none two (y ∷ xs) (λ z m. k z (there m)))

  module _ (m : ℕ) (steps : List Step) (s : ℕ) where
    all_true_e : (xs : List A) → So (holds m steps (all_true (map g xs)) empty s) → (x : A) → Mem x xs → So (holds m steps (g x) empty s)
    unfolding all_true holds
    all_true_e [] h x k = absurd (not-nil k)
    all_true_e (y ∷ []) h x k = ⊎_elim (λ e. rw e h) (λ i. absurd (not-nil i)) (cases_cons k)
    all_true_e (y ∷ (z ∷ xs)) h x k = let d = both_e _ _ h in ⊎_elim (λ e. rw e d.0) (λ i. all_true_e (z ∷ xs) d.1 x i) (cases_cons k)

    some_true_i : (xs : List A) (x : A) → Mem x xs → So (holds m steps (g x) empty s) → So (holds m steps (some_true (map g xs)) empty s)
    unfolding some_true holds
    some_true_i [] x k h = absurd (not-nil k)
    some_true_i (y ∷ []) x k h = ⊎_elim (λ e. rw (← e) h) (λ i. absurd (not-nil i)) (cases_cons k)
    some_true_i (y ∷ (z ∷ xs)) x k h = ⊎_elim (λ e. either_l _ (rw (← e) h)) (λ i. either_r _ (some_true_i (z ∷ xs) x i h)) (cases_cons k)

-- ---- whose line it is

pub is_pair_i : (x : ℕ × ℕ) (l : Line) → pair_of l ≡ x → So (is_pair x l)
unfolding is_pair
is_pair_i x l e = both_i (eq-eqb _ _ (ap (λ (y : ℕ × ℕ). y.0) e)) (eq-eqb _ _ (ap (λ (y : ℕ × ℕ). y.1) e))

pub is_pair_e : (x : ℕ × ℕ) (l : Line) → So (is_pair x l) → pair_of l ≡ x
unfolding is_pair
is_pair_e x l h = let d = both_e _ _ h in rw (eqb-true l.p x.0 d.0, eqb-true l.q x.1 d.1)

-- a listed pair is the last line's or listed before it
pub listed_cases : (l : Line) (earlier : List Line) (x : ℕ × ℕ) → Listed (l ∷ earlier) x → (pair_of l ≡ x) ⊎ Listed earlier x
listed_cases l earlier x k = ⊎_elim (λ e. inl (rw (← e) k.2)) (λ i. inr (k.0, i, k.2)) (cases_cons k.1)

-- ---- told apart

-- f has no variable, is true at the first of the two and false at the second
pub record Told (m : ℕ) (steps : List Step) (f : Formula) (x : ℕ × ℕ) : Type 0 where
  pub no_variable : So (variable_free f)
  pub at_first : So (holds m steps f empty x.0)
  pub at_second : So (holds m steps f empty x.1) → ⊥

module _ (m : ℕ) (steps : List Step) (l : Line) (g : ℕ × ℕ → Formula) (told : (x : ℕ × ℕ) → Mem x (relies steps l) → Told m steps (g x) x) where
  abbrev fs : List Formula
  fs = map g (relies steps l)

  -- p's step reaches what no answering step of q reaches
  side_0 : l.side ≡ 0 → IsMove steps l → Told m steps (diamond (only l.action) (all_true fs)) (pair_of l)
  unfolding holds variable_free some_label
  side_0 e v =
      record {
        no_variable = all_true_lem g (λ f. So (variable_free f)) refl (λ f h a b. both_i a b) (relies steps l) (λ x k. (told x k).no_variable);
        at_first = some_step_i _ _ _ _ (record { source = l.p; action = l.action; target = l.target }) ((move_0 steps l e).0 v) refl refl (all_true_lem g (λ f. So (holds m steps f empty l.target)) refl (λ f h a b. both_i a b) (relies steps l) (λ x k. reached x k));
        at_second = λ h. let u = some_step_e _ _ _ _ h in
            let k = (relies_0 steps l e (l.target, u.0.target)).1 (u.0, u.1, u.2, u.3, refl) in
            (told (l.target, u.0.target) k).at_second (all_true_e g m steps u.0.target (relies steps l) u.4 (l.target, u.0.target) k);
      }
    where
      reached : (x : ℕ × ℕ) → Mem x (relies steps l) → So (holds m steps (g x) empty l.target)
      reached x k = let u = (relies_0 steps l e x).0 k in subst (λ (s : ℕ). So (holds m steps (g x) empty s)) (ap (λ (y : ℕ × ℕ). y.0) u.4) (told x k).at_first

  -- each answering step of p reaches what q's step does not
  side_1 : l.side ≡ 1 → IsMove steps l → Told m steps (box (only l.action) (some_true fs)) (pair_of l)
  unfolding holds variable_free every_label
  side_1 e v =
      record {
        no_variable = some_true_lem g (λ f. So (variable_free f)) refl (λ f h a b. both_i a b) (relies steps l) (λ x k. (told x k).no_variable);
        at_first = every_step_i _ _ _ _ (λ u i a b. let k = (relies_1 steps l e (u.target, l.target)).1 (u, i, a, b, refl) in
            some_true_i g m steps u.target (relies steps l) (u.target, l.target) k (told (u.target, l.target) k).at_first);
        at_second = λ h. some_true_lem g (λ f. So (holds m steps f empty l.target) → ⊥) never (λ f h a b. either_n a b) (relies steps l) (λ x k. missed x k)
            (every_step_e _ _ _ _ h (record { source = l.q; action = l.action; target = l.target }) ((move_1 steps l e).0 v) refl refl);
      }
    where
      missed : (x : ℕ × ℕ) → Mem x (relies steps l) → So (holds m steps (g x) empty l.target) → ⊥
      missed x k h = let u = (relies_1 steps l e x).0 k in (told x k).at_second (subst⁻¹ (λ (s : ℕ). So (holds m steps (g x) empty s)) (ap (λ (y : ℕ × ℕ). y.1) u.4) h)

  line_told : IsMove steps l → Told m steps (spells_by l.side l.action fs) (pair_of l)
  line_told v = ⊎_elim
      (λ e. subst⁻¹ (λ (side : ℕ). Told m steps (spells_by side l.action fs) (pair_of l)) e (side_0 e v))
      (λ e. subst⁻¹ (λ (side : ℕ). Told m steps (spells_by side l.action fs) (pair_of l)) e (side_1 e v))
      (no_other_side steps l v)

-- what every line of a good list hands on, from what the pairs that it relies on spell to what it spells, is so of every pair's formula
module _ (n : ℕ) (steps : List Step) (Q : ℕ × ℕ → Formula → Type 0) where
  abbrev pub HandsOn : Line → Type 0
  HandsOn l = (g : ℕ × ℕ → Formula) → ((x : ℕ × ℕ) → Mem x (relies steps l) → Q x (g x)) → Q (pair_of l) (spells_by l.side l.action (map g (relies steps l)))

  pub good_spelled : (lines : List Line) → Good n steps lines → ((l : Line) → Mem l lines → IsMove steps l → HandsOn l) → (x : ℕ × ℕ) → Listed lines x → Q x (spelled steps lines x)
  unfolding Good spelled
  good_spelled [] good on x k = absurd (not-nil k.1)
  good_spelled (l ∷ earlier) good on x k =
      let rest = good_spelled earlier good.0 (λ j m. on j (there m)) in
      ⊎_elim (own rest) (before (rest x)) (tested (is_pair x l))
    where
      own : ((y : ℕ × ℕ) → Listed earlier y → Q y (spelled steps earlier y)) → So (is_pair x l) → Q x (spelled steps (l ∷ earlier) x)
      own rest h = subst⁻¹ (Q x) (picked _ _ (is_pair x l) h)
          (subst (λ (y : ℕ × ℕ). Q y (spells_by l.side l.action (map (spelled steps earlier) (relies steps l)))) (is_pair_e x l h)
          (on l (here refl) good.1.moves (spelled steps earlier) (λ y i. rest y (good.1.rests y i))))

      before : (Listed earlier x → Q x (spelled steps earlier x)) → (So (is_pair x l) → ⊥) → Q x (spelled steps (l ∷ earlier) x)
      before rest f = subst⁻¹ (Q x) (unpicked _ _ (is_pair x l) f)
          (rest (⊎_elim (λ e. absurd (f (is_pair_i x l e))) (λ i. i) (listed_cases l earlier x k)))

pub good_told : (m n : ℕ) (steps : List Step) (lines : List Line) → Good n steps lines → (x : ℕ × ℕ) → Listed lines x → Told m steps (spelled steps lines x) x
good_told m n steps lines good = good_spelled n steps (λ x f. Told m steps f x) lines good (λ l i v g told. line_told m steps l g told v)

-- ---- and so its mark

pub told_apart : (m : ℕ) (steps : List Step) (f : Formula) (x : ℕ × ℕ) → Told m steps f x → TellsApart m steps f x.0 x.1
told_apart m steps f x t = (t.no_variable, λ e. t.at_second (sym e ∙ t.at_first))

pub told_mark : (m : ℕ) (steps : List Step) (f : Formula) (x : ℕ × ℕ) (d : ℕ) → Told m steps f x → Mark steps x.0 x.1 d → (0 < d) × (d ≤ depth f)
told_mark m steps f x zero t k = absurd ((mark_zero m steps x.0 x.1).0 k f (told_apart m steps f x t))
told_mark m steps f x (suc d) t k =
    let s = (mark_depth m steps x.0 x.1 d).0 k in
    (omega arith, elim (dec_le (suc d) (depth f)) [ yes l ↦ l | no g ↦ absurd (s.1 (depth f) (omega arith) (f, refl, told_apart m steps f x t)) ])

-- of a good list: the formula tells the pair apart, true at the first and false at the second; the mark is not 0 and not above its depth
pub good_mark : (m n : ℕ) (steps : List Step) (lines : List Line) → Good n steps lines → (x : ℕ × ℕ) → Listed lines x → (d : ℕ) → Mark steps x.0 x.1 d → (0 < d) × (d ≤ depth (spelled steps lines x))
good_mark m n steps lines good x k d w = told_mark m steps (spelled steps lines x) x d (good_told m n steps lines good x k) w
