-- A step by the table is a diamond, and the others of a step to the others are a box.
use Prim.Native.Nat.{ℕ, ◌+◌, ◌-◌, ◌*◌, ◌<◌, ◌≤◌, ◌^◌}
use mathlib.Core.Path.{◌≡◌, refl, sym, subst, ◌∙◌}
use mathlib.Core.Bool.{Bool, So}
use mathlib.Core.List.{List, Memᴰ as Mem}
use native.Mathlib.Decide.{dec_lt}
use native.Mathlib.Omega.{arith}
use lib.ListN.{get_or}
use borrow.Author.Tests.{eqb-true, eq-eqb}
use Rattle.settle.specs.Test.{neg}
use Rattle.settle.proofs.Test.{never, ext, neg_i, neg_e, stable, any_i, any_e, all_i, all_e, some_i, some_e}
use Rattle.chart.specs.Chart.{Step}
use Rattle.sheet.specs.Formula.{Label, only, every, Formula, variable, top, bottom, and, or, diamond, box}
use Rattle.sheet.specs.Layout.{LabelIn, LabelsIn}
use Rattle.sheet.specs.Meaning.{some_label, every_label, holds}
use Rattle.sheet.proofs.Meaning.{TargetsBelow, some_step_i, some_step_e, every_step_i, every_step_e, some_every}
use Rattle.words.specs.Words.{word_of, member}
use Rattle.words.proofs.Words.{word_cong, word_lt, word_ext, word_member, word_none, all_word, and_word, or_word, not_word, no_member}
use Rattle.steps.specs.Table.{Table, HasStep}
use Rattle.steps.specs.Walk.{leads}
use Rattle.steps.proofs.Leads.{leads_i, leads_e}
use Rattle.evaluate.specs.Evaluating.{row_of, step_word, box_word, table_word}

-- a member of a word below 2 ^ n is below n
pub member_below : (n w u : ℕ) → w < 2 ^ n → So (member w u) → u < n
member_below n w u h m = elim (dec_lt u n) [ yes l ↦ l | no f ↦ never (sym (no_member n w u h (omega arith)) ∙ m) ]

-- every such step leads into P exactly if none leads to the others
box_others : (m : ℕ) (steps : List Step) (l : Label) (P : ℕ → Bool) (s : ℕ) → every_label m steps l P s ≡ neg (some_label m steps l (λ u. neg (P u)) s)
unfolding every_label some_label
box_others m steps (only a) P s = ext
    (λ h. neg_i _ (λ r. let e = some_step_e _ _ _ _ r in neg_e _ e.4 (every_step_e _ _ _ _ h e.0 e.1 e.2 e.3)))
    (λ h. every_step_i _ _ _ _ (λ t i e f. stable _ (λ k. neg_e _ h (some_step_i _ _ _ _ t i e f (neg_i _ k)))))
box_others m steps every P s = ext
    (λ h. neg_i _ (λ r. let q = any_e _ _ r in let e = some_step_e _ _ _ _ q.2 in neg_e _ e.4 (every_step_e _ _ _ _ (all_e _ h q.1) e.0 e.1 e.2 e.3)))
    (λ h. all_i _ _ (λ a j. every_step_i _ _ _ _ (λ t i e f. stable _ (λ k. neg_e _ h (any_i _ j (some_step_i _ _ _ _ t i e f (neg_i _ k)))))))

module _ (n m : ℕ) (few : n ≤ 64) (steps : List Step) (targets : TargetsBelow n steps) (actions : (t : Step) → Mem t steps → t.action < m) (into : List ℕ) (T : Table n m steps into) where
  -- the step t, told by its parts
  told : (s a : ℕ) (t : Step) → Mem t steps → t.source ≡ s → t.action ≡ a → HasStep steps s a t.target
  told s a t i e f = subst (λ (y : ℕ). HasStep steps s y t.target) f (subst (λ (x : ℕ). HasStep steps x t.action t.target) e i)

  module _ (w : ℕ) (small : w < 2 ^ n) (P : ℕ → Bool) (is : (u : ℕ) → u < n → member w u ≡ P u) (s : ℕ) where
    -- a row's step to the word of P is a step by its actions to P
    step_label : (l : Label) → LabelIn m l → leads into (row_of l * n) w s ≡ some_label m steps l P s
    unfolding LabelIn some_label
    step_label (only a) h = ext
        (λ r.
        let e = leads_e into ((a + 1) * n) w s r in
        let l = member_below n w e.0 small e.2 in
        some_step_i steps a P s (record { source = s; action = a; target = e.0 }) ((T.by_action a e.0 s h l).0 e.3) refl refl (sym (is e.0 l) ∙ e.2))
        (λ r.
        let e = some_step_e steps a P s r in
        let l = targets e.0 e.1 in
        leads_i into ((a + 1) * n) w s e.0.target (omega arith) (is e.0.target l ∙ e.4) ((T.by_action a e.0.target s h l).1 (told s a e.0 e.1 e.2 e.3)))
    step_label every h = ext
        (λ r.
        let e = leads_e into (0 * n) w s r in
        let l = member_below n w e.0 small e.2 in
        let b = (T.by_any e.0 s l).0 (subst (λ (x : ℕ). So (member (get_or into x 0) s)) (first_row e.0) e.3) in
        some_i _ _ b.1 (eq-eqb s s refl) (sym (is e.0 l) ∙ e.2))
        (λ r.
        let e = some_e _ _ steps r in
        let l = targets e.0 e.1 in
        leads_i into (0 * n) w s e.0.target (omega arith) (is e.0.target l ∙ e.3) (subst (λ (x : ℕ). So (member (get_or into x 0) s)) (sym (first_row e.0.target)) ((T.by_any e.0.target s l).1 (e.0.action, told s e.0.action e.0 e.1 (eqb-true _ _ e.2) refl))))
        ∙ sym (some_every m steps P s actions)
      where
        first_row : (u : ℕ) → 0 * n + u ≡ u
        first_row u = omega arith

  module _ (l : Label) (h : LabelIn m l) (P : ℕ → Bool) where
    diamond_word : step_word into n (row_of l) (word_of n P) ≡ word_of n (some_label m steps l P)
    diamond_word = word_cong n _ _ (λ s b. step_label (word_of n P) (word_lt n P) P (λ u k. word_member n u P k) s l h)

    box_word_lem : box_word into n (row_of l) (word_of n P) ≡ word_of n (every_label m steps l P)
    box_word_lem =
        let Q : ℕ → Bool = λ u. neg (P u) in
        let others : 2 ^ n - 1 - word_of n P ≡ word_of n Q = omega (arith, not_word n P) in
        let step : word_of n (leads into (row_of l * n) (word_of n Q)) ≡ word_of n (some_label m steps l Q) = word_cong n _ _ (λ s b. step_label (word_of n Q) (word_lt n Q) Q (λ u k. word_member n u Q k) s l h) in
        let all : word_of n (every_label m steps l P) ≡ word_of n (λ s. neg (some_label m steps l Q s)) = word_cong n _ _ (λ s b. box_others m steps l P s) in
        rw (others) (omega (arith, step, all, not_word n (some_label m steps l Q)))

  -- the word that the table gives is that of the states at which the formula holds
  pub table_holds : (f : Formula) → LabelsIn m f → (set : ℕ) → set < 2 ^ n → table_word into n f set ≡ word_of n (holds m steps f (member set))
  unfolding LabelsIn table_word holds
  table_holds variable h set small = sym (word_ext n set small)
  table_holds top h set small = sym (all_word n)
  table_holds bottom h set small = sym (word_none n)
  table_holds (and f g) h set small = rw (table_holds f h.0 set small, table_holds g h.1 set small) (and_word n _ _)
  table_holds (or f g) h set small = rw (table_holds f h.0 set small, table_holds g h.1 set small) (or_word n _ _)
  table_holds (diamond l f) h set small = rw (table_holds f h.1 set small) (diamond_word l h.0 (holds m steps f (member set)))
  table_holds (box l f) h set small = rw (table_holds f h.1 set small) (box_word_lem l h.0 (holds m steps f (member set)))
