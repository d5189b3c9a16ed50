-- A formula's word depends on the rows of the table alone.
use Prim.Native.Nat.{ℕ, ◌+◌, ◌-◌, ◌*◌, ◌<◌, ◌≤◌, ◌^◌}
use mathlib.Core.Path.{◌≡◌, refl, ap, ap₂}
use mathlib.Core.Logic.{inl, inr}
use mathlib.Core.List.{List}
use native.Mathlib.Omega.{arith}
use lib.Arith.{digits_lt}
use lib.Dec.{eqb}
use lib.Pow.{pow_pos}
use borrow.Author.Tests.{eq-eqb, ne_eqb}
use Rattle.settle.specs.Test.{pick}
use Rattle.sheet.specs.Formula.{Label, only, every, Formula, variable, top, bottom, and, or, diamond, box}
use Rattle.sheet.specs.Layout.{LabelIn, LabelsIn}
use Rattle.sheet.specs.Reading.{label_of, Parsed, parsed, wrong, parse}
use Rattle.sheet.proofs.Found.{formula_found}
use Rattle.words.proofs.Words.{word_cong}
use Rattle.steps.proofs.Leads.{leads_same}
use Rattle.evaluate.specs.Evaluating.{row_of, step_word, box_word, table_word, ActionIn, SameRows, modal_word, formula_of}
use Rattle.evaluate.proofs.Modal.{member_below}
use Rattle.evaluate.proofs.Evaluating.{word_below}

-- the actions of a formula that was read are the chart's
pub read_labels : (b : List ℕ) (m at left : ℕ) → LabelsIn m (formula_of (parse left b m at left))
unfolding LabelsIn
read_labels b m at left = go (parse left b m at left) refl
  where
    go : (u : Parsed) → parse left b m at left ≡ u → LabelsIn m (formula_of u)
    go (parsed f after rest) e = (formula_found left b m at left f after rest e).labels_in
    go (wrong r) e = tt

-- an action has a row
label_row : (m : ℕ) (l : Label) → LabelIn m l → row_of l ≤ m
unfolding LabelIn
label_row m (only a) h = omega (arith, h)
label_row m every h = omega arith

pub action_row : (m a : ℕ) → m ≤ 32 → ActionIn m a → row_of (label_of a) ≤ m
action_row m a few (inl l) = rw (ne_eqb a 255 (λ e. omega (arith, e, few, l))) (omega (arith, l))
action_row m a few (inr e) = rw (eq-eqb a 255 e) (omega arith)

module _ (n m : ℕ) (old new : List ℕ) (same : SameRows n m old new) where
  pub step_same : (row w : ℕ) → row ≤ m → w < 2 ^ n → step_word new n row w ≡ step_word old n row w
  step_same row w h small = word_cong n _ _ (λ s l. leads_same old new (row * n) w s (λ u i. same (row * n + u) (digits_lt {q = row} {m = m + 1} {r = u} {c = n} (omega arith) (member_below n w u small i))))

  box_same : (row w : ℕ) → row ≤ m → box_word new n row w ≡ box_word old n row w
  box_same row w h = ap (λ (x : ℕ). 2 ^ n - 1 - x) (step_same row (2 ^ n - 1 - w) h (omega (arith, pow_pos n)))

  pub modal_same : (node a w : ℕ) → m ≤ 32 → ActionIn m a → w < 2 ^ n → modal_word new n node a w ≡ modal_word old n node a w
  modal_same node a w few h small = ap₂ (λ (x y : ℕ). pick (eqb node 5) x y) (step_same (row_of (label_of a)) w (action_row m a few h) small) (box_same (row_of (label_of a)) w (action_row m a few h))

  pub word_same : (f : Formula) → LabelsIn m f → (set : ℕ) → set < 2 ^ n → table_word new n f set ≡ table_word old n f set
  unfolding LabelsIn table_word
  word_same variable h set small = refl
  word_same top h set small = refl
  word_same bottom h set small = refl
  word_same (and f g) h set small = rw (word_same f h.0 set small, word_same g h.1 set small)
  word_same (or f g) h set small = rw (word_same f h.0 set small, word_same g h.1 set small)
  word_same (diamond l f) h set small = rw (word_same f h.1 set small) (step_same (row_of l) _ (label_row m l h.0) (word_below old n set small f))
  word_same (box l f) h set small = rw (word_same f h.1 set small) (box_same (row_of l) _ (label_row m l h.0))
