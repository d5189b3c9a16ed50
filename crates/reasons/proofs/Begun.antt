-- How the own list is written, pair by pair.
use Prim.Native.Nat.{ℕ, suc, ◌+◌, ◌-◌, ◌*◌, ◌/◌, ◌%◌, ◌≤◌, ◌<◌}
use mathlib.Core.Path.{◌≡◌, refl, sym, ap, subst, ◌∙◌}
use mathlib.Core.List.Memᴰ.{cases_cons}
use mathlib.Core.List.Memᴰ.{head as here}
use mathlib.Core.List.Memᴰ.{not-nil}
use mathlib.Core.List.Memᴰ.{tail as there}
use mathlib.Core.List.{List, [], ◌∷◌, Memᴰ as Mem}
use mathlib.Core.Logic.{◌⊎◌, inl, inr, ⊎_elim}
use native.Mathlib.Omega.{arith}
use native.Mathlib.Decide.{dec_le, ℕ_discrete}
use native.Mathlib.Numerals.{add-one}
use native.Mathlib.Nat.{mul-le-mul_right, suc-mul}
use lib.ListN.{length, get_or}
use Rattle.chart.specs.Chart.{Step}
use Rattle.chart.specs.Layout.{Rising}
use Rattle.relation.specs.Cells.{pair_at}
use Rattle.relation.proofs.Cells.{row_in, column_in, pair_cell, cell_in, cell_pair}
use Rattle.reason.specs.Line.{Line, pair_of, longest_list, line_at, lines_in}
use Rattle.reason.specs.Good.{Listed}
use Rattle.reason.specs.Own.{MarksAre, Chosen, Before, OwnList}
use Rattle.reason.proofs.Bytes.{lines_length, lines_same}
use Rattle.reason.proofs.Few.{few_lines, one_more}
use Rattle.choice.specs.Choice.{mark_in, LinePut}
use Rattle.reasons.specs.Linked.{Following}
use Rattle.reasons.specs.Begun.{Begun}

-- cells rise by row, then column
cell_order : (n p q r s : ℕ) → q < n → s < n → p * n + q < r * n + s → (p < r) ⊎ ((p ≡ r) × (q < s))
cell_order n p q r s q_in s_in h = elim (ℕ_discrete p r) [ yes e ↦ inr (e, omega (arith, ap (λ (x : ℕ). x * n) e)) | no f ↦ inl (elim (dec_le r p) [ yes l ↦ absurd (beyond (omega arith)) | no g ↦ omega arith ]) ]
  where
    beyond : suc r ≤ p → ⊥
    beyond k = omega (arith, mul-le-mul_right n k, suc-mul r n)

same_pair : (n p q r s : ℕ) → q < n → s < n → p * n + q ≡ r * n + s → ◌≡◌ {A = ℕ × ℕ} (p, q) (r, s)
same_pair n p q r s q_in s_in e = sym (cell_pair n p q q_in) ∙ ap (pair_at n) e ∙ cell_pair n r s s_in

module _ (n : ℕ) (steps : List Step) (mark : ℕ × ℕ → ℕ) where
  -- before the mark 1 there is no line
  pub begun_none : Begun n steps mark 1 0 []
  unfolding Rising
  begun_none =
      record {
        chosen = λ l m. absurd (not-nil m);
        every = λ p q h k some place. absurd (⊎_elim (λ b. omega arith) (λ b. omega (arith, b.1)) place);
        so_far = λ l m. absurd (not-nil m);
        rising = tt;
      }

  module _ {d y : ℕ} {lines : List Line} (w : Begun n steps mark d y lines) where
    -- where no pair of the mark has a cell from y on and before r
    pub begun_skip : (r : ℕ) → y ≤ r → ((p q : ℕ) → p < n → q < n → mark (p, q) ≡ d → y ≤ p * n + q → p * n + q < r → ⊥) → Begun n steps mark d r lines
    begun_skip r onward none =
        record {
          chosen = w.chosen;
          every = λ p q h k some place. w.every p q h k some (⊎_elim inl (λ b. inr (b.0, before p q h k b)) place);
          so_far = λ l m. ⊎_elim inl (λ b. inr (b.0, omega (arith, b.1))) (w.so_far l m);
          rising = w.rising;
        }
      where
        before : (p q : ℕ) → p < n → q < n → (mark (p, q) ≡ d) × (p * n + q < r) → p * n + q < y
        before p q h k b = elim (dec_le y (p * n + q)) [ yes l ↦ absurd (none p q h k b.0 l b.1) | no f ↦ omega arith ]

    -- where all cells are passed, the next mark begins
    pub begun_mark : n * n ≤ y → Begun n steps mark (d + 1) 0 lines
    begun_mark all =
        record {
          chosen = w.chosen;
          every = λ p q h k some place. w.every p q h k some (⊎_elim (λ b. below p q h k b) (λ b. absurd (omega (arith, b.1))) place);
          so_far = λ l m. inl (⊎_elim (λ b. omega arith) (λ b. omega (arith, b.0)) (w.so_far l m));
          rising = w.rising;
        }
      where
        below : (p q : ℕ) → p < n → q < n → mark (p, q) < d + 1 → (mark (p, q) < d) ⊎ ((mark (p, q) ≡ d) × (p * n + q < y))
        below p q h k b = elim (dec_le d (mark (p, q))) [ yes l ↦ inr (omega arith, omega (arith, cell_in n p q h k)) | no f ↦ inl (omega arith) ]

    -- the pair of the cell y is not listed yet
    not_yet : (p q : ℕ) → mark (p, q) ≡ d → p * n + q ≡ y → Listed lines (p, q) → ⊥
    not_yet p q e cell (l, m, i) =
        let same : mark (pair_of l) ≡ mark (p, q) = ap mark i in
        let row : l.p ≡ p = ap (λ (x : ℕ × ℕ). x.0) i in
        let column : l.q ≡ q = ap (λ (x : ℕ × ℕ). x.1) i in
        ⊎_elim (λ b. omega arith) (λ b. omega (arith, b.1, ap (λ (x : ℕ). x * n) row)) (w.so_far l m)

    -- so there is room for its line
    begun_room : MarksAre n steps mark → (p q : ℕ) → p < n → q < n → 0 < d → mark (p, q) ≡ d → p * n + q ≡ y → length lines < n * n - n
    begun_room marks p q h k some e cell = one_more n steps mark marks lines w.chosen w.rising p q h k (omega arith) (not_yet p q e cell)

    -- the chosen line of the pair of the cell y
    pub begun_more : (l : Line) → Chosen n steps mark l → mark (pair_of l) ≡ d → l.p * n + l.q ≡ y → Begun n steps mark d (y + 1) (l ∷ lines)
    unfolding Rising
    begun_more l c e cell =
        record {
          chosen = λ k m. ⊎_elim (λ i. subst (Chosen n steps mark) (sym i) c) (w.chosen k) (cases_cons m);
          every = listed;
          so_far = λ k m. ⊎_elim (λ i. inr (ap (λ (x : Line). mark (pair_of x)) i ∙ e, omega (arith, ap (λ (x : Line). x.p * n + x.q) i))) (λ m. ⊎_elim inl (λ b. inr (b.0, omega (arith, b.1))) (w.so_far k m)) (cases_cons m);
          rising = rises lines w.chosen w.so_far w.rising;
        }
      where
        older : (p q : ℕ) → Listed lines (p, q) → Listed (l ∷ lines) (p, q)
        older p q (k, m, i) = (k, there m, i)

        listed : (p q : ℕ) → p < n → q < n → 0 < mark (p, q) → (mark (p, q) < d) ⊎ ((mark (p, q) ≡ d) × (p * n + q < y + 1)) → Listed (l ∷ lines) (p, q)
        listed p q h k some (inl b) = older p q (w.every p q h k some (inl b))
        listed p q h k some (inr (a, b)) = elim (ℕ_discrete (p * n + q) y) [ yes i ↦ (l, here refl, same_pair n l.p l.q p q c.q_in k (cell ∙ sym i)) | no f ↦ older p q (w.every p q h k some (inr (a, omega arith))) ]

        rises : (ls : List Line) → ((k : Line) → Mem k ls → Chosen n steps mark k) → ((k : Line) → Mem k ls → (mark (pair_of k) < d) ⊎ ((mark (pair_of k) ≡ d) × (k.p * n + k.q < y))) → Rising (λ later earlier. Before mark (pair_of earlier) (pair_of later)) ls
            → Rising (λ later earlier. Before mark (pair_of earlier) (pair_of later)) (l ∷ ls)
        rises [] chosen so_far r = tt
        rises (k ∷ ls) chosen so_far r =
            (⊎_elim (λ b. inl (omega arith)) (λ b. inr (b.0 ∙ sym e, cell_order n k.p k.q l.p l.q (chosen k (here refl)).q_in c.q_in (omega (arith, b.1)))) (so_far k (here refl)), r)

  -- where no mark is left, it is the own list
  pub begun_all : {d : ℕ} {lines : List Line} → Begun n steps mark d 0 lines → ((p q : ℕ) → p < n → q < n → mark (p, q) < d) → OwnList n steps mark lines
  begun_all w below = record { chosen = w.chosen; every = λ p q h k some. w.every p q h k some (inl (below p q h k)); rising = w.rising }

-- ---- over the matrix of marks, in the bytes of the list

-- so many lines are no more than the longest list has
lines_fit : (n k : ℕ) → n ≤ 64 → k ≤ n * n - n → 5 * k ≤ longest_list
lines_fit n k few h = omega (arith, mul-le-mul_right n few)

module _ (n : ℕ) (steps : List Step) (matrix : List ℕ) {d : ℕ} where
  -- on to the next cell that bears the mark
  pub begun_following : {from r : ℕ} {lines : List Line} → Begun n steps (mark_in n matrix) d from lines → Following matrix (n * n) d from r → Begun n steps (mark_in n matrix) d r lines
  begun_following {r = r} w f = begun_skip n steps (mark_in n matrix) w r f.onward (λ p q h k e l b. f.passed (p * n + q) l (cell_in n p q h k) b e)

  module _ {y : ℕ} (k : ℕ) (old : List ℕ) (w : Begun n steps (mark_in n matrix) d y (lines_in old k)) (y_in : y < n * n) (bears : get_or matrix y 0 ≡ d) where
    borne : mark_in n matrix (pair_at n y) ≡ d
    borne = ap (λ (x : ℕ). get_or matrix x 0) (pair_cell n y) ∙ bears

    -- there is room for the line of cell y
    pub room_for : 0 < d → MarksAre n steps (mark_in n matrix) → 5 * k + 5 ≤ 5 * (n * n - n)
    room_for some marks =
        let b = begun_room n steps (mark_in n matrix) w marks (y / n) (y % n) (row_in n y y_in) (column_in n y y_in) some borne (pair_cell n y) in
        omega (arith, b, lines_length old k)

    -- it was put
    pub begun_put : {new : List ℕ} {r : ℕ} → LinePut n steps (mark_in n matrix) (y / n) (y % n) old (5 * k) new → Following matrix (n * n) (get_or matrix y 0) (y + 1) r → Begun n steps (mark_in n matrix) d r (lines_in new (k + 1))
    unfolding lines_in
    begun_put {new} {r} put f =
        let l : Line = line_at new (5 * k) in
        let pair : pair_of l ≡ pair_at n y = put.pair_is in
        let cell : l.p * n + l.q ≡ y = ap (λ (x : ℕ × ℕ). x.0 * n + x.1) pair ∙ pair_cell n y in
        let more = begun_more n steps (mark_in n matrix) w l put.chosen (ap (mark_in n matrix) pair ∙ borne) cell in
        begun_following {from = y + 1} (rw (add-one k, lines_same new old k put.before) more) (rw (← bears) f)

-- an own list has no more bytes than the longest
pub own_fits : (n : ℕ) {steps : List Step} {mark : ℕ × ℕ → ℕ} (lines : List Line) → n ≤ 64 → MarksAre n steps mark → OwnList n steps mark lines → 5 * length lines ≤ longest_list
own_fits n {steps} {mark} lines few marks own = lines_fit n (length lines) few (few_lines n steps mark marks lines own.chosen own.rising)
