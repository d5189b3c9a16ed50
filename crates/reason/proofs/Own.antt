-- The own list is good, and for each of its pairs the formula spelled has the pair's mark as its depth. Assumes nothing.
use Prim.Native.Nat.{ℕ, zero, suc, ◌-◌, ◌≤◌, ◌<◌}
use mathlib.Core.Path.{◌≡◌, refl, ap, subst⁻¹}
use mathlib.Core.List.Memᴰ.{head as here}
use mathlib.Core.List.Memᴰ.{tail as there}
use mathlib.Core.List.{List, [], ◌∷◌, map, Memᴰ as Mem}
use mathlib.Core.Logic.{inl, ⊎_elim}
use native.Mathlib.Omega.{arith}
use Rattle.chart.specs.Chart.{Step}
use Rattle.chart.specs.Layout.{Rising}
use Rattle.chart.proofs.Rising.{rising_rest}
use Rattle.sheet.specs.Formula.{Formula, depth}
use Rattle.sheet.proofs.Meaning.{TargetsBelow}
use Rattle.reason.specs.Line.{Line, pair_of, IsMove, relies}
use Rattle.reason.specs.Good.{Listed, Good}
use Rattle.reason.specs.Spelled.{spells_by, spelled}
use Rattle.reason.specs.Own.{MarksAre, Chosen, Before, OwnList}
use Rattle.reason.proofs.Relies.{relies_0, relies_1, no_other_side, move_0, move_1}
use Rattle.reason.proofs.Spelled.{all_true_lem, some_true_lem, listed_cases, good_spelled, good_told, told_mark}
use Rattle.reason.proofs.Order.{before_trans, before_strict, Later, listed_before, never_twice}

-- the pairs that a move relies on are pairs of states
pub relies_in : (n : ℕ) (steps : List Step) (l : Line) → TargetsBelow n steps → IsMove steps l → (x : ℕ × ℕ) → Mem x (relies steps l) → (x.0 < n) × (x.1 < n)
relies_in n steps l targets v x k = ⊎_elim
    (λ e. let u = (relies_0 steps l e x).0 k in subst⁻¹ (λ (y : ℕ × ℕ). (y.0 < n) × (y.1 < n)) u.4 (targets _ ((move_0 steps l e).0 v), targets u.0 u.1))
    (λ e. let u = (relies_1 steps l e x).0 k in subst⁻¹ (λ (y : ℕ × ℕ). (y.0 < n) × (y.1 < n)) u.4 (targets u.0 u.1, targets _ ((move_1 steps l e).0 v)))
    (no_other_side steps l v)

module _ (n : ℕ) (steps : List Step) (mark : ℕ × ℕ → ℕ) where
  abbrev pub AllChosen : List Line → Type 0
  AllChosen lines = (l : Line) → Mem l lines → Chosen n steps mark l

  -- every unequal pair that comes before a listed one is listed
  abbrev Closed : List Line → Type 0
  Closed lines = (x : ℕ × ℕ) → x.0 < n → x.1 < n → 0 < mark x → (l : Line) → Mem l lines → Before mark x (pair_of l) → Listed lines x

  closed_rest : (l : Line) (earlier : List Line) → Rising (Later mark) (l ∷ earlier) → Closed (l ∷ earlier) → Closed earlier
  closed_rest l earlier r f x a b some k m h = ⊎_elim
      (λ e. absurd (before_strict mark (pair_of k) (before_trans mark (pair_of k) (pair_of l) (pair_of k) (listed_before mark l earlier r (pair_of k) (k, m, refl)) (subst⁻¹ (λ (y : ℕ × ℕ). Before mark y (pair_of k)) e h))))
      (λ i. i)
      (listed_cases l earlier x (f x a b some k (there m) h))

  -- chosen lines that rise and leave out none on the way are good
  closed_good : TargetsBelow n steps → (lines : List Line) → AllChosen lines → Rising (Later mark) lines → Closed lines → Good n steps lines
  unfolding Good
  closed_good targets [] c r f = tt
  closed_good targets (l ∷ earlier) c r f = (
    closed_good targets earlier (λ k m. c k (there m)) (rising_rest (Later mark) l earlier r) (closed_rest l earlier r f),
    record {
      p_in = own.p_in;
      q_in = own.q_in;
      moves = own.qualifies.moves;
      rests = λ x k. let s = own.qualifies.smaller x k in let i = relies_in n steps l targets own.qualifies.moves x k in
          ⊎_elim (λ e. absurd (other x e s.1)) (λ j. j) (listed_cases l earlier x (f x i.0 i.1 s.0 l (here refl) (inl s.1)));
      new = never_twice mark l earlier r;
    },
  )
    where
      own : Chosen n steps mark l
      own = c l (here refl)

      other : (x : ℕ × ℕ) → pair_of l ≡ x → mark x < mark (pair_of l) → ⊥
      other x e h = omega (arith, ap mark e)

  pub own_good : TargetsBelow n steps → (lines : List Line) → OwnList n steps mark lines → Good n steps lines
  own_good targets lines o = closed_good targets lines o.chosen o.rising (λ x a b some l m h. o.every x.0 x.1 a b some)

  -- ---- depth

  -- a line spells one more than what it relies on, which has smaller marks
  line_depth : (l : Line) (g : ℕ × ℕ → Formula) → Chosen n steps mark l → ((x : ℕ × ℕ) → Mem x (relies steps l) → depth (g x) ≤ mark x) → depth (spells_by l.side l.action (map g (relies steps l))) ≤ mark (pair_of l)
  unfolding depth
  line_depth l g c shallow = by_side l.side
    where
      below_mark : (x : ℕ × ℕ) → Mem x (relies steps l) → depth (g x) ≤ mark (pair_of l) - 1
      below_mark x k = omega (arith, shallow x k, (c.qualifies.smaller x k).1)

      by_side : (side : ℕ) → depth (spells_by side l.action (map g (relies steps l))) ≤ mark (pair_of l)
      by_side zero = omega (arith, c.unequal, all_true_lem g (λ f. depth f ≤ mark (pair_of l) - 1) (omega arith) (λ f h a b. omega arith) (relies steps l) below_mark)
      by_side (suc side) = omega (arith, c.unequal, some_true_lem g (λ f. depth f ≤ mark (pair_of l) - 1) (omega arith) (λ f h a b. omega arith) (relies steps l) below_mark)

  chosen_shallow : (lines : List Line) → AllChosen lines → Good n steps lines → (x : ℕ × ℕ) → Listed lines x → depth (spelled steps lines x) ≤ mark x
  chosen_shallow lines c good = good_spelled n steps (λ x f. depth f ≤ mark x) lines good (λ l i v g shallow. line_depth l g (c l i) shallow)

  -- in the own list the depth of what a pair's lines spell is the pair's mark
  pub own_depth : TargetsBelow n steps → MarksAre n steps mark → (lines : List Line) → OwnList n steps mark lines → (p q : ℕ) → p < n → q < n → Listed lines (p, q) → depth (spelled steps lines (p, q)) ≡ mark (p, q)
  own_depth targets marks lines o p q a b k =
      let good = own_good targets lines o in
      let shallow = chosen_shallow lines o.chosen good (p, q) k in
      omega (arith, (told_mark 0 steps (spelled steps lines (p, q)) (p, q) (mark (p, q)) (good_told 0 n steps lines good (p, q) k) (marks p q a b)).1)
