-- The row of 64 states: it is accepted, all its states are unequal, and it has a list of reasons. Assumes nothing.
use Prim.Native.Nat.{ℕ, zero, suc, ◌+◌, ◌*◌, ◌-◌, ◌/◌, ◌%◌, ◌≤◌, ◌<◌}
use mathlib.Core.Path.{◌≡◌, refl, sym, ap, subst, subst⁻¹, ◌∙◌}
use mathlib.Core.Bool.{So}
use mathlib.Core.List.Memᴰ.{eq_of_singleton as only_one}
use mathlib.Core.List.{List, [], ◌∷◌, Memᴰ as Mem}
use mathlib.Core.Logic.{inl, inr, ⊎_elim}
use native.Mathlib.Omega.{arith}
use native.Mathlib.Decide.{ℕ_discrete, dec_le}
use native.Mathlib.Numerals.{add-one}
use borrow.Author.Tests.{eq-eqb, ne_eqb}
use lib.ListN.{length}
use Rattle.settle.specs.Chain.{full, chain}
use Rattle.settle.proofs.Test.{both_i, both_e}
use Rattle.chart.specs.Chart.{Step, states}
use Rattle.chart.specs.Layout.{encode, Earlier, Rising, WellFormed}
use Rattle.chart.specs.Reading.{Reads}
use Rattle.chart.proofs.Exactly.{encoded_reads}
use Rattle.nearness.specs.Relation.{Near, turned, bisimulation_round}
use Rattle.nearness.specs.Mark.{Mark}
use Rattle.nearness.proofs.Matched.{matched_i, matched_e}
use Rattle.nearness.proofs.Formulas.{near_refl, near_sym}
use Rattle.nearness.proofs.Mark.{mark_drop}
use Rattle.relation.specs.Cells.{pair_at}
use Rattle.relation.proofs.Cells.{row_in, column_in, pair_cell, cell_pair}
use Rattle.reason.specs.Line.{Line, pair_of}
use Rattle.reason.specs.Own.{MarksAre, Chosen, OwnList}
use Rattle.reason.proofs.Relies.{relies_0, relies_1, no_other_side, move_0, move_1}
use Rattle.reasons.specs.Begun.{Begun}
use Rattle.reasons.proofs.Begun.{begun_none, begun_skip, begun_more, begun_mark, begun_all}
use Rattle.longest.specs.Longest.{counted, link_of, row_chart, row_mark}
use Rattle.longest.proofs.Longest.{counted_length, counted_member, counted_i, counted_rising}

pub row_states : states row_chart ≡ 64
row_states = counted_length (λ i. i) 0 64

pub row_formed : WellFormed row_chart
unfolding Rising
row_formed =
    let n = row_states in
    let t : length (counted link_of 0 63) ≡ 63 = counted_length link_of 0 63 in
    record {
      states_some = omega arith;
      states_few = omega arith;
      modes_bytes = λ x l. (let r = counted_member (λ i. i) 0 64 l in omega (arith, r.1, r.2));
      actions_few = omega arith;
      codes_bytes = λ x l. omega (arith, only_one l);
      codes_rise = tt;
      transitions_few = omega arith;
      steps_in = λ s l. (let r = counted_member link_of 0 63 l in rw (n, r.2) (record { source_in = omega (arith, r.1); action_in = omega arith; target_in = omega (arith, r.1) }));
      steps_rise = counted_rising link_of Earlier (λ j. inl (omega arith)) 0 63;
    }

pub row_read : Reads (encode row_chart) row_chart
row_read = encoded_reads (encode row_chart) row_chart refl row_formed

-- ---- its steps

abbrev pub links : List Step
links = row_chart.steps

link_in : (i : ℕ) → i < 63 → Mem (link_of i) links
link_in i h = counted_i link_of 0 63 i (omega arith) (omega arith)

-- a state but the last has one step, and the last has none
only_link : {i : ℕ} (u : Step) → Mem u links → u.source ≡ i → (i < 63) × (u ≡ link_of i)
only_link {i} u m e =
    let r = counted_member link_of 0 63 m in
    let f : r.0 ≡ i = ap (λ (s : Step). s.source) (sym r.2) ∙ e in
    (omega (arith, r.1), r.2 ∙ ap link_of f)

-- ---- how near two states are

-- each answers the other's step by its own
near_on : (j p q : ℕ) → p < 63 → q < 63 → So (Near links j (suc p, suc q)) → So (Near links (suc j) (p, q))
unfolding chain bisimulation_round
near_on j p q h k t = both_i
    (matched_i links (Near links j) p q (λ u m e. let z = (only_link u m e).1 in
    (link_of q, link_in q k, refl, ap (λ (s : Step). s.action) (sym z), subst⁻¹ (λ (s : Step). So (Near links j (s.target, suc q))) z t)))
    (matched_i links (turned (Near links j)) q p (λ u m e. let z = (only_link u m e).1 in
    (link_of p, link_in p h, refl, ap (λ (s : Step). s.action) (sym z), subst⁻¹ (λ (s : Step). So (Near links j (suc p, s.target))) z t)))

near_until : (j p q : ℕ) → p + j < 64 → q + j < 64 → So (Near links j (p, q))
unfolding chain full
near_until zero p q h k = refl
near_until (suc j) p q h k = near_on j p q (omega arith) (omega arith) (near_until j (suc p) (suc q) (omega arith) (omega arith))

-- the later of two has to answer the other's step, until it is the last
near_back : (j p q : ℕ) → p < 63 → So (Near links (suc j) (p, q)) → (q < 63) × So (Near links j (suc p, suc q))
unfolding chain bisimulation_round
near_back j p q h t =
    let r = matched_e links (Near links j) p q (both_e _ _ t).0 (link_of p) (link_in p h) refl in
    let z = only_link r.0 r.1 r.2 in
    (z.0, subst (λ (s : Step). So (Near links j (suc p, s.target))) z.1 r.4)

not_near : (j p q : ℕ) → p < q → q + j ≡ 63 → So (Near links (suc j) (p, q)) → ⊥
not_near zero p q l e t = omega (arith, (near_back 0 p q (omega arith) t).0)
not_near (suc j) p q l e t = not_near j (suc p) (suc q) (omega arith) (omega arith) (near_back (suc j) p q (omega arith) t).1

-- ---- its marks

same_mark : (p : ℕ) → row_mark (p, p) ≡ 0
same_mark p = rw (eq-eqb p p refl)

pub other_mark : (p q : ℕ) → (p ≡ q → ⊥) → row_mark (p, q) ≡ 64 - (p + (q - p))
other_mark p q f = rw (ne_eqb p q f)

pub row_marks : MarksAre 64 links row_mark
unfolding Mark
row_marks p q h k = elim (ℕ_discrete p q) [ yes e ↦ same e | no f ↦ other f ]
  where
    same : p ≡ q → Mark links p q (row_mark (p, q))
    same e = rw (e, same_mark q) (λ k. near_refl links k q)

    other : (p ≡ q → ⊥) → Mark links p q (row_mark (p, q))
    other f = elim (dec_le p q) [
      | yes l ↦ (let e : row_mark (p, q) ≡ suc (63 - q) = omega (arith, other_mark p q f) in subst⁻¹ (Mark links p q) e (mark_drop links p q (63 - q) (near_until (63 - q) p q (omega arith) (omega arith)) (not_near (63 - q) p q (omega arith) (omega arith))))
      | no g ↦ (let e : row_mark (p, q) ≡ suc (63 - p) = omega (arith, other_mark p q f) in subst⁻¹ (Mark links p q) e (mark_drop links p q (63 - p) (near_until (63 - p) p q (omega arith) (omega arith)) (λ t. not_near (63 - p) q p (omega arith) (omega arith) (near_sym links (suc (63 - p)) p q t))))
    ]

-- ---- the line of a pair

line_is : (p q side action target : ℕ) (k : Line) → pair_of k ≡ (p, q) → k.side ≡ side → k.action ≡ action → k.target ≡ target → k ≡ record { p = p; q = q; side = side; action = action; target = target }
line_is p q side action target k e s a t =
    let f : k.p ≡ p = ap (λ (x : ℕ × ℕ). x.0) e in
    let g : k.q ≡ q = ap (λ (x : ℕ × ℕ). x.1) e in
    rw (← f, ← g, ← s, ← a, ← t)

module _ (p q : ℕ) (p_in : p < 64) (q_in : q < 64) (apart : p ≡ q → ⊥) where
  abbrev TheLine : Type 0
  TheLine = (l : Line) × (pair_of l ≡ (p, q)) × Chosen 64 links row_mark l

  unequal : 0 < row_mark (p, q)
  unequal = omega (arith, other_mark p q apart)

  -- every state but the last steps
  steps_on : p < 63 → TheLine
  steps_on h =
      let l : Line = record { p = p; q = q; side = 0; action = 0; target = suc p } in (
        l,
        refl,
        record {
          p_in = p_in;
          q_in = q_in;
          unequal = unequal;
          qualifies = record {
            moves = link_in p h;
            smaller = λ x m. let u = (relies_0 links l refl x).0 m in let z = only_link u.0 u.1 u.2 in
                subst⁻¹ (λ (y : ℕ × ℕ). (0 < row_mark y) × (row_mark y < row_mark (p, q))) (u.4 ∙ ap (λ (s : Step). (suc p, s.target)) z.1) (falls z.0);
          };
          first = λ k e g. ⊎_elim (λ s. inl (let z = (only_link _ ((move_0 links k s).0 g.moves) (ap (λ (x : ℕ × ℕ). x.0) e)).1 in line_is p q 0 0 (suc p) k e s (ap (λ (u : Step). u.action) z) (ap (λ (u : Step). u.target) z))) (λ s. inr (inl (omega arith))) (no_other_side links k g.moves);
        },
      )
    where
      falls : q < 63 → (0 < row_mark (suc p, suc q)) × (row_mark (suc p, suc q) < row_mark (p, q))
      falls k = let e = other_mark p q apart in let f = other_mark (suc p) (suc q) (λ i. apart (omega arith)) in (omega arith, omega arith)

  -- the last is told apart by the other's step
  rests : (p < 63 → ⊥) → TheLine
  rests f =
      let l : Line = record { p = p; q = q; side = 1; action = 0; target = suc q } in (
        l,
        refl,
        record {
          p_in = p_in;
          q_in = q_in;
          unequal = unequal;
          qualifies = record {
            moves = link_in q other;
            smaller = λ x m. let u = (relies_1 links l refl x).0 m in absurd (f (only_link u.0 u.1 u.2).0);
          };
          first = λ k e g. ⊎_elim (λ s. absurd (f (only_link _ ((move_0 links k s).0 g.moves) (ap (λ (x : ℕ × ℕ). x.0) e)).0)) (λ s. inl (let z = (only_link _ ((move_1 links k s).0 g.moves) (ap (λ (x : ℕ × ℕ). x.1) e)).1 in line_is p q 1 0 (suc q) k e s (ap (λ (u : Step). u.action) z) (ap (λ (u : Step). u.target) z))) (no_other_side links k g.moves);
        },
      )
    where
      other : q < 63
      other = elim (dec_le q 62) [ yes l ↦ omega arith | no g ↦ absurd (elim (dec_le p 62) [ yes l ↦ f (omega arith) | no h ↦ apart (omega arith) ]) ]

  the_line : TheLine
  the_line = elim (dec_le p 62) [ yes l ↦ steps_on (omega arith) | no g ↦ rests (λ h. g (omega arith)) ]

-- ---- the list, mark by mark and cell by cell

module _ (n : ℕ) (steps : List Step) (mark : ℕ × ℕ → ℕ) (line : (p q : ℕ) → p < n → q < n → 0 < mark (p, q) → (l : Line) × (pair_of l ≡ (p, q)) × Chosen n steps mark l) where
  abbrev SoFar : ℕ → ℕ → Type 0
  SoFar d y = (lines : List Line) × Begun n steps mark d y lines

  one_cell : (d y : ℕ) → 0 < d → y < n * n → SoFar d y → SoFar d (suc y)
  one_cell d y some h (lines, w) = rw (← add-one y) (elim (ℕ_discrete (mark (pair_at n y)) d) [ yes e ↦ more e | no f ↦ (lines, begun_skip n steps mark w (y + 1) (omega arith) (none f)) ])
    where
      more : mark (pair_at n y) ≡ d → SoFar d (y + 1)
      more e =
          let l = line (y / n) (y % n) (row_in n y h) (column_in n y h) (omega arith) in
          (l.0 ∷ lines, begun_more n steps mark w l.0 l.2 (ap mark l.1 ∙ e) (ap (λ (x : ℕ × ℕ). x.0 * n + x.1) l.1 ∙ pair_cell n y))

      none : (mark (pair_at n y) ≡ d → ⊥) → (p q : ℕ) → p < n → q < n → mark (p, q) ≡ d → y ≤ p * n + q → p * n + q < y + 1 → ⊥
      none f p q a b e l k =
          let c : y ≡ p * n + q = omega arith in
          f (ap mark (ap (pair_at n) c ∙ cell_pair n p q b) ∙ e)

  all_cells : (d y : ℕ) → 0 < d → y ≤ n * n → SoFar d 0 → SoFar d y
  all_cells d zero some h w = w
  all_cells d (suc y) some h w = one_cell d y some (omega arith) (all_cells d y some (omega arith) w)

  next_mark : (d : ℕ) → 0 < d → SoFar d 0 → SoFar (suc d) 0
  next_mark d some w = let r = all_cells d (n * n) some (omega arith) w in (r.0, rw (← add-one d) (begun_mark n steps mark r.1 (omega arith)))

  all_marks : (d : ℕ) → SoFar (suc d) 0
  all_marks zero = ([], begun_none n steps mark)
  all_marks (suc d) = next_mark (suc d) (omega arith) (all_marks d)

  some_list : (d : ℕ) → ((p q : ℕ) → p < n → q < n → mark (p, q) ≤ d) → (lines : List Line) × OwnList n steps mark lines
  some_list d few = let r = all_marks d in (r.0, begun_all n steps mark r.1 (λ p q h k. omega (arith, few p q h k)))

pub row_list : (lines : List Line) × OwnList 64 links row_mark lines
row_list = some_list 64 links row_mark (λ p q h k some. the_line p q h k (apart p q some)) 64 few
  where
    apart : (p q : ℕ) → 0 < row_mark (p, q) → p ≡ q → ⊥
    apart p q some e = omega (arith, ap (λ (x : ℕ). row_mark (x, q)) e, same_mark q)

    few : (p q : ℕ) → p < 64 → q < 64 → row_mark (p, q) ≤ 64
    few p q h k = elim (ℕ_discrete p q) [ yes e ↦ omega (arith, ap (λ (x : ℕ). row_mark (x, q)) e, same_mark q) | no f ↦ omega (arith, other_mark p q f) ]
