-- The first triple of a state whose move has all its pairs smaller is the first of the moves that qualify; and where p has none, q has. Assumes nothing.
use Prim.Native.Nat.{ℕ, ◌+◌, ◌*◌, ◌≤◌, ◌<◌}
use mathlib.Core.Path.{◌≡◌, refl, sym, ap, subst, subst⁻¹, ◌∙◌}
use mathlib.Core.Bool.{Bool, true, false}
use mathlib.Core.List.{List, Memᴰ as Mem}
use mathlib.Core.Logic.{◌⊎◌, inl, inr, ⊎_elim, ◌↔◌}
use native.Mathlib.Omega.{arith}
use native.Mathlib.Decide.{dec_le, ℕ_discrete}
use lib.ListN.{get_or}
use Rattle.std.specs.Prelude.{Option, Some, None, IsSome}
use Rattle.chart.specs.Chart.{Step}
use Rattle.chart.specs.Layout.{Earlier}
use Rattle.chart.specs.Reading.{step_at}
use Rattle.chart.proofs.Steps.{step_member, member_step}
use Rattle.ranges.specs.Sources.{action_at, target_at, Sorted, TriplesRise, steps_by}
use Rattle.ranges.proofs.Ranges.{targets_below, range_end, source_of, range_of}
use Rattle.reason.specs.Line.{Line, pair_of}
use Rattle.reason.specs.Own.{MarksAre, Qualifies, Sooner}
use Rattle.reason.proofs.Relies.{relies_0, relies_1, no_other_side}
use Rattle.reason.proofs.Choice.{some_qualifies}
use Rattle.choice.specs.Choice.{mark_in}
use Rattle.choice.specs.Search.{SmallerAll, FirstMove, MoveFound, ChosenMove, line_by}

-- the step of a state that bears the action and the target of another
abbrev step_of : ℕ → Step → Step
step_of s u = record { source = s; action = u.action; target = u.target }

-- a line is told by its pair, its side and its step
line_by_lem : (p q side s : ℕ) (k : Line) → pair_of k ≡ (p, q) → k.side ≡ side → k ≡ line_by p q side (record { source = s; action = k.action; target = k.target })
line_by_lem p q side s k e d =
    let a : k.p ≡ p = ap (λ (x : ℕ × ℕ). x.0) e in
    let b : k.q ≡ q = ap (λ (x : ℕ × ℕ). x.1) e in
    rw (← a, ← b, ← d)

-- ---- the moves of one side of (p, q), on which s moves and o answers

module _ (bytes : List ℕ) (at n : ℕ) (first : List ℕ) (w : Sorted bytes at n first) (rise : TriplesRise bytes at (get_or first n 0)) (matrix : List ℕ) (p q : ℕ) where
  abbrev steps : List Step
  steps = steps_by bytes at n first

  abbrev mark : ℕ × ℕ → ℕ
  mark = mark_in n matrix

  -- each step of o that bears u's action gives, with u's target, a pair of a nonzero mark below that of (p, q)
  abbrev Smaller : ℕ → (ℕ → ℕ → ℕ) → Step → Type 0
  Smaller o cell u = (v : Step) → Mem v steps → v.source ≡ o → v.action ≡ u.action → (0 < cell u.target v.target) × (cell u.target v.target < mark (p, q))

  module _ (side s o : ℕ) (cell : ℕ → ℕ → ℕ) (s_in : s < n) (o_in : o < n)
      (says : (u : Step) → Qualifies steps mark (line_by p q side u) ↔ (Mem (step_of s u) steps × Smaller o cell u))
      (r : ℕ) (f : FirstMove bytes at (get_or first s 0) (get_or first (s + 1) 0) (get_or first o 0) (get_or first (o + 1) 0) cell (mark (p, q)) r) where
    abbrev move_at : ℕ → Line
    move_at i = line_by p q side (step_at bytes (at + 3 * i))

    abbrev Tried : ℕ → Bool → Type 0
    Tried i b = SmallerAll bytes at (get_or first o 0) (get_or first (o + 1) 0) (action_at bytes at i) (cell (target_at bytes at i)) (mark (p, q)) b

    tried_true : (i : ℕ) → Tried i true → Smaller o cell (step_at bytes (at + 3 * i))
    tried_true i g v m e a =
        let j = step_member bytes at (get_or first n 0) m in
        let b = range_of bytes at n first w o j.0 o_in j.1 (ap (λ (x : Step). x.source) (sym j.2) ∙ e) in
        subst⁻¹ (λ (x : Step). (0 < cell (target_at bytes at i) x.target) × (cell (target_at bytes at i) x.target < mark (p, q))) j.2
        (g j.0 b.0 b.1 (ap (λ (x : Step). x.action) (sym j.2) ∙ a))

    tried_false : (i : ℕ) → Tried i false → Smaller o cell (step_at bytes (at + 3 * i)) → ⊥
    tried_false i g h = g.4 (h (step_at bytes (at + 3 * g.0)) (member_step bytes at (get_or first n 0) g.0 (omega (arith, g.2, (range_end bytes at n first w o o_in).0))) (source_of bytes at n first w o g.0 o_in g.1 g.2) g.3)

    -- the triple that was found qualifies
    found_qualifies : r < get_or first (s + 1) 0 → Qualifies steps mark (move_at r)
    found_qualifies h = (says (step_at bytes (at + 3 * r))).1 (
      subst (λ (x : ℕ). Mem (record { source = x; action = action_at bytes at r; target = target_at bytes at r }) steps) (source_of bytes at n first w s r s_in f.onward h) (member_step bytes at (get_or first n 0) r (omega (arith, (range_end bytes at n first w s s_in).0))),
      tried_true r (f.found h),
    )

    -- a triple of s that qualifies is not before it, and is it or comes after it
    not_before : (i : ℕ) → get_or first s 0 ≤ i → i < get_or first (s + 1) 0 → Qualifies steps mark (move_at i) → r ≤ i
    not_before i l h g = elim (dec_le r i) [ yes a ↦ a | no b ↦ absurd (tried_false i (f.passed i l (omega arith)) ((says (step_at bytes (at + 3 * i))).0 g).1) ]

    after : (i : ℕ) → get_or first s 0 ≤ i → i < get_or first (s + 1) 0 → r ≤ i → (move_at i ≡ move_at r) ⊎ Sooner (move_at r) (move_at i)
    after i l h a = elim (ℕ_discrete i r) [ yes e ↦ inl (ap move_at e) | no g ↦ inr (later (rise r i (omega arith) (omega (arith, (range_end bytes at n first w s s_in).0)))) ]
      where
        later : Earlier (step_at bytes (at + 3 * r)) (step_at bytes (at + 3 * i)) → Sooner (move_at r) (move_at i)
        later (inl z) = absurd (omega (arith, source_of bytes at n first w s i s_in l h, source_of bytes at n first w s r s_in f.onward (omega arith)))
        later (inr z) = inr (refl, z.1)

    -- every line of the side that qualifies is one of the triples of s
    line_at : (k : Line) → pair_of k ≡ (p, q) → k.side ≡ side → Qualifies steps mark k → (i : ℕ) × (get_or first s 0 ≤ i) × (i < get_or first (s + 1) 0) × (k ≡ move_at i)
    line_at k e d g =
        let u : Step = record { source = s; action = k.action; target = k.target } in
        let z : k ≡ line_by p q side u = line_by_lem p q side s k e d in
        let j = step_member bytes at (get_or first n 0) ((says u).0 (subst (Qualifies steps mark) z g)).0 in
        let b = range_of bytes at n first w s j.0 s_in j.1 (ap (λ (x : Step). x.source) (sym j.2)) in
        (j.0, b.0, b.1, z ∙ ap (line_by p q side) j.2)

    -- where one qualifies there is a triple found, and it is that one or comes sooner
    first_of_side : (k : Line) → pair_of k ≡ (p, q) → k.side ≡ side → Qualifies steps mark k → (r < get_or first (s + 1) 0) × ((k ≡ move_at r) ⊎ Sooner (move_at r) k)
    first_of_side k e d g =
        let i = line_at k e d g in
        let a = not_before i.0 i.1 i.2 (subst (Qualifies steps mark) i.3 g) in
        (omega (arith, a, i.2), rw i.3 (after i.0 i.1 i.2 a))

  -- ---- the two sides

  -- the mark of the targets of a move and of its answer: p's target stands first
  abbrev forth_cell : ℕ → ℕ → ℕ
  forth_cell x y = mark (x, y)

  abbrev back_cell : ℕ → ℕ → ℕ
  back_cell x y = mark (y, x)

  -- what qualifies on side 0, where p moves and q answers
  says_0 : (u : Step) → Qualifies steps mark (line_by p q 0 u) ↔ (Mem (step_of p u) steps × Smaller q forth_cell u)
  says_0 u = (
    λ g. (g.moves, λ v m e a. g.smaller (u.target, v.target) ((relies_0 steps l refl (u.target, v.target)).1 (v, m, e, a, refl))),
    λ g. record { moves = g.0; smaller = λ x m. let v = (relies_0 steps l refl x).0 m in rw v.4 (g.1 v.0 v.1 v.2 v.3) },
  )
    where
      l : Line
      l = line_by p q 0 u

  -- and on side 1, where q moves and p answers
  says_1 : (u : Step) → Qualifies steps mark (line_by p q 1 u) ↔ (Mem (step_of q u) steps × Smaller p back_cell u)
  says_1 u = (
    λ g. (g.moves, λ v m e a. g.smaller (v.target, u.target) ((relies_1 steps l refl (v.target, u.target)).1 (v, m, e, a, refl))),
    λ g. record { moves = g.0; smaller = λ x m. let v = (relies_1 steps l refl x).0 m in rw v.4 (g.1 v.0 v.1 v.2 v.3) },
  )
    where
      l : Line
      l = line_by p q 1 u

  abbrev Right : ℕ × ℕ → Type 0
  Right = ChosenMove bytes at n first matrix p q

  module _ (p_in : p < n) (q_in : q < n) (unequal : 0 < mark (p, q)) (m : ℕ) (m_is : m ≡ mark (p, q)) (own : Option ℕ) (forth : MoveFound bytes at first p q forth_cell m own) where
    -- a step of p was found
    pub right_0 : (i : ℕ) → own ≡ Some i → Right (0, i)
    right_0 i e =
        let f = rw (m_is, e) at forth in (
          omega (arith, f.0, (range_end bytes at n first w p p_in).0),
          record {
            p_in = p_in;
            q_in = q_in;
            unequal = unequal;
            qualifies = found_qualifies 0 p q forth_cell p_in q_in says_0 i f.1 f.0;
            first = λ k d g. ⊎_elim (λ h. (first_of_side 0 p q forth_cell p_in q_in says_0 i f.1 k d h g).1) (λ h. inr (inl (omega arith))) (no_other_side steps k g.moves);
          },
        )

    -- no step of p was found: then one of q is
    module _ (none : own ≡ None) (marks : MarksAre n steps mark) (other : Option ℕ) (back : MoveFound bytes at first q p back_cell m other) where
      module _ (i : ℕ) (f : FirstMove bytes at (get_or first q 0) (get_or first (q + 1) 0) (get_or first p 0) (get_or first (p + 1) 0) back_cell (mark (p, q)) i) where
        -- every line that qualifies is of side 1
        of_1 : (k : Line) → pair_of k ≡ (p, q) → Qualifies steps mark k → (i < get_or first (q + 1) 0) × ((k ≡ line_by p q 1 (step_at bytes (at + 3 * i))) ⊎ Sooner (line_by p q 1 (step_at bytes (at + 3 * i))) k)
        of_1 k e g = let h = rw (m_is, none) at forth in ⊎_elim (λ d. absurd (omega (arith, (first_of_side 0 p q forth_cell p_in q_in says_0 _ h k e d g).0))) (λ d. first_of_side 1 q p back_cell q_in p_in says_1 i f k e d g) (no_other_side steps k g.moves)

        one_there : i < get_or first (q + 1) 0
        one_there = let k = some_qualifies n steps mark (targets_below bytes at (get_or first n 0) n w.triples) marks p q p_in q_in unequal in (of_1 k.0 k.1 k.2).0

      pub other_found : IsSome other
      other_found = go other refl
        where
          go : (r : Option ℕ) → other ≡ r → IsSome r
          go (Some i) e = refl
          go None e = absurd (omega (arith, one_there (get_or first (q + 1) 0) (rw (m_is, e) at back)))

      pub right_1 : (i : ℕ) → other ≡ Some i → Right (1, i)
      right_1 i e =
          let f = rw (m_is, e) at back in (
            omega (arith, f.0, (range_end bytes at n first w q q_in).0),
            record {
              p_in = p_in;
              q_in = q_in;
              unequal = unequal;
              qualifies = found_qualifies 1 q p back_cell q_in p_in says_1 i f.1 f.0;
              first = λ k d g. (of_1 i f.1 k d g).1;
            },
          )
