-- A round that splits by the classes which the last one made gives R(k+1) from Rk: Rk is an equivalence, and what the other classes split, they split
-- before. Assumes nothing.
use Prim.Native.Nat.{ℕ, zero, suc, ◌+◌, ◌-◌, ◌*◌, ◌^◌, ◌≤◌, ◌<◌}
use mathlib.Core.Path.{◌≡◌, refl, sym, ap, subst, subst⁻¹, ◌∙◌}
use mathlib.Core.Bool.{Bool, true, So}
use mathlib.Core.List.{List, Memᴰ as Mem}
use mathlib.Core.Logic.{◌⊎◌, inl, inr}
use native.Mathlib.Omega.{arith}
use native.Mathlib.Decide.{dec_le, ℕ_discrete}
use borrow.Author.Tests.{eq-eqb, eqb-true}
use lib.Bits.{and_le_l}
use lib.Count.{count_trailing_zeros}
use lib.Dec.{eqb}
use lib.ListN.{get_or}
use lib.Pow.{pow_mono, pow_pos}
use Rattle.settle.specs.Test.{both, neg, each}
use Rattle.settle.specs.Finite.{below, pairs}
use Rattle.settle.specs.Chain.{Settled, full, chain}
use Rattle.settle.proofs.Test.{never, ext, stable, both_i, both_e, neg_i, neg_e, same_i, same_e, all_i, all_e, each_i, each_e}
use Rattle.settle.proofs.Finite.{below_i, below_e, pairs_i, pairs_e_lem}
use Rattle.chart.specs.Chart.{Step}
use Rattle.chart.specs.Layout.{StepIn}
use Rattle.words.specs.Words.{member}
use Rattle.words.proofs.Words.{same_members, others_member, all_word, word_member, none_member}
use Rattle.steps.specs.Table.{Table, HasStep}
use Rattle.steps.specs.Walk.{leads}
use Rattle.steps.proofs.Leads.{leads_none}
use Rattle.steps.proofs.Stepping.{has_step, lead_i, lead_e}
use Rattle.words.proofs.Bits.{and_member, one_member, lowest_in}
use Rattle.nearness.specs.Relation.{Near, turned, bisimulation_round}
use Rattle.nearness.proofs.Matched.{matched_i, matched_e}
use Rattle.nearness.proofs.Formulas.{near_refl, near_sym, near_trans, near_down}
use Rattle.relation.specs.Rows.{in_rows, Holds, Keeps}
use Rattle.relation.proofs.Keeping.{within_states, keeps_holds}
use Rattle.classes.specs.Splitting.{Sharing, undivided}
use Rattle.classes.specs.Marking.{fallen, is_new, shares_row}

-- the class of each state is one that the last round made, by its lowest state, or splits nothing any more
abbrev pub Pending : List ℕ → ℕ → ℕ → List ℕ → ℕ → Type 0
Pending into n m near made =
    (x : ℕ) → x < n
    → ((y : ℕ) × (y < n) × So (member made y) × (get_or near x 0 ≡ get_or near y 0)) ⊎ ((p q : ℕ) → So (in_rows near p q) → So (undivided into n m (get_or near x 0) p q))

-- ---- the rows of an equivalence

module _ (n k : ℕ) (steps : List Step) {rows : List ℕ} (h : Holds n (Near steps k) rows) where
  pub own_row : (p : ℕ) → p < n → So (in_rows rows p p)
  own_row p i = h.bits p p i i ∙ near_refl steps k p

  -- equal states have equal rows
  pub same_row : (p q : ℕ) → So (in_rows rows p q) → get_or rows p 0 ≡ get_or rows q 0
  same_row p q r =
      let b = within_states h.within p q r in
      let near : So (Near steps k (p, q)) = sym (h.bits p q b.0 b.1) ∙ r in
      same_members n _ _ (h.within.no_bit_above p) (h.within.no_bit_above q) (λ x l.
      h.bits p x b.0 l
      ∙ ext (λ t. near_trans steps k q p x (near_sym steps k p q near) t) (λ t. near_trans steps k p q x near t)
      ∙ sym (h.bits q x b.1 l))

-- ---- a round

module _ (n m : ℕ) (few : n ≤ 64) (steps : List Step) (in_chart : (t : Step) → Mem t steps → StepIn n m t) (into : List ℕ) (T : Table n m steps into) (k : ℕ) (near : List ℕ) (h : Holds n (Near steps k) near) where
  abbrev Able : ℕ → ℕ → ℕ → Bool
  Able x a s = leads into ((a + 1) * n) (get_or near x 0) s

  able_e : (x a s : ℕ) → x < n → a < m → So (Able x a s) → (u : ℕ) × HasStep steps s a u × So (Near steps k (x, u))
  able_e x a s i j t =
      let r = lead_e few T a j (get_or near x 0) s (h.within.no_bit_above x) t in
      (r.0, r.2, sym (h.bits x r.0 i (in_chart _ r.2).target_in) ∙ r.1)

  able_i : (x a s u : ℕ) → x < n → HasStep steps s a u → So (Near steps k (x, u)) → So (Able x a s)
  able_i x a s u i step t =
      let d = in_chart _ step in
      lead_i few T a d.action_in (get_or near x 0) s u d.target_in (h.bits x u i d.target_in ∙ t) step

  -- a class of Rk does not split a pair of R(k+1)
  able_forth : (p q : ℕ) → So (Near steps (suc k) (p, q)) → (x a : ℕ) → x < n → a < m → So (Able x a p) → So (Able x a q)
  unfolding chain bisimulation_round
  able_forth p q r x a i j t =
      let s = able_e x a p i j t in
      let u = matched_e steps (Near steps k) p q (both_e _ _ r).0 _ s.1 refl in
      able_i x a q u.0.target i (has_step u.0 u.1 u.2 u.3) (near_trans steps k x s.0 u.0.target s.2 u.4)

  next_undivided : (p q : ℕ) → So (Near steps (suc k) (p, q)) → (x : ℕ) → So (undivided into n m (get_or near x 0) p q)
  unfolding undivided
  next_undivided p q r x = all_i _ _ (λ a i. same_i _ _ (alike a (below_e m a i)))
    where
      alike : (a : ℕ) → a < m → Able x a p ≡ Able x a q
      alike a j = elim (dec_le n x) [
        | yes l ↦ rw (h.within.no_row_above x l) (leads_none into ((a + 1) * n) p ∙ sym (leads_none into ((a + 1) * n) q))
        | no f ↦ ext (able_forth p q r x a (omega arith) j) (able_forth q p (near_sym steps (suc k) p q r) x a (omega arith) j)
      ]

  -- and a pair of Rk that none splits is one of R(k+1)
  undivided_next : (p q : ℕ) → ((x : ℕ) → x < n → So (undivided into n m (get_or near x 0) p q)) → So (Near steps (suc k) (p, q))
  unfolding chain bisimulation_round undivided
  undivided_next p q f =
      both_i
      (matched_i steps (Near steps k) p q (λ t i e. answer t i q (λ j. subst (λ (z : ℕ). Able t.target t.action z ≡ Able t.target t.action q) (sym e) (alike t i))))
      (matched_i steps (turned (Near steps k)) q p (λ t i e. let r = answer t i p (λ j. subst (λ (z : ℕ). Able t.target t.action z ≡ Able t.target t.action p) (sym e) (sym (alike t i))) in (r.0, r.1, r.2, r.3, near_sym steps k _ _ r.4)))
    where
      alike : (t : Step) → Mem t steps → Able t.target t.action p ≡ Able t.target t.action q
      alike t i = let d = in_chart t i in same_e _ _ (all_e _ (f t.target d.target_in) (below_i m t.action d.action_in))

      answer : (t : Step) → Mem t steps → (q : ℕ) → (So true → Able t.target t.action t.source ≡ Able t.target t.action q)
          → (u : Step) × Mem u steps × (u.source ≡ q) × (u.action ≡ t.action) × So (Near steps k (t.target, u.target))
      answer t i q e =
          let d = in_chart t i in
          let s = able_e t.target t.action q d.target_in d.action_in (sym (e refl) ∙ able_i t.target t.action t.source t.target d.target_in i (near_refl steps k t.target)) in
          (record { source = q; action = t.action; target = s.0 }, s.1, refl, refl, s.2)

  module _ (made : ℕ) (pending : Pending into n m near made) where
    abbrev kept : ℕ → ℕ → Bool
    kept p q = each (member made) (λ x. undivided into n m (get_or near x 0) p q) (below 64)

    all_undivided : (p q : ℕ) → So (in_rows near p q) → So (kept p q) → (x : ℕ) → x < n → So (undivided into n m (get_or near x 0) p q)
    all_undivided p q r e x i = elim (pending x i) [
      | inl y ↦ rw y.3 (each_e _ _ e (below_i 64 y.0 (omega (arith, y.1))) y.2)
      | inr f ↦ f p q r
    ]

    pub round_holds : {next : List ℕ} → Keeps n kept near next → Holds n (Near steps (suc k)) next
    round_holds keeps = keeps_holds h keeps (λ p q i j. ext
        (λ t. let d = both_e _ _ t in undivided_next p q (all_undivided p q (h.bits p q i j ∙ d.0) d.1))
        (λ t. both_i (near_down steps k (suc k) p q (omega arith) t) (each_i _ _ _ (λ x b c. next_undivided p q t x))))

    -- ---- what the round made

    module _ {next : List ℕ} (keeps : Keeps n kept near next) where
      next_holds : Holds n (Near steps (suc k)) next
      next_holds = round_holds keeps

      kept_near : (p q : ℕ) → So (in_rows next p q) → So (in_rows near p q)
      kept_near p q r = (both_e _ _ (sym (keeps.kept p q) ∙ r)).0

      something_fell : (p : ℕ) → (get_or near p 0 ≡ get_or next p 0 → ⊥) → fallen n (get_or near p 0) (get_or next p 0) ≡ 0 → ⊥
      something_fell p f e = f (same_members n _ _ (h.within.no_bit_above p) (next_holds.within.no_bit_above p) (λ q l. ext (λ r. stable _ (λ g. gone q l r g)) (kept_near p q)))
        where
          gone : (q : ℕ) → q < n → So (in_rows near p q) → (So (in_rows next p q) → ⊥) → ⊥
          gone q l r g = never (sym (none_member q) ∙ sym (ap (λ (x : ℕ). member x q) e) ∙ and_member _ _ q ∙ both_i r (others_member n (get_or next p 0) q (next_holds.within.no_bit_above p) l ∙ neg_i _ g))

      module _ (new : ℕ) (is_new_lem : (p : ℕ) → member new p ≡ is_new n (get_or near p 0) (get_or next p 0) p) where
        -- of a row that changed, the lowest state tells the class
        changed_new : (x : ℕ) → x < n → (get_or near x 0 ≡ get_or next x 0 → ⊥) → (y : ℕ) × (y < n) × So (member new y) × (get_or next x 0 ≡ get_or next y 0)
        unfolding is_new
        changed_new x i f =
            let row : ℕ = get_or next x 0 in
            let y : ℕ = count_trailing_zeros 64 row in
            let low : So (in_rows next x y) = lowest_in 64 row some small in
            let b = within_states next_holds.within x y low in
            let e : get_or next x 0 ≡ get_or next y 0 = same_row n (suc k) steps next_holds x y low in
            let g : get_or near x 0 ≡ get_or near y 0 = same_row n k steps h x y (kept_near x y low) in
            (y, b.1, is_new_lem y ∙ both_i (neg_i _ (λ z. something_fell y (λ s. f (g ∙ s ∙ sym e)) (eqb-true _ _ z))) (eq-eqb _ _ (ap (count_trailing_zeros 64) (sym e))), e)
          where
            small : get_or next x 0 < 2 ^ 64
            small = omega (arith, next_holds.within.no_bit_above x, pow_mono few)

            some : 0 < get_or next x 0
            some = elim (ℕ_discrete (get_or next x 0) 0) [ yes z ↦ never (sym (none_member x) ∙ subst (λ (w : ℕ). So (member w x)) z (own_row n (suc k) steps next_holds x i)) | no g ↦ omega arith ]

        pub pending_more : Pending into n m next new
        pending_more x i = elim (ℕ_discrete (get_or near x 0) (get_or next x 0)) [
          | yes e ↦ inr (λ p q r. rw (← e) (all_undivided p q (kept_near p q r) (both_e _ _ (sym (keeps.kept p q) ∙ r)).1 x i))
          | no f ↦ inl (changed_new x i f)
        ]

        -- where it made none, it changed nothing
        pub none_settled : new ≡ 0 → Settled (pairs n) (Near steps) k
        none_settled e x i = go (pairs_e_lem n x i)
          where
            go : (x.0 < n) × (x.1 < n) → Near steps k x ≡ Near steps (suc k) x
            go b = elim (ℕ_discrete (get_or near x.0 0) (get_or next x.0 0)) [
              | yes s ↦ sym (h.bits x.0 x.1 b.0 b.1) ∙ ap (λ (w : ℕ). member w x.1) s ∙ next_holds.bits x.0 x.1 b.0 b.1
              | no f ↦ (let y = changed_new x.0 b.0 f in never (sym (none_member y.0) ∙ subst (λ (w : ℕ). So (member w y.0)) e y.2))
            ]

        -- where it made one, it changed something
        pub some_unsettled : new < 2 ^ 64 → (new ≡ 0 → ⊥) → Settled (pairs n) (Near steps) k → ⊥
        unfolding is_new
        some_unsettled size f s = let y : ℕ = count_trailing_zeros 64 new in fell y (both_e _ _ (sym (is_new_lem y) ∙ lowest_in 64 new (omega arith) size)).0
          where
            positive : (w : ℕ) → (w ≡ 0 → ⊥) → 0 < w
            positive zero g = absurd (g refl)
            positive (suc w) g = omega arith

            fell : (p : ℕ) → So (neg (eqb (fallen n (get_or near p 0) (get_or next p 0)) 0)) → ⊥
            fell p z =
                let w : ℕ = fallen n (get_or near p 0) (get_or next p 0) in
                let some : 0 < w = positive w (λ e. neg_e _ z (eq-eqb _ _ e)) in
                let less : w < 2 ^ 64 = omega (arith, and_le_l (get_or near p 0) (2 ^ n - 1 - get_or next p 0), h.within.no_bit_above p, pow_mono few) in
                let q : ℕ = count_trailing_zeros 64 w in
                let d = both_e _ _ (sym (and_member _ _ q) ∙ lowest_in 64 w some less) in
                let b = within_states h.within p q d.0 in
                neg_e _ (sym (others_member n (get_or next p 0) q (next_holds.within.no_bit_above p) b.1) ∙ d.1)
                (next_holds.bits p q b.0 b.1 ∙ sym (s (p, q) (pairs_i n p q b.0 b.1)) ∙ sym (h.bits p q b.0 b.1) ∙ d.0)

      -- ---- the states that share their class

      module _ (shared : ℕ) (sharing : Sharing shared near) where
        -- nothing falls from a state that is alone
        pub alone_still : (p : ℕ) → (So (member shared p) → ⊥) → fallen n (get_or near p 0) (get_or next p 0) ≡ 0
        alone_still p f = same_members n _ 0 (omega (arith, and_le_l (get_or near p 0) (2 ^ n - 1 - get_or next p 0), h.within.no_bit_above p)) (pow_pos n) (λ q l. ext (gone q l) (λ t. never (sym (none_member q) ∙ t)))
          where
            gone : (q : ℕ) → q < n → So (member (fallen n (get_or near p 0) (get_or next p 0)) q) → So (member 0 q)
            gone q l t =
                let d = both_e _ _ (sym (and_member _ _ q) ∙ t) in
                elim (sharing.else_alone p q d.0) [
                  | inl e ↦ absurd (neg_e _ (sym (others_member n (get_or next p 0) q (next_holds.within.no_bit_above p) l) ∙ d.1) (subst (λ (x : ℕ). So (in_rows next p x)) e (own_row n (suc k) steps next_holds p (subst⁻¹ (λ (x : ℕ). x < n) e l))))
                  | inr b ↦ absurd (f b.0)
                ]

        pub sharing_more : (still : ℕ) → ((p : ℕ) → member still p ≡ both (member shared p) (shares_row (get_or next p 0) p)) → Sharing still next
        unfolding shares_row
        sharing_more still is = record { else_alone = λ p q i. elim (ℕ_discrete p q) [ yes e ↦ inl e | no f ↦ inr (two p q i f, two q p (turn p q i) (λ e. f (sym e))) ] }
          where
            turn : (p q : ℕ) → So (in_rows next p q) → So (in_rows next q p)
            turn p q i = let b = within_states next_holds.within p q i in subst (λ (x : ℕ). So (member x p)) (same_row n (suc k) steps next_holds p q i) (own_row n (suc k) steps next_holds p b.0)

            two : (p q : ℕ) → So (in_rows next p q) → (p ≡ q → ⊥) → So (member still p)
            two p q i f = elim (sharing.else_alone p q (kept_near p q i)) [
              | inl e ↦ absurd (f e)
              | inr b ↦ is p ∙ both_i b.0 (neg_i _ (λ z. f (eqb-true p q (sym (one_member p q) ∙ subst (λ (x : ℕ). So (member x q)) (eqb-true _ _ z) i))))
            ]

-- ---- at first all states are one class, of which 0 is the lowest

pub pending_first : (into : List ℕ) (n m : ℕ) {near : List ℕ} → 0 < n → Holds n full near → Pending into n m near 1
unfolding full
pending_first into n m some h x i = inl (0, some, one_member 0 0, same_members n _ _ (h.within.no_bit_above x) (h.within.no_bit_above 0) (λ q l. h.bits x q i l ∙ sym (h.bits 0 q some l)))

pub sharing_first : (n : ℕ) {near : List ℕ} → Holds n full near → Sharing (2 ^ n - 1) near
sharing_first n h = record { else_alone = λ p q i. let b = within_states h.within p q i in inr (all p b.0, all q b.1) }
  where
    all : (p : ℕ) → p < n → So (member (2 ^ n - 1) p)
    all p i = ap (λ (x : ℕ). member x p) (sym (all_word n)) ∙ word_member n p (λ x. true) i

-- where no state shares its class, no round changes anything
pub alone_settled : (n k : ℕ) (steps : List Step) {near : List ℕ} → Holds n (Near steps k) near → Sharing 0 near → Settled (pairs n) (Near steps) k
alone_settled n k steps h s x i = let b = pairs_e_lem n x i in
    ext (λ t. elim (s.else_alone x.0 x.1 (h.bits x.0 x.1 b.0 b.1 ∙ t)) [
      | inl e ↦ subst (λ (q : ℕ). So (Near steps (suc k) (x.0, q))) e (near_refl steps (suc k) x.0)
      | inr d ↦ never (sym (none_member x.0) ∙ d.0)
    ])
    (near_down steps k (suc k) x.0 x.1 (omega arith))
