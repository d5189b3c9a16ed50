-- Two own lists of a chart are equal, so the definition determines every byte. Assumes nothing.
use Prim.Native.Nat.{ℕ, ◌<◌}
use mathlib.Core.Path.{◌≡◌, sym, subst, subst⁻¹}
use mathlib.Core.List.{List, Memᴰ as Mem}
use mathlib.Core.Logic.{◌⊎◌, inl, inr}
use native.Mathlib.Omega.{arith}
use Rattle.chart.specs.Chart.{Step}
use Rattle.chart.proofs.Rising.{Less, less_trans, less_strict, rising_under, rising_same}
use Rattle.sheet.proofs.Meaning.{TargetsBelow}
use Rattle.nearness.proofs.Mark.{mark_unique}
use Rattle.reason.specs.Line.{Line, pair_of}
use Rattle.reason.specs.Own.{MarksAre, Qualifies, Sooner, Chosen, OwnList}
use Rattle.reason.proofs.Order.{before_strict, Later, later_trans}
use Rattle.reason.proofs.Own.{relies_in}

-- a pair has one chosen line
pub chosen_unique : (n : ℕ) (steps : List Step) (mark : ℕ × ℕ → ℕ) (k l : Line) → pair_of k ≡ pair_of l → Chosen n steps mark k → Chosen n steps mark l → k ≡ l
chosen_unique n steps mark k l e c d = go (d.first k e c.qualifies) (c.first l (sym e) d.qualifies)
  where
    go : (k ≡ l) ⊎ Sooner l k → (l ≡ k) ⊎ Sooner k l → k ≡ l
    go (inl h) o = h
    go (inr h) (inl i) = sym i
    go (inr h) (inr i) = absurd (less_strict k.side k.action k.target (less_trans k.side k.action k.target l.side l.action l.target k.side k.action k.target i h))

-- ---- whichever function gives the marks

module _ (n : ℕ) (steps : List Step) (targets : TargetsBelow n steps) (mark mark' : ℕ × ℕ → ℕ) (agree : (x : ℕ × ℕ) → x.0 < n → x.1 < n → mark x ≡ mark' x) where
  qualifies_same : (l : Line) → l.p < n → l.q < n → Qualifies steps mark l → Qualifies steps mark' l
  qualifies_same l a b q =
      record {
        moves = q.moves;
        smaller = λ x m. let s = q.smaller x m in let i = relies_in n steps l targets q.moves x m in
            (omega (arith, s.0, agree x i.0 i.1), omega (arith, s.1, agree x i.0 i.1, agree (pair_of l) a b));
      }

module _ (n : ℕ) (steps : List Step) (targets : TargetsBelow n steps) (mark mark' : ℕ × ℕ → ℕ) (agree : (x : ℕ × ℕ) → x.0 < n → x.1 < n → mark x ≡ mark' x) where
  chosen_same : (l : Line) → Chosen n steps mark l → Chosen n steps mark' l
  chosen_same l c =
      record {
        p_in = c.p_in;
        q_in = c.q_in;
        unequal = omega (arith, c.unequal, agree (pair_of l) c.p_in c.q_in);
        qualifies = qualifies_same n steps targets mark mark' agree l c.p_in c.q_in c.qualifies;
        first = λ k e q. c.first k e (qualifies_same n steps targets mark' mark (λ x a b. sym (agree x a b)) k (subst⁻¹ (λ (y : ℕ × ℕ). y.0 < n) e c.p_in) (subst⁻¹ (λ (y : ℕ × ℕ). y.1 < n) e c.q_in) q);
      }

  own_same : (lines : List Line) → OwnList n steps mark lines → OwnList n steps mark' lines
  own_same lines o =
      record {
        chosen = λ l m. chosen_same l (o.chosen l m);
        every = λ p q a b some. o.every p q a b (omega (arith, agree (p, q) a b));
        rising = rising_under (Later mark) (Later mark') lines (λ k l i j h. let c = o.chosen k i in let d = o.chosen l j in
            subst (λ (y : ℕ). Less y l.p l.q (mark' (pair_of k)) k.p k.q) (agree (pair_of l) d.p_in d.q_in)
            (subst (λ (y : ℕ). Less (mark (pair_of l)) l.p l.q y k.p k.q) (agree (pair_of k) c.p_in c.q_in) h)) o.rising;
      }

own_members : (n : ℕ) (steps : List Step) (mark : ℕ × ℕ → ℕ) (xs ys : List Line) → OwnList n steps mark xs → OwnList n steps mark ys → (l : Line) → Mem l xs → Mem l ys
own_members n steps mark xs ys o r l m =
    let c = o.chosen l m in
    let k = r.every l.p l.q c.p_in c.q_in c.unequal in
    subst (λ (j : Line). Mem j ys) (chosen_unique n steps mark k.0 l k.2 (r.chosen k.0 k.1) c) k.1

pub own_determined : (n : ℕ) (steps : List Step) → TargetsBelow n steps → (mark mark' : ℕ × ℕ → ℕ) → MarksAre n steps mark → MarksAre n steps mark' → (xs ys : List Line) → OwnList n steps mark xs → OwnList n steps mark' ys → xs ≡ ys
own_determined n steps targets mark mark' marks marks' xs ys o r =
    let s = own_same n steps targets mark' mark (λ x a b. mark_unique steps x.0 x.1 (mark' x) (mark x) (marks' x.0 x.1 a b) (marks x.0 x.1 a b)) ys r in
    rising_same (Later mark) (later_trans mark) (λ l h. before_strict mark (pair_of l) h) xs ys o.rising s.rising (λ l. (own_members n steps mark xs ys o s l, own_members n steps mark ys xs s o l))
