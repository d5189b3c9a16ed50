-- What the promise of compare says in each case: of a given comparison and of a refusal. Assumes nothing.
use Prim.Native.Nat.{ℕ, ◌≤◌, ◌<◌}
use mathlib.Core.Path.{◌≡◌, refl, sym, ap, ◌∙◌}
use mathlib.Core.List.{List}
use mathlib.Core.Logic.{◌⊎◌, inl, inr, ⊎_elim}
use native.Mathlib.Omega.{arith}
use lib.ListN.{length, take, drop}
use Rattle.refusal.specs.Refusal.{lent_refusal}
use Rattle.refusal.specs.declared.Refusal.{Refusal}
use Rattle.chart.specs.Chart.{Chart}
use Rattle.chart.proofs.Refused as Charts
use Rattle.lent.specs.Lent.{writes, answer_of, LentPromise}
use Rattle.lent.proofs.Lent.{no_bytes, written_fills, refused_by, refused_leaves}
use Rattle.beside.specs.Reading.{TwoRead, two, refused, read_two}
use Rattle.beside.proofs.Reading.{Refusing, of_first, of_second_lem, of_both, two_refused, OwnFault, lent_own, two_at_fault}
use Rattle.compare.specs.Comparison.{listed, Comparison}
use Rattle.compare.specs.Promise.{with_rounds, Compares, Answers, ComparePromise}
use Rattle.compare.specs.declared.Comparison as Struct
use Rattle.compare.proofs.Determined.{not_compared}
use Rattle.std.specs.Prelude.{Result, Ok, Err}

-- ---- of a comparison that is given

-- two charts were read; their list fills the start of the buffer, its length stands in the answer, and later bytes stay
pub record Told (first second old new : List ℕ) (given : Struct.Comparison) : Type 0 where
  pub c : Chart
  pub d : Chart
  pub read : read_two first second ≡ two c d
  pub mark : ℕ
  pub of_first : List ℕ
  pub of_second : List ℕ
  pub comparison : Comparison c d mark of_first of_second given.rounds
  pub written_is : given.written ≡ length (listed mark of_first of_second)
  pub start_is : take given.written new ≡ listed mark of_first of_second
  pub later_stay : drop given.written new ≡ drop given.written old

pub told : (first second old new : List ℕ) (given : Struct.Comparison) → ComparePromise first second old new (Ok given) → Told first second old new given
told first second old new given = by_read (read_two first second) refl
  where
    by_answer : (c d : Chart) → read_two first second ≡ two c d → (p : Compares c d old new (Ok given)) (l : Result ℕ Refusal)
        → answer_of old (writes (listed p.mark p.first p.second)) ≡ l → Ok given ≡ with_rounds p.rounds l → Told first second old new given
    by_answer c d e p (Err r) f a = not_compared (sym a)
    by_answer c d e p (Ok size) f a =
        let list : List ℕ = listed p.mark p.first p.second in
        let g : given ≡ record { written = size; rounds = p.rounds } = cc in
        let w = written_fills (writes list) old new size (record { answered = sym f; bytes = p.bytes }) in
        let i = w.is in
        let same : list ≡ w.bytes = cc in
        rw g (record {
          c = c;
          d = d;
          read = e;
          mark = p.mark;
          of_first = p.first;
          of_second = p.second;
          comparison = p.comparison;
          written_is = w.size_is ∙ ap length (sym same);
          start_is = w.start_is ∙ sym same;
          later_stay = w.later_stay;
        })

    by_read : (t : TwoRead) → read_two first second ≡ t → Answers t old new (Ok given) → Told first second old new given
    by_read (refused r) e p = not_compared (sym p.0)
    by_read (two c d) e p = by_answer c d e p (answer_of old (writes (listed p.mark p.first p.second))) refl p.answered

-- ---- of a refusal

-- it is the reading's own, or 14; and it leaves every byte
pub compare_refused : (first second old new : List ℕ) (r : Refusal) → ComparePromise first second old new (Err r)
    → ((read_two first second ≡ refused r) ⊎ (r ≡ lent_refusal 14)) × (new ≡ old)
compare_refused first second old new r = by_read (read_two first second)
  where
    by_answer : (list : List ℕ) (rounds : ℕ) (l : Result ℕ Refusal) → LentPromise (writes list) old new l → Err r ≡ with_rounds rounds l → (r ≡ lent_refusal 14) × (new ≡ old)
    by_answer list rounds (Ok size) p a = not_compared a
    by_answer list rounds (Err s) p a =
        let e : r ≡ s = cc in
        (e ∙ ⊎_elim (λ w. no_bytes (sym w)) (λ f. f) (refused_by (writes list) old new s p), refused_leaves (writes list) old new s p)

    by_read : (t : TwoRead) → Answers t old new (Err r) → ((t ≡ refused r) ⊎ (r ≡ lent_refusal 14)) × (new ≡ old)
    by_read (refused s) p = let a = p.0 in let e : s ≡ r = cc in (inl (ap refused e), p.1)
    by_read (two c d) p = let a = by_answer (listed p.mark p.first p.second) p.rounds _ (record { answered = refl; bytes = p.bytes }) p.answered in (inr a.0, a.1)

-- of a chart, the first or the second, it tells what is wrong in that chart's own bytes
pub compare_at_fault : (first second old new : List ℕ) (r : Refusal) → ComparePromise first second old new (Err r) → OwnFault first second r
compare_at_fault first second old new r p =
    ⊎_elim (two_at_fault first second r) (λ e. rw e (lent_own first second 14)) (compare_refused first second old new r p).0

-- the reading's own is not of 9 to 17
pub reading_number : (first second : List ℕ) (r : Refusal) → read_two first second ≡ refused r → 8 < r.number → 18 ≤ r.number
reading_number first second r e h = by_reading (two_refused first second r e)
  where
    by_reading : Refusing first second r → 18 ≤ r.number
    by_reading (of_first f) = omega (arith, (Charts.refused first r f).number_few)
    by_reading (of_second_lem s f g) = omega (arith, (Charts.refused second s f).number_few, ap (λ (x : Refusal). x.number) g)
    by_reading (of_both number some few g) = omega (arith, ap (λ (x : Refusal). x.number) g)

-- 15 never comes
pub compare_never_15 : (first second old new : List ℕ) (r : Refusal) → ComparePromise first second old new (Err r) → r.number ≡ 15 → ⊥
compare_never_15 first second old new r p e = ⊎_elim (λ f. omega (arith, reading_number first second r f (omega arith))) (λ f. omega (arith, ap (λ (x : Refusal). x.number) f)) (compare_refused first second old new r p).0
