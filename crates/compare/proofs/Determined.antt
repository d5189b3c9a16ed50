-- A refusal compares nothing, and the promise of compare determines the answer and every byte. Assumes nothing.
use Prim.Native.Nat.{ℕ, ◌<◌}
use mathlib.Core.Path.{◌≡◌, sym, ap, ◌∙◌}
use mathlib.Core.List.{List}
use native.Mathlib.Omega.{arith}
use Rattle.settle.proofs.Chain.{rounds_unique}
use Rattle.refusal.specs.declared.Refusal.{Refusal}
use Rattle.chart.specs.Chart.{Chart, states}
use Rattle.chart.proofs.Rising.{rising_same}
use Rattle.nearness.proofs.Mark.{mark_unique}
use Rattle.lent.specs.Lent.{writes, answer_of, bytes_of}
use Rattle.beside.specs.Beside.{beside}
use Rattle.beside.specs.Reading.{TwoRead, two, refused, read_two}
use Rattle.compare.specs.Comparison.{listed, Alone, Comparison}
use Rattle.compare.specs.Promise.{with_rounds, Compares, Answers, ComparePromise}
use Rattle.compare.specs.declared.Comparison as Struct
use Rattle.std.specs.Prelude.{Result, Ok, Err}

pub not_compared : {A : Type 0} {r : Refusal} {given : Struct.Comparison} → Err r ≡ Ok given → A
not_compared e = let z : ◌≡◌ {A = ℕ} 0 1 = cc in absurd (omega arith)

pub alone_unique : (n : ℕ) (Matched : ℕ → Type 0) (xs ys : List ℕ) → Alone n Matched xs → Alone n Matched ys → xs ≡ ys
alone_unique n Matched xs ys a b = rising_same ◌<◌ (λ x y z h k. omega arith) (λ x h. omega arith) xs ys a.rising b.rising (λ x. (λ m. (b.exactly x).1 ((a.exactly x).0 m), λ m. (a.exactly x).1 ((b.exactly x).0 m)))

pub comparison_determined : (c d : Chart) {mark mark' rounds rounds' : ℕ} {first first' second second' : List ℕ} → Comparison c d mark first second rounds → Comparison c d mark' first' second' rounds'
    → (mark ≡ mark') × (first ≡ first') × (second ≡ second') × (rounds ≡ rounds')
comparison_determined c d p q = (
  mark_unique (beside c d).steps 0 (states c) _ _ p.mark_is q.mark_is,
  alone_unique _ _ _ _ p.first_alone q.first_alone,
  alone_unique _ _ _ _ p.second_alone q.second_alone,
  rounds_unique _ _ _ _ p.rounds_are q.rounds_are,
)

module _ (old a b : List ℕ) (s t : Result Struct.Comparison Refusal) where
  compares_determined : (c d : Chart) → Compares c d old a s → Compares c d old b t → (s ≡ t) × (a ≡ b)
  compares_determined c d x y =
      let e = comparison_determined c d x.comparison y.comparison in
      let list : listed x.mark x.first x.second ≡ listed y.mark y.first y.second = rw (e.0, e.1, e.2) in
      (x.answered ∙ answers_same e.3 list ∙ sym y.answered, x.bytes ∙ ap (λ (l : List ℕ). bytes_of old (writes l)) list ∙ sym y.bytes)
    where
      answers_same : {j k : ℕ} {xs ys : List ℕ} → j ≡ k → xs ≡ ys → with_rounds j (answer_of old (writes xs)) ≡ with_rounds k (answer_of old (writes ys))
      answers_same e f = cc

  answers_determined : (r : TwoRead) → Answers r old a s → Answers r old b t → (s ≡ t) × (a ≡ b)
  answers_determined (two c d) x y = compares_determined c d x y
  answers_determined (refused r) x y = (x.0 ∙ sym y.0, x.1 ∙ sym y.1)

pub compare_determined : (first second old a b : List ℕ) (s t : Result Struct.Comparison Refusal) → ComparePromise first second old a s → ComparePromise first second old b t → (s ≡ t) × (a ≡ b)
compare_determined first second old a b s t = answers_determined old a b s t (read_two first second)
