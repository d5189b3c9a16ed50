-- Reading the two charts in turn: what each way answers is what is promised, and the promise leaves no choice. Assumes nothing.
use Prim.Native.Nat.{ℕ}
use mathlib.Core.Path.{◌≡◌, refl, sym, ap, subst⁻¹, ◌∙◌}
use mathlib.Core.List.{List}
use Rattle.refusal.specs.Refusal.{of_second}
use Rattle.refusal.specs.declared.Refusal.{Refusal}
use Rattle.chart.specs.Reading.{chart_in, read_chart}
use Rattle.chart.specs.declared.Shape.{Shape}
use Rattle.beside.specs.Reading.{read_first, read_second}
use Rattle.side_by_side.specs.Promise.{Promise, TogetherPromise, JoinPromise}
use Rattle.std.specs.Prelude.{Result, Ok, Err}
use Rattle.side_by_side.specs.declared.Joined.{Joined}

module _ (first second : List ℕ) where
  pub refused_first : {r : Refusal} {old : List ℕ} → read_chart first ≡ Err r → JoinPromise first second old old (Err r)
  refused_first {r} {old} e = subst⁻¹ (λ (x : Result Shape Refusal). Promise (read_first first second x) old old (Err r)) e (record { answered = refl; bytes = refl })

  -- past the first chart
  module _ {a : Shape} {old new : List ℕ} {answer : Result Joined Refusal} (accepted : read_chart first ≡ Ok a) where
    past_first : Promise (read_second second (chart_in first a) (read_chart second)) old new answer → JoinPromise first second old new answer
    past_first = subst⁻¹ (λ (x : Result Shape Refusal). Promise (read_first first second x) old new answer) accepted

    pub both_accepted : {b : Shape} → read_chart second ≡ Ok b → TogetherPromise first a second b old new answer → JoinPromise first second old new answer
    both_accepted e p = past_first (subst⁻¹ (λ (x : Result Shape Refusal). Promise (read_second second (chart_in first a) x) old new answer) e p)

  pub refused_second : {a : Shape} {r given : Refusal} {old : List ℕ} → read_chart first ≡ Ok a → read_chart second ≡ Err r → given ≡ of_second r
      → JoinPromise first second old old (Err given)
  refused_second {a} {given} {old} h e f =
      past_first h (subst⁻¹ (λ (x : Result Shape Refusal). Promise (read_second second (chart_in first a) x) old old (Err given)) e (record { answered = ap Err f; bytes = refl }))

  -- any two answers, and any two lent arrays, that the promise allows agree
  pub join_determined : {old new other : List ℕ} {answer given : Result Joined Refusal} → JoinPromise first second old new answer → JoinPromise first second old other given
      → (answer ≡ given) × (new ≡ other)
  join_determined p q = (p.answered ∙ sym q.answered, p.bytes ∙ sym q.bytes)
