-- Any two results that a call's promise allows for the same input agree: the code, every lent number and every lent byte. Assumes nothing.
use Prim.Native.Nat.{ℕ}
use mathlib.Core.Path.{◌≡◌, ap, sym, ◌∙◌}
use mathlib.Core.List.{List}
use Rattle.marks.proofs.Promise.{marks_determined}
use Rattle.simulation.proofs.Promise.{simulation_determined}
use Rattle.equal.proofs.Promise.{rows_determined, pairs_determined}
use Rattle.property.proofs.Promise.{property_determined}
use Rattle.both_solutions.proofs.Promise.{both_determined}
use Rattle.short_form.proofs.Promise.{short_form_determined}
use Rattle.reasons.proofs.Promise.{reasons_determined}
use Rattle.check_reasons.proofs.Promise.{check_determined}
use Rattle.compare.proofs.Determined.{compare_determined}
use Rattle.calls.specs.Shown.{lent, matrix_code, matrix_states, matrix_rounds, MatrixShown, MarksShown, SimulationShown, equal_code, counted_left, EqualRowsShown, EqualPairsShown, property_code, word_left, count_left, rounds_left, PropertyShown, both_code, least_left, greatest_left, BothShown, written_code, written_left, WrittenShown, ShortFormShown, ReasonsShown, check_code, lines_left, CheckShown, compare_code, compare_written, compare_rounds, CompareShown}
use Rattle.std.specs.Prelude.{Result}
use Rattle.refusal.specs.declared.Refusal.{Refusal}
use Rattle.relation.specs.declared.Matrix.{Matrix}

-- what follows from equal answers
along : {A B : Type 0} (f : A → B) {x y : A} {m n : B} → x ≡ y → m ≡ f x → n ≡ f y → m ≡ n
along f e p q = p ∙ ap f e ∙ sym q

-- where the promise leaves no choice
matrix_shown_determined : {Promise : List ℕ → List ℕ → List ℕ → Result Matrix Refusal → Type 0}
    → ((chart old a b : List ℕ) (s t : Result Matrix Refusal) → Promise chart old a s → Promise chart old b t → (s ≡ t) × (a ≡ b))
    → (chart old a b : List ℕ) (s s₁ s₂ r r₁ r₂ c₁ c₂ : ℕ)
    → MatrixShown Promise chart old a (lent s s₁) (lent r r₁) c₁ → MatrixShown Promise chart old b (lent s s₂) (lent r r₂) c₂
    → (a ≡ b) × (c₁ ≡ c₂) × (s₁ ≡ s₂) × (r₁ ≡ r₂)
matrix_shown_determined determined chart old a b s s₁ s₂ r r₁ r₂ c₁ c₂ x y =
    let e = determined chart old a b _ _ x.promised y.promised in
    (e.1, along matrix_code e.0 x.code_is y.code_is, along (matrix_states s) e.0 x.states_is y.states_is, along (matrix_rounds r) e.0 x.rounds_is y.rounds_is)

pub marks_shown_determined : (chart old a b : List ℕ) (s s₁ s₂ r r₁ r₂ c₁ c₂ : ℕ)
    → MarksShown chart old a (lent s s₁) (lent r r₁) c₁ → MarksShown chart old b (lent s s₂) (lent r r₂) c₂
    → (a ≡ b) × (c₁ ≡ c₂) × (s₁ ≡ s₂) × (r₁ ≡ r₂)
marks_shown_determined = matrix_shown_determined marks_determined

pub simulation_shown_determined : (chart old a b : List ℕ) (s s₁ s₂ r r₁ r₂ c₁ c₂ : ℕ)
    → SimulationShown chart old a (lent s s₁) (lent r r₁) c₁ → SimulationShown chart old b (lent s s₂) (lent r r₂) c₂
    → (a ≡ b) × (c₁ ≡ c₂) × (s₁ ≡ s₂) × (r₁ ≡ r₂)
simulation_shown_determined = matrix_shown_determined simulation_determined

pub equal_rows_shown_determined : (chart old a b : List ℕ) (s s₁ s₂ c₁ c₂ : ℕ)
    → EqualRowsShown chart old a (lent s s₁) c₁ → EqualRowsShown chart old b (lent s s₂) c₂
    → (a ≡ b) × (c₁ ≡ c₂) × (s₁ ≡ s₂)
equal_rows_shown_determined chart old a b s s₁ s₂ c₁ c₂ x y =
    let e = rows_determined chart old a b _ _ x.promised y.promised in
    (e.1, along equal_code e.0 x.code_is y.code_is, along (counted_left s) e.0 x.counted_is y.counted_is)

pub equal_pairs_shown_determined : (chart : List ℕ) (n n₁ n₂ c₁ c₂ : ℕ)
    → EqualPairsShown chart (lent n n₁) c₁ → EqualPairsShown chart (lent n n₂) c₂
    → (c₁ ≡ c₂) × (n₁ ≡ n₂)
equal_pairs_shown_determined chart n n₁ n₂ c₁ c₂ x y =
    let e = pairs_determined chart _ _ x.promised y.promised in
    (along equal_code e x.code_is y.code_is, along (counted_left n) e x.counted_is y.counted_is)

pub property_shown_determined : (chart sheet : List ℕ) (w w₁ w₂ n n₁ n₂ r r₁ r₂ c₁ c₂ : ℕ)
    → PropertyShown chart sheet (lent w w₁) (lent n n₁) (lent r r₁) c₁ → PropertyShown chart sheet (lent w w₂) (lent n n₂) (lent r r₂) c₂
    → (c₁ ≡ c₂) × (w₁ ≡ w₂) × (n₁ ≡ n₂) × (r₁ ≡ r₂)
property_shown_determined chart sheet w w₁ w₂ n n₁ n₂ r r₁ r₂ c₁ c₂ x y =
    let e = property_determined chart sheet _ _ x.promised y.promised in
    (along property_code e x.code_is y.code_is, along (word_left w) e x.word_is y.word_is, along (count_left n) e x.count_is y.count_is, along (rounds_left r) e x.rounds_is y.rounds_is)

pub both_shown_determined : (chart sheet l l₁ l₂ g g₁ g₂ : List ℕ) (c₁ c₂ : ℕ)
    → BothShown chart sheet l l₁ g g₁ c₁ → BothShown chart sheet l l₂ g g₂ c₂
    → (c₁ ≡ c₂) × (l₁ ≡ l₂) × (g₁ ≡ g₂)
both_shown_determined chart sheet l l₁ l₂ g g₁ g₂ c₁ c₂ x y =
    let e = both_determined chart sheet _ _ x.promised y.promised in
    (along both_code e x.code_is y.code_is, along (least_left l) e x.least_is y.least_is, along (greatest_left g) e x.greatest_is y.greatest_is)

written_shown_determined : {Promise : List ℕ → List ℕ → Result ℕ Refusal → Type 0}
    → ((old a b : List ℕ) (s t : Result ℕ Refusal) → Promise old a s → Promise old b t → (s ≡ t) × (a ≡ b))
    → (old a b : List ℕ) (w w₁ w₂ c₁ c₂ : ℕ)
    → WrittenShown Promise old a (lent w w₁) c₁ → WrittenShown Promise old b (lent w w₂) c₂
    → (a ≡ b) × (c₁ ≡ c₂) × (w₁ ≡ w₂)
written_shown_determined determined old a b w w₁ w₂ c₁ c₂ x y =
    let e = determined old a b _ _ x.promised y.promised in
    (e.1, along written_code e.0 x.code_is y.code_is, along (written_left w) e.0 x.written_is y.written_is)

pub short_form_shown_determined : (chart sheet : List ℕ) (name : ℕ) (old a b : List ℕ) (w w₁ w₂ c₁ c₂ : ℕ)
    → ShortFormShown chart sheet name old a (lent w w₁) c₁ → ShortFormShown chart sheet name old b (lent w w₂) c₂
    → (a ≡ b) × (c₁ ≡ c₂) × (w₁ ≡ w₂)
short_form_shown_determined chart sheet name = written_shown_determined (λ old a b s t p q. short_form_determined chart sheet name old p q)

pub reasons_shown_determined : (chart old a b : List ℕ) (w w₁ w₂ c₁ c₂ : ℕ)
    → ReasonsShown chart old a (lent w w₁) c₁ → ReasonsShown chart old b (lent w w₂) c₂
    → (a ≡ b) × (c₁ ≡ c₂) × (w₁ ≡ w₂)
reasons_shown_determined chart = written_shown_determined (reasons_determined chart)

pub check_shown_determined : (chart list : List ℕ) (l l₁ l₂ c₁ c₂ : ℕ)
    → CheckShown chart list (lent l l₁) c₁ → CheckShown chart list (lent l l₂) c₂
    → (c₁ ≡ c₂) × (l₁ ≡ l₂)
check_shown_determined chart list l l₁ l₂ c₁ c₂ x y =
    let e = check_determined chart list _ _ x.promised y.promised in
    (along check_code e x.code_is y.code_is, along (lines_left l) e x.lines_is y.lines_is)

pub compare_shown_determined : (first second old a b : List ℕ) (w w₁ w₂ r r₁ r₂ c₁ c₂ : ℕ)
    → CompareShown first second old a (lent w w₁) (lent r r₁) c₁ → CompareShown first second old b (lent w w₂) (lent r r₂) c₂
    → (a ≡ b) × (c₁ ≡ c₂) × (w₁ ≡ w₂) × (r₁ ≡ r₂)
compare_shown_determined first second old a b w w₁ w₂ r r₁ r₂ c₁ c₂ x y =
    let e = compare_determined first second old a b _ _ x.promised y.promised in
    (e.1, along compare_code e.0 x.code_is y.code_is, along (compare_written w) e.0 x.written_is y.written_is, along (compare_rounds r) e.0 x.rounds_is y.rounds_is)
