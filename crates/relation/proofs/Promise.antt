-- The promise of a question that answers by a matrix, in each case, and that it leaves no choice. Assumes nothing.
use Prim.Native.Nat.{ℕ, ◌*◌, ◌≤◌, ◌<◌}
use mathlib.Core.Path.{◌≡◌, refl, sym, ap, ap₂, subst, subst⁻¹, ◌∙◌}
use mathlib.Core.List.{List}
use native.Mathlib.Omega.{arith}
use native.Mathlib.Decide.{dec_le}
use lib.ListN.{length, get_or}
use lib.Seq.{ext_get_or}
use Rattle.settle.specs.Finite.{pairs}
use Rattle.settle.specs.Chain.{Settled, Rounds}
use Rattle.settle.proofs.Chain.{rounds_unique}
use Rattle.refusal.specs.Refusal.{lent_refusal}
use Rattle.refusal.specs.declared.Refusal.{Refusal}
use Rattle.chart.specs.Chart.{Step}
use Rattle.chart.specs.Reading.{chart_in, read_chart}
use Rattle.chart.specs.declared.Shape.{Shape}
use Rattle.chart.proofs.Accepted.{accepted, each_step, never_both, same_shape}
use Rattle.chart.proofs.Refused.{refused}
use Rattle.sheet.proofs.Meaning.{TargetsBelow}
use Rattle.nearness.specs.Relation.{Relation}
use Rattle.relation.specs.Promise.{byte_at, Saying, Relations, Answers, MatrixPromise, AlwaysAnswered, Never15, Determined}
use Rattle.relation.specs.Working.{Holding, Working}
use Rattle.relation.specs.declared.Matrix.{Matrix}
use Rattle.relation.proofs.Cells.{row_in, column_in, pair_cell}
use Rattle.std.specs.Prelude.{Result, Ok, Err}

targets : (chart : List ℕ) (sh : Shape) → read_chart chart ≡ Ok sh → TargetsBelow sh.n (chart_in chart sh).steps
targets chart sh read u i = (each_step chart sh read u i).target_in

-- every chart's relations settle, in 4,096 rounds at most
abbrev pub Settles : Relations → Type 0
Settles R = (n : ℕ) (steps : List Step) → 0 < n → n ≤ 64 → TargetsBelow n steps → (k : ℕ) × (k ≤ 4096) × Settled (pairs n) (R steps) k

-- any two matrices that say so of a chart are equal
abbrev pub Alike : Saying → Type 0
Alike Says = (n m : ℕ) (steps : List Step) (a b : List ℕ) (g h : Matrix) → Says n m steps a g → Says n m steps b h → (g ≡ h) × ((p q : ℕ) → p < n → q < n → byte_at n a p q ≡ byte_at n b p q)

module _ {Says : Saying} {R : Relations} where
  -- ---- the promise in each case

  pub promise_chart : (chart old : List ℕ) (r : Refusal) → read_chart chart ≡ Err r → MatrixPromise Says R chart old old (Err r)
  promise_chart chart old r e =
      record {
        chart_refused = λ s f. let z : r ≡ s = cc in ap Err z;
        then_too_short = λ sh f. never_both f e;
        then_answered = λ sh f. never_both f e;
        refusal_leaves_all = λ s f. refl;
        later_bytes_stay = λ sh f y h. refl;
        length_stays = refl;
      }

  module _ (chart : List ℕ) (sh : Shape) (read : read_chart chart ≡ Ok sh) where
    pub promise_short : (old : List ℕ) (r : Refusal) → length old < sh.n * sh.n → r ≡ lent_refusal 14 → MatrixPromise Says R chart old old (Err r)
    promise_short old r h e =
        record {
          chart_refused = λ s f. never_both read f;
          then_too_short = λ u f l. ap Err e;
          then_answered = λ u f l. (let i : sh.n * sh.n ≡ u.n * u.n = ap (λ (x : Shape). x.n * x.n) (same_shape read f) in absurd (omega arith));
          refusal_leaves_all = λ s f. refl;
          later_bytes_stay = λ u f y l. refl;
          length_stays = refl;
        }

    pub promise_worked : {Cell : Holding} {C : ℕ → Relation} (old new : List ℕ) (given : Matrix) → sh.n * sh.n ≤ length old
        → Working Cell C sh.n old new given
        → (0 < sh.n → TargetsBelow sh.n (chart_in chart sh).steps → Working Cell C sh.n old new given → Says sh.n sh.m (chart_in chart sh).steps new given)
        → MatrixPromise Says R chart old new (Ok given)
    promise_worked old new given h w says =
        record {
          chart_refused = λ r f. never_both read f;
          then_too_short = λ u f l. (let e : sh.n * sh.n ≡ u.n * u.n = ap (λ (x : Shape). x.n * x.n) (same_shape read f) in absurd (omega arith));
          then_answered = λ u f l. subst (λ (x : Shape). Answers Says R chart x new (Ok given)) (same_shape read f) (says (accepted chart sh read).states_some (targets chart sh read) w);
          refusal_leaves_all = λ r f. (let z : ◌≡◌ {A = ℕ} 0 1 = cc in absurd (omega arith));
          later_bytes_stay = λ u f y l. w.done.after y (subst⁻¹ (λ (x : Shape). x.n * x.n ≤ y) (same_shape read f) l);
          length_stays = w.done.same_length;
        }

  -- ---- codes are for display only: of two charts with the same steps the same is promised

  pub codes_not_asked : (a b : List ℕ) (sh : Shape) → read_chart a ≡ Ok sh → read_chart b ≡ Ok sh → (chart_in a sh).steps ≡ (chart_in b sh).steps
      → {old new : List ℕ} {answer : Result Matrix Refusal} → MatrixPromise Says R a old new answer → MatrixPromise Says R b old new answer
  codes_not_asked a b sh read also same {old} {new} {answer} w =
      record {
        chart_refused = λ r f. never_both also f;
        then_too_short = λ u f l. w.then_too_short sh read (subst⁻¹ (λ (x : Shape). length old < x.n * x.n) (same_shape also f) l);
        then_answered = λ u f l. subst (λ (x : Shape). Answers Says R b x new answer) (same_shape also f)
            (go answer (w.then_answered sh read (subst⁻¹ (λ (x : Shape). x.n * x.n ≤ length old) (same_shape also f) l)));
        refusal_leaves_all = w.refusal_leaves_all;
        later_bytes_stay = λ u f y l. w.later_bytes_stay sh read y (subst⁻¹ (λ (x : Shape). x.n * x.n ≤ y) (same_shape also f) l);
        length_stays = w.length_stays;
      }
    where
      go : (given : Result Matrix Refusal) → Answers Says R a sh new given → Answers Says R b sh new given
      go (Ok g) h = subst (λ (steps : List Step). Says sh.n sh.m steps new g) same h
      go (Err r) h = (h.0, subst (λ (steps : List Step). (k : ℕ) → k ≤ 4096 → Settled (pairs sh.n) (R steps) k → ⊥) same h.1)

  -- ---- where the rounds settle, there is no refusal of an accepted chart whose buffer has room

  module _ (settles : Settles R) where
    pub always_answered : AlwaysAnswered Says R
    always_answered chart sh read old new answer h w r e =
        let a = accepted chart sh read in
        let k = settles sh.n (chart_in chart sh).steps a.states_some a.states_few (targets chart sh read) in
        (subst (λ (x : Result Matrix Refusal). Answers Says R chart sh new x) e (w.then_answered sh read h)).1 k.0 k.1 k.2

    -- so 15 never comes
    pub never_15 : Never15 Says R
    never_15 chart old new answer w r e f = go (read_chart chart) refl
      where
        other : (s : Refusal) → answer ≡ Err s → (s.number ≡ 15 → ⊥) → ⊥
        other s g h = let z : r ≡ s = cc in h (ap (λ (x : Refusal). x.number) (sym z) ∙ f)

        go : (x : Result Shape Refusal) → read_chart chart ≡ x → ⊥
        go (Err s) g = other s (w.chart_refused s g) (λ h. omega (arith, (refused chart s g).number_few))
        go (Ok sh) g = elim (dec_le (sh.n * sh.n) (length old)) [ yes l ↦ always_answered chart sh g old new answer l w r e | no k ↦ other (lent_refusal 14) (w.then_too_short sh g (omega arith)) (λ h. omega arith) ]

    -- ---- where any two such matrices agree, the promise leaves no choice

    pub matrix_determined : Alike Says → Determined Says R
    matrix_determined alike chart old a b s t w z = go (read_chart chart) refl
      where
        refused_alike : (r : Refusal) → s ≡ Err r → t ≡ Err r → (s ≡ t) × (a ≡ b)
        refused_alike r e f = (e ∙ sym f, w.refusal_leaves_all r e ∙ sym (z.refusal_leaves_all r f))

        given : (sh : Shape) → read_chart chart ≡ Ok sh → sh.n * sh.n ≤ length old → (s t : Result Matrix Refusal) → MatrixPromise Says R chart old a s → MatrixPromise Says R chart old b t → (s ≡ t) × (a ≡ b)
        given sh e l (Err r) t w z = absurd (always_answered chart sh e old a _ l w r refl)
        given sh e l (Ok g) (Err r) w z = absurd (always_answered chart sh e old b _ l z r refl)
        given sh e l (Ok g) (Ok h) w z =
            let same = alike sh.n sh.m _ a b g h (w.then_answered sh e l) (z.then_answered sh e l) in
            let cell : (y : ℕ) → y < sh.n * sh.n → get_or a y 0 ≡ get_or b y 0 = λ y i. subst (λ (x : ℕ). get_or a x 0 ≡ get_or b x 0) (pair_cell sh.n y) (same.1 _ _ (row_in sh.n y i) (column_in sh.n y i)) in (
              ap Ok same.0,
              ext_get_or 0 a b (w.length_stays ∙ sym z.length_stays) (λ y i. elim (dec_le (sh.n * sh.n) y) [ yes k ↦ w.later_bytes_stay sh e y k ∙ sym (z.later_bytes_stay sh e y k) | no f ↦ cell y (omega arith) ]),
            )

        go : (x : Result Shape Refusal) → read_chart chart ≡ x → (s ≡ t) × (a ≡ b)
        go (Err r) e = refused_alike r (w.chart_refused r e) (z.chart_refused r e)
        go (Ok sh) e = elim (dec_le (sh.n * sh.n) (length old)) [ yes l ↦ given sh e l s t w z | no f ↦ refused_alike (lent_refusal 14) (w.then_too_short sh e (omega arith)) (z.then_too_short sh e (omega arith)) ]

-- what is said of two matrices is equal where the states and the rounds are
pub same_matrix : (n : ℕ) (C : ℕ → Relation) (g h : Matrix) → g.states ≡ n → h.states ≡ n → Rounds (pairs n) C g.rounds → Rounds (pairs n) C h.rounds → g ≡ h
same_matrix n C g h e f r s = ap₂ (λ (x y : ℕ). record { states = x; rounds = y }) (e ∙ sym f) (rounds_unique _ _ _ _ r s)
