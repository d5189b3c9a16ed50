-- The promise: what the rounds find is what it says, it allows one answer, it refuses exactly as the readers do, and never 15.
use Prim.Native.Nat.{ℕ, ◌+◌, ◌<◌, ◌≤◌}
use mathlib.Core.Path.{◌≡◌, refl, ap, sym, subst, ◌∙◌}
use mathlib.Core.Bool.{Bool, true, false, So}
use mathlib.Core.Logic.{◌↔◌}
use mathlib.Core.List.{List}
use native.Mathlib.Omega.{arith}
use Rattle.settle.specs.Test.{pick, count}
use Rattle.settle.specs.Finite.{below}
use Rattle.settle.specs.Chain.{empty, full, chain, Rounds}
use Rattle.settle.proofs.Test.{ext, count_cong}
use Rattle.settle.proofs.Finite.{below_e}
use Rattle.settle.proofs.Chain.{rounds_unique}
use Rattle.refusal.specs.declared.Refusal.{Refusal}
use Rattle.chart.specs.Chart.{Chart, states, actions}
use Rattle.chart.specs.Layout.{Bytes, WellFormed, encode}
use Rattle.chart.specs.Reading.{chart_in, read_chart, shape_of, Reads}
use Rattle.chart.specs.declared.Shape.{Shape}
use Rattle.chart.proofs.Accepted.{accepted}
use Rattle.chart.proofs.Steps.{bytes_at_length}
use Rattle.sheet.specs.Formula.{Formula}
use Rattle.sheet.specs.Layout as SheetLayout
use Rattle.sheet.specs.Meaning.{holds}
use Rattle.sheet.specs.Solution.{asks_least, applied, SolutionBy, Satisfies, applications}
use Rattle.sheet.proofs.Meaning.{TargetsBelow}
use Rattle.sheet.proofs.Solution.{read_targets, sheet_rounds, sheet_rounds_le, satisfies_iff}
use Rattle.words.specs.Words.{member}
use Rattle.words.proofs.Words.{word_lt, word_member, word_ext, word_cong}
use Rattle.solve.specs.Solving.{application, first_set, Reached, Solves}
use Rattle.solve.proofs.Determined.{same_solved}
use Rattle.solve.specs.declared.Solved.{Solved}
use Rattle.property.specs.Promise.{Solution, Unsettled, Answers, PropertyPromise}
use Rattle.property.proofs.SheetPromise.{Unread, unread_not_15, promise_chart_refused, promise_sheet_refused, promise_accepted, refused_exactly, determined, same_steps, layout_answers}
use Rattle.std.specs.Prelude.{Result, Ok, Err}
use Rattle.sheet.specs.Kinds.{kind_number}
use Rattle.sheet.specs.Reading.{sheet, parse, read_sheet, sheet_read}
use Rattle.sheet.specs.declared.Outline.{Outline}
use Rattle.sheet.proofs.Accepted as SheetReader
use Rattle.evaluate.specs.Evaluating.{WasRead}
use lib.ListN.{length}

-- ---- what the rounds find

module _ (c : Chart) (targets : TargetsBelow (states c) c.steps) (kind : ℕ) (f : Formula) where
  solution : (a : Solved) → Reached (states c) (applied c f) (first_set kind) a → Solution c kind f a
  solution a R = record {
    bit_exactly = λ s h. rw (same s h) (satisfies_iff c targets f kind a.rounds R.rounds_are.0 s h);
    no_bit_above = rw R.word_is (word_lt (states c) _);
    count_is = R.count_is ∙ count_cong _ _ (below (states c)) (λ s i. sym (same s (below_e _ s i)));
    rounds_least = R.rounds_are;
    rounds_few = sheet_rounds_le c targets f kind a.rounds R.rounds_are;
  }
    where
      same : (s : ℕ) → s < states c → member a.word s ≡ applications c kind f a.rounds s
      same s h = ap (λ (w : ℕ). member w s) R.word_is ∙ word_member (states c) s _ h

  answered : (r : Result Solved Refusal) → Solves (states c) (applied c f) (first_set kind) r → Answers c kind f r
  answered (Ok a) R = solution a R
  answered (Err r) R = record { refusal_is = R.0; none_settled = R.1 }

-- the chart's own counts are those that were read
pub answers : (s : List ℕ) (sh : Shape) (kind : ℕ) (f : Formula) (r : Result Solved Refusal) → read_chart s ≡ Ok sh
    → Solves sh.n (holds sh.m (chart_in s sh).steps f) (first_set kind) r → Answers (chart_in s sh) kind f r
answers s sh kind f r e R =
    let n = bytes_at_length s 1 sh.n in
    let m = bytes_at_length s (2 + sh.n) sh.m in
    answered (chart_in s sh) (read_targets s sh e) kind f r (rw (n, m) R)

-- ---- what the readers and the rounds find, in the code's terms

module _ (chart bytes : List ℕ) where
  pub by_chart : (r : Refusal) → read_chart chart ≡ Err r → PropertyPromise chart bytes (Err r)
  by_chart r e = promise_chart_refused chart bytes r e

  pub by_sheet : (sh : Shape) (r : Refusal) → read_chart chart ≡ Ok sh → sheet_read (read_sheet bytes sh.m) ≡ Err r → PropertyPromise chart bytes (Err r)
  by_sheet sh r e d = promise_sheet_refused chart bytes sh r e ((SheetReader.refused_exactly bytes sh.m r).0 d)

  -- of an accepted sheet
  module _ (sh : Shape) (o : Outline) (d : sheet_read (read_sheet bytes sh.m) ≡ Ok o) where
    pub was_read : WasRead (parse o.nodes bytes sh.m 3 o.nodes)
    was_read = rw (SheetReader.formed bytes sh.m o d).parsed_is tt

    pub sheet_short : length bytes ≤ 402
    sheet_short = SheetReader.accepted_short bytes sh.m (kind_number o.kind) o.nodes _ (SheetReader.formed bytes sh.m o d).read_is

    -- the rounds of its formula, whatever kind is asked for
    pub rounds_answer : (kind : ℕ) (x : Result Solved Refusal) → read_chart chart ≡ Ok sh → Solves sh.n (application chart sh bytes o.nodes) (first_set kind) x
        → (f : Formula) × (read_sheet bytes sh.m ≡ sheet (kind_number o.kind) o.nodes f) × Answers (chart_in chart sh) kind f x
    rounds_answer kind x e R =
        let F = SheetReader.formed bytes sh.m o d in
        (F.formula, F.read_is, answers chart sh kind F.formula x e (rw F.parsed_is at R))

    pub by_rounds : (x : Result Solved Refusal) → read_chart chart ≡ Ok sh → Solves sh.n (application chart sh bytes o.nodes) (first_set (kind_number o.kind)) x
        → PropertyPromise chart bytes x
    by_rounds x e R =
        let A = rounds_answer (kind_number o.kind) x e R in
        promise_accepted chart bytes sh (kind_number o.kind) o.nodes A.0 x e A.1 A.2

pub ruleset by_readers = (by_chart, by_sheet, was_read, sheet_short, by_rounds)

-- ---- the promise allows one answer

-- where the same states satisfy two sheets, the words are equal
pub same_word : (c : Chart) (kind other : ℕ) (f : Formula) (a b : Solved) → Solution c kind f a → Solution c other f b
    → ((s : ℕ) → s < states c → Satisfies c kind f s ↔ Satisfies c other f s) → a.word ≡ b.word
same_word c kind other f a b A B same =
    sym (word_ext (states c) a.word A.no_bit_above)
    ∙ word_cong (states c) _ _ (λ s h. ext (λ t. (B.bit_exactly s h).1 ((same s h).0 ((A.bit_exactly s h).0 t))) (λ t. (A.bit_exactly s h).1 ((same s h).1 ((B.bit_exactly s h).0 t))))
    ∙ word_ext (states c) b.word B.no_bit_above

module _ (c : Chart) (kind : ℕ) (f : Formula) where
  -- bits, none above, count and rounds leave one solution
  pub solution_unique : (a b : Solved) → Solution c kind f a → Solution c kind f b → a ≡ b
  solution_unique a b A B = same_solved words counts rounds
    where
      words : a.word ≡ b.word
      words = same_word c kind kind f a b A B (λ s h. (λ x. x, λ x. x))

      counts : a.count ≡ b.count
      counts = A.count_is ∙ ap (λ (w : ℕ). count (member w) (below (states c))) words ∙ sym B.count_is

      rounds : a.rounds ≡ b.rounds
      rounds = rounds_unique (below (states c)) (applications c kind f) a.rounds b.rounds A.rounds_least B.rounds_least

  -- with at most 4,096 states, the rounds that there are shut out 15
  solution_not_unsettled : {A : Type 0} (a : Solved) (r : Refusal) → states c ≤ 4096 → Solution c kind f a → Unsettled c kind f r → A
  solution_not_unsettled a r few S U = absurd (U.none_settled a.rounds (omega (arith, S.rounds_few)) S.rounds_least.0)

  answers_unique : (x y : Result Solved Refusal) → states c ≤ 4096 → Answers c kind f x → Answers c kind f y → x ≡ y
  answers_unique (Ok a) (Ok b) few A B = ap Ok (solution_unique a b A B)
  answers_unique (Ok a) (Err r) few A B = solution_not_unsettled a r few A B
  answers_unique (Err r) (Ok b) few A B = solution_not_unsettled b r few B A
  answers_unique (Err r) (Err q) few A B = ap Err (A.refusal_is ∙ sym B.refusal_is)

states_few : (s : List ℕ) (sh : Shape) → read_chart s ≡ Ok sh → states (chart_in s sh) ≤ 4096
states_few s sh e = omega (arith, bytes_at_length s 1 sh.n, (accepted s sh e).states_few)

pub property_determined : (chart bytes : List ℕ) (x y : Result Solved Refusal) → PropertyPromise chart bytes x → PropertyPromise chart bytes y → x ≡ y
property_determined chart bytes = determined chart bytes (λ sh e kind f x y. answers_unique (chart_in chart sh) kind f x y (states_few chart sh e))

-- ---- of kinds that ask for the same solution the same is promised

pub same_kind : (c : Chart) (kind other : ℕ) (f : Formula) (a : Solved) → asks_least kind ≡ asks_least other → Solution c kind f a → Solution c other f a
same_kind c kind other f a e S = record {
  bit_exactly = λ s h. subst (λ (least : Bool). So (member a.word s) ↔ SolutionBy least c f s) e (S.bit_exactly s h);
  no_bit_above = S.no_bit_above;
  count_is = S.count_is;
  rounds_least = subst (λ (least : Bool). Rounds (below (states c)) (chain (applied c f) (pick least empty full)) a.rounds) e S.rounds_least;
  rounds_few = S.rounds_few;
}

-- ---- codes are for display only: of two charts with the same steps the same is promised

module _ (c d : Chart) (n : states d ≡ states c) (m : actions d ≡ actions c) (steps : d.steps ≡ c.steps) (kind : ℕ) (f : Formula) where
  same_solutions : (least : Bool) (s : ℕ) → SolutionBy least c f s ≡ SolutionBy least d f s
  same_solutions true s = rw (n, m, steps)
  same_solutions false s = rw (n, m, steps)

  pub same_answers : (x : Result Solved Refusal) → Answers c kind f x → Answers d kind f x
  same_answers (Ok a) S = record {
    bit_exactly = λ s h. subst (λ (X : Type 0). So (member a.word s) ↔ X) (same_solutions (asks_least kind) s) (S.bit_exactly s (rw n at h));
    no_bit_above = rw n S.no_bit_above;
    count_is = rw n S.count_is;
    rounds_least = rw (n, m, steps) S.rounds_least;
    rounds_few = rw n S.rounds_few;
  }
  same_answers (Err r) U = record { refusal_is = U.refusal_is; none_settled = rw (n, m, steps) U.none_settled }

pub codes_not_asked : (a b bytes : List ℕ) (sh : Shape) → read_chart a ≡ Ok sh → read_chart b ≡ Ok sh → (chart_in a sh).steps ≡ (chart_in b sh).steps
    → (answer : Result Solved Refusal) → PropertyPromise a bytes answer → PropertyPromise b bytes answer
codes_not_asked = same_steps same_answers

-- ---- an accepted chart and sheet are never refused, so the promise never allows 15

pub never_unsettled : (chart : List ℕ) (sh : Shape) → read_chart chart ≡ Ok sh → (kind : ℕ) (f : Formula) (r : Refusal) → Unsettled (chart_in chart sh) kind f r → ⊥
never_unsettled chart sh h kind f r U =
    let k = sheet_rounds (chart_in chart sh) (read_targets chart sh h) f kind in
    U.none_settled k.0 (omega (arith, k.1, states_few chart sh h)) k.2.0

pub property_refused_exactly : (chart bytes : List ℕ) (r : Refusal) → PropertyPromise chart bytes (Err r) ↔ Unread chart bytes r
property_refused_exactly chart bytes = refused_exactly chart bytes (λ r q e. cc) (never_unsettled chart)

pub never_15 : (chart bytes : List ℕ) (r : Refusal) → PropertyPromise chart bytes (Err r) → r.number ≡ 15 → ⊥
never_15 chart bytes r P = unread_not_15 chart bytes r ((property_refused_exactly chart bytes r).0 P)

-- ---- in the layout's terms: every chart and every sheet that follow it are answered

pub layout_answered : (chart : List ℕ) → Bytes chart → (c : Chart) (kind : ℕ) (f : Formula) → chart ≡ encode c → WellFormed c → SheetLayout.WellFormed (actions c) kind f
    → (answer : Result Solved Refusal) → PropertyPromise chart (SheetLayout.encode kind f) answer → (a : Solved) × (answer ≡ Ok a) × Solution c kind f a
layout_answered chart B c kind f e w v answer P = let (read, A) = layout_answers chart B c kind f e w v answer P in go answer read A
  where
    go : (x : Result Solved Refusal) → Reads chart c → Answers (chart_in chart (shape_of c)) kind f x → (a : Solved) × (x ≡ Ok a) × Solution c kind f a
    go (Ok a) read A = (a, refl, rw read.1 at A)
    go (Err r) read A = absurd (never_unsettled chart (shape_of c) read.0 kind f r A)
