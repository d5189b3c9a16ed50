-- The report on a chart's bytes: there is one, it is short, and the marks promise gives it.
use Prim.Native.Nat.{ℕ, zero, suc, ◌+◌, ◌-◌, ◌*◌, ◌≤◌, ◌<◌}
use mathlib.Core.Path.{◌≡◌, refl, ap, sym, subst, ◌∙◌}
use mathlib.Core.List.{List}
use native.Mathlib.Omega.{arith}
use lib.ListN.{length, take}
use Rattle.settle.specs.Finite.{pairs}
use Rattle.settle.proofs.Chain.{rounds_unique}
use Rattle.refusal.specs.declared.Refusal.{Refusal}
use Rattle.chart.specs.Reading.{read_chart, chart_in}
use Rattle.chart.specs.declared.Shape.{Shape}
use Rattle.chart.proofs.Accepted.{accepted}
use Rattle.chart.proofs.Refused as Refusals
use Rattle.nearness.specs.Relation.{Near}
use Rattle.nearness.proofs.Mark.{mark_unique}
use Rattle.nearness.proofs.Rounds.{near_rounds_le, mark_le}
use Rattle.ranges.proofs.Ranges.{stands_chart, targets_below}
use Rattle.relation.specs.Promise.{byte_at, Answers}
use Rattle.relation.specs.declared.Matrix.{Matrix}
use Rattle.relation.proofs.Cells.{cells_few}
use Rattle.marks.specs.Promise.{MarksOf, MarksPromise}
use Rattle.marks.proofs.Promise.{always_answered}
use Rattle.lent.specs.Lent.{writes, LentPromise}
use Rattle.lent.proofs.Lent.{lent_determined}
use Rattle.report.specs.Text.{refused_text, row_text, rows_text, chart_text}
use Rattle.report.specs.Promise.{ChartReport, ReportBy, ReportOf, ReportPromise}
use Rattle.report.specs.Page.{Made}
use Rattle.report.proofs.Longest.{chart_most, refused_most}
use Rattle.std.specs.Prelude.{Result, Ok, Err}

-- ---- a report is short

marks_small : (chart : List ℕ) (sh : Shape) → read_chart chart ≡ Ok sh → {text : List ℕ} (c : ChartReport chart sh text)
    → (c.rounds < 100) × ((p q : ℕ) → p < sh.n → q < sh.n → c.mark p q < 100)
marks_small chart sh e c =
    let a = accepted chart sh e in
    let few : c.rounds ≤ sh.n - 1 = near_rounds_le sh.n (chart_in chart sh).steps a.states_some c.rounds c.rounds_are in
    let targets = targets_below chart (4 + sh.n + sh.m) sh.t sh.n (stands_chart chart sh a) in (
      omega (arith, a.states_few),
      λ p q hp hq. omega (arith, a.states_few, mark_le sh.n (chart_in chart sh).steps targets p q hp hq c.rounds c.rounds_are.0 (c.mark p q) (c.marks_are p q hp hq)),
    )

-- the longest text: 20 bytes for two numbers, 9 for each of 2,016 pairs
pub report_short : (chart text : List ℕ) → ReportOf chart text → length text ≤ 18164
report_short chart text r = go (read_chart chart) refl r
  where
    go : (x : Result Shape Refusal) → read_chart chart ≡ x → ReportBy chart x text → length text ≤ 18164
    go (Err f) e t =
        let p = Refusals.refused chart f e in
        omega (arith, ap length t, refused_most f p.of_chart p.number_few p.place_few p.byte_few)
    go (Ok sh) e c =
        let small = marks_small chart sh e c in
        omega (arith, ap length c.text_is, chart_most sh.n (accepted chart sh e).states_few c.mark small.1 c.rounds small.0)

-- ---- there is one

module _ (n : ℕ) (mark mark' : ℕ → ℕ → ℕ) (same : (p q : ℕ) → p < n → q < n → mark p q ≡ mark' p q) where
  row_same : (p k : ℕ) → p + 1 + k ≤ n → row_text mark p k ≡ row_text mark' p k
  unfolding row_text
  row_same p zero h = refl
  row_same p (suc k) h =
      let e : mark p (p + 1 + k) ≡ mark' p (p + 1 + k) = same p (p + 1 + k) (omega arith) (omega arith) in
      let f : row_text mark p k ≡ row_text mark' p k = row_same p k (omega arith) in
      cc

  rows_same : (k : ℕ) → k ≤ n → rows_text mark n k ≡ rows_text mark' n k
  unfolding rows_text
  rows_same zero h = refl
  rows_same (suc k) h =
      let e : row_text mark k (n - 1 - k) ≡ row_text mark' k (n - 1 - k) = row_same k (n - 1 - k) (omega arith) in
      let f : rows_text mark n k ≡ rows_text mark' n k = rows_same k (omega arith) in
      cc

  chart_same : (rounds rounds' : ℕ) → rounds ≡ rounds' → chart_text n rounds mark ≡ chart_text n rounds' mark'
  unfolding chart_text
  chart_same rounds rounds' e = rw (e, rows_same n (omega arith))

pub report_unique : (chart t u : List ℕ) → ReportOf chart t → ReportOf chart u → t ≡ u
report_unique chart t u a b = go (read_chart chart) a b
  where
    go : (x : Result Shape Refusal) → ReportBy chart x t → ReportBy chart x u → t ≡ u
    go (Err r) e f = e ∙ sym f
    go (Ok sh) c d =
        let steps = (chart_in chart sh).steps in
        c.text_is
        ∙ chart_same sh.n c.mark d.mark (λ p q hp hq. mark_unique steps p q _ _ (c.marks_are p q hp hq) (d.marks_are p q hp hq)) c.rounds d.rounds
        (rounds_unique (pairs sh.n) (Near steps) c.rounds d.rounds c.rounds_are d.rounds_are)
        ∙ sym d.text_is

-- any two answers, and any two buffers, that the promise allows agree
pub report_determined : (chart old new new' : List ℕ) (answer answer' : Result ℕ Refusal)
    → ReportPromise chart old new answer → ReportPromise chart old new' answer' → (answer ≡ answer') × (new ≡ new')
report_determined chart old new new' answer answer' p q =
    let e : p.text ≡ q.text = report_unique chart p.text q.text p.is_report q.is_report in
    lent_determined (writes q.text) old (rw e at p.in_buffer) q.in_buffer

-- ---- the marks promise gives it

module _ (chart old new : List ℕ) (answer : Result Matrix Refusal) (p : MarksPromise chart old new answer) (room : length old ≡ 4096) where
  module _ (sh : Shape) (e : read_chart chart ≡ Ok sh) where
    fits : sh.n * sh.n ≤ length old
    fits = omega (arith, cells_few sh.n (accepted chart sh e).states_few)

  chart_refused : (r : Refusal) → answer ≡ Err r → read_chart chart ≡ Err r
  chart_refused r a = go (read_chart chart) refl
    where
      go : (x : Result Shape Refusal) → read_chart chart ≡ x → read_chart chart ≡ Err r
      go (Err q) e =
          let f : answer ≡ Err q = p.chart_refused q e in
          let g : q ≡ r = cc in
          rw g at e
      go (Ok sh) e = absurd (always_answered chart sh e old new answer (fits sh e) p r a)

  chart_marked : (given : Matrix) → answer ≡ Ok given → (sh : Shape) × (read_chart chart ≡ Ok sh) × MarksOf sh.n sh.m (chart_in chart sh).steps new given
  chart_marked given a = go (read_chart chart) refl
    where
      go : (x : Result Shape Refusal) → read_chart chart ≡ x → (sh : Shape) × (read_chart chart ≡ Ok sh) × MarksOf sh.n sh.m (chart_in chart sh).steps new given
      go (Err q) e =
          let f : answer ≡ Err q = p.chart_refused q e in
          let z : ◌≡◌ {A = ℕ} 0 1 = cc in
          absurd (omega arith)
      go (Ok sh) e = (sh, e, subst (λ (x : Result Matrix Refusal). Answers MarksOf Near chart sh new x) a (p.then_answered sh e (fits sh e)))

  pub report_refused : (r : Refusal) → answer ≡ Err r → ReportOf chart (refused_text r)
  report_refused r a = rw (chart_refused r a) refl

  pub report_marked : (given : Matrix) → answer ≡ Ok given → ReportOf chart (chart_text given.states given.rounds (byte_at given.states new))
  report_marked given a =
      let m = chart_marked given a in
      rw m.1 (record {
        rounds = given.rounds;
        mark = byte_at m.0.n new;
        rounds_are = m.2.rounds_are;
        marks_are = m.2.marks_are;
        text_is = ap (λ (k : ℕ). chart_text k given.rounds (byte_at k new)) m.2.states_said;
      })

  -- and its matrix is inside the buffer
  pub states_marked : (given : Matrix) → answer ≡ Ok given → (given.states ≤ 64) × (given.states * given.states ≤ length new)
  states_marked given a =
      let m = chart_marked given a in
      let few : given.states ≤ 64 = omega (arith, m.2.states_said, (accepted chart m.0 m.1).states_few) in
      (few, omega (arith, cells_few given.states few, p.length_stays))

-- ---- in the lent buffer

pub promised : (chart old new : List ℕ) (answer : Result ℕ Refusal) {size : ℕ} {page : List ℕ} → Made chart size page
    → LentPromise (writes (take size page)) old new answer → ReportPromise chart old new answer
promised chart old new answer m p = record { text = m.text; is_report = m.is_report; in_buffer = rw m.stands at p }
