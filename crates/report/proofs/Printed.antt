-- The texts that document 01 shows, byte for byte, from the bytes of the charts; that of a refusal as document 02, T-02, has it. Assumes nothing.
use Prim.Native.Nat.{ℕ}
use mathlib.Core.Path.{◌≡◌, refl, sym, subst}
use mathlib.Core.List.Memᴰ.{head as here}
use mathlib.Core.List.Memᴰ.{tail as there}
use mathlib.Core.List.{List, [], ◌∷◌, ◌++◌}
use mathlib.Core.Logic.{◌↔◌}
use Rattle.refusal.specs.Refusal.{chart_refusal}
use Rattle.chart.specs.Chart.{states}
use Rattle.chart.specs.Reading.{read_chart, read_actions, read_transitions, judge_codes, judge_triples, bytes_at, chart_in}
use Rattle.starred.specs.Boards.{chart_l, starred, MarksAre, GreatestRounds, Holds}
use Rattle.starred.proofs.Boards.{starred_boards_hold, of_chart, shape_l, read_l}
use Rattle.text.specs.Text.{digits, decimal, line}
use Rattle.relation.specs.Promise.{byte_at}
use Rattle.report.specs.Promise.{ReportOf}
use Rattle.report.specs.Text.{refused_text, pair_text, row_text, rows_text, chart_text}
use Rattle.report.proofs.Promise.{report_unique}

-- ---- chart L

abbrev marks_l : List ℕ
marks_l = 0 ∷ 2 ∷ 1 ∷ 2 ∷ 0 ∷ 1 ∷ 1 ∷ 1 ∷ 0 ∷ []

-- states 3, rounds 2, 0 1 2, 0 2 1, 1 2 1
abbrev pub lines_l : List ℕ
lines_l =
    (115 ∷ 116 ∷ 97 ∷ 116 ∷ 101 ∷ 115 ∷ 32 ∷ 51 ∷ 10 ∷ [])
    ++ ((114 ∷ 111 ∷ 117 ∷ 110 ∷ 100 ∷ 115 ∷ 32 ∷ 50 ∷ 10 ∷ [])
    ++ (48 ∷ 32 ∷ 49 ∷ 32 ∷ 50 ∷ 10 ∷ 48 ∷ 32 ∷ 50 ∷ 32 ∷ 49 ∷ 10 ∷ 49 ∷ 32 ∷ 50 ∷ 32 ∷ 49 ∷ 10 ∷ []))

pub printed_of_l : chart_text 3 2 (byte_at 3 marks_l) ≡ lines_l
unfolding chart_text rows_text row_text pair_text line decimal digits
printed_of_l = refl

board_l : MarksAre marks_l 2 (chart_in chart_l shape_l)
unfolding starred Holds
board_l = (of_chart (λ c. MarksAre marks_l 2 c × GreatestRounds 2 (states c)) chart_l shape_l read_l (starred_boards_hold _ (there (there (there (here refl)))))).0

reported_l : ReportOf chart_l lines_l
unfolding chart_l bytes_at
reported_l =
    rw read_l (record {
      rounds = 2;
      mark = byte_at 3 marks_l;
      rounds_are = board_l.rounds_are;
      marks_are = board_l.each_mark;
      text_is = sym printed_of_l;
    })

-- the report on L's bytes is exactly these five lines
pub report_of_l : (text : List ℕ) → ReportOf chart_l text ↔ (text ≡ lines_l)
report_of_l text = (λ r. report_unique chart_l text lines_l r reported_l, λ e. subst (ReportOf chart_l) (sym e) reported_l)

-- ---- chart E with the triple (0, 0, 0) at its end

abbrev pub chart_e8 : List ℕ
chart_e8 =
    6 ∷ 1 ∷ 2 ∷ 3 ∷ 4 ∷ 5 ∷ 6
    ∷ 3 ∷ 10 ∷ 20 ∷ 30
    ∷ 8 ∷ 0
    ∷ 0 ∷ 0 ∷ 2
    ∷ 1 ∷ 0 ∷ 3
    ∷ 1 ∷ 0 ∷ 4
    ∷ 2 ∷ 1 ∷ 5
    ∷ 2 ∷ 2 ∷ 5
    ∷ 3 ∷ 1 ∷ 5
    ∷ 4 ∷ 2 ∷ 5
    ∷ 0 ∷ 0 ∷ 0
    ∷ []

-- refused 0 7 7 0
abbrev pub line_e8 : List ℕ
line_e8 = 114 ∷ 101 ∷ 102 ∷ 117 ∷ 115 ∷ 101 ∷ 100 ∷ 32 ∷ 48 ∷ 32 ∷ 55 ∷ 32 ∷ 55 ∷ 32 ∷ 48 ∷ 10 ∷ []

pub printed_of_refusal : refused_text (chart_refusal 7 7 0) ≡ line_e8
unfolding refused_text line decimal digits
printed_of_refusal = refl

reported_e8 : ReportOf chart_e8 line_e8
unfolding read_chart read_actions read_transitions judge_codes judge_triples
reported_e8 = sym printed_of_refusal

-- the report on its bytes is exactly this line
pub report_of_refused : (text : List ℕ) → ReportOf chart_e8 text ↔ (text ≡ line_e8)
report_of_refused text = (λ r. report_unique chart_e8 text line_e8 r reported_e8, λ e. subst (ReportOf chart_e8) (sym e) reported_e8)
