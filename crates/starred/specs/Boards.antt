-- Document 01's starred boards, and document 02's of T-05: one list of cases, from the boards' own bytes, and what each case says in terms of the
-- definitions. That all of them hold is `starred_boards_hold` of proofs/Boards.antt.
use Rattle.std.specs.Prelude.{ℕ, ◌+◌, ◌-◌, ◌*◌, ◌^◌, ◌≤◌, ◌<◌, ◌≡◌, Bool, true, false, List, [], ◌∷◌, length, get_or}
use Rattle.settle.specs.Test.{count}
use Rattle.settle.specs.Finite.{below, pairs}
use Rattle.settle.specs.Chain.{Rounds}
use Rattle.chart.specs.Chart.{Chart, states, actions}
use Rattle.chart.specs.Reading.{read_chart, chart_in}
use Rattle.chart.specs.declared.Shape.{Shape}
use Rattle.sheet.specs.Formula.{Formula}
use Rattle.sheet.specs.Solution.{Satisfies, SheetRounds}
use Rattle.sheet.specs.Reading.{sheet, read_sheet}
use Rattle.words.specs.Words.{member}
use Rattle.nearness.specs.Relation.{Near}
use Rattle.nearness.specs.Bisimulation.{Simulates}
use Rattle.nearness.specs.Mark.{Mark}
use Rattle.short_form.specs.ShortForm.{short_form, kind_written}
use Rattle.short_form.specs.Rest.{house_form}
use Rattle.std.specs.Prelude.{Ok}

pub data Board : Type 0 where
  -- a chart's bytes, the marks of all pairs row by row, and the rounds
  marks : List ℕ → List ℕ → ℕ → Board
  -- the same, and the rounds are the greatest that the number of states allows
  marks_greatest : List ℕ → List ℕ → ℕ → Board
  -- a chart's bytes, and pairs (p, q) of which q does, or does not, simulate p
  simulates : List ℕ → List ((ℕ × ℕ) × Bool) → Board
  -- a chart's bytes, a sheet's bytes, the word, the number of states and the rounds
  satisfies : List ℕ → List ℕ → ℕ → ℕ → ℕ → Board
  -- a chart's bytes, those of a sheet for F, the kind and the form that is made of F, the word, the number of states and the rounds
  satisfies_form : List ℕ → List ℕ → ℕ → (Formula → Formula) → ℕ → ℕ → ℕ → Board

-- ---- what a case says

abbrev pub InChart : List ℕ → (Chart → Type 0) → Type 0
InChart bytes Says = (sh : Shape) × (read_chart bytes ≡ Ok sh) × Says (chart_in bytes sh)

abbrev pub Truth : Bool → Type 0 → Type 0
Truth true P = P
Truth false P = P → ⊥

pub record MarksAre (expected : List ℕ) (rounds : ℕ) (c : Chart) : Type 0 where
  pub matrix : length expected ≡ states c * states c
  pub each_mark : (p q : ℕ) → p < states c → q < states c → Mark c.steps p q (get_or expected (p * states c + q) 0)
  pub rounds_are : Rounds (pairs (states c)) (Near c.steps) rounds

-- n - 1, which no chart of n states exceeds
pub record GreatestRounds (rounds n : ℕ) : Type 0 where
  pub one_less : rounds ≡ n - 1
  pub never_more : (d : Chart) → states d ≡ n → (k : ℕ) → Rounds (pairs n) (Near d.steps) k → k ≤ rounds

-- each of the listed pairs simulates, or not, as said
unfoldable pub SimulationsAre : List ((ℕ × ℕ) × Bool) → Chart → Type 0
SimulationsAre [] c = Unit {0}
SimulationsAre (e ∷ rest) c = Truth e.1 (Simulates c.steps e.0.0 e.0.1) × SimulationsAre rest c

pub record SatisfiesAre (kind : ℕ) (f : Formula) (word number rounds : ℕ) (c : Chart) : Type 0 where
  pub bits : (s : ℕ) → s < states c → Truth (member word s) (Satisfies c kind f s)
  pub no_bit_above : word < 2 ^ states c
  pub number_is : count (member word) (below (states c)) ≡ number
  pub rounds_are : SheetRounds c kind f rounds

unfoldable pub Holds : Board → Type 0
Holds (marks bytes expected rounds) = InChart bytes (MarksAre expected rounds)
Holds (marks_greatest bytes expected rounds) = InChart bytes (λ c. MarksAre expected rounds c × GreatestRounds rounds (states c))
Holds (simulates bytes expected) = InChart bytes (SimulationsAre expected)
Holds (satisfies bytes sheet_bytes word number rounds) =
    InChart bytes (λ c. (kind : ℕ) × (f : Formula) × (nodes : ℕ) × (read_sheet sheet_bytes (actions c) ≡ sheet kind nodes f) × SatisfiesAre kind f word number rounds c)
Holds (satisfies_form bytes sheet_bytes kind form word number rounds) =
    InChart bytes (λ c. (own : ℕ) × (f : Formula) × (nodes : ℕ) × (read_sheet sheet_bytes (actions c) ≡ sheet own nodes f) × SatisfiesAre kind (form f) word number rounds c)

-- ---- the cases

unfoldable pub chart_e : List ℕ
chart_e =
    6 ∷ 1 ∷ 2 ∷ 3 ∷ 4 ∷ 5 ∷ 6
    ∷ 3 ∷ 10 ∷ 20 ∷ 30
    ∷ 7 ∷ 0
    ∷ 0 ∷ 0 ∷ 2
    ∷ 1 ∷ 0 ∷ 3
    ∷ 1 ∷ 0 ∷ 4
    ∷ 2 ∷ 1 ∷ 5
    ∷ 2 ∷ 2 ∷ 5
    ∷ 3 ∷ 1 ∷ 5
    ∷ 4 ∷ 2 ∷ 5
    ∷ []

unfoldable pub chart_l : List ℕ
chart_l =
    3 ∷ 1 ∷ 2 ∷ 3
    ∷ 1 ∷ 10
    ∷ 3 ∷ 0
    ∷ 0 ∷ 0 ∷ 0
    ∷ 1 ∷ 0 ∷ 1
    ∷ 1 ∷ 0 ∷ 2
    ∷ []

-- one state, no action, no transition
unfoldable pub chart_one : List ℕ
chart_one = 1 ∷ 0 ∷ 0 ∷ 0 ∷ 0 ∷ []

unfoldable pub sheet_e : List ℕ
sheet_e = 1 ∷ 1 ∷ 6 ∷ 6 ∷ 0 ∷ 3 ∷ 5 ∷ 1 ∷ 1 ∷ 5 ∷ 2 ∷ 1 ∷ []

-- or (box 0 false), diamond 0 X, of either kind
unfoldable pub sheet_or : ℕ → List ℕ
sheet_or kind = 1 ∷ kind ∷ 5 ∷ 4 ∷ 6 ∷ 0 ∷ 2 ∷ 5 ∷ 0 ∷ 0 ∷ []

-- and (diamond 0 true), box 0 X, of either kind
unfoldable pub sheet_and : ℕ → List ℕ
sheet_and kind = 1 ∷ kind ∷ 5 ∷ 3 ∷ 5 ∷ 0 ∷ 1 ∷ 6 ∷ 0 ∷ 0 ∷ []

-- F is false
unfoldable pub sheet_false : List ℕ
sheet_false = 1 ∷ 0 ∷ 1 ∷ 2 ∷ []

unfoldable pub starred : List Board
starred =
    marks chart_e
    (0 ∷ 2 ∷ 1 ∷ 1 ∷ 1 ∷ 1
    ∷ 2 ∷ 0 ∷ 1 ∷ 1 ∷ 1 ∷ 1
    ∷ 1 ∷ 1 ∷ 0 ∷ 1 ∷ 1 ∷ 1
    ∷ 1 ∷ 1 ∷ 1 ∷ 0 ∷ 1 ∷ 1
    ∷ 1 ∷ 1 ∷ 1 ∷ 1 ∷ 0 ∷ 1
    ∷ 1 ∷ 1 ∷ 1 ∷ 1 ∷ 1 ∷ 0
    ∷ []) 2
    ∷ simulates chart_e
    (((1, 0), true) ∷ ((0, 1), false) ∷ ((3, 2), true)
    ∷ ((5, 0), true) ∷ ((5, 1), true) ∷ ((5, 2), true) ∷ ((5, 3), true) ∷ ((5, 4), true) ∷ ((5, 5), true)
    ∷ [])
    ∷ satisfies chart_e sheet_e 61 5 1
    ∷ marks_greatest chart_l
    (0 ∷ 2 ∷ 1
    ∷ 2 ∷ 0 ∷ 1
    ∷ 1 ∷ 1 ∷ 0
    ∷ []) 2
    ∷ satisfies chart_l (sheet_or 1) 6 2 2
    ∷ satisfies chart_l (sheet_or 2) 7 3 0
    ∷ satisfies chart_l (sheet_and 2) 1 1 2
    ∷ satisfies chart_l (sheet_and 1) 0 0 0
    -- eventually false: the old form, and the new
    ∷ satisfies_form chart_l sheet_false 1 house_form 4 1 1
    ∷ satisfies_form chart_l sheet_false (kind_written 3) (short_form 3) 0 0 0
    ∷ marks chart_one (0 ∷ []) 0
    ∷ []
