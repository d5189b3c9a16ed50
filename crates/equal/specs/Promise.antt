-- What the two questions promise about the equal states of a chart, for every chart and every lent array: the words, and how many pairs.
use Rattle.std.specs.Prelude.{ℕ, ◌≤◌, ◌<◌, ◌≡◌, List, ◌↔◌, length, get_or}
use Rattle.std.proofs.Math.Bool.{So}
use Rattle.settle.specs.Test.{count}
use Rattle.settle.specs.Finite.{pairs}
use Rattle.refusal.specs.declared.Refusal.{Refusal}
use Rattle.chart.specs.Chart.{Step}
use Rattle.chart.specs.Reading.{chart_in, read_chart}
use Rattle.chart.specs.declared.Shape.{Shape}
use Rattle.words.specs.Words.{word_of}
use Rattle.nearness.specs.Relation.{Relation}
use Rattle.nearness.specs.Bisimulation.{Bisimilar}
use Rattle.nearness.specs.Mark.{Mark}
use Rattle.relation.specs.Rows.{in_rows}
use Rattle.std.specs.Prelude.{Result, Ok, Err}

-- P holds of the pairs of equal states, and of no other pair of states
abbrev pub TellsEqual : ℕ → List Step → Relation → Type 0
TellsEqual n steps P = (p q : ℕ) → p < n → q < n → So (P (p, q)) ↔ Bisimilar steps p q

-- the pairs that the rows have
abbrev pub pairs_in : List ℕ → Relation
pairs_in rows x = in_rows rows x.0 x.1

-- ---- the words. They are said of the places that are there, however many were lent (docs/DECISIONS.md, 83)

-- bit q of word p is set exactly if p and q are equal states; so words and bits from n on are 0
pub record EqualRows (n : ℕ) (steps : List Step) (old new : List ℕ) : Type 0 where
  pub bit_exactly : (p q : ℕ) → p < 64 → p < length old → So (in_rows new p q) ↔ ((p < n) × (q < n) × Bisimilar steps p q)
  pub later_words_stay : (p : ℕ) → 64 ≤ p → get_or new p 0 ≡ get_or old p 0
  pub length_stays : length new ≡ length old

-- old is the lent array before the call, new after
pub record RowsPromise (chart old new : List ℕ) (answer : Result ℕ Refusal) : Type 0 where
  pub chart_refused : (r : Refusal) → read_chart chart ≡ Err r → answer ≡ Err r
  pub then_answered : (sh : Shape) → read_chart chart ≡ Ok sh → (answer ≡ Ok sh.n) × EqualRows sh.n (chart_in chart sh).steps old new
  pub refusal_leaves_all : (r : Refusal) → answer ≡ Err r → new ≡ old

-- ---- the pairs

-- of the n * n pairs of states, c are pairs of equal states, whichever test tells them
abbrev pub HowMany : ℕ → List Step → ℕ → Type 0
HowMany n steps c = (P : Relation) → TellsEqual n steps P → c ≡ count P (pairs n)

pub record PairsPromise (chart : List ℕ) (answer : Result ℕ Refusal) : Type 0 where
  pub chart_refused : (r : Refusal) → read_chart chart ≡ Err r → answer ≡ Err r
  pub then_answered : (sh : Shape) → read_chart chart ≡ Ok sh → (c : ℕ) × (answer ≡ Ok c) × HowMany sh.n (chart_in chart sh).steps c

-- ---- what follows of them

-- they refuse what the chart's reader refuses, and as it does; so an accepted chart is never refused
abbrev pub RowsRefusedExactly : Type 0
RowsRefusedExactly = (chart old new : List ℕ) (answer : Result ℕ Refusal) → RowsPromise chart old new answer → (r : Refusal) → (answer ≡ Err r) ↔ (read_chart chart ≡ Err r)

abbrev pub PairsRefusedExactly : Type 0
PairsRefusedExactly = (chart : List ℕ) (answer : Result ℕ Refusal) → PairsPromise chart answer → (r : Refusal) → (answer ≡ Err r) ↔ (read_chart chart ≡ Err r)

-- any two answers, and any two arrays, that they allow for the same input are equal
abbrev pub RowsDetermined : Type 0
RowsDetermined = (chart old a b : List ℕ) (s t : Result ℕ Refusal) → RowsPromise chart old a s → RowsPromise chart old b t → (s ≡ t) × (a ≡ b)

abbrev pub PairsDetermined : Type 0
PairsDetermined = (chart : List ℕ) (s t : Result ℕ Refusal) → PairsPromise chart s → PairsPromise chart t → s ≡ t

-- where 64 words are lent, what they are after: the words of any test that tells the equal pairs, and 0 from n on
abbrev pub SixtyFourWords : Type 0
SixtyFourWords = (chart : List ℕ) (sh : Shape) → read_chart chart ≡ Ok sh → (old new : List ℕ) (answer : Result ℕ Refusal) → length old ≡ 64 → RowsPromise chart old new answer
    → (P : Relation) → TellsEqual sh.n (chart_in chart sh).steps P
    → (length new ≡ 64) × ((p : ℕ) → p < sh.n → get_or new p 0 ≡ word_of sh.n (λ q. P (p, q))) × ((p : ℕ) → sh.n ≤ p → get_or new p 0 ≡ 0)

-- of each pair of states the words say what its mark says: set where it is 0
abbrev pub SetWhereMarkZero : Type 0
SetWhereMarkZero = (chart : List ℕ) (sh : Shape) → read_chart chart ≡ Ok sh → (old new : List ℕ) (answer : Result ℕ Refusal) → length old ≡ 64 → RowsPromise chart old new answer
    → (p q : ℕ) → p < sh.n → q < sh.n → So (in_rows new p q) ↔ Mark (chart_in chart sh).steps p q 0

-- the count is that of the bits in the words
abbrev pub CountOfBits : Type 0
CountOfBits = (chart : List ℕ) (sh : Shape) → read_chart chart ≡ Ok sh → (old new : List ℕ) (answer : Result ℕ Refusal) → length old ≡ 64 → RowsPromise chart old new answer
    → (c : ℕ) → PairsPromise chart (Ok c) → c ≡ count (pairs_in new) (pairs sh.n)

-- each state is equal to itself, so there are n pairs at least
abbrev pub AtLeastN : Type 0
AtLeastN = (chart : List ℕ) (sh : Shape) → read_chart chart ≡ Ok sh → (c : ℕ) → PairsPromise chart (Ok c) → sh.n ≤ c

-- and n exactly if no two states that differ are equal
abbrev pub NExactly : Type 0
NExactly = (chart : List ℕ) (sh : Shape) → read_chart chart ≡ Ok sh → (c : ℕ) → PairsPromise chart (Ok c)
    → (c ≡ sh.n) ↔ ((p q : ℕ) → p < sh.n → q < sh.n → Bisimilar (chart_in chart sh).steps p q → p ≡ q)
