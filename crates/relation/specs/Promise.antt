-- What a question promises that answers by a matrix, for every chart and every lent buffer. Marks and simulation each give what the matrix has to
-- say (Says) and the relations of which the rounds are counted (R).
use Rattle.std.specs.Prelude.{ℕ, ◌+◌, ◌*◌, ◌≤◌, ◌<◌, ◌≡◌, List, length, get_or}
use Rattle.settle.specs.Finite.{pairs}
use Rattle.settle.specs.Chain.{Settled}
use Rattle.refusal.specs.Refusal.{lent_refusal}
use Rattle.refusal.specs.declared.Refusal.{Refusal}
use Rattle.chart.specs.Chart.{Step}
use Rattle.chart.specs.Reading.{chart_in, read_chart}
use Rattle.chart.specs.declared.Shape.{Shape}
use Rattle.nearness.specs.Relation.{Relation}
use Rattle.relation.specs.declared.Matrix.{Matrix}
use Rattle.std.specs.Prelude.{Result, Ok, Err}

-- the byte of the pair (p, q) in a matrix of n states
abbrev pub byte_at : ℕ → List ℕ → ℕ → ℕ → ℕ
byte_at n bytes p q = get_or bytes (p * n + q) 0

-- what the bytes and what is said of them are, for a chart of n states and m actions with these steps
abbrev pub Saying : Type 1
Saying = ℕ → ℕ → List Step → List ℕ → Matrix → Type 0

-- R0, R1, .. for a chart with these steps
abbrev pub Relations : Type 0
Relations = List Step → ℕ → Relation

-- the answer to an accepted chart where the buffer has room: the matrix; or 15, where 4,096 rounds are done and a further one still changes
abbrev pub Answers : Saying → Relations → List ℕ → Shape → List ℕ → Result Matrix Refusal → Type 0
Answers Says R chart sh new (Ok given) = Says sh.n sh.m (chart_in chart sh).steps new given
Answers Says R chart sh new (Err r) = (r ≡ lent_refusal 15) × ((k : ℕ) → k ≤ 4096 → Settled (pairs sh.n) (R (chart_in chart sh).steps) k → ⊥)

-- old is the lent buffer before the call, new after
pub record MatrixPromise (Says : Saying) (R : Relations) (chart old new : List ℕ) (answer : Result Matrix Refusal) : Type 0 where
  pub chart_refused : (r : Refusal) → read_chart chart ≡ Err r → answer ≡ Err r
  pub then_too_short : (sh : Shape) → read_chart chart ≡ Ok sh → length old < sh.n * sh.n → answer ≡ Err (lent_refusal 14)
  pub then_answered : (sh : Shape) → read_chart chart ≡ Ok sh → sh.n * sh.n ≤ length old → Answers Says R chart sh new answer
  pub refusal_leaves_all : (r : Refusal) → answer ≡ Err r → new ≡ old
  pub later_bytes_stay : (sh : Shape) → read_chart chart ≡ Ok sh → (y : ℕ) → sh.n * sh.n ≤ y → get_or new y 0 ≡ get_or old y 0
  pub length_stays : length new ≡ length old

-- ---- what follows of it

-- a chart that is accepted is not refused where the buffer has room
abbrev pub AlwaysAnswered : Saying → Relations → Type 0
AlwaysAnswered Says R = (chart : List ℕ) (sh : Shape) → read_chart chart ≡ Ok sh → (old new : List ℕ) (answer : Result Matrix Refusal) → sh.n * sh.n ≤ length old
    → MatrixPromise Says R chart old new answer → (r : Refusal) → answer ≡ Err r → ⊥

-- 15 never comes
abbrev pub Never15 : Saying → Relations → Type 0
Never15 Says R = (chart old new : List ℕ) (answer : Result Matrix Refusal) → MatrixPromise Says R chart old new answer → (r : Refusal) → answer ≡ Err r → r.number ≡ 15 → ⊥

-- any two answers, and any two buffers, that it allows for the same input are equal
abbrev pub Determined : Saying → Relations → Type 0
Determined Says R = (chart old a b : List ℕ) (s t : Result Matrix Refusal) → MatrixPromise Says R chart old a s → MatrixPromise Says R chart old b t → (s ≡ t) × (a ≡ b)
