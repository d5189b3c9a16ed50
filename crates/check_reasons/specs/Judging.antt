-- The pairs already listed, as 64 words, and what is asked of them while a line is judged.
use Rattle.std.specs.Prelude.{ℕ, ◌^◌, ◌≤◌, ◌<◌, ◌≡◌, Bool, true, false, ◌↔◌, length, get_or}
use Rattle.std.proofs.Math.Bool.{So}
use mathlib.Core.List.{List, Memᴰ as Mem}
use Rattle.words.specs.Words.{member}
use Rattle.chart.specs.Chart.{Step}
use Rattle.ranges.specs.Sources.{action_at, target_at}
use Rattle.reason.specs.Line.{Line, IsMove, relies}
use Rattle.reason.specs.Good.{Listed}

-- the pair (p, q) is in the words: bit q of word p is set
abbrev pub in_words : List ℕ → ℕ × ℕ → Bool
in_words rows x = member (get_or rows x.0 0) x.1

-- the words are those of the pairs that are listed
abbrev pub Holds : List Line → List ℕ → Type 0
Holds lines rows = (p q : ℕ) → p < 64 → q < 64 → So (in_words rows (p, q)) ↔ Listed lines (p, q)

-- they are 64 and each has 64 bits
pub record Words (lines : List Line) (rows : List ℕ) : Type 0 where
  pub sixty_four : length rows ≡ 64
  pub small : (k : ℕ) → get_or rows k 0 < 2 ^ 64
  pub holds : Holds lines rows

-- ---- what an answer says

-- the answer says whether it is so
abbrev pub Whether : Type 0 → Bool → Type 0
Whether A true = A
Whether A false = A → ⊥

-- some triple of low .. high bears the action and leads to the target
abbrev pub SomeLeads : List ℕ → ℕ → ℕ → ℕ → ℕ → ℕ → Type 0
SomeLeads bytes at low high action target = (i : ℕ) × (low ≤ i) × (i < high) × (action_at bytes at i ≡ action) × (target_at bytes at i ≡ target)

-- each triple of low .. high that bears the action leads to a state that passes
abbrev pub EachLeads : List ℕ → ℕ → ℕ → ℕ → ℕ → (ℕ → Bool) → Type 0
EachLeads bytes at low high action passes = (i : ℕ) → low ≤ i → i < high → action_at bytes at i ≡ action → So (passes (target_at bytes at i))

-- the line is a move, and each pair that it relies on is in the words
abbrev pub Rests : List Step → List ℕ → Line → Type 0
Rests steps rows l = IsMove steps l × ((x : ℕ × ℕ) → Mem x (relies steps l) → So (in_words rows x))

-- the line is in range, its pair is not in the words, and it rests on them
pub record Passes (n : ℕ) (steps : List Step) (rows : List ℕ) (l : Line) : Type 0 where
  pub p_in : l.p < n
  pub q_in : l.q < n
  pub new : So (in_words rows (l.p, l.q)) → ⊥
  pub rests : Rests steps rows l
