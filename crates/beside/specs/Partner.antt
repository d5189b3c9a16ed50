-- Partners: states of two charts, each of whose behaviour the other can follow, event for event, by the events' codes. Nothing here speaks of the two
-- charts side by side; that partners are just the pairs that bear the mark 0 there is the law `partners_exactly` of proofs/Partner.antt.
use Rattle.std.specs.Prelude.{ℕ, ◌<◌, ◌≡◌, Bool, get_or}
use Rattle.std.proofs.Math.Bool.{So}
use mathlib.Core.List.{Memᴰ as Mem}
use Rattle.chart.specs.Chart.{Step, Chart, states}
use Rattle.nearness.specs.Bisimulation.{Of}

-- the code of a step's action
abbrev pub code_of : Chart → Step → ℕ
code_of c t = get_or c.codes t.action 0

-- if p R q, then each step of p in c is matched by a step of q in d whose action has the same code, the targets in R
pub record Follows (c d : Chart) (R : ℕ → ℕ → Type 0) : Type 0 where
  pub forth : (p q : ℕ) → R p q → (t : Step) → Mem t c.steps → t.source ≡ p → (u : Step) × Mem u d.steps × (u.source ≡ q) × (code_of d u ≡ code_of c t) × R t.target u.target

-- each step of either is matched by a step of the other
abbrev pub Matching : Chart → Chart → (ℕ → ℕ → Type 0) → Type 0
Matching c d R = Follows c d R × Follows d c (λ q p. R p q)

-- state p of c and state q of d are partners: some such relation relates them
pub record Partners (c d : Chart) (p q : ℕ) : Type 0 where
  pub of_first : p < states c
  pub of_second : q < states d
  pub R : ℕ → ℕ → Bool
  pub matching : Matching c d (Of R)
  pub related : So (R p q)

-- the same over relations of any kind, which no contract can name: the law `partners_any` says that they are no more
abbrev pub PartnersAny : Chart → Chart → ℕ → ℕ → Type 1
PartnersAny c d p q = (p < states c) × (q < states d) × ((R : ℕ → ℕ → Type 0) × Matching c d R × R p q)

-- a state of the first that has a partner in the second, and of the second that has one in the first
abbrev pub FirstMatched : Chart → Chart → ℕ → Type 0
FirstMatched c d p = (q : ℕ) × Partners c d p q

abbrev pub SecondMatched : Chart → Chart → ℕ → Type 0
SecondMatched c d q = (p : ℕ) × Partners c d p q
