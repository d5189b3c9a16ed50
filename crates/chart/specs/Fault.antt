-- What is wrong at the place of a chart's refusal, by its number (document 01, 'Refusal numbers'; document 02, T-02), said of the bytes alone. That
-- it is so of every refusal is `at_fault` of proofs/Refused.antt, and that 6 and 7 are given just there is `six_exactly` and `seven_exactly` of
-- proofs/Line.antt; that nothing before the fault is at fault is `before_the_fault` of proofs/Beginning.antt.
use Rattle.std.specs.Prelude.{ℕ, ◌+◌, ◌-◌, ◌*◌, ◌<◌, ◌≤◌, ◌≡◌, List, ◌⊎◌, length, get_or, eqb}
use Rattle.settle.specs.Test.{pick}
use Rattle.chart.specs.Chart.{Step}
use Rattle.chart.specs.Layout.{Earlier, StepIn}
use Rattle.chart.specs.Reading.{step_at}

-- the counts that stand in the bytes
abbrev pub states_in : List ℕ → ℕ
states_in s = get_or s 0 0

abbrev pub actions_in : List ℕ → ℕ
actions_in s = get_or s (1 + states_in s) 0

abbrev pub transitions_in : List ℕ → ℕ
transitions_in s = get_or s (2 + states_in s + actions_in s) 0 + 256 * get_or s (3 + states_in s + actions_in s) 0

-- ---- the triples

-- where triple number i stands, and the triple
abbrev pub triple_at : List ℕ → ℕ → ℕ
triple_at s i = 4 + states_in s + actions_in s + 3 * i

abbrev pub triple_in : List ℕ → ℕ → Step
triple_in s i = step_at s (triple_at s i)

-- a byte of a triple is in range below this: byte 1 is an action; bytes 0 and 2, the source and the target, are states
abbrev pub bound_of : List ℕ → ℕ → ℕ
bound_of s byte = pick (eqb byte 1) (actions_in s) (states_in s)

-- the counts and the codes are those of a chart, and the first k triples are in range and rising
pub record FineBefore (s : List ℕ) (k : ℕ) : Type 0 where
  pub states_some : 1 ≤ states_in s
  pub states_few : states_in s ≤ 64
  pub actions_few : actions_in s ≤ 32
  pub codes_rise : (i : ℕ) → i + 1 < actions_in s → get_or s (2 + states_in s + i) 0 < get_or s (2 + states_in s + (i + 1)) 0
  pub transitions_few : transitions_in s ≤ 1024
  pub in_range : (i : ℕ) → i < k → StepIn (states_in s) (actions_in s) (triple_in s i)
  pub rising : (i : ℕ) → i + 1 < k → Earlier (triple_in s i) (triple_in s (i + 1))

-- this byte of triple number i is out of range, and nothing before it is at fault
pub record OutOfRange (s : List ℕ) (i byte : ℕ) : Type 0 where
  pub triple_few : i < transitions_in s
  pub byte_few : byte < 3
  pub there : triple_at s i + byte < length s
  pub out_of_range : bound_of s byte ≤ get_or s (triple_at s i + byte) 0
  pub bytes_before : (k : ℕ) → k < byte → get_or s (triple_at s i + k) 0 < bound_of s k
  pub fine_before : FineBefore s i

-- triple number i, not the first, is in range but not greater than the one before, and nothing before it is at fault
pub record NotGreater (s : List ℕ) (i : ℕ) : Type 0 where
  pub not_first : 0 < i
  pub triple_few : i < transitions_in s
  pub there : triple_at s i + 2 < length s
  pub not_greater : Earlier (triple_in s (i - 1)) (triple_in s i) → ⊥
  pub in_range : StepIn (states_in s) (actions_in s) (triple_in s i)
  pub fine_before : FineBefore s i

-- ---- the fault

pub data AtFault (s : List ℕ) (number place byte : ℕ) : Type 0 where
  -- 1: a needed byte is absent; place: the length
  absent : number ≡ 1 → byte ≡ 0 → place ≡ length s → AtFault s number place byte
  -- 2: n is 0 or above 64
  states : number ≡ 2 → byte ≡ 0 → place ≡ 0 → (states_in s ≡ 0) ⊎ (64 < states_in s) → AtFault s number place byte
  -- 3: m above 32
  actions : number ≡ 3 → byte ≡ 0 → place ≡ 1 + states_in s → 32 < actions_in s → AtFault s number place byte
  -- 4: an action code, not the first, that is not greater than the one before
  code : number ≡ 4 → byte ≡ 0 → 2 + states_in s < place → place < 2 + states_in s + actions_in s → get_or s place 0 ≤ get_or s (place - 1) 0 → AtFault s number place byte
  -- 5: t above 1,024; place: its first byte
  transitions : number ≡ 5 → byte ≡ 0 → place ≡ 2 + states_in s + actions_in s → 1024 < transitions_in s → AtFault s number place byte
  -- 6: a byte of a triple is out of range; place: the triple's number, and then the byte within it
  range : number ≡ 6 → OutOfRange s place byte → AtFault s number place byte
  -- 7: a triple is not greater than the one before; place: its number
  order : number ≡ 7 → byte ≡ 0 → NotGreater s place → AtFault s number place byte
  -- 8: bytes left over; place: the first
  left_over : number ≡ 8 → byte ≡ 0 → place ≡ triple_at s (transitions_in s) → place < length s → AtFault s number place byte

-- where the byte at fault stands: of 6 and 7 by the triple's number and the byte within it, of all others at the place
abbrev pub fault_at : List ℕ → ℕ → ℕ → ℕ → ℕ
fault_at s number place byte = pick (eqb number 6) (triple_at s place + byte) (pick (eqb number 7) (triple_at s place + byte) place)
