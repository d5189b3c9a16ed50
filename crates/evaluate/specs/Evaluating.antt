-- What the parts of the evaluator say of themselves. The promise of the question cites none of it.
use Rattle.std.specs.Prelude.{ℕ, ◌+◌, ◌-◌, ◌*◌, ◌^◌, ◌≤◌, ◌<◌, ◌≡◌, List, ◌⊎◌, eqb, length, get_or}
use Rattle.std.specs.Int.Bits.{bit_and, bit_or}
use Rattle.settle.specs.Test.{pick}
use Rattle.sheet.specs.Formula.{Label, only, every, Formula, variable, top, bottom, and, or, diamond, box}
use Rattle.sheet.specs.Reading.{label_of, Parsed, parsed, wrong, parse}
use Rattle.sheet.specs.declared.Unread.{Unread}
use Rattle.words.specs.Words.{word_of}
use Rattle.steps.specs.Walk.{leads}

-- ---- a formula's word, by the table of a chart's steps; that it is the word of the states at which the formula holds is the law `table_holds`

-- the row of an action; row 0 is that of all actions together
abbrev pub row_of : Label → ℕ
row_of every = 0
row_of (only a) = a + 1

-- the states with a step, by the row, to a member of the set
abbrev pub step_word : List ℕ → ℕ → ℕ → ℕ → ℕ
step_word into n row w = word_of n (leads into (row * n) w)

-- the states all of whose steps, by the row, lead into the set: none leads to the others
abbrev pub box_word : List ℕ → ℕ → ℕ → ℕ → ℕ
box_word into n row w = 2 ^ n - 1 - step_word into n row (2 ^ n - 1 - w)

unfoldable pub table_word : List ℕ → ℕ → Formula → ℕ → ℕ
table_word into n variable set = set
table_word into n top set = 2 ^ n - 1
table_word into n bottom set = 0
table_word into n (and f g) set = bit_and (table_word into n f set) (table_word into n g set)
table_word into n (or f g) set = bit_or (table_word into n f set) (table_word into n g set)
table_word into n (diamond l f) set = step_word into n (row_of l) (table_word into n f set)
table_word into n (box l f) set = box_word into n (row_of l) (table_word into n f set)

-- ---- the words that a call works on: the rows of the table, and after them two for each place of the sheet

-- at most 64 states and 32 actions; a row of n words for all actions together and for each of the m; no word with a bit at n or above
pub record Serves (n m : ℕ) (work : List ℕ) : Type 0 where
  pub states_few : n ≤ 64
  pub actions_few : m ≤ 32
  pub room : (m + 1) * n ≤ length work
  pub no_bit_above : (e : ℕ) → get_or work e 0 < 2 ^ n

-- an action byte is an action or 255
abbrev pub ActionIn : ℕ → ℕ → Type 0
ActionIn m a = (a < m) ⊎ (a ≡ 255)

-- where the words of place p stand
abbrev pub memo_at : ℕ → ℕ → ℕ → ℕ
memo_at n m p = (m + 1) * n + 2 * p

-- of each place: the set that the step there last led to (of a box, the others), and then what it gave
pub record Remembers (n m : ℕ) (sheet work : List ℕ) : Type 0 where
  pub serves : Serves n m work
  pub size : memo_at n m (length sheet) ≤ length work
  pub gave : (p : ℕ) → p < length sheet → ActionIn m (get_or sheet (p + 1) 0)
      → get_or work (memo_at n m p + 1) 0 ≡ step_word work n (row_of (label_of (get_or sheet (p + 1) 0))) (get_or work (memo_at n m p) 0)

-- the rows are what they were
abbrev pub SameRows : ℕ → ℕ → List ℕ → List ℕ → Type 0
SameRows n m old new = (e : ℕ) → e < (m + 1) * n → get_or new e 0 ≡ get_or old e 0

abbrev pub Kept : ℕ → ℕ → List ℕ → List ℕ → List ℕ → Type 0
Kept n m sheet old new = SameRows n m old new × Remembers n m sheet new

-- ---- a formula that was read

-- what is read where so much is unread
abbrev pub read_at : List ℕ → ℕ → Unread → Parsed
read_at sheet m next = parse next.left sheet m next.at next.left

-- one that stands in an accepted sheet was read, and is not judged again
abbrev pub WasRead : Parsed → Type 0
WasRead (parsed f at left) = Unit {0}
WasRead (wrong r) = ⊥

-- the formula; false where none was read
abbrev pub formula_of : Parsed → Formula
formula_of (parsed f at left) = f
formula_of (wrong r) = bottom

-- ---- the word of a node from the words of its operands

abbrev pub leaf_word : ℕ → ℕ → ℕ → ℕ
leaf_word n node set = pick (eqb node 0) set (pick (eqb node 1) (2 ^ n - 1) 0)

abbrev pub joined_word : ℕ → ℕ → ℕ → ℕ
joined_word node v w = pick (eqb node 3) (bit_and v w) (bit_or v w)

abbrev pub modal_word : List ℕ → ℕ → ℕ → ℕ → ℕ → ℕ
modal_word into n node a w = pick (eqb node 5) (step_word into n (row_of (label_of a)) w) (box_word into n (row_of (label_of a)) w)
