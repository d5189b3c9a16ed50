-- The word of a formula that was read, a node at a time, and where the reading goes on.
use Prim.Native.Nat.{ℕ, ◌+◌, ◌-◌, ◌<◌, ◌≤◌, ◌^◌}
use mathlib.Core.Path.{◌≡◌, refl, ap, ◌∙◌}
use mathlib.Core.Bool.{Bool, true, false}
use mathlib.Core.List.{List}
use native.Mathlib.Omega.{arith}
use lib.Bits.{bit_or, bit_and, and_lt, or_lt}
use lib.Pow.{pow_pos}
use lib.Dec.{eqb}
use lib.ListN.{get_or}
use Rattle.settle.specs.Test.{pick}
use Rattle.sheet.specs.Formula.{Formula, variable, top, bottom, and, or, diamond, box}
use Rattle.sheet.specs.Reading.{Leaf, Two, One, node_at, leaf_of, two_of, label_of, one_of, Parsed, parsed, wrong, on_parsed, operands, formula_read}
use Rattle.std.specs.Prelude.{Ok}
use Rattle.sheet.specs.declared.Unread.{Unread}
use Rattle.sheet.proofs.Parsing.{parse_node}
use Rattle.sheet.proofs.Reading.{read_parsed, read_fewer, one_operand, second_operand}
use Rattle.words.proofs.Words.{word_lt}
use Rattle.evaluate.specs.Evaluating.{row_of, step_word, box_word, table_word, leaf_word, joined_word, modal_word, read_at, WasRead, formula_of}
use Rattle.evaluate.proofs.Operands.{formula, first_was, some_left, node_inside, action_inside, action_known, operands_were, is_leaf, is_two, is_one, first_of_two, operand_was}

module _ (into : List ℕ) (n set : ℕ) where
  abbrev word : Formula → ℕ
  word f = table_word into n f set

  leaf_word_lem : (node : ℕ) → word (leaf_of node) ≡ leaf_word n node set
  unfolding table_word
  leaf_word_lem node = go (eqb node 0) (eqb node 1)
    where
      go : (x y : Bool) → word (pick x variable (pick y top bottom)) ≡ pick x set (pick y (2 ^ n - 1) 0)
      go true y = refl
      go false true = refl
      go false false = refl

  joined_word_lem : (node : ℕ) (f g : Formula) → word (two_of node f g) ≡ joined_word node (word f) (word g)
  unfolding table_word
  joined_word_lem node f g = go (eqb node 3)
    where
      go : (x : Bool) → word (pick x (and f g) (or f g)) ≡ pick x (bit_and (word f) (word g)) (bit_or (word f) (word g))
      go true = refl
      go false = refl

  modal_word_lem : (node a : ℕ) (f : Formula) → word (one_of node a f) ≡ modal_word into n node a (word f)
  unfolding table_word
  modal_word_lem node a f = go (eqb node 5)
    where
      go : (x : Bool) → word (pick x (diamond (label_of a) f) (box (label_of a) f)) ≡ pick x (step_word into n (row_of (label_of a)) (word f)) (box_word into n (row_of (label_of a)) (word f))
      go true = refl
      go false = refl

  pub word_below : set < 2 ^ n → (f : Formula) → word f < 2 ^ n
  unfolding table_word
  word_below small variable = small
  word_below small top = omega (arith, pow_pos n)
  word_below small bottom = pow_pos n
  word_below small (and f g) = and_lt n _ _ (word_below small f) (word_below small g)
  word_below small (or f g) = or_lt n _ _ (word_below small f) (word_below small g)
  word_below small (diamond l f) = word_lt n _
  word_below small (box l f) = omega (arith, pow_pos n)

  -- of what was read
  abbrev value : Parsed → ℕ
  value u = word (formula_of u)

  one_value : (u : Parsed) (node a : ℕ) → WasRead u → value (on_parsed u (λ f after rest. parsed (one_of node a f) after rest)) ≡ modal_word into n node a (value u)
  one_value (parsed f at left) node a w = modal_word_lem node a f
  one_value (wrong r) node a w = absurd w

  last_value : (u : Parsed) (node : ℕ) (f : Formula) → WasRead u → value (on_parsed u (λ g after rest. parsed (two_of node f g) after rest)) ≡ joined_word node (word f) (value u)
  last_value (parsed g at left) node f w = joined_word_lem node f g
  last_value (wrong r) node f w = absurd w

-- ---- where the reading goes on

-- after a formula fewer nodes are unread
pub next_fewer : (b : List ℕ) (m : ℕ) (next after : Unread) → formula_read (read_at b m next) ≡ Ok after → after.left < next.left
next_fewer b m next after ends = read_fewer b m next.at next.left after ends

module _ (b : List ℕ) (m : ℕ) (next : Unread) (read : WasRead (read_at b m next)) where
  -- and fewer after a node
  pub operand_fewer : next.left - 1 < next.left
  operand_fewer = omega (arith, some_left b m next.at next.left read)

  abbrev node : ℕ
  node = get_or b next.at 0

  here : read_at b m next ≡ operands (node_at b m next.at) (next.left - 1) (formula b m next.at next.left read)
  here = parse_node b m next.at next.left (some_left b m next.at next.left read)

  -- 0 to 2
  module _ (known : get_or b next.at 0 < 3) where
    leaf : node_at b m next.at ≡ Leaf node (next.at + 1)
    leaf = is_leaf b m next.at next.left read known

    pub leaf_next : formula_read (read_at b m next) ≡ Ok (record { at = next.at + 1; left = next.left - 1 })
    leaf_next = ap formula_read here ∙ rw leaf

    pub leaf_value : (into : List ℕ) (n set : ℕ) → table_word into n (formula_of (read_at b m next)) set ≡ leaf_word n (get_or b next.at 0) set
    leaf_value into n set = ap (value into n set) here ∙ rw leaf (leaf_word_lem into n set node)

  -- 3 and 4
  module _ (above : 3 ≤ get_or b next.at 0) (known : get_or b next.at 0 < 5) where
    abbrev first : Unread
    first = record { at = next.at + 1; left = next.left - 1 }

    two : node_at b m next.at ≡ Two node (next.at + 1)
    two = is_two b m next.at next.left read above known

    pub first_read : WasRead (read_at b m (record { at = next.at + 1; left = next.left - 1 }))
    first_read = first_of_two b m next.at next.left read above known

    -- the second was read where the first ended
    module _ (between : Unread) (ends : formula_read (read_at b m (record { at = next.at + 1; left = next.left - 1 })) ≡ Ok between) where
      first_is : (f : Formula) × (read_at b m first ≡ parsed f between.at between.left)
      first_is = read_parsed b m (next.at + 1) (next.left - 1) between ends

      pub second_fewer : between.left < next.left - 1
      second_fewer = next_fewer b m (record { at = next.at + 1; left = next.left - 1 }) between ends

      pub second_read : WasRead (read_at b m between)
      second_read = first_was (read_at b m between) _ (rw (two, first_is.1) at (operands_were b m next.at next.left read))

      pub two_next : formula_read (read_at b m next) ≡ formula_read (read_at b m between)
      two_next = second_operand b m next.at next.left (some_left b m next.at next.left read) two between ends

      pub two_value : (into : List ℕ) (n set : ℕ) → table_word into n (formula_of (read_at b m next)) set
          ≡ joined_word (get_or b next.at 0) (table_word into n (formula_of (read_at b m (record { at = next.at + 1; left = next.left - 1 }))) set) (table_word into n (formula_of (read_at b m between)) set)
      two_value into n set = ap (value into n set) here ∙ rw (two, first_is.1) (last_value into n set (read_at b m between) node first_is.0 second_read)

  -- 5 and 6
  module _ (above : 5 ≤ get_or b next.at 0) where
    abbrev operand : Parsed
    operand = read_at b m (record { at = next.at + 2; left = next.left - 1 })

    one : node_at b m next.at ≡ One node (get_or b (next.at + 1) 0) (next.at + 2)
    one = (is_one b m next.at next.left read above).1

    pub operand_read : WasRead (read_at b m (record { at = next.at + 2; left = next.left - 1 }))
    operand_read = operand_was b m next.at next.left read above

    pub modal_next : formula_read (read_at b m next) ≡ formula_read (read_at b m (record { at = next.at + 2; left = next.left - 1 }))
    modal_next = one_operand b m next.at next.left (some_left b m next.at next.left read) one

    pub modal_value : (into : List ℕ) (n set : ℕ) → table_word into n (formula_of (read_at b m next)) set
        ≡ modal_word into n (get_or b next.at 0) (get_or b (next.at + 1) 0) (table_word into n (formula_of (read_at b m (record { at = next.at + 2; left = next.left - 1 }))) set)
    modal_value into n set = ap (value into n set) here ∙ rw one (one_value into n set operand node (get_or b (next.at + 1) 0) operand_read)

-- a formula by its first node: what it needs, what it gives, and what is unread after it
pub ruleset formula_by_node = (node_inside, some_left, action_inside, action_known, word_below, leaf_next, leaf_value, first_read, operand_fewer, second_fewer, second_read, two_next, operand_read, modal_next)
