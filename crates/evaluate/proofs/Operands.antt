-- A node of a formula that was read, and its operands, which were.
use Prim.Native.Nat.{ℕ, ◌+◌, ◌-◌, ◌<◌, ◌≤◌}
use mathlib.Core.Path.{◌≡◌, refl}
use mathlib.Core.List.{List}
use mathlib.Core.Logic.{◌⊎◌}
use native.Mathlib.Omega.{arith}
use lib.ListN.{length, get_or}
use Rattle.sheet.specs.Formula.{Formula}
use Rattle.sheet.specs.Reading.{Node, Leaf, Two, One, Bad, node_at, Parsed, parsed, wrong, on_parsed, operands, parse}
use Rattle.sheet.proofs.Found.{NodeFound, node_found}
use Rattle.sheet.proofs.Parsing.{parse_none, parse_node}
use Rattle.sheet.proofs.Written.{leaf_at, two_at}
use Rattle.evaluate.specs.Evaluating.{WasRead}

-- where all operands were read, the first was
pub first_was : (u : Parsed) (next : Formula → ℕ → ℕ → Parsed) → WasRead (on_parsed u next) → WasRead u
first_was (parsed f at left) next w = tt
first_was (wrong r) next w = w

module _ (b : List ℕ) (m at left : ℕ) (was : WasRead (parse left b m at left)) where
  -- the formula at a place
  abbrev pub formula : ℕ → ℕ → Parsed
  formula at left = parse left b m at left

  pub some_left : left ≡ 0 → ⊥
  some_left none = rw (parse_none left b m at left none) at was

  pub operands_were : WasRead (operands (node_at b m at) (left - 1) formula)
  operands_were = rw (parse_node b m at left some_left) at was

  pub node_inside : at < length b
  unfolding NodeFound
  node_inside = go (node_at b m at) (node_found b m at) operands_were
    where
      go : (u : Node) → NodeFound b m at u → WasRead (operands u (left - 1) formula) → at < length b
      go (Bad r) found w = absurd w
      go (Leaf node next) found w = found.here
      go (Two node next) found w = found.here
      go (One node byte next) found w = omega (arith, found.here)

  pub is_leaf : get_or b at 0 < 3 → node_at b m at ≡ Leaf (get_or b at 0) (at + 1)
  is_leaf known = leaf_at b m at _ node_inside refl known

  pub is_two : 3 ≤ get_or b at 0 → get_or b at 0 < 5 → node_at b m at ≡ Two (get_or b at 0) (at + 1)
  is_two above known = two_at b m at _ node_inside refl above known

  -- whose action byte is an action or 255
  abbrev Known : Type 0
  Known = (get_or b (at + 1) 0 < m) ⊎ (get_or b (at + 1) 0 ≡ 255)

  pub is_one : 5 ≤ get_or b at 0 → (at + 1 < length b) × (node_at b m at ≡ One (get_or b at 0) (get_or b (at + 1) 0) (at + 2)) × Known
  unfolding NodeFound
  is_one above = go (node_at b m at) refl (node_found b m at) operands_were
    where
      go : (u : Node) → node_at b m at ≡ u → NodeFound b m at u → WasRead (operands u (left - 1) formula)
          → (at + 1 < length b) × (node_at b m at ≡ One (get_or b at 0) (get_or b (at + 1) 0) (at + 2)) × Known
      go (Bad r) e found w = absurd w
      go (Leaf node next) e found w = absurd (omega (arith, found.node_is, found.known))
      go (Two node next) e found w = absurd (omega (arith, found.node_is, found.known))
      go (One node byte next) e found w = (found.here, rw (found.node_is, found.byte_is, ← found.next) e, rw found.byte_is found.byte_known)

  pub first_of_two : 3 ≤ get_or b at 0 → get_or b at 0 < 5 → WasRead (parse (left - 1) b m (at + 1) (left - 1))
  first_of_two above known = first_was (formula (at + 1) (left - 1)) _ (rw (is_two above known) at operands_were)

  pub action_inside : 5 ≤ get_or b at 0 → at + 1 < length b
  action_inside above = (is_one above).0

  pub action_known : 5 ≤ get_or b at 0 → (get_or b (at + 1) 0 < m) ⊎ (get_or b (at + 1) 0 ≡ 255)
  action_known above = (is_one above).2

  pub operand_was : 5 ≤ get_or b at 0 → WasRead (parse (left - 1) b m (at + 2) (left - 1))
  operand_was above = first_was (formula (at + 2) (left - 1)) _ (rw (is_one above).1 at operands_were)
