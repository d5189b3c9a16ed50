-- Reading a property sheet in document 01's order, each byte judged as read, 13 before 1, 8 and 11 at the same place. The number and the place
-- of every refusal stand here; that a sheet is accepted exactly if it follows the layout is the law `accepted_exactly` of proofs/Accepted.antt.
use Rattle.std.specs.Prelude.{ℕ, zero, suc, ◌+◌, ◌-◌, ◌≤◌, ◌≡◌, List, ◌↔◌, length, get_or, ltb, leb, eqb}
use Rattle.settle.specs.Test.{pick}
use Rattle.refusal.specs.Refusal.{sheet_refusal}
use Rattle.refusal.specs.declared.Refusal.{Refusal}
use Rattle.sheet.specs.Formula.{Label, only, every, Formula, variable, top, bottom, and, or, diamond, box, nodes}
use Rattle.sheet.specs.Layout.{encode, WellFormed}
use Rattle.sheet.specs.Kinds.{kind_number, kind_of}
use Rattle.sheet.specs.declared.Outline.{Outline}
use Rattle.sheet.specs.declared.Ended.{Ended}
use Rattle.sheet.specs.declared.Unread.{Unread}
use Rattle.std.specs.Prelude.{Result, Ok, Err}

-- ---- a node

-- a node with its action byte, where it has one, and the place after it; or the refusal
pub data Node : Type 0 where
  Leaf Two : ℕ → ℕ → Node
  One : ℕ → ℕ → ℕ → Node
  Bad : Refusal → Node

-- the node at a place: 1 where a byte is absent, 11 where the node is above 6, 12 where the action is neither below m nor 255
unfoldable pub node_at : List ℕ → ℕ → ℕ → Node
node_at s m at =
    pick (leb (length s) at) (Bad (sheet_refusal 1 (length s))) (
    pick (ltb (get_or s at 0) 3) (Leaf (get_or s at 0) (at + 1)) (
    pick (ltb (get_or s at 0) 5) (Two (get_or s at 0) (at + 1)) (
    pick (ltb 6 (get_or s at 0)) (Bad (sheet_refusal 11 at)) (
    pick (leb (length s) (at + 1)) (Bad (sheet_refusal 1 (length s))) (
    pick (ltb (get_or s (at + 1) 0) m) (One (get_or s at 0) (get_or s (at + 1) 0) (at + 2)) (
    pick (eqb (get_or s (at + 1) 0) 255) (One (get_or s at 0) (get_or s (at + 1) 0) (at + 2)) (
    Bad (sheet_refusal 12 (at + 1)))))))))

-- 0 to 2, then 3 and 4, then 5 and 6
abbrev pub leaf_of : ℕ → Formula
leaf_of node = pick (eqb node 0) variable (pick (eqb node 1) top bottom)

abbrev pub two_of : ℕ → Formula → Formula → Formula
two_of node f g = pick (eqb node 3) (and f g) (or f g)

abbrev pub label_of : ℕ → Label
label_of byte = pick (eqb byte 255) every (only byte)

abbrev pub one_of : ℕ → ℕ → Formula → Formula
one_of node byte f = pick (eqb node 5) (diamond (label_of byte) f) (box (label_of byte) f)

-- ---- a formula

-- what is read: the formula, the place after it and the nodes still unread; or the refusal
pub data Parsed : Type 0 where
  parsed : Formula → ℕ → ℕ → Parsed
  wrong : Refusal → Parsed

abbrev pub on_parsed : Parsed → (Formula → ℕ → ℕ → Parsed) → Parsed
on_parsed (parsed f at left) next = next f at left
on_parsed (wrong r) next = wrong r

-- a node and then its operands, each read in turn
abbrev pub operands : Node → ℕ → (ℕ → ℕ → Parsed) → Parsed
operands (Bad r) left read = wrong r
operands (Leaf node at) left read = parsed (leaf_of node) at left
operands (One node byte at) left read = on_parsed (read at left) (λ f after rest. parsed (one_of node byte f) after rest)
operands (Two node at) left read =
    on_parsed (read at left) (λ f between some. on_parsed (read between some) (λ g after rest. parsed (two_of node f g) after rest))

-- the formula at a place, of at most `left` nodes: 13 where they are used up and an operand is missing. The first argument bounds the nesting;
-- `left` is bound enough
unfoldable pub parse : ℕ → List ℕ → ℕ → ℕ → ℕ → Parsed
parse zero s m at left = wrong (sheet_refusal 13 at)
parse (suc deep) s m at left =
    pick (eqb left 0) (wrong (sheet_refusal 13 at)) (operands (node_at s m at) (left - 1) (λ after rest. parse deep s m after rest))

-- ---- the whole sheet

pub data Sheet : Type 0 where
  sheet : ℕ → ℕ → Formula → Sheet
  refused : Refusal → Sheet

-- 13: the formula is complete while nodes remain; 8: bytes are left over
abbrev pub ending : List ℕ → ℕ → ℕ → Parsed → Sheet
ending s kind count (parsed f at left) =
    pick (ltb 0 left) (refused (sheet_refusal 13 at)) (pick (ltb at (length s)) (refused (sheet_refusal 8 at)) (sheet kind count f))
ending s kind count (wrong r) = refused r

-- the nodes, after their count (10: it is 0 or above 200)
unfoldable pub read_nodes : List ℕ → ℕ → ℕ → Sheet
read_nodes s m kind =
    pick (leb (length s) 2) (refused (sheet_refusal 1 (length s))) (
    pick (ltb (get_or s 2 0) 1) (refused (sheet_refusal 10 2)) (
    pick (ltb 200 (get_or s 2 0)) (refused (sheet_refusal 10 2)) (
    ending s kind (get_or s 2 0) (parse (get_or s 2 0) s m 3 (get_or s 2 0)))))

-- the kind, the count of nodes and the formula; 9: the count of equations is not 1, or the kind is above 2
unfoldable pub read_sheet : List ℕ → ℕ → Sheet
read_sheet s m =
    pick (leb (length s) 0) (refused (sheet_refusal 1 (length s))) (
    pick (eqb (get_or s 0 0) 1)
    (pick (leb (length s) 1) (refused (sheet_refusal 1 (length s))) (
    pick (ltb 2 (get_or s 1 0)) (refused (sheet_refusal 9 1)) (
    read_nodes s m (get_or s 1 0))))
    (refused (sheet_refusal 9 0)))

-- ---- what the readers say of it

-- what is unread after a formula, or its refusal
abbrev pub formula_read : Parsed → Result Unread Refusal
formula_read (parsed f at left) = Ok (record { at = at; left = left })
formula_read (wrong r) = Err r

-- the same by how reading ended, and what was unread then: 13, 11 and 12 are told at the place that it came to, 1 at the end of the bytes
abbrev pub ended_read : ℕ → Unread → Ended → Result Unread Refusal
ended_read len next Ended.Whole = Ok next
ended_read len next Ended.UsedUp = Err (sheet_refusal 13 next.at)
ended_read len next Ended.Absent = Err (sheet_refusal 1 len)
ended_read len next Ended.UnknownNode = Err (sheet_refusal 11 next.at)
ended_read len next Ended.UnknownAction = Err (sheet_refusal 12 next.at)

abbrev pub sheet_read : Sheet → Result Outline Refusal
sheet_read (sheet kind count f) = Ok (record { kind = kind_of kind; nodes = count })
sheet_read (refused r) = Err r

-- for a chart of at most 32 actions, an answer accepts these bytes exactly if they are the layout of a well-formed sheet of that kind and so many nodes
abbrev pub AcceptedExactly : List ℕ → ℕ → Result Outline Refusal → Type 0
AcceptedExactly s m answer = m ≤ 32 → (o : Outline) → (answer ≡ Ok o) ↔ ((f : Formula) × (nodes f ≡ o.nodes) × (s ≡ encode (kind_number o.kind) f) × WellFormed m (kind_number o.kind) f)
