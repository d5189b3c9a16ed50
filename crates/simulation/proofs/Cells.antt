-- The cells, written bit by bit and row by row, are those of the relation that the rows hold.
use Prim.Native.Nat.{ℕ, zero, suc, ◌+◌, ◌-◌, ◌*◌, ◌/◌, ◌%◌, ◌^◌, ◌<◌, ◌≤◌}
use mathlib.Core.Path.{◌≡◌, refl, sym, ap, subst, ◌∙◌}
use mathlib.Core.Bool.{Bool}
use mathlib.Core.List.{List}
use mathlib.Core.Logic.{inl, inr}
use native.Mathlib.Decide.{ℕ_discrete, dec_lt}
use native.Mathlib.Nat.{mod-lt, zero-lt-suc, mul-le-mul_right}
use native.Mathlib.Omega.{arith}
use lib.Dec.{eqb}
use lib.ListN.{length, get_or, set, length-set}
use lib.Seq.{get_or-set_same, get_or-set_other}
use Rattle.settle.specs.Test.{pick}
use Rattle.chart.specs.Chart.{Step}
use Rattle.words.specs.Words.{member}
use Rattle.nearness.specs.Relation.{Simulating}
use Rattle.relation.specs.Cells.{pair_at}
use Rattle.relation.specs.Rows.{in_rows}
use Rattle.relation.specs.Settles.{Settles}
use Rattle.relation.specs.declared.Settled.{Settled}
use Rattle.relation.proofs.Cells.{row_in, column_in, cell_pair}
use Rattle.simulation.specs.Working.{RowPut, CellsPut, Working}

-- ---- a row, bit by bit

-- a bit is 1 or 0
bit_byte : (w q : ℕ) → w / 2 ^ q % 2 ≡ pick (member w q) 1 0
bit_byte w q = go (w / 2 ^ q % 2) (mod-lt (w / 2 ^ q) (zero-lt-suc 1))
  where
    go : (d : ℕ) → d < 2 → d ≡ pick (eqb d 1) 1 0
    go zero h = refl
    go (suc zero) h = refl
    go (suc (suc d)) h = absurd (omega arith)

pub row_none : (row base : ℕ) (old : List ℕ) → RowPut row base 0 old old
row_none row base old = record { same_length = refl; cells_are = λ q h. absurd (omega arith); elsewhere = λ y h. refl }

pub row_more : {row base count : ℕ} {old new : List ℕ} → RowPut row base count old new → base + count < length new → RowPut row base (count + 1) old (set new (base + count) (row / 2 ^ count % 2))
row_more {row} {base} {count} {old} {new} w room =
    record {
      same_length = length-set new (base + count) _ ∙ w.same_length;
      cells_are = λ q h. elim (ℕ_discrete q count) [
        | yes e ↦ rw e (get_or-set_same new (base + count) _ 0 room ∙ bit_byte row count)
        | no f ↦ get_or-set_other new (base + count) (base + q) _ 0 (λ e. omega arith) ∙ w.cells_are q (omega arith)
      ];
      elsewhere = λ y h. elim h [
        | inl l ↦ get_or-set_other new (base + count) y _ 0 (λ e. omega arith) ∙ w.elsewhere y (inl l)
        | inr l ↦ get_or-set_other new (base + count) y _ 0 (λ e. omega arith) ∙ w.elsewhere y (inr (omega arith))
      ];
    }

-- ---- the rows, one after the other

-- a row ends in the matrix
pub row_ends : (n p : ℕ) → p < n → p * n + n ≤ n * n
row_ends n p h = omega (arith, mul-le-mul_right {m = p + 1} {n = n} n (omega arith))

pub cells_none : (n : ℕ) (rows old : List ℕ) → CellsPut n rows (0 * n) old old
cells_none n rows old = record { same_length = refl; cells_are = λ y h. absurd (omega arith); after = λ y h. refl }

pub cells_more : {n : ℕ} {rows old mid new : List ℕ} (p : ℕ) → CellsPut n rows (p * n) old mid → RowPut (get_or rows p 0) (p * n) n mid new → CellsPut n rows ((p + 1) * n) old new
cells_more {n} {rows} {old} {mid} {new} p w r =
    record {
      same_length = r.same_length ∙ w.same_length;
      cells_are = λ y h. elim (dec_lt y (p * n)) [
        | yes l ↦ r.elsewhere y (inl l) ∙ w.cells_are y l
        | no f ↦ here y (y - p * n) (omega arith) (omega arith)
      ];
      after = λ y h. r.elsewhere y (inr (omega arith)) ∙ w.after y (omega arith);
    }
  where
    here : (y q : ℕ) → p * n + q ≡ y → q < n → get_or new y 0 ≡ pick (in_rows rows (pair_at n y).0 (pair_at n y).1) 1 0
    here y q e l =
        subst (λ (z : ℕ). get_or new z 0 ≡ pick (in_rows rows (pair_at n z).0 (pair_at n z).1) 1 0) e
        (r.cells_are q l ∙ ap (λ (x : ℕ × ℕ). pick (in_rows rows x.0 x.1) 1 0) (sym (cell_pair n p q l)))

pub cells_all : {n : ℕ} {rows old new : List ℕ} (p : ℕ) → p ≡ n → CellsPut n rows (p * n) old new → CellsPut n rows (n * n) old new
cells_all {n} {rows} {old} {new} p e w = subst (λ (x : ℕ). CellsPut n rows (x * n) old new) e w

-- ---- and what they mean

pub simulated : {n : ℕ} (steps : List Step) {old new : List ℕ} {s : Settled} → Settles n (Simulating steps) s → CellsPut n s.rows (n * n) old new → Working steps n old new (record { states = n; rounds = s.rounds })
simulated {n} steps s w =
    record {
      states_said = refl;
      done = record {
        same_length = w.same_length;
        after = w.after;
        cells = λ y h. w.cells_are y h ∙ ap (λ (b : Bool). pick b 1 0) (s.rows_hold.bits _ _ (row_in n y h) (column_in n y h));
        unsettled = s.rounds_are.1;
      };
      settled = s.rounds_are.0;
    }
