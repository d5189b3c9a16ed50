-- The words say what the byte matrix said: after as many rounds, of every pair. Assumes nothing.
use Prim.Native.Nat.{ℕ, zero, suc, ◌<◌}
use mathlib.Core.Path.{◌≡◌, refl, sym, ◌∙◌}
use mathlib.Core.Bool.{Bool, true, false, So}
use mathlib.Core.List.{List, Memᴰ as Mem}
use lib.Dec.{eqb, eqb-suc-zero}
use Rattle.settle.specs.Test.{pick, both, neg}
use Rattle.settle.specs.Finite.{pairs}
use Rattle.settle.specs.Chain.{Monotone, full, chain}
use Rattle.settle.proofs.Test.{never}
use Rattle.settle.proofs.Finite.{pairs_i}
use Rattle.settle.proofs.Chain.{applied_same, down}
use Rattle.chart.specs.Chart.{Step}
use Rattle.sheet.proofs.Meaning.{TargetsBelow}
use Rattle.nearness.specs.Relation.{Near, Simulating}
use Rattle.nearness.proofs.Matched.{simulation_monotone, bisimulation_monotone}
use Rattle.relation.specs.Rows.{in_rows, Holds}
use Rattle.relation.specs.Bytes.{round_of, after, struck_by, zero_in, byte_after}

module _ (both_ways : Bool) (steps : List Step) (n : ℕ) (targets : TargetsBelow n steps) where
  round_monotone : Monotone (pairs n) (round_of both_ways steps)
  unfolding round_of
  round_monotone = go both_ways
    where
      go : (b : Bool) → Monotone (pairs n) (round_of b steps)
      go true = bisimulation_monotone n steps targets
      go false = simulation_monotone n steps targets

  pub round_down : (k : ℕ) (x : ℕ × ℕ) → Mem x (pairs n) → So (after both_ways steps (suc k) x) → So (after both_ways steps k x)
  round_down = down (pairs n) (round_of both_ways steps) round_monotone

  -- after k rounds a cell is 0 just where its pair is in the relation
  pub zero_after : (k : ℕ) (x : ℕ × ℕ) → Mem x (pairs n) → zero_in (byte_after both_ways steps k) x ≡ after both_ways steps k x
  unfolding byte_after chain full both neg struck_by
  zero_after zero x m = refl
  zero_after (suc k) x m =
      cases (byte_after both_ways steps k x) _ _ _ (zero_after k x m)
      (applied_same (pairs n) (round_of both_ways steps) round_monotone (zero_in (byte_after both_ways steps k)) (after both_ways steps k) (zero_after k) x m)
      (round_down k x m)
    where
      by : (b : Bool) → eqb (struck_by b k) 0 ≡ false
      by true = eqb-suc-zero k
      by false = refl

      choose : (byte : ℕ) (a r : Bool) → eqb byte 0 ≡ a → (So r → So a) → eqb (pick (both a (neg r)) (struck_by both_ways k) byte) 0 ≡ r
      choose byte true true e d = e
      choose byte true false e d = by both_ways
      choose byte false true e d = never (d refl)
      choose byte false false e d = e

      cases : (byte : ℕ) (a r c : Bool) → eqb byte 0 ≡ a → r ≡ c → (So c → So a) → eqb (pick (both (eqb byte 0) (neg r)) (struck_by both_ways k) byte) 0 ≡ c
      cases byte a r c e f d = rw (e, f) (choose byte a c e d)

  -- the byte by which a round strikes stands in the cells of the pairs that fall out
  pub byte_after_lem : (k : ℕ) (x : ℕ × ℕ) → Mem x (pairs n)
      → byte_after both_ways steps (suc k) x ≡ pick (both (after both_ways steps k x) (neg (after both_ways steps (suc k) x))) (struck_by both_ways k) (byte_after both_ways steps k x)
  unfolding byte_after chain
  byte_after_lem k x m = rw (zero_after k x m, applied_same (pairs n) (round_of both_ways steps) round_monotone (zero_in (byte_after both_ways steps k)) (after both_ways steps k) (zero_after k) x m)

  -- and a bit of the words is set just where it is
  pub words_as_bytes : (k : ℕ) (rows : List ℕ) → Holds n (after both_ways steps k) rows → (p q : ℕ) → p < n → q < n → in_rows rows p q ≡ zero_in (byte_after both_ways steps k) (p, q)
  words_as_bytes k rows h p q i j = h.bits p q i j ∙ sym (zero_after k (p, q) (pairs_i n p q i j))

-- of marks and of simulation by their own names
module _ (steps : List Step) (n : ℕ) (targets : TargetsBelow n steps) (k : ℕ) (rows : List ℕ) where
  pub near_as_bytes : Holds n (Near steps k) rows → (p q : ℕ) → p < n → q < n → in_rows rows p q ≡ zero_in (byte_after true steps k) (p, q)
  unfolding round_of
  near_as_bytes = words_as_bytes true steps n targets k rows

  pub simulating_as_bytes : Holds n (Simulating steps k) rows → (p q : ℕ) → p < n → q < n → in_rows rows p q ≡ zero_in (byte_after false steps k) (p, q)
  unfolding round_of
  simulating_as_bytes = words_as_bytes false steps n targets k rows
