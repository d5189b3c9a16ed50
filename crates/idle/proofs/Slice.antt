-- What the laws give a build: charts E and L, and a buffer of bytes that no answer holds. Assumes nothing.
use Prim.Native.Nat.{ℕ}
use mathlib.Core.Path.{refl}
use mathlib.Core.Bool.{So}
use mathlib.Core.List.{List}
use lib.Dec.{ltb}
use lib.ListN.{replicate}
use borrow.Author.Tests.{ltb-true}
use Rattle.settle.specs.Test.{both, all_of}
use Rattle.settle.proofs.Test.{all_e}
use Rattle.chart.specs.Layout.{Bytes}
use Rattle.starred.specs.Boards.{chart_e, chart_l}
use Rattle.idle.specs.Slice.{Slice}

pub are_bytes : (s : List ℕ) → So (all_of (λ x. ltb x 256) s) → Bytes s
are_bytes s t x m = ltb-true x 256 (all_e (λ y. ltb y 256) t m)

pub bytes_e : Bytes chart_e
unfolding chart_e all_of both
bytes_e = are_bytes chart_e refl

pub bytes_l : Bytes chart_l
unfolding chart_l all_of both
bytes_l = are_bytes chart_l refl

pub bytes_lent : Bytes (replicate 40 255)
unfolding all_of both
bytes_lent = are_bytes (replicate 40 255) refl

abbrev pub e : Slice
e = (chart_e, bytes_e)

abbrev pub l : Slice
l = (chart_l, bytes_l)

abbrev pub lent : Slice
lent = (replicate 40 255, bytes_lent)
