-- What a call is given: any bytes.
use Rattle.std.specs.Prelude.{ℕ, List}
use Rattle.chart.specs.Layout.{Bytes}

abbrev pub Slice : Type 0
Slice = (s : List ℕ) × Bytes s
