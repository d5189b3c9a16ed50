-- A sheet's bytes with another kind, which stands in byte 1.
use Rattle.std.specs.Prelude.{ℕ, List, set}

abbrev pub with_kind : ℕ → List ℕ → List ℕ
with_kind kind s = set s 1 kind
