-- The code of a packed refusal is not 0, and its four parts can be read back. Assumes nothing.
use Prim.Native.Nat.{◌≤◌}
use mathlib.Core.Path.{◌≡◌}
use native.Mathlib.Omega.{arith}
use Rattle.refusal.specs.Refusal.{input_number}
use Rattle.refusal.specs.declared.Input.{Input}
use Rattle.refusal.specs.declared.Refusal.{Refusal}
use Rattle.calls.specs.Packing.{packed, Parts}

-- a number of documents 01 and 02, a place not past the longest chart or the longest list's lines, and a byte of a triple
pub record Packable (r : Refusal) : Type 0 where
  pub number_some : 1 ≤ r.number
  pub number_few : r.number ≤ 21
  pub place_few : r.place ≤ 4032
  pub byte_few : r.byte ≤ 2

input_few : (i : Input) → input_number i ≤ 3
input_few Input.Chart = omega arith
input_few Input.Sheet = omega arith
input_few Input.BufferOrName = omega arith
input_few Input.SecondChart = omega arith

module _ (r : Refusal) (fits : Packable r) where
  pub packed_some : packed r ≡ 0 → ⊥
  packed_some e = omega (arith, fits.number_some)

  pub packing : Parts (packed r) r
  packing =
      let i = input_few r.input in
      let n = fits.number_few in
      let p = fits.place_few in
      let b = fits.byte_few in
      record { number_is = omega arith; input_is = omega arith; place_is = omega arith; byte_is = omega arith }
