-- A refusal as one number for C: number | input << 8 | place << 16 | byte << 48. Its parts can be read back: `packing` of proofs/Packing.antt.
use Rattle.std.specs.Prelude.{ℕ, ◌+◌, ◌*◌, ◌/◌, ◌%◌, ◌≡◌}
use Rattle.refusal.specs.Refusal.{input_number}
use Rattle.refusal.specs.declared.Refusal.{Refusal}

abbrev pub packed : Refusal → ℕ
packed r = r.number + 256 * input_number r.input + 65536 * r.place + 281474976710656 * r.byte

-- the parts of the code, as the header's macros take them: & 0xff; >> 8 & 0xff; >> 16 & 0xffffffff; >> 48 & 0xff
pub record Parts (code : ℕ) (r : Refusal) : Type 0 where
  pub number_is : code % 256 ≡ r.number
  pub input_is : code / 256 % 256 ≡ input_number r.input
  pub place_is : code / 65536 % 4294967296 ≡ r.place
  pub byte_is : code / 281474976710656 % 256 ≡ r.byte
