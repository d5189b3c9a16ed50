-- A kind is that of its byte, and a byte at most 2 that of its kind.
use Prim.Native.Nat.{ℕ, zero, suc, ◌≤◌}
use mathlib.Core.Path.{◌≡◌, refl}
use native.Mathlib.Omega.{arith}
use Rattle.sheet.specs.Kinds.{kind_number, kind_of}
use Rattle.sheet.specs.declared.Kind.{Kind}

pub kind_back : (byte : ℕ) → byte ≤ 2 → kind_number (kind_of byte) ≡ byte
kind_back zero h = refl
kind_back (suc zero) h = refl
kind_back (suc (suc zero)) h = refl
kind_back (suc (suc (suc k))) h = absurd (omega arith)

pub number_back : (kind : Kind) → kind_of (kind_number kind) ≡ kind
number_back Kind.Unsaid = refl
number_back Kind.Least = refl
number_back Kind.Greatest = refl
