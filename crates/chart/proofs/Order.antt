-- The order of triples is that of their bytes: the first that is not equal decides.
use Prim.Native.Nat.{ℕ, ◌<◌}
use mathlib.Core.Path.{◌≡◌, refl, sym}
use mathlib.Core.Bool.{Bool, true, false}
use native.Mathlib.Omega.{arith}
use lib.Dec.{ltb}
use borrow.Author.Tests.{ltb-true, ltb-false}
use Rattle.std.specs.Prelude.{Some}
use Rattle.std.specs.Ordering.{nat_cmp, is_lt, is_some_and, partial_ordering_then, MatchOrdering}
use Rattle.std.specs.Cmp.{nat_cmp_is}
use Rattle.std.specs.declared.cmp.Ordering.{Ordering}
use Rattle.std.specs.declared.cmp.Ordering.TheVariants.{Less, Equal, Greater}
use Rattle.settle.specs.Test.{pick}
use Rattle.chart.specs.Reading.{earlier}

abbrev by_tests : Bool → Bool → Ordering
by_tests less greater = pick less Less (pick greater Greater Equal)

compared : (x y : ℕ) → nat_cmp x y ≡ by_tests (ltb x y) (ltb y x)
compared x y = sym (nat_cmp_is x y (by_tests (ltb x y) (ltb y x)) (go (ltb x y) refl (ltb y x) refl))
  where
    go : (a : Bool) → ltb x y ≡ a → (b : Bool) → ltb y x ≡ b → MatchOrdering (by_tests a b) (x < y) (x ≡ y) (y < x)
    go true e b f = ltb-true x y e
    go false e true f = ltb-true y x f
    go false e false f = omega (arith, ltb-false x y e, ltb-false y x f)

pub bytes_order : (a b c d e f : ℕ)
    → is_some_and is_lt (partial_ordering_then (Some (nat_cmp a d)) (partial_ordering_then (Some (nat_cmp b e)) (Some (nat_cmp c f))))
    ≡ earlier (record { source = a; action = b; target = c }) (record { source = d; action = e; target = f })
bytes_order a b c d e f =
    rw (compared a d, compared b e, compared c f) (by_bytes (ltb a d) _ (ltb b e) _ (ltb c f) _)
  where
    by_bytes : (a b c d e f : Bool)
        → is_some_and is_lt (partial_ordering_then (Some (by_tests a b)) (partial_ordering_then (Some (by_tests c d)) (Some (by_tests e f))))
        ≡ pick a true (pick b false (pick c true (pick d false e)))
    by_bytes true b c d e f = refl
    by_bytes false true c d e f = refl
    by_bytes false false true d e f = refl
    by_bytes false false false true e f = refl
    by_bytes false false false false true f = refl
    by_bytes false false false false false true = refl
    by_bytes false false false false false false = refl
