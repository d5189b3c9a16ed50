-- Swapping the two charts keeps the mark and the rounds and swaps the two lists. Assumes nothing.
use Prim.Native.Nat.{ℕ, ◌+◌}
use mathlib.Core.Path.{◌≡◌, sym, subst₂, ◌∙◌}
use mathlib.Core.List.{List}
use native.Mathlib.Omega.{arith}
use lib.ListN.{take}
use Rattle.chart.specs.Chart.{Chart, states}
use Rattle.chart.specs.Layout.{Bytes, WellFormed}
use Rattle.beside.specs.Reading.{two}
use Rattle.beside.proofs.Partner.{partners_swapped}
use Rattle.beside.proofs.Swapped.{mark_swapped, rounds_swapped}
use Rattle.beside.proofs.Reading.{two_read, read_two_lem, both_swapped, first_formed, second_formed}
use Rattle.compare.specs.Comparison.{listed, Alone, Comparison}
use Rattle.compare.specs.Promise.{ComparePromise}
use Rattle.compare.specs.declared.Comparison as Struct
use Rattle.compare.proofs.Compared.{comparison_by}
use Rattle.compare.proofs.Determined.{comparison_determined}
use Rattle.compare.proofs.Told.{told}
use Rattle.std.specs.Prelude.{Ok}

alone_by : {n : ℕ} {M N : ℕ → Type 0} {list : List ℕ} → ((p : ℕ) → M p → N p) → ((p : ℕ) → N p → M p) → Alone n M list → Alone n N list
alone_by f g a = record { rising = a.rising; exactly = λ p. (λ m. let x = (a.exactly p).0 m in (x.0, λ y. x.1 (g p y)), λ x. (a.exactly p).1 (x.0, λ y. x.1 (f p y))) }

pub swapped_compared : (c d : Chart) → WellFormed c → WellFormed d → {mark rounds : ℕ} {first second : List ℕ} → Comparison c d mark first second rounds → Comparison d c mark second first rounds
swapped_compared c d formed_first formed_second {mark} {rounds} w =
    let e : states c + 0 ≡ states c = omega arith in
    let f : states d + 0 ≡ states d = omega arith in
    let m = rw (e, f) at (mark_swapped c d formed_first formed_second 0 0 formed_first.states_some formed_second.states_some mark) in
    comparison_by d c formed_second formed_first (m.0 w.mark_is) ((rounds_swapped c d formed_first formed_second rounds).0 w.rounds_are)
    (alone_by (λ p x. (x.0, partners_swapped c d x.0 p x.1)) (λ p x. (x.0, partners_swapped d c p x.0 x.1)) w.second_alone)
    (alone_by (λ p x. (x.0, partners_swapped c d p x.0 x.1)) (λ p x. (x.0, partners_swapped d c x.0 p x.1)) w.first_alone)

-- two comparisons, each with its buffer
pub record Exchanged (given given' : Struct.Comparison) (new new' : List ℕ) : Type 0 where
  pub mark : ℕ
  pub first : List ℕ
  pub second : List ℕ
  pub lists : take given.written new ≡ listed mark first second
  pub lists_swapped : take given'.written new' ≡ listed mark second first
  pub rounds_same : given.rounds ≡ given'.rounds

pub compare_swapped : (first second : List ℕ) → Bytes first → Bytes second → (old new old' new' : List ℕ) (given given' : Struct.Comparison)
    → ComparePromise first second old new (Ok given) → ComparePromise second first old' new' (Ok given') → Exchanged given given' new new'
compare_swapped first second first_bytes second_bytes old new old' new' given given' p q =
    let t = told first second old new given p in
    let u = told second first old' new' given' q in
    let both = two_read first second t.c t.d t.read in
    let same : two t.d t.c ≡ two u.c u.d = sym (read_two_lem second first t.d t.c (both_swapped both)) ∙ u.read in
    let c : t.d ≡ u.c = cc in
    let d : t.c ≡ u.d = cc in
    let w = swapped_compared t.c t.d (first_formed both first_bytes second_bytes) (second_formed both first_bytes second_bytes) t.comparison in
    let e = comparison_determined u.c u.d (subst₂ (λ (x y : Chart). Comparison x y t.mark t.of_second t.of_first given.rounds) c d w) u.comparison in
    record { mark = t.mark; first = t.of_first; second = t.of_second; lists = t.start_is; lists_swapped = rw (e.0, e.1, e.2) u.start_is; rounds_same = e.3 }
