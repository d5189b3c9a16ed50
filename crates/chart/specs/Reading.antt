-- Reading a chart in document 01's order: each byte judged as read, a triple's order after its third byte. The number, the place and the byte of
-- every refusal stand here; that a chart is accepted exactly if it follows the layout is the law `accepted_exactly` of proofs/Exactly.antt.
use Rattle.std.specs.Prelude.{ℕ, zero, suc, ◌+◌, ◌-◌, ◌*◌, ◌≡◌, Bool, true, false, List, [], ◌∷◌, ◌↔◌, length, get_or, ltb, leb, eqb}
use Rattle.settle.specs.Test.{pick}
use Rattle.refusal.specs.Refusal.{chart_refusal}
use Rattle.chart.specs.Chart.{Step, Chart, states, actions, transitions}
use Rattle.chart.specs.Layout.{encode, WellFormed}
use Rattle.chart.specs.declared.Shape.{Shape}
use Rattle.std.specs.Prelude.{Result, Ok, Err}
use Rattle.refusal.specs.declared.Refusal.{Refusal}

-- ---- what stands in the bytes

-- the k bytes from p on
unfoldable pub bytes_at : List ℕ → ℕ → ℕ → List ℕ
bytes_at s p zero = []
bytes_at s p (suc k) = get_or s p 0 ∷ bytes_at s (p + 1) k

abbrev pub step_at : List ℕ → ℕ → Step
step_at s p = record { source = get_or s p 0; action = get_or s (p + 1) 0; target = get_or s (p + 2) 0 }

-- the k triples from p on
unfoldable pub steps_at : List ℕ → ℕ → ℕ → List Step
steps_at s p zero = []
steps_at s p (suc k) = step_at s p ∷ steps_at s (p + 3) k

-- the chart in the bytes, where its counts are those of the shape
abbrev pub chart_in : List ℕ → Shape → Chart
chart_in s sh = record { modes = bytes_at s 1 sh.n; codes = bytes_at s (2 + sh.n) sh.m; steps = steps_at s (4 + sh.n + sh.m) sh.t }

-- ---- judging it

-- what judging a part finds: nothing at fault, or the refusal
abbrev pub Judged : Type 0
Judged = Result (Unit {0}) Refusal

abbrev pub faultless : Judged
faultless = Ok tt

-- what follows, where the part before is not at fault; else its refusal
abbrev pub and_then : {X : Type 0} → Judged → Result X Refusal → Result X Refusal
and_then (Ok _) next = next
and_then (Err r) next = Err r

-- 1: a needed byte is absent; place: the length
abbrev pub presence : List ℕ → ℕ → Judged
presence s p = pick (leb (length s) p) (Err (chart_refusal 1 (length s) 0)) faultless

-- 4: action code number i, at p, is not greater than the one before
abbrev pub code_order : List ℕ → ℕ → ℕ → Judged
code_order s p i = pick (eqb i 0) faultless (pick (ltb (get_or s (p - 1) 0) (get_or s p 0)) faultless (Err (chart_refusal 4 p 0)))

-- the codes from number i on, which stands at p, of which there are `left`
unfoldable pub judge_codes : List ℕ → ℕ → ℕ → ℕ → Judged
judge_codes s p i zero = faultless
judge_codes s p i (suc left) = and_then (presence s p) (and_then (code_order s p i) (judge_codes s (p + 1) (i + 1) left))

-- 6: a state or action byte of triple number i, which stands at p, is out of range; place: i, and then which of its three bytes it is
abbrev pub judge_byte : List ℕ → ℕ → ℕ → ℕ → ℕ → Judged
judge_byte s p bound i byte = and_then (presence s p) (pick (ltb (get_or s p 0) bound) faultless (Err (chart_refusal 6 i byte)))

-- source, then action, then target
abbrev pub earlier : Step → Step → Bool
earlier s u =
    pick (ltb s.source u.source) true
    (pick (ltb u.source s.source) false
    (pick (ltb s.action u.action) true
    (pick (ltb u.action s.action) false
    (ltb s.target u.target))))

-- 7: triple number i, at p, is not greater than the one before; place: i
abbrev pub triple_order : List ℕ → ℕ → ℕ → Judged
triple_order s p i = pick (eqb i 0) faultless (pick (earlier (step_at s (p - 3)) (step_at s p)) faultless (Err (chart_refusal 7 i 0)))

abbrev pub judge_triple : List ℕ → ℕ → ℕ → ℕ → ℕ → Judged
judge_triple s n m p i =
    and_then (judge_byte s p n i 0) (and_then (judge_byte s (p + 1) m i 1) (and_then (judge_byte s (p + 2) n i 2) (triple_order s p i)))

-- the triples from number i on, which stands at p, of which there are `left`
unfoldable pub judge_triples : List ℕ → ℕ → ℕ → ℕ → ℕ → ℕ → Judged
judge_triples s n m p i zero = faultless
judge_triples s n m p i (suc left) = and_then (judge_triple s n m p i) (judge_triples s n m (p + 3) (i + 1) left)

-- ---- section by section

-- the transitions, whose count stands at p (5: it is above 1,024; place: its first byte), and nothing after (8)
unfoldable pub read_transitions : List ℕ → ℕ → ℕ → ℕ → Result Shape Refusal
read_transitions s n m p =
    and_then (presence s p) (
    and_then (presence s (p + 1)) (
    let t = get_or s p 0 + 256 * get_or s (p + 1) 0 in
    pick (ltb 1024 t) (Err (chart_refusal 5 p 0)) (
    and_then (judge_triples s n m (p + 2) 0 t) (
    pick (ltb (p + 2 + 3 * t) (length s)) (Err (chart_refusal 8 (p + 2 + 3 * t) 0)) (
    Ok (record { n = n; m = m; t = t }))))))

-- the actions, whose count stands at p (3: it is above 32), and what follows
unfoldable pub read_actions : List ℕ → ℕ → ℕ → Result Shape Refusal
read_actions s n p =
    and_then (presence s p) (
    let m = get_or s p 0 in
    pick (ltb 32 m) (Err (chart_refusal 3 p 0)) (
    and_then (judge_codes s (p + 1) 0 m) (
    read_transitions s n m (p + 1 + m))))

-- the states, whose count stands first (2: it is 0 or above 64), and what follows
unfoldable pub read_chart : List ℕ → Result Shape Refusal
read_chart s =
    and_then (presence s 0) (
    let n = get_or s 0 0 in
    pick (ltb n 1) (Err (chart_refusal 2 0 0)) (
    pick (ltb 64 n) (Err (chart_refusal 2 0 0)) (
    and_then (presence s n) (
    read_actions s n (1 + n)))))

-- ---- what accepted means

-- the counts of a chart
abbrev pub shape_of : Chart → Shape
shape_of c = record { n = states c; m = actions c; t = transitions c }

-- the reader accepts these bytes, and the chart in them is c
abbrev pub Reads : List ℕ → Chart → Type 0
Reads s c = (read_chart s ≡ Ok (shape_of c)) × (chart_in s (shape_of c) ≡ c)

-- an answer accepts these bytes, as the chart c, exactly if they are c's layout and c is well formed
abbrev pub AcceptedExactly : List ℕ → Result Shape Refusal → Type 0
AcceptedExactly s answer = (c : Chart) → ((answer ≡ Ok (shape_of c)) × (chart_in s (shape_of c) ≡ c)) ↔ ((s ≡ encode c) × WellFormed c)
