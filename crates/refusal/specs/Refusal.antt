-- The numbers of documents 01 and 02 for a refusal: input 0 chart, 1 sheet, 2 buffer or name, also of two charts
-- taken together, 3 second chart; the number, the place and the byte as they stand.
use Rattle.std.specs.Prelude.{ℕ}
use Rattle.refusal.specs.declared.Input.{Input}
use Rattle.refusal.specs.declared.Refusal.{Refusal}

abbrev pub input_number : Input → ℕ
input_number Input.Chart = 0
input_number Input.Sheet = 1
input_number Input.BufferOrName = 2
input_number Input.SecondChart = 3

-- the refusals, by input, number and place; the byte is that within a triple, which only a chart has
abbrev pub chart_refusal : ℕ → ℕ → ℕ → Refusal
chart_refusal number place byte = record { input = Input.Chart; number = number; place = place; byte = byte }

abbrev pub sheet_refusal : ℕ → ℕ → Refusal
sheet_refusal number place = record { input = Input.Sheet; number = number; place = place; byte = 0 }

-- of the buffer or the name, or of two charts taken together: place 0
abbrev pub lent_refusal : ℕ → Refusal
lent_refusal number = record { input = Input.BufferOrName; number = number; place = 0; byte = 0 }

-- of the second chart of two: the refusal that its bytes have as a chart, with that input
abbrev pub of_second : Refusal → Refusal
of_second r = record { input = Input.SecondChart; number = r.number; place = r.place; byte = r.byte }
