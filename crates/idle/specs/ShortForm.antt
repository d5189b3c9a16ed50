-- What the short form is given beside the buffer: a chart, a sheet and a name, which is any 64-bit number.
use Rattle.std.specs.Prelude.{ℕ, ◌<◌, ◌^◌, List}
use Rattle.short_form.specs.Promise.{ShortFormPromise}
use Rattle.idle.specs.Slice.{Slice}
use Rattle.std.specs.Prelude.{Result}
use Rattle.refusal.specs.declared.Refusal.{Refusal}

pub record Asked : Type 0 where
  pub chart : Slice
  pub sheet : Slice
  pub name : ℕ
  pub name_word : name < 2 ^ 64

abbrev pub Promise : Asked → List ℕ → List ℕ → Result ℕ Refusal → Type 0
Promise i = ShortFormPromise i.chart.0 i.sheet.0 i.name
