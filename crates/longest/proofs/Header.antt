-- The lengths that the header names. Assumes nothing.
use Rattle.chart.specs.Layout.{longest_chart, encode}
use Rattle.chart.specs.Reading.{shape_of}
use Rattle.chart.proofs.Accepted.{accepted, accepted_short as chart-short}
use Rattle.sheet.specs.Formula.{nodes}
use Rattle.sheet.specs.Layout as Sheet
use Rattle.sheet.proofs.Accepted.{accepted_short as sheet-short}
use Rattle.relation.proofs.Cells.{cells_few}
use Rattle.short_form.proofs.Room.{room_enough}
use Rattle.compare.specs.Comparison.{longest_comparison}
use Rattle.compare.proofs.Room.{comparison_room}
use Rattle.reason.specs.Line.{longest_list}
use Rattle.longest.specs.Header.{Header}
use Rattle.longest.specs.Longest.{full_chart, nested, loop_chart, rest_chart, row_chart}
use Rattle.longest.proofs.Bytes.{chart_bytes, sheet_bytes_lem}
use Rattle.longest.proofs.Longest.{full_formed, full_accepted, full_length, nested_formed, nested_accepted, nested_length}
use Rattle.longest.proofs.Comparison.{loop_formed, rest_formed, comparison_reached}
use Rattle.longest.proofs.Row.{row_formed}
use Rattle.longest.proofs.Reasons.{reasons_reached, reasons_room}

pub header_constants : Header 64 longest_chart Sheet.longest_sheet longest_comparison longest_list
header_constants = record {
  matrix_room = λ s sh e. cells_few sh.n (accepted s sh e).states_few;
  charts_short = chart-short;
  chart_reaches = (encode full_chart, chart_bytes full_chart full_formed, shape_of full_chart, full_accepted, full_length);
  sheets_short = sheet-short;
  sheet_reaches = λ m few. (Sheet.encode 0 (nested 199), sheet_bytes_lem m few 0 (nested 199) (nested_formed m), 0, nodes (nested 199), nested 199, nested_accepted m few, nested_length);
  room_enough = room_enough;
  comparison_room = comparison_room;
  comparison_reaches = (encode loop_chart, encode rest_chart, chart_bytes loop_chart loop_formed, chart_bytes rest_chart rest_formed, comparison_reached);
  reasons_room = reasons_room;
  reasons_reach = (encode row_chart, chart_bytes row_chart row_formed, reasons_reached);
}
