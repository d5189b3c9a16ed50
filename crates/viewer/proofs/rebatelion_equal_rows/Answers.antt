use Rattle.calls.proofs.Packable.{rows_packable}
use Rattle.viewer.proofs.rebatelion_equal_rows.Goals as goal

pub pack-requires : goal.pack-requires
pack-requires c = let p = rows_packable _ _ _ _ c.in-Err.ensures in (p.place_few, p.byte_few)
