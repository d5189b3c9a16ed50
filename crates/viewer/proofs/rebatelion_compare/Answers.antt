use Rattle.calls.proofs.Packable.{compare_packable}
use Rattle.viewer.proofs.rebatelion_compare.Goals as goal

pub pack-requires : goal.pack-requires
pack-requires c = let p = compare_packable _ _ _ _ _ c.in-Err.ensures in (p.place_few, p.byte_few)
