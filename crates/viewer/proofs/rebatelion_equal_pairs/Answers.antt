use Rattle.calls.proofs.Packable.{pairs_packable}
use Rattle.viewer.proofs.rebatelion_equal_pairs.Goals as goal

pub pack-requires : goal.pack-requires
pack-requires c = let p = pairs_packable _ _ c.in-Err.ensures in (p.place_few, p.byte_few)
