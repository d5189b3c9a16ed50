use Rattle.calls.proofs.Packable.{both_packable}
use Rattle.viewer.proofs.rebatelion_both_solutions.Goals as goal

pub pack-requires : goal.pack-requires
pack-requires c = let p = both_packable _ _ _ c.in-Err.ensures in (p.place_few, p.byte_few)
