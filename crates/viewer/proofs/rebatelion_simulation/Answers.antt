use Rattle.calls.proofs.Packable.{matrix_packable}
use Rattle.viewer.proofs.rebatelion_simulation.Goals as goal

pub pack-requires : goal.pack-requires
pack-requires c = let p = matrix_packable _ _ _ _ c.in-Err.ensures in (p.place_few, p.byte_few)
