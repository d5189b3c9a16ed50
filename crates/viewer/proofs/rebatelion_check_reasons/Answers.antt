use Rattle.calls.proofs.Packable.{check_packable}
use Rattle.viewer.proofs.rebatelion_check_reasons.Goals as goal

pub pack-requires : goal.pack-requires
pack-requires c = let p = check_packable _ _ _ c.in-Err.ensures in (p.place_few, p.byte_few)
