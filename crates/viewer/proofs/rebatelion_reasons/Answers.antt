use Rattle.calls.proofs.Packable.{reasons_packable}
use Rattle.viewer.proofs.rebatelion_reasons.Goals as goal

pub pack-requires : goal.pack-requires
pack-requires c = let p = reasons_packable _ _ _ _ c.in-Err.ensures in (p.place_few, p.byte_few)
