use Rattle.calls.proofs.Packable.{property_packable}
use Rattle.viewer.proofs.rebatelion_property.Goals as goal

pub pack-requires : goal.pack-requires
pack-requires c = let p = property_packable _ _ _ c.in-Err.ensures in (p.place_few, p.byte_few)
