use Rattle.calls.proofs.Packable.{short_form_packable}
use Rattle.viewer.proofs.rebatelion_short_form.Goals as goal

pub pack-requires : goal.pack-requires
pack-requires c = let p = short_form_packable _ _ _ _ _ _ c.in-Err.ensures in (p.place_few, p.byte_few)
