-- `lines::write_time` meets its contract. Assumes nothing.
use Rattle.lines.proofs.Chains.{room_first, room_second, wrote_both}
use Rattle.model.specs.Listing.{kind_text}
use Rattle.lines.specs.Texts.{time_text}
use Rattle.lines.proofs.lines.write_time.Goals as goal

pub write_field-end-requires : goal.write_field-end-requires
unfolding time_text
write_field-end-requires c = room_first _ (kind_text c.args.kind) c.requires

pub write_kind-requires : goal.write_kind-requires
unfolding time_text
write_kind-requires c = room_second _ _ c.requires c.write_field-end.ensures

pub returns : goal.returns
unfolding time_text
returns c = wrote_both _ _ c.requires
    c.write_field-end.ensures c.write_kind.ensures
