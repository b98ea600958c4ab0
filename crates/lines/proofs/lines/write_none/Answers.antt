-- `lines::write_none` meets its contract. Assumes nothing.
use Rattle.lines.proofs.Chains.{room_first, room_second, wrote_both}
use Rattle.model.specs.Listing.{kind_text}
use Rattle.lines.specs.Texts.{none_text}
use Rattle.lines.proofs.lines.write_none.Goals as goal

pub write_text-end-requires : goal.write_text-end-requires
unfolding none_text
write_text-end-requires c = room_first _ (kind_text c.args.kind) c.requires

pub write_kind-requires : goal.write_kind-requires
unfolding none_text
write_kind-requires c = room_second _ _ c.requires c.write_text-end.ensures

pub returns : goal.returns
unfolding none_text
returns c = wrote_both _ _ c.requires
    c.write_text-end.ensures c.write_kind.ensures
