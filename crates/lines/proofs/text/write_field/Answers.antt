-- `text::write_field` meets its contract. Assumes nothing.
use Rattle.lines.proofs.Chains.{room_first, room_second, wrote_both}
use Rattle.model.specs.Listing.{blank}
use Rattle.lines.specs.Texts.{field_text}
use Rattle.lines.proofs.text.write_field.Goals as goal

pub write_decimal-end-requires : goal.write_decimal-end-requires
unfolding field_text
write_decimal-end-requires c = room_first _ blank c.requires

pub write_byte-requires : goal.write_byte-requires
unfolding field_text
write_byte-requires c = room_second _ blank c.requires c.write_decimal-end.ensures

pub returns : goal.returns
unfolding field_text
returns c = wrote_both _ blank c.requires
    c.write_decimal-end.ensures c.write_byte.ensures
