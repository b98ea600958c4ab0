-- `lines::write_pair` meets its contract. Assumes nothing.
use Rattle.lines.proofs.Chains.{room_first, room_second, wrote_both}
use Rattle.lines.proofs.Parts.{pair_parts}
use Rattle.lines.specs.Texts.{field_text}
use Rattle.model.specs.Listing.{line_feed, answer_text}
use mathlib.Core.List.{◌++◌}
use Rattle.lines.proofs.lines.write_pair.Goals as goal

pub write_field-first-requires : goal.write_field-first-requires
write_field-first-requires c = room_first _ (field_text c.args.t ++ (answer_text c.args.answer ++ line_feed))
    (rw pair_parts at c.requires)

pub write_field-second-requires : goal.write_field-second-requires
write_field-second-requires c = room_first _ (answer_text c.args.answer ++ line_feed) (room_second _ _ (rw pair_parts at c.requires) c.write_field-first.ensures)

pub write_answer-end-requires : goal.write_answer-end-requires
write_answer-end-requires c = room_first _ line_feed (room_second _ _ (room_second _ _ (rw pair_parts at
    c.requires)
    c.write_field-first.ensures) c.write_field-second.ensures)

pub write_byte-requires : goal.write_byte-requires
write_byte-requires c = room_second _ line_feed (room_second _ _ (room_second _ _ (rw pair_parts at
    c.requires)
    c.write_field-first.ensures)
    c.write_field-second.ensures) c.write_answer-end.ensures

pub returns : goal.returns
returns c =
    let a = c.args in
    let after = answer_text a.answer ++ line_feed in
    let one = rw pair_parts at c.requires in
    let two = room_second _ (field_text a.t ++ after) one c.write_field-first.ensures in
    let three = room_second _ after two c.write_field-second.ensures in
    rw pair_parts (wrote_both _ _ one c.write_field-first.ensures (wrote_both _ _ two c.write_field-second.ensures
    (wrote_both _ line_feed three c.write_answer-end.ensures c.write_byte.ensures)))
