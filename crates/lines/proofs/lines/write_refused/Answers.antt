-- `lines::write_refused` meets its contract. Assumes nothing.
use Rattle.lines.proofs.Chains.{holds, room_first, room_second, wrote_both}
use Rattle.lines.proofs.Parts.{refused_parts}
use Rattle.model.specs.Listing.{decimal, line_feed}
use mathlib.Core.List.{◌++◌}
use Rattle.lines.proofs.lines.write_refused.Goals as goal

pub write_text-refused-requires : goal.write_text-refused-requires
write_text-refused-requires c = room_first _ (decimal c.args.rule ++ line_feed) (rw refused_parts at c.requires)

pub write_decimal-end-requires : goal.write_decimal-end-requires
write_decimal-end-requires c = room_first _ line_feed (room_second _ (decimal c.args.rule ++ line_feed) (rw refused_parts at c.requires) c.write_text-refused.ensures)

pub write_byte-requires : goal.write_byte-requires
write_byte-requires c = room_second _ line_feed
    (room_second _ _ (rw refused_parts at c.requires)
    c.write_text-refused.ensures) c.write_decimal-end.ensures

pub returns : goal.returns
returns c =
    let one = rw refused_parts at (c.requires) in
    let two = room_second _ (decimal c.args.rule ++ line_feed) one c.write_text-refused.ensures in
    holds _ (c.requires) (rw refused_parts (wrote_both _ _ one c.write_text-refused.ensures
    (wrote_both _ _ two c.write_decimal-end.ensures c.write_byte.ensures)))
