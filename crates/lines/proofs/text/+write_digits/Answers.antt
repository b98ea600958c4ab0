-- `text::write_digits` meets its contract. Assumes nothing.
use Rattle.lines.proofs.Chains.{wrote_none, room_first, room_second, wrote_both}
use Rattle.lines.proofs.Digits.{digits_none, digits_one, digits_more}
use native.Mathlib.Omega.{arith}
use Rattle.lines.proofs.text.+write_digits.Goals as goal

pub returns-then-places-eq0 : goal.returns-then-places-eq0
returns-then-places-eq0 t c = rw (digits_none _ _ c.if-places-eq0.true) (wrote_none _ _)

pub write_byte-requires : goal.write_byte-requires
write_byte-requires t c = rw (digits_one _ _ c.if-places-eq0.false c.if-n-lt10.true) at c.requires

pub returns-then-n-lt10 : goal.returns-then-n-lt10
returns-then-n-lt10 t c = rw (digits_one _ _ c.if-places-eq0.false c.if-n-lt10.true) c.write_byte.ensures

pub write_digits-end-requires : goal.write_digits-end-requires
write_digits-end-requires t c = (
  omega (arith, c.if-places-eq0.false),
  room_first _ _ (rw (digits_more _ _ c.if-places-eq0.false c.if-n-lt10.false) at c.requires),
)

pub write_byte-requires-2 : goal.write_byte-requires-2
write_byte-requires-2 t c =
    room_second _ _ (rw (digits_more _ _ c.if-places-eq0.false c.if-n-lt10.false) at c.requires) c.write_digits-end.ensures

pub returns : goal.returns
returns t c =
    let more = digits_more c.args.places c.args.n c.if-places-eq0.false c.if-n-lt10.false in
    rw more (wrote_both _ _ (rw more at c.requires) c.write_digits-end.ensures c.write_byte-2.ensures)
