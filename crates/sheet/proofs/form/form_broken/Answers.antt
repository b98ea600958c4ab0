-- `form::form_broken` meets its contract: test by test.
use native.Mathlib.Omega.{arith}
use mathlib.Core.Path.{sym, ◌∙◌}
use Rattle.sheet.proofs.Forms.{has_contents, by_contents, by_kind, by_offset, by_size, by_part}
use Rattle.sheet.proofs.form.form_broken.Goals as goal

pub returns-then-contents_broken : goal.returns-then-contents_broken
returns-then-contents_broken c = by_contents c.args.sheet.now (sym c.contents_broken.ensures ∙ c.if-contents_broken.true)

pub byte-requires : goal.byte-requires
byte-requires c = omega (arith, has_contents c.args.sheet.now (sym c.contents_broken.ensures ∙ c.if-contents_broken.false))

pub returns-then-byte-ne-KIND : goal.returns-then-byte-ne-KIND
returns-then-byte-ne-KIND c = by_kind c.args.sheet.now _ c.byte.ensures.0 c.if-byte-ne-KIND.true

pub read32-requires : goal.read32-requires
read32-requires c =
    let a = c.args in
    omega (arith, has_contents a.sheet.now (sym c.contents_broken.ensures ∙ c.if-contents_broken.false))

pub returns-then-read32-ne-HEAD : goal.returns-then-read32-ne-HEAD
returns-then-read32-ne-HEAD c = by_offset c.args.sheet.now _ c.read32.ensures c.if-read32-ne-HEAD.true

pub read32-size-requires : goal.read32-size-requires
read32-size-requires c =
    let a = c.args in
    omega (arith, has_contents a.sheet.now (sym c.contents_broken.ensures ∙ c.if-contents_broken.false))

pub returns-then-size-sheet : goal.returns-then-size-sheet
returns-then-size-sheet c =
    let a = c.args in
    by_size a.sheet.now _ c.read32-size.ensures c.if-size-sheet.true

pub returns : goal.returns
returns c =
    let a = c.args in
    by_part a.sheet.now _ _ c.read32.ensures c.if-read32-ne-HEAD.false c.read32-size.ensures c.if-size-sheet.false _ (sym
    c.contents_broken.ensures ∙ c.if-contents_broken.false) c.byte.ensures.0 c.if-byte-ne-KIND.false
