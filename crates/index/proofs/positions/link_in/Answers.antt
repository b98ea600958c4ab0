-- `positions::link_in` meets its contract: the number of 16 bits where it stands.
use native.Mathlib.Omega.{arith}
use mathlib.Core.Path.{◌≡◌, sym, ◌∙◌}
use Rattle.words.specs.Regions.{index_at}
use Rattle.index.proofs.Places.{of_two_links, link_fits, link_there}
use Rattle.index.proofs.positions.link_in.Goals as goal

pub overflow_add-at : goal.overflow_add-at
overflow_add-at c =
    let a = c.args in
    omega (arith, link_fits a.n a.work.now c.requires.2 a.p c.requires.3, of_two_links a.n a.work.now c.requires.2 a.p c.requires.3)

pub half_of-requires : goal.half_of-requires
half_of-requires c =
    let a = c.args in
    let two = of_two_links a.n a.work.now c.requires.2 a.p c.requires.3 in
    let e : a.at ≡ index_at a.n = c.requires.0 ∙ omega (arith, two) in
    rw e (link_fits a.n a.work.now c.requires.2 a.p c.requires.3)

pub returns : goal.returns
returns c =
    let a = c.args in
    let two = of_two_links a.n a.work.now c.requires.2 a.p c.requires.3 in
    let e : a.at ≡ index_at a.n = c.requires.0 ∙ omega (arith, two) in
    (rw e at c.half_of.ensures.0 ∙ sym (link_there a.n a.work.now c.requires.2 a.p c.requires.3), c.half_of.ensures.1)
