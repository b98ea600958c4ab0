-- `bodies::listing::put_access` meets its contract. Assumes nothing.
use Rattle.bodies.proofs.CellLists.{listed_first}
use Rattle.bodies.proofs.Starting.{counted_all, starts_fit, begun_first}
use Rattle.bodies.proofs.listing.put_access.Goals as goal

pub put_starts-requires : goal.put_starts-requires
put_starts-requires c =
    let a = c.args in (
      c.requires.based.0.words,
      starts_fit a.ground.now.nodes.now a.ground.now.edges.now a.ground.now.grid a.ground.now.n a.work.now c.requires.based.0 c.requires.based.1 a.body.now c.requires.body_len.0,
      counted_all a.ground.now.nodes.now a.ground.now.edges.now a.ground.now.grid a.ground.now.n a.work.now c.requires.based.0 c.requires.based.1,
      c.requires.based.0.some,
    )

pub put_lists-requires : goal.put_lists-requires
put_lists-requires c =
    let a = c.args in (
      c.requires.based.0,
      listed_first a.ground.now.nodes.now a.ground.now.edges.now a.ground.now.grid a.ground.now.n _
          (begun_first a.ground.now.nodes.now a.ground.now.edges.now a.ground.now.grid a.ground.now.n a.work.now c.requires.based.0 c.requires.based.1 a.body.now c.requires.body_len.0 _
          c.put_starts.ensures c.requires.body_len.1),
    )
