-- `own::own_wanted` meets its contract: region WANT is the set of region OWN, which stays.
use native.Mathlib.Omega.{arith}
use mathlib.Core.Path.{◌∙◌}
use Rattle.words.specs.Regions.{own}
use Rattle.passes.proofs.Listing.{access_alone}
use Rattle.passes.proofs.Seeking.{sought_made}
use Rattle.passes.proofs.own.own_wanted.Goals as goal

pub own_access-requires : goal.own_access-requires
own_access-requires c =
    record { on_ground = c.requires.on_ground; indexed_edges = c.requires.indexed_edges }

pub returns : goal.returns
returns c =
    let a = c.args in
    let two = access_alone a.ground.now.nodes.now a.ground.now.edges.now a.ground.now.grid a.ground.now.n c.args.ground.now.keeps.1 c.args.ground.now.keeps.0 a.u own _ c.own_access.ensures.members in
    let r = sought_made a.ground.now.n (omega (arith, c.requires.on_ground.0)) _ _ _ two c.clear.ensures.members c.clear.ensures.others c.unite.ensures.members
    c.unite.ensures.others _ c.count.ensures in
    record { members = r.0 ∙ c.own_access.ensures.members; sought = r.1; others = r.2 ∙ c.own_access.ensures.others }
