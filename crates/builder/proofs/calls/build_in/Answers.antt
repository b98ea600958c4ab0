-- `builder::calls::build_in` meets its contract. Assumes nothing.
use Prim.Native.Nat.{◌<◌}
use native.Mathlib.Omega.{arith}
use mathlib.Core.Path.{◌≡◌, ◌∙◌, ap}
use lib.ListN.{length}
use Rattle.theory.specs.Whole.{AreBytes}
use Rattle.model.specs.Oracle.{oracle}
use Rattle.builder.proofs.Outcomes.{given_short, given_built}
use Rattle.builder.proofs.Oracles.{transits_are, long, joined, size_is, size_small, oracle_written}
use Rattle.builder.proofs.Planning.{laid_some, behind_regions, pass_requires, sizes_requires, planned}
use Rattle.builder.specs.Plan.{whole_size, Planned}
use Rattle.builder.proofs.calls.build_in.Goals as goal
use Rattle.builder.proofs.calls.build_in.Goals.{After-access_size-a}

bytes : (c : After-access_size-a) →
    let a = c.args in
    AreBytes a.network.now
bytes c i = omega (
  arith,
  c.shared_slice_known-1.given
      i,
)

plan : (c : After-access_size-a) →
    let a = c.args in
    Planned a.ground.now.nodes.now a.ground.now.edges.now a.ground.now.grid a.ground.now.n
    c.count-t.result c.access_size-a.result c.prepare.new.work
plan c =
    let a = c.args in
    planned a.network.now a.dv a.ground.now.nodes.now a.ground.now.edges.now a.ground.now.grid a.ground.now.n c.requires.0 _
    (omega (arith, c.requires.1, c.prepare.auto.work)) c.prepare.ensures.members c.prepare.ensures.counted c.prepare.ensures.roads _ _
    c.count-t.ensures c.access_size-a.ensures

sized : (c : After-access_size-a) →
    let a = c.args in
    whole_size (length a.network.now) c.count-t.result c.access_size-a.result ≡ length (oracle a.network.now a.dv)
sized c =
    let a = c.args in
    size_is a.network.now a.dv a.ground.now.nodes.now a.ground.now.edges.now a.ground.now.grid a.ground.now.n c.requires.0 (bytes c) _ _ (plan c).transits
    (plan c).access

small : (c : After-access_size-a) →
    let a = c.args in
    whole_size (length a.network.now) c.count-t.result c.access_size-a.result < 4294967296
small c =
    let a = c.args in
    size_small a.network.now a.dv a.ground.now.nodes.now a.ground.now.edges.now a.ground.now.grid a.ground.now.n c.requires.0 (bytes c) _ _ (plan c).transits
    (plan c).access

pub prepare-requires : goal.prepare-requires
prepare-requires c =
    let a = c.args in
    let p = pass_requires a.network.now a.dv a.ground.now.nodes.now a.ground.now.edges.now a.ground.now.grid a.ground.now.n c.requires.0 a.work.now c.requires.1 in
    (p.3, p.4)

pub count-t-requires : goal.count-t-requires
count-t-requires c =
    let a = c.args in
    omega (
      arith,
      laid_some a.network.now a.dv a.ground.now.nodes.now a.ground.now.edges.now a.ground.now.grid a.ground.now.n c.requires.0,
      c.requires.1,
      c.prepare.auto.work,
    )

pub access_size-a-requires : goal.access_size-a-requires
access_size-a-requires c =
    let a = c.args in
    sizes_requires a.network.now a.dv a.ground.now.nodes.now a.ground.now.edges.now a.ground.now.grid a.ground.now.n c.requires.0 _
    (omega (arith, c.requires.1, c.prepare.auto.work)) c.prepare.ensures.members c.prepare.ensures.counted c.prepare.ensures.roads

pub whole_size-size-requires : goal.whole_size-size-requires
whole_size-size-requires c =
    let a = c.args in
    (long a.network.now a.dv a.ground.now.nodes.now a.ground.now.edges.now a.ground.now.grid a.ground.now.n c.requires.0, small c)

pub returns-then-out-size : goal.returns-then-out-size
returns-then-out-size c =
    let a = c.args in record { given = given_short a.network.now a.dv a.out.now (omega (arith, c.if-out-size.true, c.whole_size-size.ensures, sized (goal.at.returns-then-out-size c).After-access_size-a)); rest = c.prepare.ensures.behind }

pub write_oracle-requires : goal.write_oracle-requires
write_oracle-requires c =
    let a = c.args in record { planned = (plan (goal.at.write_oracle-requires c).After-access_size-a, joined a.network.now a.dv a.ground.now.nodes.now a.ground.now.edges.now a.ground.now.grid a.ground.now.n c.requires.0 (bytes (goal.at.write_oracle-requires c).After-access_size-a)); a_in_bounds = (omega (arith, c.if-out-size.false, c.whole_size-size.ensures), small (goal.at.write_oracle-requires c).After-access_size-a) }

pub overflow_cast-result : goal.overflow_cast-result
overflow_cast-result c = omega (
  arith,
  c.whole_size-size.ensures,
  small (goal.at.overflow_cast-result c).After-access_size-a,
)

pub overflow_cast-result-2 : goal.overflow_cast-result-2
unfolding whole_size
overflow_cast-result-2 c = omega (arith, small (goal.at.overflow_cast-result-2 c).After-access_size-a)

pub returns : goal.returns
returns c =
    let pre = c.requires in
    let a = c.args in
    let p = plan (goal.at.returns c).After-access_size-a in record {
      given = given_built a.network.now a.dv a.out.now _ _ _ (c.whole_size-size.ensures ∙ sized (goal.at.returns c).After-access_size-a)
          (p.transits ∙ ap length (transits_are a.network.now a.dv a.ground.now.nodes.now a.ground.now.edges.now a.ground.now.grid a.ground.now.n pre.0))
          (omega (arith, c.if-out-size.false, c.whole_size-size.ensures, sized (goal.at.returns c).After-access_size-a))
          (oracle_written a.network.now a.dv a.ground.now.nodes.now a.ground.now.edges.now a.ground.now.grid a.ground.now.n pre.0 (bytes (goal.at.returns c).After-access_size-a) _ _
          p.transits p.access c.write_oracle.ensures.bytes);
      rest = behind_regions a.network.now a.dv a.ground.now.nodes.now a.ground.now.edges.now
          a.ground.now.grid a.ground.now.n pre.0 _ _ c.write_oracle.ensures.others ∙
          c.prepare.ensures.behind;
    }
