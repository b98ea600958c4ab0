-- `after::way_after` meets its contract: the measure is the time left, which falls at each step.
use native.Mathlib.Omega.{arith}
use mathlib.Core.Path.{refl, ap}
use lib.ListN.{length}
use Rattle.way.proofs.Splices.{splice_none, splice_on}
use Rattle.arcs.proofs.Walked.{walked}
use Rattle.way.proofs.Steps.{stops, goes}
use Rattle.way.proofs.after.+way_after.Goals as goal

pub returns-in-None : goal.returns-in-None
returns-in-None t c =
    let p = c.requires in
    let e = stops _ _ _ _ (walked c.args.roads.now) _ _ p.u_value c.in-None.ensures in
    record { end = omega (arith, ap length e); bytes = splice_none _ _ _ e }

pub overflow_cast-v : goal.overflow_cast-v
overflow_cast-v t c =
    let p = c.requires in
    omega (
      arith,
      (goes _ _ _ _ (walked c.args.roads.now) _ _ p.u_value _ c.in-Some.ensures _ refl).inside,
      c.args.roads.now.few,
    )

pub write16-requires : goal.write16-requires
write16-requires t c =
    let p = c.requires in
    omega (
      arith,
      ap length (goes _ _ _ _ (walked c.args.roads.now) _ _ p.u_value _ c.in-Some.ensures _ refl).on,
      p.fits,
    )

pub time_of-rest-requires : goal.time_of-rest-requires
time_of-rest-requires t c =
    let p = c.requires in (
      omega (arith, c.args.roads.now.enough),
      (goes _ _ _ _ (walked c.args.roads.now) _ _ p.u_value _ c.in-Some.ensures _ refl).inside,
    )

pub way_after-requires : goal.way_after-requires
way_after-requires t c =
    let p = c.requires in
    let s = goes _ _ _ _ (walked c.args.roads.now) _ _ p.u_value _ c.in-Some.ensures _ c.time_of-rest.ensures.1 in
    (omega (arith, s.less), (s.time, omega (arith, ap length s.on, p.fits)))

pub returns-in-Some : goal.returns-in-Some
returns-in-Some t c =
    let p = c.requires in
    let s = goes _ _ _ _ (walked c.args.roads.now) _ _ p.u_value _ c.in-Some.ensures _ c.time_of-rest.ensures.1 in
    let r = c.way_after in
    record {
      end = omega (arith, ap length s.on, r.ensures.end);
      bytes = rw s.on (splice_on _ _ _ _ _ _ (omega (arith, ap length s.on, p.fits)) c.write16.ensures r.ensures.bytes);
    }
