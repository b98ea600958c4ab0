use Rattle.model.specs.Contents.{oracle_edition, oracle_entries}
use Rattle.reader.proofs.Kept.{kept}
use Rattle.theory.specs.Sound.{node_bytes}
use Rattle.theory.specs.Firsts.{first_append}
use Rattle.theory.specs.Passed.{plain_counted}
use Rattle.theory.specs.Joined.{whole_contents}
use Rattle.model.specs.Rules.{shape_rules}
use Rattle.model.specs.Network.{node_count}
use Rattle.model.specs.Bytes.{Bytes}
use lib.ListN.{length}
use mathlib.Core.Path.{sym, ◌∙◌, ap}
use native.Mathlib.Omega.{arith}
use Rattle.reader.proofs.files.oracle_refusal.Goals as goal

pub read-c-requires : goal.read-c-requires
read-c-requires c =
    let o = c.args.o.now in
    (omega arith, whole_contents oracle_edition oracle_entries o (kept o c.requires).contents)

pub body-requires : goal.body-requires
body-requires c = record {
  entries = oracle_entries;
  few = omega arith;
  below = omega arith;
  read = c.read-c.ensures;
  joined = (kept c.args.o.now
      c.requires).bodies;
}

pub body-requires-2 : goal.body-requires-2
body-requires-2 c = record {
  entries = oracle_entries;
  few = omega arith;
  below = omega arith;
  read = c.read-c.ensures;
  joined = (kept c.args.o.now
      c.requires).bodies;
}

pub body-requires-3 : goal.body-requires-3
body-requires-3 c = record {
  entries = oracle_entries;
  few = omega arith;
  below = omega arith;
  read = c.read-c.ensures;
  joined = (kept c.args.o.now c.requires).bodies;
}

pub body-requires-4 : goal.body-requires-4
body-requires-4 c = record {
  entries = oracle_entries;
  few = omega arith;
  below = omega arith;
  read = c.read-c.ensures;
  joined = (kept c.args.o.now c.requires
      ).bodies;
}

pub body-requires-5 : goal.body-requires-5
body-requires-5 c = record {
  entries = oracle_entries;
  few = omega arith;
  below = omega arith;
  read = c.read-c.ensures;
  joined = (kept c.args.o.now
      c.requires).bodies;
}

pub oracle_bodies-requires : goal.oracle_bodies-requires
unfolding node_count
oracle_bodies-requires c =
    let a = c.args in
    omega (arith, node_bytes a.o.now (kept a.o.now c.requires).sound, ap (λ (b : Bytes). length b) c.body.ensures)

pub returns : goal.returns
unfolding shape_rules node_count
returns c = rw (
  ← c.body.ensures,
  ← c.body-2.ensures,
  ← c.body-3.ensures,
  ← c.body-4.ensures,
  ← c.body-5.ensures,
) c.oracle_bodies.ensures ∙
    sym (first_append _ _ (plain_counted oracle_edition oracle_entries c.args.o.now) c.requires)
