-- `bodies::same_bodies` meets its contract: the first difference settles it.
use native.Mathlib.Omega.{arith}
use mathlib.Core.Path.{sym, ◌∙◌}
use Rattle.passes.proofs.Taken.{transit_alone}
use Rattle.words.specs.Regions.{transit}
use Rattle.auditor.proofs.Behind.{roads_marked, rest_marked, roads_passed, rest_passed, rest_last}
use Rattle.auditor.proofs.CellLists.{transit_kept}
use Rattle.auditor.proofs.LastBodies.{few_body, row_size, first_differs, first_same, second_differs, third_tells}
use Rattle.auditor.proofs.bodies.same_bodies.Goals as goal

pub build_index-requires : goal.build_index-requires
build_index-requires c = record { n_le_max_nodes = (c.args.ground.now.keeps.2, c.requires.0); edges_value = rw c.args.ground.now.keeps.1 c.args.ground.now.keeps.0.edges_rule }

pub mark_transit-requires : goal.mark_transit-requires
mark_transit-requires c = record { on_ground = (omega arith, c.requires.2); indexed_edges = c.build_index.ensures.roads }

pub returns-then-not-same_transit : goal.returns-then-not-same_transit
returns-then-not-same_transit c =
    let a = c.args in record {
      same = first_differs a.ground.now.nodes.now a.ground.now.edges.now a.ground.now.grid a.ground.now.n c.args.ground.now.keeps.1 a.transit.now a.access.now a.table.now _
          c.mark_transit.ensures.members (sym c.same_transit.ensures ∙ c.if-not-same_transit.true);
      rest = rest_marked a.ground.now.edges.now a.ground.now.n c.requires.2 a.work.now _ _ c.build_index.ensures.roads c.build_index.ensures.behind
          c.mark_transit.ensures.others;
    }

pub same_lists-requires : goal.same_lists-requires
same_lists-requires c =
    let a = c.args in
    record {
      on_ground = (omega arith, c.requires.1);
      work_value = (
        c.mark_transit.ensures.members,
        roads_marked a.ground.now.edges.now a.ground.now.n c.requires.2 a.work.now _ _ c.build_index.ensures.roads c.build_index.ensures.behind
            c.mark_transit.ensures.others,
      );
    }

pub returns-then-not-same_lists : goal.returns-then-not-same_lists
returns-then-not-same_lists c =
    let p = c.requires in
    let a = c.args in
    let first = first_same a.ground.now.nodes.now a.ground.now.edges.now a.ground.now.grid a.ground.now.n c.args.ground.now.keeps.1 a.transit.now a.access.now a.table.now _
    c.mark_transit.ensures.members (sym c.same_transit.ensures ∙ c.if-not-same_transit.false) in record {
      same = second_differs a.ground.now.nodes.now a.ground.now.edges.now a.ground.now.grid a.ground.now.n c.args.ground.now.keeps.1 a.transit.now a.access.now a.table.now _
          c.mark_transit.ensures.members first (sym c.same_lists.ensures.same ∙ c.if-not-same_lists.true);
      rest = rest_passed a.ground.now.edges.now a.ground.now.n p.2 a.work.now _ _ c.build_index.ensures.roads c.build_index.ensures.behind
          c.mark_transit.ensures.others _ c.same_lists.ensures.others;
    }

pub overflow_mul-size : goal.overflow_mul-size
overflow_mul-size c =
    let a = c.args in
    omega (
      arith,
      c.args.ground.now.keeps.2,
      few_body a.ground.now.n _ a.transit.now (sym c.same_transit.ensures ∙ c.if-not-same_transit.false),
    )

pub same_table-requires : goal.same_table-requires
same_table-requires c =
    let a = c.args in
    let same = transit_kept a.ground.now.n _ _ c.same_lists.ensures.others in record {
      n_le_max_nodes = (
        c.args.ground.now.keeps.2,
        omega arith,
        row_size a.ground.now.n _ a.transit.now (sym c.same_transit.ensures ∙
            c.if-not-same_transit.false) _ same,
      );
      indexed_edges = (
        roads_passed a.ground.now.edges.now a.ground.now.n c.requires.2 a.work.now _ _ c.build_index.ensures.roads c.build_index.ensures.behind
            c.mark_transit.ensures.others _ c.same_lists.ensures.others,
        transit_alone a.ground.now.nodes.now a.ground.now.edges.now a.ground.now.grid a.ground.now.n c.args.ground.now.keeps.1 c.args.ground.now.keeps.0 transit _
            (same ∙ c.mark_transit.ensures.members),
      );
    }

pub returns : goal.returns
returns c =
    let p = c.requires in
    let build_index =
    c.build_index in
    let a = c.args in
    let first = first_same a.ground.now.nodes.now a.ground.now.edges.now a.ground.now.grid a.ground.now.n c.args.ground.now.keeps.1 a.transit.now a.access.now a.table.now _
    c.mark_transit.ensures.members (sym c.same_transit.ensures ∙ c.if-not-same_transit.false) in record {
      same = third_tells a.ground.now.nodes.now a.ground.now.edges.now a.ground.now.grid a.ground.now.n c.args.ground.now.keeps.1 a.transit.now a.access.now a.table.now _
          (transit_kept a.ground.now.n _ _ c.same_lists.ensures.others ∙ c.mark_transit.ensures.members) first
          (sym c.same_lists.ensures.same ∙ c.if-not-same_lists.false) _ c.same_table.ensures.same;
      rest = rest_last a.ground.now.edges.now a.ground.now.n p.2 a.work.now _ _ build_index.ensures.roads build_index.ensures.behind
          c.mark_transit.ensures.others _ c.same_lists.ensures.others _ c.same_table.ensures.others;
    }
