-- `chains::build` meets its contract: by links where they fit.
use native.Mathlib.Omega.{arith}
use mathlib.Core.Path.{sym, ◌∙◌}
use Rattle.index.proofs.Places.{links_fit}
use Rattle.index.proofs.Listing.{linked_index}
use Rattle.index.proofs.chains.build.Goals as goal

pub link_all-requires : goal.link_all-requires
link_all-requires c = record {
  edges_value = c.requires.edges_value;
  edges_bound = (
    omega (
      arith,
      links_fit c.args.n _
          (sym c.is_linked.ensures ∙ c.if-is_linked.true),
    ),
    omega arith,
  );
}

pub returns-then-is_linked : goal.returns-then-is_linked
returns-then-is_linked c = linked_index _ _ _ (sym c.is_linked.ensures ∙ c.if-is_linked.true)
    c.link_all.ensures
