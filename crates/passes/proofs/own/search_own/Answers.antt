-- `own::search_own` meets its contract: the search finds the nodes of the list, and leaves the regions behind its own.
use native.Mathlib.Omega.{arith}
use mathlib.Core.Path.{refl}
use borrow.Author.Rules.{rules}
use Rattle.arcs.specs.Arcs.{arcs_in}
use Rattle.passes.proofs.Seeking.{sought_lacking, sought_two, list_of_none, list_searched}
use Rattle.passes.proofs.own.search_own.Goals as goal

pub search_wanted-requires : goal.search_wanted-requires
search_wanted-requires c = record { n_le_max_nodes = (c.requires.0, c.requires.1, search rules, sought_lacking _ _ _ c.requires.3, sought_two _ _ _ c.requires.3 c.if-left-gt0.true); indexed_edges = c.requires.4 }

pub returns-then-left-gt0 : goal.returns-then-left-gt0
returns-then-left-gt0 c =
    let a = c.args in
    record {
      list = list_searched a.n a.left a.work.now c.requires.3 _ c.search_wanted.ensures.others
          (arcs_in a.edges.now) a.v _ c.search_wanted.ensures.found.0;
      others = c.search_wanted.ensures.others;
    }

pub returns-else-left-gt0 : goal.returns-else-left-gt0
returns-else-left-gt0 c =
    let a = c.args in record {
      list = list_of_none a.n a.left a.work.now c.requires.3
          (omega (arith, c.if-left-gt0.false)) _ _ _;
      others = refl;
    }
