-- `gather::gather_from` meets its contract: the marks join what is gathered, or p is no start.
use mathlib.Core.Path.{sym, ◌∙◌}
use borrow.Author.Rules.{rules}
use Rattle.access.proofs.Flagging.{→member}
use Rattle.access.proofs.Gathers.{from_start, from_other}
use Rattle.access.proofs.gather.gather_from.Goals as goal

pub toward-requires : goal.toward-requires
toward-requires c =
    let two = c.requires.n_le_max_nodes.4 _ (→member _ _ _ c.requires.n_le_max_nodes.1 (sym c.has.ensures ∙ c.if-has.true)) in
    record { n_le_max_nodes = (search rules, search rules, search rules, search rules, two); indexed_edges = search rules }

pub returns-then-has : goal.returns-then-has
returns-then-has c =
    let a = c.args in
    let all = from_start _ a.n a.p a.work.now (search rules) (sym c.if-has.true ∙
    c.has.ensures) _ _ c.toward.ensures.others c.toward.ensures.members
    c.unite.ensures.members c.unite.ensures.others in record { members = all.0; others = all.1 }

pub returns-else-has : goal.returns-else-has
returns-else-has c =
    let all = from_other _ _ _ _ (sym c.if-has.false ∙ c.has.ensures) in record { members = all.0; others = all.1 }
