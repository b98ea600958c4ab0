-- `some_edge_broken` meets its contract.
use Rattle.std.proofs.Common.{rules}
use Rattle.std.proofs.iter.runs.Sources.{ranges}
use Rattle.model.specs.Network.{some_edge_broken, edge_broken, edge, edges, edge_count}
use Rattle.codec.proofs.AnyRange.{any_run}
use Rattle.rules.proofs.edges.some_edge_broken.Goals as goal

pub returns : goal.returns
unfolding some_edge_broken edges edge_count
returns c = any_run (edge_broken c.args.n) (edge c.args.b.now) _ _ (λ t. search (rules, ranges)) (λ t xs i h e. search (rules, ranges))
