-- `coordinates_broken` meets its contract.
use Rattle.std.proofs.Common.{rules}
use Rattle.std.proofs.iter.runs.Sources.{ranges}
use Rattle.model.specs.Network.{coordinates_broken, node_broken, node, nodes, node_count}
use Rattle.codec.proofs.AnyRange.{any_run}
use Rattle.rules.proofs.nodes.coordinates_broken.Goals as goal

pub returns : goal.returns
unfolding coordinates_broken nodes node_count
returns c = any_run node_broken (node c.args.b.now) _ _ (λ t. search (rules, ranges)) (λ t xs i h e. search (rules, ranges))
