-- `rules::access::some_list_broken` meets its contract. Assumes nothing.
use Rattle.std.proofs.Common.{rules}
use Rattle.std.proofs.lemmas.Iterator.{serves_from_Range}
use Rattle.std.proofs.iter.runs.Sources.{ranges}
use Rattle.model.specs.Oracle.{list_broken}
use Rattle.codec.proofs.AnyRange.{any_run_plain}
use Rattle.rules.proofs.AccessLayout.{list_inside}
use Rattle.rules.proofs.access.some_list_broken.Goals as goal

pub any-requires-clause-callable : goal.any-requires-clause-callable
any-requires-clause-callable c = serves_from_Range (λ x q h. search rules)
    (λ u a h. let inside = list_inside c.args.b.now c.args.n u c.requires.1 h in search (rules, inside))

pub returns : goal.returns
returns c = any_run_plain (list_broken c.args.transit c.args.b.now) _ _ (λ t. search (rules, ranges)) (λ t xs i h e. search (rules, ranges))
