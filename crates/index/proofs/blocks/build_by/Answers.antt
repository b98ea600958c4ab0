-- `blocks::build_by` meets its contract: cleared words list no edge, and then each one.
use native.Mathlib.Omega.{arith}
use mathlib.Core.Path.{refl}
use borrow.Author.Rules.{rules}
use Rattle.index.proofs.Listing.{cleared, blocked_index}
use Rattle.index.proofs.blocks.build_by.Goals as goal

pub list_all-requires : goal.list_all-requires
list_all-requires c = record { edges_value = c.requires.edges_value; edges_bound = (search rules, search rules, search rules, search rules); chained = cleared _ _ _ c.clear.ensures _ _ _ (λ h. refl) }

pub returns : goal.returns
returns c = λ e. blocked_index _ _ _ c.requires.edges_value_2 c.args.s (λ f. omega arith) (search rules) (c.list_all.ensures e)
