-- `builder::network::network_body` meets its contract. Assumes nothing.
use native.Mathlib.Omega.{arith}
use borrow.Author.Rules.{rules}
use Rattle.theory.specs.Joined.{whole_contents}
use Rattle.builder.proofs.network.network_body.Goals as goal

pub body_of-requires : goal.body_of-requires
body_of-requires c = (omega arith, search rules, whole_contents _ _ _ c.requires.0, c.requires.1)
