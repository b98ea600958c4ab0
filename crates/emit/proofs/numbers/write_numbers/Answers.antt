-- `emit::numbers::write_numbers` meets its contract. Assumes nothing.
use native.Mathlib.Omega.{arith}
use borrow.Author.Rules.{rules}
use Rattle.emit.specs.PartLaws.{length_numbers}
use Rattle.bitset.specs.Members.{members_of}
use Rattle.emit.proofs.numbers.write_numbers.Goals as goal

pub numbers-requires : goal.numbers-requires
numbers-requires c = (search rules, search rules, omega (arith, c.requires.2, length_numbers (members_of c.args.n c.args.set.now)))
