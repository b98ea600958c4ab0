-- No rule has the number 0, which stands for none.
use Rattle.std.proofs.Common.{◌≡◌, ◌≤◌, arith}
use Rattle.rules.specs.Refusals.{number_of}
use Rattle.rules.specs.declared.refusal.Refusal.{Refusal}
use Rattle.rules.specs.declared.refusal.Refusal.TheVariants.{Contents, Bodies, Nodes, Coordinates, Edges, SomeEdge, Closed, Grid, Transit, Access, Table}
use Rattle.rules.specs.declared.refusal.Refusal.TheVariants.{NoSuchNode, LocalPair, WorkTooSmall, OutputTooSmall, DiffersFromBuilt, ListSize}
use Rattle.rules.specs.declared.refusal.Refusal.TheVariants.{Sheet, NoSuchEdge, TooSlow, ClosedListed}

positive : (r : Refusal) → 1 ≤ number_of r
unfolding number_of
positive Contents = omega arith
positive Bodies = omega arith
positive Nodes = omega arith
positive Coordinates = omega arith
positive Edges = omega arith
positive SomeEdge = omega arith
positive Closed = omega arith
positive Grid = omega arith
positive Transit = omega arith
positive Access = omega arith
positive Table = omega arith
positive NoSuchNode = omega arith
positive LocalPair = omega arith
positive WorkTooSmall = omega arith
positive OutputTooSmall = omega arith
positive DiffersFromBuilt = omega arith
positive ListSize = omega arith
positive Sheet = omega arith
positive NoSuchEdge = omega arith
positive TooSlow = omega arith
positive ClosedListed = omega arith

pub is_a_rule : (r : Refusal) → number_of r ≡ 0 → ⊥
is_a_rule r e = omega (arith, positive r, e)
