-- The numbers of the rules that the code names, and the number that a check's result stands for. Assumes nothing.
use Rattle.std.specs.Prelude.{ℕ, Result, Ok, Err}
use Rattle.rules.specs.declared.refusal.Refusal.{Refusal}
use Rattle.rules.specs.declared.refusal.Refusal.TheVariants.{Contents, Bodies, Nodes, Coordinates, Edges, SomeEdge, Closed, Grid, Transit, Access, Table}
use Rattle.rules.specs.declared.refusal.Refusal.TheVariants.{NoSuchNode, LocalPair, WorkTooSmall, OutputTooSmall, DiffersFromBuilt, ListSize}
use Rattle.rules.specs.declared.refusal.Refusal.TheVariants.{Sheet, NoSuchEdge, TooSlow, ClosedListed}

unfoldable pub number_of : Refusal → ℕ
number_of Contents = 1
number_of Bodies = 2
number_of Nodes = 3
number_of Coordinates = 4
number_of Edges = 5
number_of SomeEdge = 6
number_of Closed = 7
number_of Grid = 8
number_of Transit = 9
number_of Access = 10
number_of Table = 11
number_of NoSuchNode = 12
number_of LocalPair = 13
number_of WorkTooSmall = 14
number_of OutputTooSmall = 15
number_of DiffersFromBuilt = 16
number_of ListSize = 17
number_of Sheet = 18
number_of NoSuchEdge = 19
number_of TooSlow = 20
number_of ClosedListed = 21

-- The number of the rule that a check found broken, or 0.
unfoldable pub refused : Result Unit Refusal → ℕ
refused (Ok _) = 0
refused (Err r) = number_of r
