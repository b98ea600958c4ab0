-- What the searches for the lists of a cell look for. Assumes nothing.
use Rattle.std.specs.Prelude.{ℕ, ◌≡◌, List, length}
use Rattle.words.specs.Regions.{region_flags, want, own}
use Rattle.access.specs.Pairs.{NotAlone}
use Rattle.passes.specs.Building.{members_in}

-- Region WANT of the working words has the nodes of region OWN, they are so many, and none of them is the only node.
pub record Sought (n left : ℕ) (work : List ℕ) : Type 0 where
  pub wants : region_flags n want work ≡ region_flags n own work
  pub count : left ≡ length (members_in n own work)
  pub alone : NotAlone n own work
