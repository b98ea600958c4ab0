-- The seconds or the hops of a block of keys, and the keys of a block of times. Assumes nothing.
use Rattle.std.specs.Prelude.{ℕ, ◌≤◌, ◌<◌, Bool, true, false, List, [], map, get_or}
use Rattle.model.specs.Pair.{seconds_of, hops_of}
use Rattle.model.specs.Oracle.{no_walk}
use Rattle.block.specs.Block.{max_names}
use Rattle.block.specs.declared.parts.Part.{Part}
use Rattle.block.specs.declared.parts.Part.TheVariants.{Seconds, Hops}

-- The hops of a key, or its seconds.
unfoldable pub part_of : Bool → ℕ → ℕ
part_of true k = hops_of k
part_of false k = seconds_of k

-- Whether what is shown is the hops.
abbrev pub is_hops : Part → Bool
is_hops Seconds = false
is_hops Hops = true

unfoldable pub parts_of : Bool → List (List ℕ) → List (List ℕ)
parts_of hops keys = map (map (part_of hops)) keys

-- Keys whose seconds fit 32 bits.
abbrev pub SmallRow : List ℕ → Type 0
SmallRow row = (j : ℕ) → j < max_names → get_or row j 0 ≤ no_walk

abbrev pub SmallKeys : List (List ℕ) → Type 0
SmallKeys keys = (i : ℕ) → i < max_names → SmallRow (get_or keys i [])
