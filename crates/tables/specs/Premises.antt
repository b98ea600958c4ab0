-- What the functions ask of the bodies that they are lent and of values, and what they make of them. Assumes nothing.
use Rattle.std.specs.Prelude.{ℕ, ◌+◌, ◌*◌, ◌<◌, ◌≤◌, min, ◌≡◌, false, length}
use Rattle.model.specs.Bytes.{Bytes}
use Rattle.model.specs.Pair.{key}
use Rattle.model.specs.Distance.{Distance, plus}
use Rattle.model.specs.Oracle.{value_size, no_walk, max_value, max_hops, decoded, value_key, value, list_count, AccessEntry, access_list, access_broken}
use Rattle.model.specs.Query.{answer, far_distance}
use Rattle.model.specs.declared.Kind.TheVariants.{Far}
use Rattle.model.specs.declared.Answer.{Answer}

-- The access body b keeps rule 10 for T transit nodes, and u is one of the nodes that have a list there.
pub record HasList (T : ℕ) (b : Bytes) (u : ℕ) : Type 0 where
  pub nodes : ℕ
  pub below : u < nodes
  pub kept : access_broken nodes T b ≡ false

-- The same, for some number of transit nodes.
abbrev pub ListedBelow : Bytes → ℕ → Type 0
ListedBelow b u = (T : ℕ) × HasList T b u

-- The list of u has an entry i.
abbrev pub HasEntry : Bytes → ℕ → ℕ → Type 0
HasEntry b u i = ListedBelow b u × (i < list_count b u)

-- A key that is not 'no walk' is at most that of 409,500,000 seconds and 4,095 hops.
abbrev pub max_key : ℕ
max_key = key max_value max_hops

abbrev pub InRange : ℕ → Type 0
InRange k = (k ≡ no_walk → ⊥) → k ≤ max_key

-- What a sum of keys means: from the key of 'no walk' on, 'no walk'. So no part is tested for it: it is more than three times come to, and with it a sum is
-- no less.
unfoldable pub summed : ℕ → Distance
summed k = decoded (min k no_walk)

-- A sum of two keys that is a time is at most twice the greatest.
abbrev pub InTwo : ℕ → Type 0
InTwo k = k < no_walk → k ≤ max_key + max_key

-- A row of the table begins here: the value of each of T columns stands in it, in range.
pub record Row (T : ℕ) (b : Bytes) : Type 0 where
  pub within : (k : ℕ) → k < T → value_size * k + value_size ≤ length b
  pub range : (k : ℕ) → k < T → InRange (value_key b (value_size * k))

-- The list of u, and a row with the columns that it names.
abbrev pub HasRow : Bytes → ℕ → Bytes → Type 0
HasRow access u row = (T : ℕ) × HasList T access u × Row T row

-- The sum for an entry and the value in its column of a row.
unfoldable pub sum_in : Bytes → AccessEntry → Distance
sum_in row b = plus (value row (value_size * b.index)) b.distance

-- The far answer from an access body and a table for T transit nodes.
abbrev pub far_from : ℕ → Bytes → Bytes → ℕ → ℕ → Answer
far_from T access table s e =
    answer Far (length (access_list access s) * length (access_list access e)) (far_distance table T (access_list access s) (access_list access e))
