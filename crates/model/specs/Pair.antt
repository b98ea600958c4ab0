-- The pair that walks are compared by, document 02's T-07: "Walks are compared by seconds, then by fewer roads, and d becomes that pair wherever 01 uses it."
-- The number of roads of a walk is its hops. Assumes nothing.
use Rattle.std.specs.Prelude.{ℕ, ◌+◌, ◌*◌, ◌/◌, ◌%◌, ◌≤◌, ◌<◌, ◌≡◌, ◌⊎◌}

pub record Pair : Type 0 where
  pub seconds : ℕ
  pub hops : ℕ

-- p is no more than q: fewer seconds, or as many and no more hops.
unfoldable pub NoMore : Pair → Pair → Type 0
NoMore p q = (p.seconds < q.seconds) ⊎ ((p.seconds ≡ q.seconds) × (p.hops ≤ q.hops))

-- The sum of two pairs.
unfoldable pub add : Pair → Pair → Pair
add p q = record { seconds = p.seconds + q.seconds; hops = p.hops + q.hops }

-- p is the least pair with P: it has P, and is no more than any other.
pub record LeastPairOf (P : Pair → Type 0) (p : Pair) : Type 0 where
  pub has : P p
  pub least : (q : Pair) → P q → NoMore p q

-- ---- a pair as one number, its key, with the hops in the low 16 bits

-- So a distance is one number, and an arc has one cost. That keys are compared and added as pairs are, wherever the specification compares or adds them, is a
-- theorem (`theory`, Keys): a least walk has fewer hops than there are nodes, though a walk may have any number of them.
abbrev pub hop_base : ℕ
hop_base = 65_536

abbrev pub key : ℕ → ℕ → ℕ
key seconds hops = hop_base * seconds + hops

abbrev pub seconds_of : ℕ → ℕ
seconds_of k = k / hop_base

abbrev pub hops_of : ℕ → ℕ
hops_of k = k % hop_base

abbrev pub pair_of : ℕ → Pair
pair_of k = record { seconds = seconds_of k; hops = hops_of k }
