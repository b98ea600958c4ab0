-- Chains that grow while the index is built. Assumes nothing.
use Rattle.std.specs.Prelude.{ℕ, ◌+◌, ◌<◌, ◌≤◌, ◌≡◌, ◌⊎◌}
use Rattle.model.specs.Bytes.{Bytes}
use Rattle.model.specs.Network.{edge}
use Rattle.index.specs.Index.{Reading, Lists, Within}

-- The positions below k are in use, and each chain goes down.
pub record Growing (n k : ℕ) (r : Reading) : Type 0 where
  pub heads : (u : ℕ) → u < n → Within n k (r.next u)
  pub links : (p : ℕ) → 0 < n → n ≤ p → r.next p < p

-- From r to r' entry k is put in front of the chain of node x, for block q. All else stays.
pub record InFront (n k x q : ℕ) (r r' : Reading) : Type 0 where
  pub head : r'.next x ≡ k
  pub link : r'.next k ≡ r.next x
  pub links : (p : ℕ) → (p ≡ x → ⊥) → (p ≡ k → ⊥) → r'.next p ≡ r.next p
  pub block : r'.block k ≡ q
  pub blocks : (p : ℕ) → n ≤ p → (p ≡ k → ⊥) → r'.block p ≡ r.block p
  pub sized : (y : ℕ) → y < n → r'.size y ≡ r.size y

-- What may be listed anew: block q at node x; at the ends of edge i.
abbrev pub OnlyAt : ℕ → ℕ → ℕ → ℕ → Type 0
OnlyAt x q y r = (y ≡ x) × (r ≡ q)

abbrev pub AtEnd : Bytes → ℕ → ℕ → ℕ → ℕ → Type 0
AtEnd edges i q y r = (((edge edges i).first ≡ y) ⊎ ((edge edges i).second ≡ y)) × (r ≡ q)

-- What is in the chains stays in them, and only what New says is added, by at most `most` entries more.
pub record Grown (n k : ℕ) (r : Reading) (k' most : ℕ) (r' : Reading) (New : ℕ → ℕ → Type 0) : Type 0 where
  pub growing : Growing n k' r'
  pub more : k ≤ k'
  pub few : k' ≤ k + most
  pub sized : (y : ℕ) → y < n → r'.size y ≡ r.size y
  pub kept : (y q : ℕ) → y < n → Lists r n (r.next y) q → Lists r' n (r'.next y) q
  pub fresh : (y q : ℕ) → y < n → Lists r' n (r'.next y) q → Lists r n (r.next y) q ⊎ New y q

-- Block q is listed at node x, by at most one entry more.
abbrev pub ListedAt : ℕ → ℕ → Reading → ℕ → Reading → ℕ → ℕ → Type 0
ListedAt n k r k' r' x q = Grown n k r k' 1 r' (OnlyAt x q) × Lists r' n (r'.next x) q

-- Edge i, of block q, is listed at both of its ends, by at most two entries more.
abbrev pub ListedEdge : Bytes → ℕ → ℕ → ℕ → Reading → ℕ → Reading → ℕ → Type 0
ListedEdge edges i n k r k' r' q = Grown n k r k' 2 r' (AtEnd edges i q) × ((x : ℕ) → AtEnd edges i q x q → Lists r' n (r'.next x) q)
