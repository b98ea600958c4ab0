-- The words of a search's queue: between the seconds and the hops of n times stand n words of two halves, the low one a node and the high one a position.
-- Assumes nothing.
use Rattle.std.specs.Prelude.{ℕ, ◌+◌, ◌*◌, ◌/◌, ◌%◌, ◌≤◌, ◌<◌, ◌≡◌, List, length, get_or, set}
use Rattle.model.specs.Network.{max_nodes}
use Rattle.words.specs.Times.{time_words, time}

-- What a half counts up to.
abbrev pub half : ℕ
half = 65536

-- The low half of a word, and the word of node v at position v.
unfoldable pub low : ℕ → ℕ
low x = x % half

unfoldable pub own : ℕ → ℕ
own v = v * half + v

-- The node at position i.
unfoldable pub node : ℕ → List ℕ → ℕ → ℕ
node n w i = get_or w (n + i) 0 % half

-- The position of node v.
unfoldable pub position : ℕ → List ℕ → ℕ → ℕ
position n w v = get_or w (n + v) 0 / half

-- The time of the node at position i.
abbrev pub key : ℕ → List ℕ → ℕ → ℕ
key n w i = time n w (node n w i)

-- Each of n nodes stands at one of n positions, and each position has one node.
pub record Positioned (n : ℕ) (w : List ℕ) : Type 0 where
  pub size : length w ≡ time_words n
  pub few : n ≤ max_nodes
  pub nodes : (i : ℕ) → i < n → node n w i < n
  pub positions : (v : ℕ) → v < n → position n w v < n
  pub back : (i : ℕ) → i < n → position n w (node n w i) ≡ i
  pub there : (v : ℕ) → v < n → node n w (position n w v) ≡ v

-- The node v written at position i, and the position i written for node v. The other half stays.
unfoldable pub put_node : ℕ → ℕ → ℕ → List ℕ → List ℕ
put_node n i v w = set w (n + i) (get_or w (n + i) 0 / half * half + v)

unfoldable pub put_position : ℕ → ℕ → ℕ → List ℕ → List ℕ
put_position n v i w = set w (n + v) (i * half + get_or w (n + v) 0 % half)

-- The positions i and j change their nodes.
unfoldable pub swapped : ℕ → ℕ → ℕ → List ℕ → List ℕ
swapped n i j w = put_position n (node n w j) i (put_position n (node n w i) j (put_node n j (node n w i) (put_node n i (node n w j) w)))
