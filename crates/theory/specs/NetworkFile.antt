-- The network file of three bodies: it has them, and keeps rules 1 and 2. Assumes nothing.
use Rattle.std.specs.Prelude.{ℕ, ◌+◌, ◌≤◌, ◌<◌, ◌≡◌, false, List, [], ◌∷◌, ◌++◌, length, get_or}
use Rattle.std.proofs.Common.{arith, length-append}
use Rattle.model.specs.Lists.{concat}
use Rattle.model.specs.Bytes.{Bytes}
use Rattle.model.specs.Contents.{body, node_body, edge_body, closed_body, entry_at, file, contents_broken, bodies_broken, network_edition, network_entries}
use Rattle.theory.specs.FileLaws.{length_file, body_file}
use Rattle.theory.specs.Shape.{contents_fine, bodies_fine}

abbrev pub network_of : Bytes → Bytes → Bytes → Bytes
network_of nodes edges closed = file network_edition (nodes ∷ edges ∷ closed ∷ [])

pub its_length : (nodes edges closed : Bytes) → length (network_of nodes edges closed) ≡ 29 + length nodes + length edges + length closed
unfolding concat entry_at
its_length nodes edges closed = omega (
  arith,
  length_file network_edition (nodes ∷ edges ∷ closed ∷ []),
  length-append nodes (edges ++ (closed ++ [])),
  length-append edges (closed ++ []),
  length-append closed [],
)

-- Bodies that keep rules 3, 5 and 7 have far fewer bytes than 32 bits can tell.
module _ (nodes edges closed : Bytes) (few : length nodes + length edges + length closed ≤ 1_000_000) where
  abbrev bodies : List Bytes
  bodies = nodes ∷ edges ∷ closed ∷ []

  small : length (network_of nodes edges closed) < 4_294_967_296
  small = omega (arith, few, its_length nodes edges closed)

  body_is : (k : ℕ) → k < 3 → body (network_of nodes edges closed) k ≡ get_or bodies k []
  body_is k h = body_file network_edition bodies k h small

  pub its_nodes : node_body (network_of nodes edges closed) ≡ nodes
  its_nodes = body_is 0 (omega arith)

  pub its_edges : edge_body (network_of nodes edges closed) ≡ edges
  its_edges = body_is 1 (omega arith)

  pub its_closed : closed_body (network_of nodes edges closed) ≡ closed
  its_closed = body_is 2 (omega arith)

  pub its_contents : contents_broken network_edition network_entries (network_of nodes edges closed) ≡ false
  its_contents = contents_fine network_edition bodies small

  pub its_bodies : bodies_broken network_entries (network_of nodes edges closed) ≡ false
  its_bodies = bodies_fine network_edition bodies small
