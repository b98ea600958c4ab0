-- The parts of an oracle and their sizes, from the bodies of a network, the transit nodes and the access nodes. Assumes nothing.
use Rattle.std.specs.Prelude.{ℕ, ◌+◌, ◌-◌, ◌*◌, ◌≡◌, List, [], ◌∷◌, ◌++◌, length, drop}
use Rattle.model.specs.Bytes.{Bytes, number_size}
use Rattle.model.specs.Contents.{oracle_edition, network_head, oracle_head}
use Rattle.model.specs.Network.{distance}
use Rattle.model.specs.Grid.{division_size, division_bytes}
use Rattle.model.specs.Oracle.{table_bytes, value_size}
use Rattle.model.specs.declared.Division.{Division}
use Rattle.grid.specs.declared.Grid.{Grid}
use Rattle.access.specs.Networks.{network_in}
use Rattle.emit.specs.Parts.{head_bytes, numbers_bytes}
use Rattle.passes.specs.Building.{transit_in, list_in}
use Rattle.passes.specs.Stands.{whole}
use Rattle.bodies.specs.Listed.{Based, Counts}

-- ---- sizes

-- Bodies 1 and 2 of these sizes, an empty body 3, t transit nodes, and body 6 of the size a.
unfoldable pub sizes_in : ℕ → ℕ → ℕ → ℕ → List ℕ
sizes_in nodes edges t a = nodes ∷ edges ∷ 0 ∷ division_size ∷ (number_size * t) ∷ a ∷ (value_size * t * t) ∷ []

-- Where bodies 1 to 3 of a network of `size` bytes end in its oracle, whose head takes the place of the network's own; and where body 4 does.
abbrev pub network_end : ℕ → ℕ
network_end size = oracle_head + (size - network_head)

abbrev pub grid_end : ℕ → ℕ
grid_end size = network_end size + division_size

-- Bodies 5 to 7, and the whole oracle.
abbrev pub back_size : ℕ → ℕ → ℕ
back_size t a = number_size * t + a + value_size * t * t

unfoldable pub whole_size : ℕ → ℕ → ℕ → ℕ
whole_size size t a = grid_end size + back_size t a

-- ---- bytes

-- The head, bodies 1 to 3 as they stand in the network f, and body 4.
unfoldable pub front_bytes : Bytes → Division → List ℕ → Bytes
front_bytes f dv sizes = head_bytes oracle_edition sizes ++ drop network_head f ++ division_bytes dv

-- Bodies 5 to 7.
unfoldable pub back_bytes : Bytes → Bytes → Grid → ℕ → Bytes
back_bytes nodes edges grid n = numbers_bytes (transit_in nodes edges grid) ++ whole n (list_in nodes edges grid) ++ table_bytes
    (distance (network_in nodes edges)) (transit_in nodes edges grid)

-- The working words are ready to write from, with t transit nodes and a body 6 of the size a.
pub record Planned (nodes edges : Bytes) (grid : Grid) (n t a : ℕ) (work : List ℕ) : Type 0 where
  pub based : Based nodes edges grid n work
  pub counts : Counts nodes edges grid n work
  pub transits : t ≡ length (transit_in nodes edges grid)
  pub access : a ≡ length (whole n (list_in nodes edges grid))
