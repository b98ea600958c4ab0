-- The last rule of a call that writes output, and what it leaves. Assumes nothing.
use Rattle.std.specs.Prelude.{ℕ, ◌*◌, ◌≡◌, cond, List, length}
use Rattle.model.specs.Lists.{concat_map}
use Rattle.model.specs.Bytes.{Bytes, bytes16, number_size}
use Rattle.model.specs.Network.{network}
use Rattle.model.specs.Query.{way}
use Rattle.model.specs.Rules.{output_too_small}
use Rattle.model.specs.Calls.{route_after, output_after}
use Rattle.model.specs.declared.Route.{Route}

-- 15 where the output is too short for a result of this size, else 0.
unfoldable pub room_rule : ℕ → ℕ → ℕ
room_rule size room = cond (output_too_small size room) 15 0

-- What a call that no rule before 15 sends back hands back and writes. `after` is what it hands back beside the number of a rule, and `written`, of this
-- size, is its result.
pub record Given {A : Type 0} (after : ℕ → A) (size : ℕ) (written out : Bytes) (r : A) (out' : Bytes) : Type 0 where
  pub result : r ≡ after (room_rule size (length out))
  pub bytes : out' ≡ output_after (room_rule size (length out)) written out

-- The same of the nodes of a way.
abbrev pub NodesGiven : List ℕ → Bytes → Route → Bytes → Type 0
NodesGiven nodes = Given (λ k. route_after k nodes) (number_size * length nodes) (concat_map bytes16 nodes)

abbrev pub WayGiven : Bytes → ℕ → ℕ → Bytes → Route → Bytes → Type 0
WayGiven o s t = NodesGiven (way (network o) s t)
