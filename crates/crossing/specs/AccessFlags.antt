-- The access nodes of a cell as flags: the crossing nodes of inner on a least walk from a crossing node of the cell to one of outer. Assumes nothing.
use Rattle.std.specs.Prelude.{ℕ, ◌≡◌, Bool, ◌&&◌, List, length}
use Rattle.std.proofs.Common.{sym, ◌∙◌}
use Rattle.model.specs.Lists.{any, member}
use Rattle.model.specs.Distance.{Distance}
use Rattle.model.specs.Network.{Edge}
use Rattle.model.specs.Grid.{Grid, Cell}
use Rattle.model.specs.Access.{crossings, between, access_nodes}
use Rattle.crossing.specs.Sets.{test_flags, member_flags, both}
use Rattle.crossing.specs.SetLaws.{both_test, filter_flags}

-- a lies on a least walk from p to one of qs, and from one of ps to one of qs.
unfoldable pub toward : (ℕ → ℕ → Distance) → List ℕ → ℕ → ℕ → Bool
toward d qs p a = any (λ q. between d p q a) qs

unfoldable pub through : (ℕ → ℕ → Distance) → List ℕ → List ℕ → ℕ → Bool
through d ps qs a = any (λ p. toward d qs p a) ps

pub access_flags : (d : ℕ → ℕ → Distance) (grid : Grid) (cs : List Cell) (es : List Edge) (c : Cell) → member_flags (length cs) (access_nodes d grid cs es c)
    ≡ both (member_flags (length cs) (crossings cs es grid.inner c)) (test_flags (through d (crossings cs es 0 c) (crossings cs es grid.outer c))
    (length cs))
unfolding access_nodes through toward member_flags
access_flags d grid cs es c =
    let inner = crossings cs es grid.inner c in
    let between = through d (crossings cs es 0 c) (crossings cs es grid.outer c) in
    filter_flags (length cs) (λ a. member a inner && between a) ∙ sym (both_test (λ a. member a inner) between (length cs))
