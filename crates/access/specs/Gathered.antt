-- The nodes on least walks from the nodes of one region to those of another. Assumes nothing.
use Rattle.std.specs.Prelude.{ℕ, ◌≡◌, ◌⊎◌, List}
use Rattle.model.specs.Walk.{Arc}
use Rattle.algorithms.specs.Marks.{Toward}
use Rattle.marks.specs.Due.{Flagged}
use Rattle.words.specs.Regions.{region_at, region_flags, want, own, transit}
use Rattle.words.specs.Frames.{KeptFrom}

-- v lies on a least walk from a node of `starts` to one of `goals`.
pub record Gathered (arcs : List Arc) (starts goals : List ℕ) (v : ℕ) : Type 0 where
  pub p : ℕ
  pub start : Flagged starts p
  pub on : Toward arcs p (Flagged goals) v

-- v was there already, or p is a start and v lies on a least walk from it.
abbrev pub Joined : List Arc → List ℕ → List ℕ → List ℕ → ℕ → ℕ → Type 0
Joined arcs already starts goals p v = Flagged already v ⊎ (Flagged starts p × Toward arcs p (Flagged goals) v)

-- From w to w', the wanted nodes, the starts and the words from region TRANSIT on stay.
pub record KeptStarts (n : ℕ) (w w' : List ℕ) : Type 0 where
  pub wanted : region_flags n want w' ≡ region_flags n want w
  pub starts : region_flags n own w' ≡ region_flags n own w
  pub rest : KeptFrom (region_at n transit) w w'
