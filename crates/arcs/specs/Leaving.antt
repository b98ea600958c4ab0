-- A walk over the arcs out of a node u, of the edges as the lines of a day sheet leave them. Assumes nothing.
use Rattle.std.specs.Prelude.{ℕ, ◌+◌, ◌<◌, ◌≤◌, ◌≡◌, false, cond, ◌⊎◌, ◌↔◌, eqb}
use mathlib.Core.List.{List, ◌∷◌, [], ◌++◌, Memᴰ}
use Rattle.model.specs.Lists.{any, concat_map}
use Rattle.model.specs.Bytes.{Bytes}
use Rattle.model.specs.Walk.{Arc}
use Rattle.model.specs.Network.{edge, edge_count, max_seconds}
use Rattle.model.specs.Oracle.{no_walk}
use Rattle.theory.specs.Sound.{max_cost}
use Rattle.index.specs.Index.{IndexedEdges}
use Rattle.sheet.specs.Sheet.{Effect.delayed, lines_in, holds}
use Rattle.sheet.specs.Under.{too_slow}
use Rattle.sheet.specs.ArcsUnder.{left_under, arcs_under, arcs_left}
use Rattle.sheet.specs.Spans.{SpannedIn}
use Rattle.arcs.specs.Arcs.{leaving}
use Rattle.arcs.specs.declared.cursor.Cursor.{Cursor}
use Rattle.arcs.specs.declared.leaving.ArcAt.{ArcAt}
use Rattle.arcs.specs.Cursor.{Valid, PassedEdges, rank}

-- What a walk under the lines of a sheet goes by, in the lent words: the index of the edges, the spans of the lines, and rule 20. Without a sheet there are no
-- lines.
pub record EdgesUnder (edges lines : Bytes) (n : ℕ) (w : List ℕ) : Type 0 where
  pub roads : IndexedEdges edges n w
  pub spanned : SpannedIn lines n w
  pub quick : any too_slow (left_under edges lines) ≡ false

-- Where the cursor over the edges stands.
abbrev pub cursor_of : ArcAt → Cursor
cursor_of a = record { edge = a.edge; stop = a.stop; link = a.link; size = a.size }

-- The arc where a walk from u stands.
abbrev pub arc_here : ℕ → ArcAt → Arc
arc_here u a = record { from = u; to = a.to; cost = a.cost }

-- The arcs that leave u over the edges of a list.
unfoldable pub arcs_over : Bytes → Bytes → ℕ → List ℕ → List Arc
arcs_over edges lines u done = concat_map (λ j. leaving u (arcs_left edges lines j)) done

-- The arc of an edge that a sheet may close: then its cost is 'no walk', and there is none.
abbrev pub shut_or : ℕ → ArcAt → List Arc
shut_or u a = cond (eqb a.cost no_walk) [] (arc_here u a ∷ [])

-- Edge i has an end at u, and the line that holds for it keeps rule 20.
pub record EndAt (edges lines : Bytes) (u i : ℕ) : Type 0 where
  pub end : ((edge edges i).first ≡ u) ⊎ ((edge edges i).second ≡ u)
  pub limit : (x : ℕ) → holds (lines_in lines) i ≡ delayed x → (edge edges i).seconds + x ≤ max_seconds

-- What is left of the edge that the cursor c has found: the arc that leaves u, or nothing. At the end `to` is n.
pub record LeftAt (edges lines : Bytes) (n u : ℕ) (c : Cursor) (a : ArcAt) : Type 0 where
  pub cursor : cursor_of a ≡ c
  pub inside : a.edge < edge_count edges → a.to < n
  pub arc : a.edge < edge_count edges → leaving u (arcs_left edges lines a.edge) ≡ shut_or u a
  pub ended : edge_count edges ≤ a.edge → (a.to ≡ n) × (a.cost ≡ 0)
  pub low : (a.cost ≡ no_walk → ⊥) → a.cost ≤ max_cost

-- The arc is the one that leaves u of the edge that the cursor has found.
pub record Found (edges lines : Bytes) (n u : ℕ) (a : ArcAt) : Type 0 where
  pub inside : a.edge < edge_count edges → a.to < n
  pub arc : a.edge < edge_count edges → leaving u (arcs_left edges lines a.edge) ≡ arc_here u a ∷ []
  pub ended : edge_count edges ≤ a.edge → a.to ≡ n
  pub low : a.cost ≤ max_cost

pub record ValidArc (edges lines : Bytes) (n : ℕ) (w : List ℕ) (u : ℕ) (a : ArcAt) : Type 0 where
  pub cursor : Valid edges n w u (cursor_of a)
  pub found : Found edges lines n u a

-- The arcs of `done` are passed, over the edges of `over`. The walk stands at an arc that leaves u; at its end it has passed just the arcs that leave u.
pub record PassedArcs (edges lines : Bytes) (n : ℕ) (w : List ℕ) (u : ℕ) (done : List Arc) (a : ArcAt) : Type 0 where
  pub over : List ℕ
  pub passing : PassedEdges edges n w u over (cursor_of a)
  pub same : done ≡ arcs_over edges lines u over
  pub valid : ValidArc edges lines n w u a
  pub low : a.cost ≤ max_cost
  pub here : a.to < n → Memᴰ (arc_here u a) (leaving u (arcs_under edges lines))
  pub all : n ≤ a.to → (x : Arc) → Memᴰ x done ↔ Memᴰ x (leaving u (arcs_under edges lines))

-- From an edge cursor c the walk is on at c', over edges of which the sheet leaves nothing.
pub record SkippedTo (edges lines : Bytes) (n : ℕ) (w : List ℕ) (u : ℕ) (c c' : Cursor) : Type 0 where
  pub valid : Valid edges n w u c'
  pub passing : (over : List ℕ) → PassedEdges edges n w u over c
      → (over' : List ℕ) × PassedEdges edges n w u over' c' × (arcs_over edges lines u over' ≡ arcs_over edges lines u over)
  pub less : rank edges c' ≤ rank edges c

-- The first arc from an edge cursor c on.
pub record FirstArc (edges lines : Bytes) (n : ℕ) (w : List ℕ) (u : ℕ) (c : Cursor) (a : ArcAt) : Type 0 where
  pub skipped : SkippedTo edges lines n w u c (cursor_of a)
  pub found : Found edges lines n u a

-- What falls from arc to arc, for the measure of a loop.
unfoldable pub arc_rank : Bytes → ArcAt → ℕ
arc_rank edges a = rank edges (cursor_of a)

-- The walk is on from a to a'.
pub record SteppedArc (edges lines : Bytes) (n : ℕ) (w : List ℕ) (u : ℕ) (a a' : ArcAt) : Type 0 where
  pub passes : (done : List Arc) → PassedArcs edges lines n w u done a → PassedArcs edges lines n w u (done ++ arc_here u a ∷ []) a'
  pub less : arc_rank edges a' < arc_rank edges a
