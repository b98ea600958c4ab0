-- Words of a search are changed: a walk goes on as it was. Assumes nothing.
use Prim.Native.Nat.{ℕ}
use native.Mathlib.Omega.{arith}
use mathlib.Core.List.{List}
use Rattle.model.specs.Bytes.{Bytes}
use Rattle.model.specs.Walk.{Arc}
use Rattle.words.specs.Frames.{KeptFrom}
use Rattle.words.specs.Regions.{search_words, grid_at, spans_at, index_at}
use Rattle.words.proofs.Stays.{kept_more}
use Rattle.index.proofs.Laid.{same_index, roads_kept}
use Rattle.sheet.proofs.Noting.{spanned_kept}
use Rattle.arcs.specs.declared.cursor.Cursor.{Cursor}
use Rattle.arcs.specs.declared.leaving.ArcAt.{ArcAt}
use Rattle.arcs.specs.Cursor.{Valid, PassedEdges}
use Rattle.arcs.specs.Leaving.{EdgesUnder, cursor_of, ValidArc, PassedArcs}

module _ (edges : Bytes) (n : ℕ) (w w' : List ℕ) (e : KeptFrom (index_at n) w w') (u : ℕ) where
  module _ (c : Cursor) where
    pub valid_kept : Valid edges n w u c → Valid edges n w' u c
    valid_kept v = let f = same_index n w w' e in record {
      size = rw f v.size;
      link = rw f v.link;
      chain = rw f v.chain;
      stop = v.stop;
      inside = v.inside;
      single = v.single;
      here = v.here;
      over = rw f v.over;
    }

    pub passing_kept : (done : List ℕ) → PassedEdges edges n w u done c → PassedEdges edges n w' u done c
    passing_kept done p = let f = same_index n w w' e in record { valid = valid_kept p.valid; real = p.real; full = rw f p.full }

-- The spans and the index stand behind the grid, and that behind the words of a search.
pub edges_behind : (edges lines : Bytes) (n : ℕ) (w w' : List ℕ) → KeptFrom (grid_at n) w w' → EdgesUnder edges lines n w
    → EdgesUnder edges lines n w'
edges_behind edges lines n w w' e g = record {
  roads = roads_kept edges n w w' (kept_more (grid_at n) (index_at n) w w' (omega arith) e) g.roads;
  spanned = spanned_kept lines n w w' (kept_more (grid_at n) (spans_at n) w w' (omega arith) e) g.spanned;
  quick = g.quick;
}

module _ (edges lines : Bytes) (n : ℕ) (w w' : List ℕ) (e : KeptFrom (search_words n) w w') where
  same : KeptFrom (index_at n) w w'
  same = kept_more (search_words n) (index_at n) w w' (omega arith) e

  pub edges_kept : EdgesUnder edges lines n w → EdgesUnder edges lines n w'
  edges_kept = edges_behind edges lines n w w' (kept_more (search_words n) (grid_at n) w w' (omega arith) e)

  module _ (u : ℕ) (a : ArcAt) where
    arc_kept : ValidArc edges lines n w u a → ValidArc edges lines n w' u a
    arc_kept v = record { cursor = valid_kept edges n w w' same u (cursor_of a) v.cursor; found = v.found }

    pub passes_kept : (done : List Arc) → PassedArcs edges lines n w u done a → PassedArcs edges lines n w' u done a
    passes_kept done p = record {
      over = p.over;
      passing = passing_kept edges n w w' same u (cursor_of a) p.over p.passing;
      same = p.same;
      valid = arc_kept p.valid;
      low = p.low;
      here = p.here;
      all = p.all;
    }
