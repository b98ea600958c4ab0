-- What a search leaves: the regions behind its three stay, and the index. Assumes nothing.
use Prim.Native.Nat.{ℕ, ◌*◌, ◌≤◌}
use native.Mathlib.Omega.{arith}
use mathlib.Core.Path.{◌≡◌, refl, ◌∙◌}
use mathlib.Core.List.{List}
use lib.ListN.{length}
use Rattle.model.specs.Lists.{equal}
use Rattle.model.specs.Bytes.{Bytes}
use Rattle.model.specs.Oracle.{value_size}
use Rattle.model.specs.Walk.{Arc}
use Rattle.algorithms.specs.Rounds.{Found, distance_words}
use Rattle.index.specs.Index.{IndexedEdges}
use Rattle.words.specs.Regions.{region_at, region, own, transit, index_at, times_in, search_words}
use Rattle.emit.specs.Parts.{row_bytes}
use Rattle.passes.specs.Building.{members_in}
use Rattle.words.proofs.Windows.{region_later}
use Rattle.words.proofs.Stays.{kept_more}
use Rattle.index.proofs.Laid.{roads_from}
use Rattle.model.specs.Rules.{work_words}
use Rattle.words.specs.Frames.{KeptFrom}

-- From w to w', the words from region WANT on stay.
pub record KeptSets (n : ℕ) (w w' : List ℕ) : Type 0 where
  pub size : length w' ≡ length w
  pub behind : KeptFrom (search_words n) w w'

pub kept_same : (n : ℕ) (w : List ℕ) → KeptSets n w w
kept_same n w = record { size = refl; behind = refl }

pub kept_then : (n : ℕ) (w x y : List ℕ) → KeptSets n w x → length y ≡ length x → KeptFrom (search_words n) x y → KeptSets n w y
kept_then n w x y k s e = record { size = s ∙ k.size; behind = e ∙ k.behind }

module _ (n : ℕ) (w w' : List ℕ) (e : KeptFrom (search_words n) w w') where
  pub own_behind : region n own w' ≡ region n own w
  own_behind = region_later n own w w' (omega arith) e

  pub transit_behind : region n transit w' ≡ region n transit w
  transit_behind = region_later n transit w w' (omega arith) e

  pub roads_behind : (edges : Bytes) → IndexedEdges edges n w → IndexedEdges edges n w'
  roads_behind edges r = roads_from edges n w w' (search_words n) (omega arith) e r

  pub size_behind : (size : ℕ) → size ≡ value_size * length (members_in n transit w) → size ≡ value_size * length (members_in n transit w')
  size_behind size q = rw transit_behind q

  module _ (arcs : List Arc) (v : ℕ) (order : List ℕ) (f : Found arcs n v (times_in n w') order) where
    pub row_behind : row_bytes (times_in n w') (members_in n transit w') ≡ row_bytes (distance_words arcs n v) (members_in n transit w)
    row_behind = rw (f.times, transit_behind)

-- From w, the index is written into x, the transit nodes are marked in y, and the lists passed to z.
module _ (edges : Bytes) (n : ℕ) (some : 1 ≤ n) (w x y : List ℕ) (r : IndexedEdges edges n x) (first : KeptFrom (work_words n) w x)
    (second : KeptFrom (index_at n) x y) where
  pub roads_marked : IndexedEdges edges n y
  roads_marked = roads_from edges n x y (index_at n) (omega arith) second r

  pub rest_marked : KeptFrom (work_words n) w y
  rest_marked = kept_more (index_at n) (work_words n) x y (omega arith) second ∙ first

  module _ (z : List ℕ) (third : KeptFrom (region_at n transit) y z) where
    pub roads_passed : IndexedEdges edges n z
    roads_passed = roads_from edges n y z (region_at n transit) (omega arith) third roads_marked

    pub rest_passed : KeptFrom (work_words n) w z
    rest_passed = kept_more (region_at n transit) (work_words n) y z (omega arith) third ∙ rest_marked

    pub rest_last : (l : List ℕ) → KeptFrom (search_words n) z l → KeptFrom (work_words n) w l
    rest_last l e = kept_more (search_words n) (work_words n) z l (omega arith) e ∙ rest_passed

pub equal_both : (a b x y : Bytes) → a ≡ b → x ≡ y → equal a x ≡ equal b y
equal_both a b x y p q = rw (p, q)
