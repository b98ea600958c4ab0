-- The words of `SheetDemands` and of proofs/SheetAnswers.antt; `Last`, the last line about a road, and `NoneCloses` are in sheet, Sheet. Assumes nothing.
use Rattle.std.specs.Prelude.{ℕ, ◌+◌, ◌<◌, ◌≡◌, cond, List, [], ◌∷◌}
use Rattle.model.specs.Bytes.{Bytes}
use Rattle.model.specs.Contents.{edge_body}
use Rattle.model.specs.Pair.{Pair}
use Rattle.model.specs.Walk.{Arc, Mem, LeastOf, PairWalk}
use Rattle.model.specs.Network.{Edge, network, edge, edge_count, max_seconds, timed_arcs}
use Rattle.model.specs.Query.{kind_between}
use Rattle.model.specs.declared.Kind.{Kind}
use Rattle.model.specs.declared.Kind.TheVariants.{Local}
use Rattle.model.specs.declared.Answer.{Answer}
use Rattle.demands.specs.Outcomes.{pairs_tried, timed}
use Rattle.sheet.specs.Sheet.{Line, Effect, Effect.delayed, lines_in, line_body, effect_of, NoneCloses, Last, effects}
use Rattle.sheet.specs.Under.{network_under, old_stands}

-- ---- the roads as a sheet leaves them

-- Edge e is road i of the file, with as many seconds more as the sheet adds.
pub record Left (effect : ℕ → Effect) (f : Bytes) (e : Edge) : Type 0 where
  pub i : ℕ
  pub is_road : i < edge_count (edge_body f)
  pub added : ℕ
  pub holds : effect i ≡ delayed added
  pub is : let r = edge (edge_body f) i in e ≡ record { first = r.first; second = r.second; seconds = r.seconds + added }

-- "The line that holds takes a road open in body 3 over 100,000 seconds"; body 3 is empty, so that all roads are open there.
pub record Slowed (f sheet : Bytes) : Type 0 where
  pub i : ℕ
  pub is_road : i < edge_count (edge_body f)
  pub unclosed : NoneCloses (lines_in (line_body sheet)) i
  pub line : Line
  pub last : Last (lines_in (line_body sheet)) i line
  pub added : ℕ
  pub delays : effect_of line ≡ delayed added
  pub over : max_seconds < (edge (edge_body f) i).seconds + added

-- What walks take under a sheet. An arc costs its seconds.
abbrev pub roads : Bytes → Bytes → List Arc
roads f sheet = timed_arcs (network_under (effects sheet) f)

-- ---- "its every step can still be driven in its old time": a step's old time is its old seconds, as each step is one road before and after

-- An arc from u to v that takes c seconds.
pub record Between (es : List Arc) (u v c : ℕ) : Type 0 where
  pub arc : Arc
  pub listed : Mem arc es
  pub starts : arc.from ≡ u
  pub ends : arc.to ≡ v
  pub cost : arc.cost ≡ c

-- The step from u to v takes as long over `new` as it took over `old`: by the same road or one beside it.
pub record Again (old new : List Arc) (u v : ℕ) : Type 0 where
  pub seconds : ℕ
  pub was : LeastOf (Between old u v) seconds
  pub still : Between new u v seconds

-- So does each step of a way that has a node at least.
unfoldable pub Driven : List Arc → List Arc → List ℕ → Type 0
Driven old new [] = ⊥
Driven old new (u ∷ []) = Unit {0}
Driven old new (u ∷ (v ∷ vs)) = Again old new u v × Driven old new (v ∷ vs)

-- ---- the answer under a sheet: where "the old answer stands with its kind and pairs", those; "otherwise .. local with 0 pairs"
abbrev pub kind_under : Bytes → Bytes → ℕ → ℕ → Kind
kind_under o sheet s t = cond (old_stands (effects sheet) o s t) (kind_between o s t) Local

abbrev pub pairs_under : Bytes → Bytes → ℕ → ℕ → ℕ
pairs_under o sheet s t = cond (old_stands (effects sheet) o s t) (pairs_tried (kind_between o s t) o s t) 0

-- Where the answer is a time, there is an old way.
abbrev pub HasWay : Bytes → ℕ → ℕ → Answer → Type 0
HasWay o s t b = (p : Pair) (pairs : ℕ) (kind : Kind) → b ≡ timed p kind pairs → (q : Pair) × PairWalk (timed_arcs (network o)) s t q
