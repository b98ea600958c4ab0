-- The starts of the lists, from the numbers of entries in region COUNTS. Assumes nothing.
use Prim.Native.Nat.{ℕ, ◌*◌, ◌≤◌, ◌<◌}
use native.Mathlib.Omega.{arith}
use mathlib.Core.Path.{◌≡◌, sym, ◌∙◌, ap}
use mathlib.Core.List.{List, ◌++◌}
use lib.ListN.{length, take, drop, length-append, length-drop}
use lib.Seq.{length-take-le, take_at}
use Rattle.model.specs.Bytes.{Bytes}
use Rattle.model.specs.Oracle.{start_size}
use Rattle.grid.specs.declared.Grid.{Grid}
use Rattle.words.specs.Halves.{half, half_words}
use Rattle.words.specs.Regions.{region_at, counts_in, counts}
use Rattle.emit.specs.Parts.{Counted, starts_of, list_sizes}
use Rattle.emit.specs.PartLaws.{starts_lists}
use Rattle.passes.specs.Building.{access_of, list_in}
use Rattle.passes.specs.Stands.{whole, front, length_front, length_whole}
use Rattle.passes.specs.BuildingLaws.{access_few}
use Rattle.passes.proofs.Counting.{count_in}
use Rattle.bodies.specs.Listed.{Based, Begun, Counts}
use Rattle.bodies.proofs.CellLists.{length_its}

module _ (b e : Bytes) (grid : Grid) (n : ℕ) (work : List ℕ) (based : Based b e grid n work) (all : Counts b e grid n work) where
  pub count_is : (v : ℕ) → v < n → half (counts_in n work) v ≡ length (access_of b e grid v)
  count_is v h = count_in n work v h ∙ all v h

  pub counted_all : Counted n (counts_in n work)
  counted_all = (
    based.few,
    omega (
      arith,
      based.words,
      based.some,
      length-drop (region_at n counts) work,
      length-take-le (half_words n) (drop (region_at n counts) work)
          (simp length-drop (omega (arith, based.words, based.some))),
    ),
    λ v h. omega (arith, count_is v h, based.few, access_few b e grid n based.count v),
  )

  starts_are : starts_of (start_size * n) (list_sizes n (counts_in n work)) ≡ front n (list_in b e grid)
  starts_are = sym (starts_lists (list_in b e grid) n (counts_in n work) (λ v h. length_its b e grid n v ∙ rw (count_is v h)))

  module _ (body : Bytes) (size : length body ≡ length (whole n (list_in b e grid))) where
    pub starts_fit : start_size * n ≤ length body
    starts_fit = omega (arith, size, length_whole n (list_in b e grid))

    pub begun_first : (new : Bytes) → new ≡ starts_of (start_size * n) (list_sizes n (counts_in n work)) ++ drop (start_size * n) body
        → length body < 4294967296 → Begun n (list_in b e grid) new
    begun_first new put small =
        let list = list_in b e grid in
        let is : new ≡ front n list ++ drop (start_size * n) body = put ∙ rw starts_are in
        let long : start_size * n ≤ length body = starts_fit in
        record {
          size =
              ap length is ∙
              (length-append (front n list) (drop (start_size * n) body) ∙ omega (arith, length_front n list, length-drop (start_size * n) body, size));
          small = omega (arith, size);
          starts = ap (take (start_size * n)) is ∙ take_at (front n list) (drop (start_size * n) body) (start_size * n) (length_front n list);
        }
