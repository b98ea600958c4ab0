-- The far answer of a built oracle is the distance. Assumes nothing.
use Rattle.std.specs.Prelude.{ℕ, ◌*◌, ◌<◌, ◌≡◌, length}
use Rattle.std.proofs.Common.{sym, ◌∙◌}
use Rattle.std.proofs.Math.ListN.{length-map}
use Rattle.model.specs.Bytes.{Bytes}
use Rattle.model.specs.Contents.{transit_body, access_body, table_body}
use Rattle.model.specs.Distance.{Distance}
use Rattle.model.specs.Network.{network, order, distance}
use Rattle.model.specs.Grid.{cell_at, kind_of}
use Rattle.model.specs.Oracle.{oracle, access_list, transit_count}
use Rattle.model.specs.Query.{far_distance, far_answer, kind_between, answer, answer_of, time_answer}
use Rattle.theory.specs.ReadLaws.{entry_of}
use Rattle.model.specs.declared.Division.{Division}
use Rattle.model.specs.declared.Kind.TheVariants.{Far}
use Rattle.theory.specs.GridLaws.{far_gap}
use Rattle.theory.specs.FarGrid.{Apart}
use Rattle.theory.specs.FarModel.{far_model, col, row}
use Rattle.theory.specs.Built.{grid_of, cells_of, transit_of, access_of, Good, count_cells, list_built, far_sum, same_kind}

module _ (f : Bytes) (dv : Division) (good : Good f dv) where
  abbrev o : Bytes
  o = oracle f dv

  abbrev N : ℕ
  N = order (network f)

  abbrev d : ℕ → ℕ → Distance
  d = distance (network f)

  pub far_distance_law : (s t : ℕ) → s < N → t < N → Apart (col (network f) good.ends (cells_of f dv) (count_cells f dv))
      (row (network f) good.ends (cells_of f dv) (count_cells f dv)) (grid_of f dv).outer s t →
      far_distance (table_body o) (transit_count (transit_body o)) (access_list (access_body o) s) (access_list (access_body o) t) ≡ d s t
  far_distance_law s t hs ht apart = far_sum f dv good s t hs ht ∙ far_model (network f) good.ends (cells_of f dv) (count_cells f dv) (grid_of f dv) good.wide s t hs ht
      apart

  -- ---- the time

  apart : (s t : ℕ) → kind_of (grid_of f dv) (cell_at (cells_of f dv) s) (cell_at (cells_of f dv) t) ≡ Far
      → Apart (col (network f) good.ends (cells_of f dv) (count_cells f dv)) (row (network f) good.ends (cells_of f dv) (count_cells f dv))
      (grid_of f dv).outer s t
  apart s t e = (far_gap (grid_of f dv) (cell_at (cells_of f dv) s) (cell_at (cells_of f dv) t)).0 e

  pub time_far : (s t : ℕ) → s < N → t < N → kind_between o s t ≡ Far → time_answer o s t ≡ answer Far (length (access_of f dv s) * length (access_of f dv t))
      (d s t)
  unfolding time_answer far_answer answer_of
  time_far s t hs ht k =
      rw (
        k,
        far_distance_law s t hs ht (apart s t (sym (same_kind f dv good s t) ∙ k)),
        list_built f dv good s hs,
        list_built f dv good t ht,
        length-map (access_of f dv s)
            (entry_of d (transit_of f dv) s),
        length-map (access_of f dv t) (entry_of d (transit_of f dv) t),
      )
