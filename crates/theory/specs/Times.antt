-- The time that a built oracle answers is the distance, for every accepted network, grid and pair. Assumes nothing.
use Rattle.std.specs.Prelude.{ℕ, ◌<◌, ◌≡◌, refl, true}
use Rattle.std.proofs.Common.{◌∙◌, le-leb, arith}
use Rattle.model.specs.Bytes.{Bytes}
use Rattle.model.specs.Distance.{finite}
use Rattle.model.specs.Network.{network, order, distance}
use Rattle.model.specs.Oracle.{oracle}
use Rattle.model.specs.Query.{kind_between, time_answer, answer}
use Rattle.model.specs.Rules.{accepted}
use Rattle.model.specs.declared.Division.{Division}
use Rattle.model.specs.declared.Kind.TheVariants.{Local}
use Rattle.theory.specs.FarModel.{distance_itself}
use Rattle.theory.specs.Built.{Good, time_local, same_kind, grid_of, cells_of}
use Rattle.theory.specs.Passed.{all_passed}
use Rattle.theory.specs.Accepted.{good}
use Rattle.model.specs.Grid.{Grid, Cell, kind_of, within, gap, cell_at}
use Rattle.model.specs.declared.Answer.TheVariants.{Time}

gap_zero : (a : ℕ) → gap a a ≡ 0
unfolding gap
gap_zero a = omega arith

pub kind_itself : (grid : Grid) (c : Cell) → kind_of grid c c ≡ Local
unfolding kind_of within
kind_itself grid c = rw (gap_zero c.column, gap_zero c.row, le-leb 0 grid.outer (omega arith))

-- One node twice: no cell is far from itself, and the walk with no arc takes no time.
pub time_itself : (f : Bytes) (dv : Division) → accepted f dv ≡ true → (s : ℕ) → s < order (network f) → time_answer (oracle f dv) s s ≡ Time 0 0 Local 0
time_itself f dv ok s h = time_local f dv good_f s s local ∙ rw none_left (unfold answer in refl)
  where
    good_f : Good f dv
    good_f = good f dv (all_passed f dv ok)

    local : kind_between (oracle f dv) s s ≡ Local
    local = same_kind f dv good_f s s ∙ kind_itself (grid_of f dv) (cell_at (cells_of f dv) s)

    none_left : distance (network f) s s ≡ finite 0
    none_left = distance_itself (network f) good_f.ends s h
