-- `regions::span_count` meets its contract: there is room for a span.
use native.Mathlib.Omega.{arith}
use mathlib.Core.Path.{◌≡◌}
use Rattle.words.specs.Regions.{index_at, place_at}
use Rattle.words.proofs.Windows.{room_left}
use Rattle.words.proofs.regions.span_count.Goals as goal

pub returns : goal.returns
returns c =
    let n = c.args.n in
    let place : index_at n ≡ place_at n = omega arith in
    let room = (room_left n c.requires.0).1 in
    rw (c.index_at.ensures, c.spans_at.ensures, ← place) (omega arith, omega arith)
