-- `grid::Grid::reach` meets its contract.
use Rattle.std.proofs.Common.{◌≡◌, ℕ, ◌+◌, ◌-◌, ap, ◌∙◌, arith}
use Rattle.grid.specs.Squares.{start_of}
use Rattle.grid.proofs.Reached.{start_rises}
use Rattle.grid.proofs.Grid.reach.Goals as goal

pub returns : goal.returns
returns c =
    let a = c.args in
    let first : c.from.result ≡ a.k - a.r = omega arith in
    let past : c.from-2.result + c.from-3.result + 1 ≡ a.k + a.r + 1 = omega arith in
    let l = c.start.ensures.0 ∙ ap (λ (n : ℕ). start_of a.self n) first in
    let h = c.start-2.ensures.0 ∙ ap (λ (n : ℕ). start_of a.self n) past in
    (l, h, omega (arith, l, h, start_rises a.self c.requires (a.k - a.r) (a.k + a.r + 1) (omega arith)), c.start-2.ensures.1)
