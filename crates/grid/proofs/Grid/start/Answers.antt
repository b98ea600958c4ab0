-- `grid::Grid::start` meets its contract.
use Rattle.std.proofs.Common.{◌≡◌, min, arith}
use Rattle.grid.proofs.Reached.{start_fits, start_read}
use Rattle.grid.proofs.Grid.start.Goals as goal

pub overflow_mul-result : goal.overflow_mul-result
overflow_mul-result c =
    let cut : c.min-k.result ≡ min c.args.k c.args.self.g = omega arith in
    omega (arith, start_fits _ c.requires _ _ cut)

pub overflow_add-result-2 : goal.overflow_add-result-2
overflow_add-result-2 c =
    let cut : c.min-k.result ≡ min c.args.k c.args.self.g = omega arith in
    omega (arith, start_fits _ c.requires _ _ cut)

pub returns : goal.returns
returns c =
    let a = c.args in
    let cut : c.min-k.result ≡ min a.k a.self.g = omega arith in
    start_read a.self c.requires a.k c.min-k.result cut
