-- `square::inside` meets its contract.
use Rattle.std.proofs.Common.{ℕ, ltb, ap, arith}
use Rattle.grid.specs.Squares.{reaches}
use Rattle.grid.proofs.square.inside.Goals as goal

pub returns : goal.returns
unfolding reaches
returns c = ap (λ (n : ℕ). ltb n c.args.size) (omega arith)
