-- The number and the distance of an answer that is no refusal. Assumes nothing.
use Rattle.std.specs.Prelude.{ℕ, ◌≡◌, refl}
use Rattle.std.proofs.Common.{arith, ap}
use Rattle.model.specs.Distance.{Distance, unreachable, finite}
use Rattle.model.specs.Query.{answer, rule_of, distance_of}
use Rattle.model.specs.declared.Kind.{Kind}

pub rule_of_law : (k : Kind) (n : ℕ) (x : Distance) → rule_of (answer k n x) ≡ 0
unfolding answer rule_of
rule_of_law k n unreachable = refl
rule_of_law k n (finite m) = refl

pub distance_of_law : (k : Kind) (n : ℕ) (x : Distance) → distance_of (answer k n x) ≡ x
unfolding answer distance_of
distance_of_law k n unreachable = refl
distance_of_law k n (finite m) = ap finite (omega arith)
