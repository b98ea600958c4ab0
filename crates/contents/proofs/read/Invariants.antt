-- `contents::read` meets its contract. The loop keeps that the steps that are left make the contents.
use Rattle.contents.proofs.Steps.{Left}
use Rattle.contents.proofs.read.Given as goal

abbrev pub invariant-loop-i : goal.invariant-loop-i
invariant-loop-i l = Left l.f l.entries l.i l.c
