-- `contents::read` meets its contract. The loop keeps that the steps that are left make the contents.
use native.Mathlib.Omega.{arith}
use Rattle.model.specs.Contents.{entry_at}
use Rattle.contents.proofs.Steps.{left_all, left_next, left_none}
use Rattle.contents.proofs.read.Goals as goal

pub loop-i-init : goal.loop-i-init
loop-i-init c = left_all _ _ _ c.requires.0 c.new-c.ensures

pub next-c-requires : goal.next-c-requires
unfolding entry_at
next-c-requires c = omega arith

pub loop-i-preserved : goal.loop-i-preserved
loop-i-preserved c = left_next _ _ _ _ _ c.loop-i-test.true c.loop-i.invariant c.next-c.ensures.0 c.next-c.ensures.1

pub returns : goal.returns
returns c = left_none _ _ _ _ (omega arith) c.loop-i.invariant
