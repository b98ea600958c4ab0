-- `near::want_near` meets its contract: s first, then end by end.
use Rattle.checks.proofs.NameLists.{named_there}
use Rattle.block.proofs.NearLaws.{wants_all, want_fits, want_only, want_first}
use Rattle.opened.proofs.OpenLaws.{opened_kept}
use native.Mathlib.Omega.{arith}
use lib.ListN.{length}
use mathlib.Core.Path.{◌≡◌, refl, ◌∙◌}
use borrow.Author.Rules.{rules}
use Rattle.block.proofs.near.want_near.Goals as goal

pub clear-requires : goal.clear-requires
clear-requires c = want_fits _ _ c.node_count-n.ensures _ c.requires.0

pub put-requires : goal.put-requires
put-requires c = (omega (arith, c.node_count-n.ensures), omega (arith, want_fits _ _ c.node_count-n.ensures _ c.requires.0, c.clear.auto.work))

pub loop-t-init : goal.loop-t-init
loop-t-init c =
    let a = c.args in
    let back = want_only _ _ c.node_count-n.ensures _ _ c.put.ensures.others ∙ want_only _ _ c.node_count-n.ensures a.work.now _ c.clear.ensures.others in
    let wants = want_first _ _ c.node_count-n.ensures a.work.now _ _ a.s a.ends.now (omega (arith, c.node_count-n.ensures, c.requires.2)) c.clear.ensures.members c.put.ensures.members in
    (omega arith, opened_kept _ _ _ c.requires.0 (search rules) back, wants, refl, refl)

pub overflow_cast-t : goal.overflow_cast-t
overflow_cast-t c = omega arith

pub want_end-left-requires : goal.want_end-left-requires
want_end-left-requires c = (c.loop-t.invariant.1, c.requires.1, c.requires.2, named_there _ _ _ c.loop-t-test.true c.requires.3)

pub overflow_add-left : goal.overflow_add-left
overflow_add-left c =
    let a = c.args in
    omega (arith, (c.want_end-left.ensures.wants a.ends.now c.loop-t.t-index c.loop-t.left refl c.loop-t.invariant.2).fits)

pub loop-t-preserved : goal.loop-t-preserved
loop-t-preserved c =
    let a = c.args in
    (omega arith, opened_kept _ _ _ c.loop-t.invariant.1 (search rules) c.want_end-left.ensures.others, c.want_end-left.ensures.wants a.ends.now c.loop-t.t-index c.loop-t.left refl c.loop-t.invariant.2, search rules, c.want_end-left.ensures.others ∙ c.loop-t.invariant.4)

pub returns : goal.returns
returns c =
    let a = c.args in
    let k : c.loop-t.t-index ≡ length a.ends.now = omega arith in
    record { wants = wants_all _ _ _ _ _ _ k c.loop-t.invariant.2; others = c.loop-t.invariant.4 ∙ (want_only _ _ c.node_count-n.ensures _ _ c.put.ensures.others ∙ want_only _ _ c.node_count-n.ensures a.work.now _ c.clear.ensures.others) }
