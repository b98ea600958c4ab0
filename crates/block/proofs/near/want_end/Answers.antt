-- `near::want_end` meets its contract: t was wanted already, is put there, or is not local.
use Rattle.block.proofs.NearLaws.{wants_same, wants_put, wanted_size, want_fits, want_has, want_lacks, want_put, want_only}
use Rattle.block.proofs.Entries.{local_told}
use native.Mathlib.Omega.{arith}
use mathlib.Core.Bool.{true≢false}
use mathlib.Core.Path.{refl, sym, ◌∙◌}
use Rattle.block.proofs.near.want_end.Goals as goal

pub has-requires : goal.has-requires
has-requires c = (omega (arith, c.node_count-n.ensures), want_fits _ _ c.node_count-n.ensures _ c.requires.0)

pub returns-then-has : goal.returns-then-has
returns-then-has c = record { wants = wants_same _ _ _ _ (λ l. want_has _ _ c.node_count-n.ensures _ _ c.requires.3 (sym c.has.ensures ∙ c.if-has.true)); others = refl }

pub put-requires : goal.put-requires
put-requires c = (omega (arith, c.node_count-n.ensures), want_fits _ _ c.node_count-n.ensures _ c.requires.0)

pub returns-then-is_local : goal.returns-then-is_local
returns-then-is_local c =
    let a = c.args in
    let local = local_told _ _ _ _ _ c.kind_in.ensures c.is_local.ensures ∙ c.if-is_local.true in
    let new = want_lacks _ _ c.node_count-n.ensures _ _ c.requires.3 (sym c.has.ensures ∙ c.if-has.false) in record { wants = wants_put _ _ _ _ local (rw (wanted_size a.o.now a.work.now) c.requires.3) new _ (want_put _ _ c.node_count-n.ensures _ _ a.t c.put.ensures.members); others = want_only _ _ c.node_count-n.ensures _ _ c.put.ensures.others }

pub returns : goal.returns
returns c =
    let far = local_told _ _ _ _ _ c.kind_in.ensures c.is_local.ensures ∙ c.if-is_local.false in
    record { wants = wants_same _ _ _ _ (λ l. absurd (true≢false (sym l ∙ far))); others = refl }
