-- `local::want_only` meets its contract.
use Rattle.opened.proofs.OpenLaws.{want_single, want_others}
use Rattle.opened.proofs.local.want_only.Goals as goal

pub returns : goal.returns
returns c =
    let a = c.args in
    record { members = want_single a.n a.t _ _ c.clear.ensures.members c.put.ensures.members; others = want_others a.n a.work.now _ _ c.clear.ensures.others c.put.ensures.others }
