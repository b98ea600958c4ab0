-- `refusals::sheet_rule` meets its contract.
use Rattle.theory.specs.Passed.{all_shaped}
use Rattle.sheet.specs.BodyRules.{sheet_rules_law}
use Rattle.sheet.proofs.SlowLines.{quick}
use Rattle.under.proofs.refusals.sheet_rule.Goals as goal

pub sheet_refusal-requires : goal.sheet_refusal-requires
sheet_refusal-requires c =
    let sound = (all_shaped _ c.requires).sound in
    rw c.oracle_body.ensures (quick _ _ sound.some_edge)

pub returns : goal.returns
returns c = rw (
  sheet_rules_law c.args.o.now c.args.sheet.now,
  ← c.oracle_body.ensures,
) c.sheet_refusal.ensures
