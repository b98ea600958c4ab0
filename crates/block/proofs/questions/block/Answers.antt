-- `questions::block` meets its contract: rules 12 and 17 alone are left, and the search leaves the oracle opened.
use Rattle.reader.proofs.Kept.{none_broken, number_broken, some_rule}
use Rattle.block.proofs.Named.{sides_there, opened_refused, opened_given}
use Rattle.block.proofs.PartLaws.{keys_small}
use Rattle.opened.proofs.OpenLaws.{stays}
use mathlib.Core.Path.{refl}
use Rattle.block.proofs.questions.block.Goals as goal

pub returns-in-Err : goal.returns-in-Err
returns-in-Err c =
    let a = c.args in record {
      result = opened_refused a.o.now a.starts.now a.ends.now a.work.now c.requires _ (number_broken c.sides_refusal.ensures c.in-Err.is c.number.ensures)
          c.refused_block.result (some_rule c.in-Err.broken c.number.ensures) c.refused_block.ensures;
      opened = c.requires;
      rest = refl;
    }

pub keys_between-keys-requires : goal.keys_between-keys-requires
keys_between-keys-requires c =
    let a = c.args in
    let k = sides_there a.o.now a.starts.now a.ends.now a.work.now c.requires _ (none_broken c.sides_refusal.ensures c.in_default.is) refl in
    record { opened = (c.requires, k.named.firsts, k.named.seconds); starts_len_bound = (k.few_starts, k.few_ends) }

pub given_block-requires : goal.given_block-requires
given_block-requires c =
    let a = c.args in
    let k = sides_there a.o.now a.starts.now a.ends.now a.work.now c.requires _ (none_broken c.sides_refusal.ensures c.in_default.is) refl in
    rw c.keys_between-keys.ensures.keys (keys_small _ _ _ k.named)

pub returns : goal.returns
returns c =
    let a = c.args in
    let k = stays a.o.now a.work.now _ c.requires c.keys_between-keys.auto.work c.keys_between-keys.ensures.others in
    let (number, times, hops) = c.given_block.ensures in record {
      result = opened_given a.o.now a.starts.now a.ends.now a.work.now c.requires _ (none_broken c.sides_refusal.ensures c.in_default.is) c.given_block.result refl
          (record { keys = c.keys_between-keys.result; number = number; times = times; hops = hops; are = c.keys_between-keys.ensures.keys });
      opened = k.opened;
      rest = k.rest;
    }
