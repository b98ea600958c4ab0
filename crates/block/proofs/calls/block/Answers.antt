-- `calls::block` meets its contract.
use Rattle.reader.proofs.Kept.{none_broken, number_broken, some_rule}
use mathlib.Core.Path.{sym, ◌∙◌, refl}
use Rattle.opened.proofs.OpenLaws.{stays}
use Rattle.block.proofs.Named.{block_refused, block_given}
use Rattle.block.proofs.PartLaws.{keys_small}
use Rattle.block.proofs.Kept.{block_kept}
use Rattle.block.proofs.calls.block.Goals as goal

pub returns-in-Err : goal.returns-in-Err
returns-in-Err c = block_refused _ _ _ _ _ (number_broken c.block_refusal.ensures c.in-Err.is c.number.ensures) c.refused_block.result (some_rule c.in-Err.broken c.number.ensures) c.refused_block.ensures

pub open_words-requires : goal.open_words-requires
open_words-requires c =
    let k = block_kept _ _ _ _ (sym (none_broken c.block_refusal.ensures c.in_default.is)) in
    (k.named.shape, k.enough)

pub keys_between-keys-requires : goal.keys_between-keys-requires
keys_between-keys-requires c =
    let k = block_kept _ _ _ _ (sym (none_broken c.block_refusal.ensures c.in_default.is)) in
    record { opened = (c.open_words.ensures.opened, k.named.firsts, k.named.seconds); starts_len_bound = (k.few_starts, k.few_ends) }

pub given_block-requires : goal.given_block-requires
given_block-requires c =
    let k = block_kept _ _ _ _ (sym (none_broken c.block_refusal.ensures c.in_default.is)) in
    rw c.keys_between-keys.ensures.keys (keys_small _ _ _ k.named)

pub returns : goal.returns
returns c =
    let k = stays _ _ _ c.open_words.ensures.opened c.keys_between-keys.auto.work c.keys_between-keys.ensures.others in
    let (p, q, r) = c.given_block.ensures in
    block_given _ _ _ _ _ (none_broken c.block_refusal.ensures c.in_default.is) c.given_block.result _ _ refl
    (record { keys = c.keys_between-keys.result; number = p; times = q; hops = r; are = c.keys_between-keys.ensures.keys })
    (k.rest ∙ c.open_words.ensures.rest) c.zero_words.ensures
