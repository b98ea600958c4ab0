-- `regions::clear` meets its contract: the times, the positions and the settled set, one after the other.
use mathlib.Core.Path.{◌∙◌}
use borrow.Author.Rules.{rules}
use Rattle.search.proofs.Begins.{clear_holds, clear_times, clear_settled}
use Rattle.search.proofs.regions.clear.Goals as goal

pub returns : goal.returns
returns c =
    let n = c.args.n in
    let ys = c.number.new.s in
    let zs = c.fill.new.self in
    let size = c.blank.auto.work ∙ c.requires.2 in
    let r = rw c.queue_words-m.ensures at (c.fill.ensures.after (search rules)) in
    record {
      holds = rw c.queue_words-m.ensures (clear_holds n c.requires.0 c.blank.new.work ys zs size c.blank.ensures c.number.ensures r c.requires.1);
      times = rw c.queue_words-m.ensures (clear_times n c.requires.0 c.blank.new.work ys zs size c.blank.ensures c.number.ensures);
      settled = rw c.queue_words-m.ensures (clear_settled n c.requires.0 c.blank.new.work ys zs size c.blank.ensures c.number.ensures r);
    }
