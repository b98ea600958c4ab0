-- `regions::plain_order` meets its contract: the part is the order.
use Rattle.search.proofs.Views.{plain_times, plain_is}
use Rattle.search.proofs.regions.plain_order.Goals as goal

pub returns : goal.returns
returns c =
    let a = c.args in
    let ys = c.strip.new.s in record { times = plain_times a.n a.e a.work.now ys c.requires.0 c.requires.1 c.strip.auto.s; order = plain_is a.n a.e a.work.now ys c.requires.0 c.requires.1 c.strip.ensures }
