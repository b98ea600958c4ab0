-- `rounds::round` meets its contract: a nearest node is settled, and no settled one is farther.
use borrow.Author.Rules.{rules}
use Rattle.arcs.proofs.Kept.{edges_kept}
use Rattle.search.proofs.Fronts.{round_holds, round_within, others}
use Rattle.search.proofs.rounds.round.Goals as goal

pub relax-requires : goal.relax-requires
relax-requires c =
    let a = c.args in
    let t = rw c.search_words-m.ensures at c.settle_nearest-u.ensures in
    let ys = c.settle_nearest-u.new.work in
    let k = rw c.search_words-m.ensures at c.settle_nearest-u.auto.work in record {
      holds = (
        rw c.search_words-m.ensures (round_holds a.n a.work.now ys (search rules) k a.k a.e _ t),
        t.near.inside,
        rw c.search_words-m.ensures (round_within a.n a.work.now ys (search rules) k a.k a.e _ t c.requires.holds.2),
      );
      edges_under = (
        rw c.search_words-m.ensures (edges_kept a.edges.now a.lines.now a.n a.work.now _
            (others a.n a.work.now ys (search rules) k) c.requires.edges_under.0),
        search rules,
      );
    }
