-- What the code reads of a word of the index. Assumes nothing.
use Rattle.std.specs.Prelude.{ℕ, ◌<◌, ◌≡◌, List}
use Rattle.index.specs.Index.{next, block}
use Rattle.index.specs.declared.positions.Entry.{Entry}

pub record ReadAt (ix : List ℕ) (p : ℕ) (e : Entry) : Type 0 where
  pub block : e.block ≡ block ix p
  pub next : e.next ≡ next ix p
  pub low : e.block < 65536
