-- The entries of a list, with a running rank as the index of each access node. Assumes nothing.
use Prim.Native.Nat.{ℕ, ◌+◌, ◌<◌}
use mathlib.Core.Path.{◌≡◌, sym, ◌∙◌, ap}
use mathlib.Core.Bool.{true, false}
use mathlib.Core.List.{List, ◌++◌}
use lib.ListN.{length}
use Rattle.model.specs.Lists.{index_of}
use Rattle.model.specs.Bytes.{Bytes, bytes16}
use Rattle.bitset.specs.Bits.{is_in}
use Rattle.bitset.specs.Members.{members_of}
use Rattle.words.specs.Regions.{times_in}
use Rattle.emit.specs.Members.{Among}
use Rattle.emit.specs.Parts.{indexed_bytes, list_bytes_of}
use Rattle.emit.proofs.Writing.{Then}
use Rattle.emit.proofs.Turns.{members_from, members_all, member_in, member_out}
use Rattle.bitset.proofs.Ranks.{rank_index}

module _ (n : ℕ) (access transit work : List ℕ) where
  abbrev times : List ℕ
  times = times_in n work

  -- The entry of each access node.
  abbrev pub entry_for : ℕ → Bytes
  entry_for a = indexed_bytes times (index_of a (members_of n transit)) a

  abbrev pub entries_from : ℕ → Bytes
  entries_from v = members_from entry_for access n v

  abbrev pub list_for : Bytes
  list_for = list_bytes_of times (members_of n transit) (members_of n access)

  module _ (count : ℕ) (e : count ≡ length (members_of n access)) where
    pub list_count : Then list_for (bytes16 count) (entries_from 0)
    unfolding list_bytes_of
    list_count = record { is = rw (← e) (ap (λ (r : Bytes). bytes16 count ++ r) (members_all entry_for access n)) }

  -- Node v is an access node with this index, or none.
  pub entry_in : (v rank : ℕ) → v < n → Among n access transit → rank ≡ length (members_of v transit) → is_in access v ≡ true
      → Then (entries_from v) (indexed_bytes times rank v) (entries_from (v + 1))
  entry_in v rank h among e q = record {
    is = (member_in entry_for access n v h q).is
        ∙ ap (λ (i : ℕ). indexed_bytes times i v ++ entries_from (v + 1)) (rank_index transit n v h (among v h q) ∙ sym e);
  }

  pub entry_out : (v : ℕ) → v < n → is_in access v ≡ false → entries_from v ≡ entries_from (v + 1)
  entry_out v h q = member_out entry_for access n v h q
