-- What reading makes of the contents record, step by step. Assumes nothing.
use Rattle.std.specs.Prelude.{ℕ, zero, suc, ◌+◌, ◌*◌, ◌<◌, ◌≤◌, ◌≡◌, Bool, false, ◌&&◌, cond, set, replicate, eqb}
use Rattle.model.specs.Bytes.{Bytes}
use Rattle.model.specs.Contents.{entry, entry_at, of_its_kind, bodies_broken, oracle_entries}
use Rattle.contents.specs.declared.Entry.{Entry}
use Rattle.contents.specs.declared.Contents.{Contents}

abbrev pub no_entry : Entry
no_entry = record { kind = 0; offset = 0; size = 0 }

-- Entry k of the file, as the record holds it.
unfoldable pub held : Bytes → ℕ → Entry
held f k = record { kind = (entry f k).kind; offset = (entry f k).offset; size = (entry f k).size }

-- No entry yet: the first body is to follow the contents directly.
unfoldable pub no_contents : ℕ → Contents
no_contents entries = record { entries = replicate oracle_entries no_entry; count = 0; end = entry_at entries }

-- The next entry is of its kind, and its body starts where the one before ends.
unfoldable pub follows : Bytes → Contents → Bool
follows f c = of_its_kind f c.count && eqb (entry f c.count).offset c.end

-- With one entry more.
unfoldable pub extended : Bytes → Contents → Contents
extended f c = record { entries = set c.entries c.count (held f c.count); count = c.count + 1; end = c.end + (entry f c.count).size }

unfoldable pub read_next : Bytes → Contents → Contents
read_next f c = cond (follows f c) (extended f c) c

unfoldable pub read_steps : ℕ → Bytes → Contents → Contents
read_steps zero f c = c
read_steps (suc n) f c = read_steps n f (read_next f c)

-- The contents of a file with this number of entries: whole, or up to the first entry that does not follow.
unfoldable pub contents_of : ℕ → Bytes → Contents
contents_of entries f = read_steps entries f (no_contents entries)

-- Each entry moves the end by less than 2 ^ 32, so that no sum of them wraps.
abbrev pub InRange : Contents → Type 0
InRange c = c.end ≤ 4294967296 * (c.count + 1)

-- The contents was read from the file, which keeps rule 2 and has a body k.
pub record HasBody (f : Bytes) (c : Contents) (k : ℕ) : Type 0 where
  pub entries : ℕ
  pub few : entries ≤ oracle_entries
  pub below : k < entries
  pub read : c ≡ contents_of entries f
  pub joined : bodies_broken entries f ≡ false

-- It has every body of a file with this number of entries.
abbrev pub HasBodies : ℕ → Bytes → Contents → Type 0
HasBodies entries f c = (k : ℕ) → k < entries → HasBody f c k
