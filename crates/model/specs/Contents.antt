-- The contents of a file, its bodies, and rules 1 and 2. Assumes nothing.
-- "A network starts with byte 0, the edition (1), and byte 1, the number of contents entries (3). .. An oracle has the same form with 7 entries."
use Rattle.std.specs.Prelude.{ℕ, suc, ◌+◌, ◌*◌, Bool, not, ◌&&◌, ◌||◌, List, [], ◌∷◌, ◌++◌, map, length, eqb, ltb}
use Rattle.model.specs.Lists.{Part, gapless, all, up_to, concat}
use Rattle.model.specs.Bytes.{Bytes, byte, word32, bytes32, cut}

-- The editions and the numbers of entries.
abbrev pub network_edition : ℕ
network_edition = 1

abbrev pub network_entries : ℕ
network_entries = 3

-- "Oracles become edition 2", "Older oracles meet refusal 1" (T-07).
abbrev pub oracle_edition : ℕ
oracle_edition = 2

abbrev pub oracle_entries : ℕ
oracle_entries = 7

-- "Each entry has 9 bytes: kind (1 byte), offset from the file's start (4), length (4)."
pub record Entry : Type 0 where
  pub kind : ℕ
  pub offset : ℕ
  pub size : ℕ

-- The size of an entry, and of all that stands before the bodies: the edition, the number of entries, and the entries.
abbrev pub contents_entry_size : ℕ
contents_entry_size = 9

abbrev pub head_size : ℕ → ℕ
head_size entries = 2 + contents_entry_size * entries

abbrev pub network_head : ℕ
network_head = head_size network_entries

abbrev pub oracle_head : ℕ
oracle_head = head_size oracle_entries

-- Where entry k stands, from 0; and so, for the number of entries, where the first body does.
unfoldable pub entry_at : ℕ → ℕ
entry_at k = head_size k

unfoldable pub entry : Bytes → ℕ → Entry
entry f k = record { kind = byte f (entry_at k); offset = word32 f (entry_at k + 1); size = word32 f (entry_at k + 5) }

-- Body k, from 0.
unfoldable pub body_part : Bytes → ℕ → Part
body_part f k = record { start = (entry f k).offset; size = (entry f k).size }

unfoldable pub body : Bytes → ℕ → Bytes
body f k = cut (body_part f k) f

-- The bodies by name. Document 01 numbers them from 1 and says places (1), roads (2), closed roads (3), transit places (5).
-- The first three stand in a network and in an oracle alike.
abbrev pub node_body : Bytes → Bytes
node_body f = body f 0

abbrev pub edge_body : Bytes → Bytes
edge_body f = body f 1

abbrev pub closed_body : Bytes → Bytes
closed_body f = body f 2

abbrev pub grid_body : Bytes → Bytes
grid_body f = body f 3

abbrev pub transit_body : Bytes → Bytes
transit_body f = body f 4

abbrev pub access_body : Bytes → Bytes
access_body f = body f 5

abbrev pub table_body : Bytes → Bytes
table_body f = body f 6

-- Rule 1: "Fewer than 2 bytes, a wrong edition, a wrong entry count or an incomplete contents."
unfoldable pub contents_broken : ℕ → ℕ → Bytes → Bool
contents_broken edition entries f =
    ltb (length f) 2 || not (eqb (byte f 0) edition) || not (eqb (byte f 1) entries) || ltb (length f) (entry_at entries)

-- Rule 2: "A kind, offset or length that breaks the order or the joins of the bodies." "Kinds stand as 1, 2, 3 and so on.
-- The first body follows the contents directly, each next body follows the one before, and the last ends the file."
unfoldable pub of_its_kind : Bytes → ℕ → Bool
of_its_kind f k = eqb (entry f k).kind (k + 1)

unfoldable pub bodies_broken : ℕ → Bytes → Bool
bodies_broken entries f = not (all (of_its_kind f) (up_to entries) && gapless (entry_at entries) (map (body_part f) (up_to entries)) (length f))

-- The entries of bodies that follow one another from position `at`, the first of kind k + 1.
unfoldable pub entries : ℕ → ℕ → List Bytes → Bytes
entries k at [] = []
entries k at (b ∷ bs) = suc k ∷ (bytes32 at ++ bytes32 (length b) ++ entries (suc k) (at + length b) bs)

-- The file of an edition with these bodies.
unfoldable pub file : ℕ → List Bytes → Bytes
file edition bodies = edition ∷ (length bodies ∷ (entries 0 (entry_at (length bodies)) bodies ++ concat bodies))
