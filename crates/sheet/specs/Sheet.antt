-- A day sheet (document 02, T-03 and T-05): its lines, which of them holds for an edge, and rules 18 and 19. Assumes nothing.
use Rattle.std.specs.Prelude.{ℕ, ◌+◌, ◌*◌, ◌/◌, ◌%◌, ◌≡◌, Bool, false, not, ◌&&◌, ◌||◌, cond, length, eqb, leb}
use mathlib.Core.List.{List, [], ◌∷◌, ◌++◌, map, Memᴰ}
use Rattle.model.specs.Lists.{gapless, any, filter, concat_map, up_to}
use Rattle.model.specs.Bytes.{Bytes, byte, word16, word32, bytes16, bytes32}
use Rattle.model.specs.Contents.{entry, entry_at, body_part, body, entries, contents_broken}

-- "A sheet has the contents-first form: edition 1, one entry of kind 8, and a body of 7-byte lines."
abbrev pub sheet_edition : ℕ
sheet_edition = 1

abbrev pub sheet_entries : ℕ
sheet_entries = 1

abbrev pub sheet_kind : ℕ
sheet_kind = 8

abbrev pub line_size : ℕ
line_size = 7

-- "A byte (1 closed, 2 delayed), a 16-bit road, 32-bit added seconds."
abbrev pub closed_byte : ℕ
closed_byte = 1

abbrev pub delayed_byte : ℕ
delayed_byte = 2

pub record Line : Type 0 where
  pub status : ℕ
  pub edge : ℕ
  pub added : ℕ

-- Line k of a body of lines, their number, and all of them.
unfoldable pub line : Bytes → ℕ → Line
line b k = record { status = byte b (line_size * k); edge = word16 b (line_size * k + 1); added = word32 b (line_size * k + 3) }

unfoldable pub line_count : Bytes → ℕ
line_count b = length b / line_size

unfoldable pub lines_in : Bytes → List Line
lines_in b = map (line b) (up_to (line_count b))

-- The body of a sheet.
abbrev pub line_body : Bytes → Bytes
line_body sheet = body sheet 0

-- A line as bytes, and the sheet of these lines.
unfoldable pub line_bytes : Line → Bytes
line_bytes l = l.status ∷ (bytes16 l.edge ++ bytes32 l.added)

unfoldable pub sheet_file : Bytes → Bytes
sheet_file b = sheet_edition ∷ (sheet_entries ∷ (entries 7 (entry_at sheet_entries) (b ∷ []) ++ b))

unfoldable pub sheet_of : List Line → Bytes
sheet_of ls = sheet_file (concat_map line_bytes ls)

-- ---- what a sheet does to an edge

-- It closes the edge, or adds seconds to it (0 where it leaves the edge as it is).
pub data Effect : Type 0 where
  shut : Effect
  delayed : ℕ → Effect

unfoldable pub closes : Line → Bool
closes l = eqb l.status closed_byte

unfoldable pub effect_of : Line → Effect
effect_of l = cond (closes l) shut (delayed l.added)

-- The lines about edge i.
unfoldable pub is_about : ℕ → Line → Bool
is_about i l = eqb l.edge i

unfoldable pub about : List Line → ℕ → List Line
about ls i = filter (is_about i) ls

-- The effect of the last of these lines, or x where there is none.
unfoldable pub last_effect : Effect → List Line → Effect
last_effect x [] = x
last_effect x (l ∷ ls) = last_effect (effect_of l) ls

-- "Any closure in a sheet holds over every delay for that road; among delays the last still holds" (T-05). What the lines do to edge i.
unfoldable pub holds : List Line → ℕ → Effect
holds ls i = cond (any closes (about ls i)) shut (last_effect (delayed 0) (about ls i))

-- The same in words, for statements: no line closes edge i ..
abbrev pub NoneCloses : List Line → ℕ → Type 0
NoneCloses ls i = (k : Line) → Memᴰ k ls → k.edge ≡ i → closes k ≡ false

-- .. and l is about edge i, and no line after it is.
pub record Last (ls : List Line) (i : ℕ) (l : Line) : Type 0 where
  pub before : List Line
  pub after : List Line
  pub all : ls ≡ before ++ (l ∷ after)
  pub named : l.edge ≡ i
  pub others : (k : Line) → Memᴰ k after → k.edge ≡ i → ⊥

-- What a sheet does to edge i.
unfoldable pub effects : Bytes → ℕ → Effect
effects sheet = holds (lines_in (line_body sheet))

-- ---- the rules of a sheet

-- Rule 18: "when the sheet's form or a line's first byte or closed seconds are wrong".
unfoldable pub form_broken : Bytes → Bool
form_broken sheet =
    contents_broken sheet_edition sheet_entries sheet || not (eqb (entry sheet 0).kind sheet_kind) ||
    not (gapless (entry_at sheet_entries) (body_part sheet 0 ∷ []) (length sheet)) || not (eqb (length (line_body sheet) % line_size) 0)

unfoldable pub line_broken : Line → Bool
line_broken l = not (eqb l.status closed_byte || eqb l.status delayed_byte) || (closes l && not (eqb l.added 0))

unfoldable pub sheet_broken : Bytes → Bool
sheet_broken sheet = form_broken sheet || any line_broken (lines_in (line_body sheet))

-- Rule 19: "when a line names no road", of which there are m.
unfoldable pub names_none : ℕ → Line → Bool
names_none m l = leb m l.edge

unfoldable pub names_broken : ℕ → Bytes → Bool
names_broken m sheet = any (names_none m) (lines_in (line_body sheet))
