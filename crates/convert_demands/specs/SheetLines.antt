-- A converted sheet: its lines are read back, and do to an edge's new number what the old lines did to the edge. Assumes nothing.
use Rattle.std.specs.Prelude.{ℕ, suc, ◌+◌, ◌*◌, ◌/◌, ◌%◌, ◌<◌, ◌≡◌, Bool, get_or, drop}
use native.Mathlib.Omega.{arith}
use Rattle.std.proofs.Common.{zero-add, sym, ◌∙◌, true≢false, get_or-drop}
use Rattle.std.proofs.Math.Path.{refl, ap}
use Rattle.std.proofs.Math.Bool.{true, false, cond}
use mathlib.Core.List.{List, [], ◌∷◌, ◌++◌, map, Memᴰ}
use Rattle.std.proofs.Math.ListN.{length}
use Rattle.std.proofs.Math.Seq.{take-length}
use Rattle.std.proofs.Math.Dec.{eqb}
use borrow.Author.Tests.{le-ltb, eq-eqb}
use Rattle.model.specs.Lists.{gapless, any, filter, concat_map, rising}
use Rattle.model.specs.Bytes.{Bytes, byte, word16, word32, bytes16, bytes32, cut}
use Rattle.model.specs.Contents.{entry, entry_at, body_part, body, entries, contents_broken}
use Rattle.theory.specs.Tests.{eqb-true}
use Rattle.theory.specs.ReadLaws.{word16_drop, word32_drop, length_concat_map, drop_concat_map, map_range}
use Rattle.theory.specs.Members.{get_d_mem}
use Rattle.sheet.specs.Sheet.{Line, Effect, Effect.delayed, line, line_count, lines_in, line_body, line_bytes, sheet_file, closes, effect_of}
use Rattle.sheet.specs.Sheet.{is_about, about, last_effect, holds, form_broken}
use Rattle.convert.specs.Old.{is_open}
use Rattle.convert.specs.Convert.{new_number, is_kept, renumbered, kept_lines}
use Rattle.convert.proofs.Counts.{new_same}

-- ---- lines that were written are read back
pub line_size : (l : Line) → length (line_bytes l) ≡ 7
unfolding line_bytes bytes16 bytes32
line_size l = refl

-- A line that its bytes can hold.
abbrev pub Fits : Line → Type 0
Fits l = (l.edge < 65536) × (l.added < 4294967296)

no_line : Line
no_line = record { status = 0; edge = 0; added = 0 }

line_read : (ls : List Line) (j : ℕ) → j < length ls → Fits (get_or ls j no_line) → line (concat_map line_bytes ls) j ≡ get_or ls j no_line
unfolding line
line_read ls j h fits = λ i. record { status = p i; edge = q i; added = r i }
  where
    b : Bytes
    b = concat_map line_bytes ls

    l : Line
    l = get_or ls j no_line

    rest : Bytes
    rest = concat_map line_bytes (drop (suc j) ls)

    from : drop (7 * j) b ≡ line_bytes l ++ rest
    from = drop_concat_map line_bytes 7 line_size j ls no_line h

    p : byte b (7 * j) ≡ l.status
    p = let z : 7 * j ≡ 7 * j + 0 = omega arith in rw z (sym (get_or-drop (7 * j) b 0 0) ∙ rw from (unfold line_bytes in refl))

    q : word16 b (7 * j + 1) ≡ l.edge
    q = word16_drop b (7 * j) 1 ∙ rw from (unfold line_bytes word16 bytes16 in omega (arith, fits.0))

    r : word32 b (7 * j + 3) ≡ l.added
    r = word32_drop b (7 * j) 3 ∙ rw from (unfold line_bytes word32 word16 bytes16 bytes32 in omega (arith, fits.1))

map_itself : {A : Type 0} (l : List A) → map (λ x. x) l ≡ l
map_itself [] = refl
map_itself (x ∷ l) = ap (λ r. x ∷ r) (map_itself l)

pub lines_read : (ls : List Line) → ((l : Line) → Memᴰ l ls → Fits l) → lines_in (concat_map line_bytes ls) ≡ ls
unfolding lines_in line_count
lines_read ls fits =
    let count : length (concat_map line_bytes ls) / 7 ≡ length ls = omega (arith, length_concat_map line_bytes 7 line_size ls) in
    rw count
    (map_range (line (concat_map line_bytes ls)) (λ x. x) no_line 0 ls
    (λ i q. rw zero-add (line_read ls i q (fits (get_or ls i no_line) (get_d_mem ls i no_line q)))) ∙ map_itself ls)

-- ---- the file
module _ (b : Bytes) (small : length b < 4294967296) where
  entry_read : entry (sheet_file b) 0 ≡ record { kind = 8; offset = 11; size = length b }
  unfolding entry entry_at sheet_file entries bytes32 bytes16 word32 word16
  entry_read = λ i. record { kind = 8; offset = 11; size = size i }
    where
      size : word32 (sheet_file b) 7 ≡ length b
      size = unfold sheet_file entries bytes32 bytes16 word32 word16 in omega arith

  pub body_read : line_body (sheet_file b) ≡ b
  unfolding body body_part cut
  body_read = rw entry_read (unfold sheet_file entries bytes32 bytes16 in take-length b)

  length_sheet : length (sheet_file b) ≡ 11 + length b
  unfolding sheet_file entries bytes32 bytes16
  length_sheet = omega arith

  pub form_fine : length b % 7 ≡ 0 → form_broken (sheet_file b) ≡ false
  unfolding form_broken contents_broken body_part gapless entry_at
  form_fine h =
      rw (
        entry_read,
        body_read,
        length_sheet,
        eq-eqb (length b % 7) 0 h,
        le-ltb (11 + length b) 2 (omega arith),
        le-ltb (11 + length b) 11 (omega arith),
        eq-eqb (11 + length b) (11 + length b) refl,
      )
      (unfold sheet_file in refl)

-- ---- what renumbered lines do
module _ (closed : List ℕ) (rises : rising closed ≡ true) where
  abbrev renewed : List Line → List Line
  renewed ls = map (renumbered closed) (filter (is_kept closed) ls)

  -- The lines about an open edge are kept, and about no other.
  about_kept : (i : ℕ) → is_open closed i ≡ true → (ls : List Line) → about (kept_lines closed ls) (new_number closed i) ≡ map (renumbered closed) (about ls i)
  unfolding about kept_lines filter is_kept is_about renumbered
  about_kept i o [] = refl
  about_kept i o (l ∷ ls) = step (is_open closed l.edge) refl (eqb l.edge i) refl (about_kept i o ls)
    where
      step : (b : Bool) → is_open closed l.edge ≡ b → (c : Bool) → eqb l.edge i ≡ c
          → filter (is_about (new_number closed i)) (renewed ls) ≡ map (renumbered closed) (filter (is_about i) ls)
          → filter (is_about (new_number closed i)) (map (renumbered closed) (cond b (l ∷ filter (is_kept closed) ls) (filter (is_kept closed) ls)))
          ≡ map (renumbered closed) (cond c (l ∷ filter (is_about i) ls) (filter (is_about i) ls))
      step false p true q rest = absurd (true≢false (sym o ∙ (ap (is_open closed) (sym (eqb-true q)) ∙ p)))
      step false p false q rest = rest
      step true p c q rest = rw (new_same closed rises l.edge i p o ∙ q) (both c)
        where
          both : (c : Bool)
              → cond c (renumbered closed l ∷ filter (is_about (new_number closed i)) (renewed ls)) (filter (is_about (new_number closed i)) (renewed ls))
              ≡ map (renumbered closed) (cond c (l ∷ filter (is_about i) ls) (filter (is_about i) ls))
          both true = ap (λ r. renumbered closed l ∷ r) rest
          both false = rest

  same_last : (ls : List Line) (x : Effect) → last_effect x (map (renumbered closed) ls) ≡ last_effect x ls
  unfolding last_effect renumbered effect_of closes
  same_last [] x = refl
  same_last (l ∷ ls) x = same_last ls (effect_of l)

  same_closes : (ls : List Line) → any closes (map (renumbered closed) ls) ≡ any closes ls
  unfolding any renumbered closes
  same_closes [] = refl
  same_closes (l ∷ ls) = rw (same_closes ls)

  pub holds_alike : (ls : List Line) (i : ℕ) → is_open closed i ≡ true → holds (kept_lines closed ls) (new_number closed i) ≡ holds ls i
  unfolding holds
  holds_alike ls i o = rw (about_kept i o ls, same_last (about ls i) (delayed 0), same_closes (about ls i))
