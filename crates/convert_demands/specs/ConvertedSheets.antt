-- The converted sheet over the converted network leaves what the old sheet left of the old network, and keeps the rules that it kept. Assumes nothing.
use Prim.Native.Nat.{ℕ, zero, suc, ◌+◌, ◌*◌, ◌%◌, ◌<◌}
use native.Mathlib.Omega.{arith}
use Rattle.std.proofs.Math.Nat.{zero-add}
use Rattle.std.proofs.Common.{add-zero, sym, ◌∙◌, ap, get_or-drop}
use Rattle.std.specs.Prelude.{◌≡◌, refl, true, get_or, take, drop}
use Rattle.std.proofs.Math.Bool.{false}
use mathlib.Core.List.{List, [], ◌∷◌, Memᴰ}
use Rattle.std.proofs.Math.ListN.{length, length-map, length-take}
use borrow.Author.Tests.{leb-false, lt-leb}
use Rattle.model.specs.Lists.{range, up_to, any, filter, concat_map, rising}
use Rattle.model.specs.Bytes.{Bytes, byte, word16, word32, cut}
use Rattle.model.specs.Contents.{entry, entry_at, body_part, body, edge_body}
use Rattle.model.specs.Network.{Edge, nodes, edge_count}
use Rattle.theory.specs.RangeLaws.{length-range}
use Rattle.theory.specs.ReadLaws.{length_concat_map}
use Rattle.theory.specs.Members.{filter→, map→, get_d_mem, none_any, length-filter}
use Rattle.theory.specs.Shape.{any_none}
use Rattle.theory.specs.Passed.{Sound, or-false}
use Rattle.theory.specs.Whole.{AreBytes}
use Rattle.sheet.specs.Sheet.{Line, line, line_count, lines_in, line_body, line_bytes, sheet_of, closes}
use Rattle.sheet.specs.Sheet.{effects, form_broken, line_broken, sheet_broken, names_none, names_broken}
use Rattle.sheet.specs.Under.{left_of, edges_under, network_under, too_slow, slow_broken}
use Rattle.convert.specs.Old.{closed_in, is_open, open_of, open_in, old_under}
use Rattle.convert.specs.Convert.{converted, new_number, is_kept, renumbered, kept_lines, converted_sheet}
use Rattle.convert.proofs.Counts.{kept_number, has_number}
use Rattle.convert_demands.specs.Converted as same
use Rattle.convert_demands.specs.SheetLines as lines

-- ---- lists
concat_map_range : (F G : ℕ → List Edge) (a s : ℕ) (l : List ℕ) → ((i : ℕ) → i < length l → F (s + i) ≡ G (get_or l i a))
    → concat_map F (range s (length l)) ≡ concat_map G l
unfolding concat_map range
concat_map_range F G a s [] h = refl
concat_map_range F G a s (x ∷ xs) h =
    let head : F s ≡ G x = rw add-zero at (h 0 (omega arith)) in
    let shift : (i : ℕ) → suc s + i ≡ s + suc i = λ i. omega arith in
    let tail : concat_map F (range (suc s) (length xs)) ≡ concat_map G xs =
    concat_map_range F G a (suc s) xs (λ i q. ap F (shift i) ∙ h (suc i) (omega arith)) in
    rw (head, tail)

take_bytes : (n : ℕ) (b : Bytes) → AreBytes b → AreBytes (take n b)
take_bytes zero b h i = omega arith
take_bytes (suc n) [] h i = omega arith
take_bytes (suc n) (x ∷ b) h zero = h 0
take_bytes (suc n) (x ∷ b) h (suc i) = take_bytes n b (λ j. h (suc j)) i

drop_bytes : (n : ℕ) (b : Bytes) → AreBytes b → AreBytes (drop n b)
drop_bytes n b h i = rw (get_or-drop n b i 0) (h (n + i))

-- ---- a sheet whose bytes are bytes
module _ (sheet : Bytes) (are : AreBytes sheet) where
  body_bytes : AreBytes (line_body sheet)
  unfolding body cut
  body_bytes = take_bytes (body_part sheet 0).size (drop (body_part sheet 0).start sheet) (drop_bytes (body_part sheet 0).start sheet are)

  word_small : (i : ℕ) → word32 sheet i < 4294967296
  unfolding word32 word16
  word_small i = omega (arith, are i, are (i + 1), are (i + 2), are (i + 2 + 1))

  body_small : length (line_body sheet) < 4294967296
  unfolding body cut body_part entry
  body_small = omega (arith, length-take (word32 sheet (entry_at 0 + 5)) (drop (word32 sheet (entry_at 0 + 1)) sheet), word_small (entry_at 0 + 5))

  line_fits : (l : Line) → Memᴰ l (lines_in (line_body sheet)) → lines.Fits l
  unfolding lines_in line word32 word16
  line_fits l m =
      let r = map→ (line (line_body sheet)) (up_to (line_count (line_body sheet))) m in
      let k : ℕ = r.0 in
      let z : (i : ℕ) → byte (line_body sheet) i < 256 = body_bytes in (
        rw (ap (λ (l : Line). l.edge) r.2) (omega (arith, z (7 * k + 1), z (7 * k + 1 + 1))),
        rw (ap (λ (l : Line). l.added) r.2) (omega (arith, z (7 * k + 3), z (7 * k + 3 + 1), z (7 * k + 3 + 2), z (7 * k + 3 + 2 + 1))),
      )

-- ---- over a network that keeps rules 3 to 7
module _ (f : Bytes) (sound : Sound f) (sheet : Bytes) (are : AreBytes sheet) where
  abbrev closed : List ℕ
  closed = closed_in f

  abbrev m : ℕ
  m = edge_count (edge_body f)

  abbrev open_ones : List ℕ
  open_ones = open_in f

  abbrev old_lines : List Line
  old_lines = lines_in (line_body sheet)

  abbrev new_lines : List Line
  new_lines = kept_lines closed old_lines

  rises : rising closed ≡ true
  rises = same.rises f sound

  from : {l : Line} → Memᴰ l new_lines → (old : Line) × Memᴰ old old_lines × (is_kept closed old ≡ true) × (l ≡ renumbered closed old)
  unfolding kept_lines
  from k =
      let r = map→ (renumbered closed) (filter (is_kept closed) old_lines) k in
      let q = filter→ (is_kept closed) old_lines r.1 in
      (r.0, q.0, q.1, r.2)

  new_fits : (l : Line) → Memᴰ l new_lines → lines.Fits l
  unfolding renumbered new_number
  new_fits l k =
      let (old, there, o, e) = from k in
      let h = line_fits sheet are old there in
      (rw (ap (λ (l : Line). l.edge) e) (omega (arith, h.0)), rw (ap (λ (l : Line). l.added) e) h.1)

  new_size : length (concat_map line_bytes new_lines) ≡ 7 * length new_lines
  new_size = length_concat_map line_bytes 7 lines.line_size new_lines

  new_small : length (concat_map line_bytes new_lines) < 4294967296
  unfolding lines_in line_count kept_lines
  new_small = omega (
    arith,
    new_size,
    length-map (filter (is_kept closed) old_lines) (renumbered closed),
    length-filter (is_kept closed) old_lines,
    length-map (up_to (line_count (line_body sheet))) (line (line_body sheet)),
    length-range 0 (line_count (line_body sheet)),
    body_small sheet are,
  )

  -- The lines of the new sheet.
  pub lines_same : lines_in (line_body (converted_sheet f sheet)) ≡ new_lines
  unfolding converted_sheet sheet_of
  lines_same = rw (lines.body_read (concat_map line_bytes new_lines) new_small) (lines.lines_read new_lines new_fits)

  -- The j-th open edge, and what is done to it.
  opened : (j : ℕ) → j < length open_ones → is_open closed (get_or open_ones j 0) ≡ true
  unfolding open_in open_of
  opened j h = (filter→ (is_open closed) (up_to m) (get_d_mem open_ones j 0 h)).1

  number : (j : ℕ) → j < length open_ones → new_number closed (get_or open_ones j 0) ≡ j
  unfolding open_in open_of
  number j h = kept_number closed rises m j h

  -- What is done to an open edge, for the laws below. `effect_renumbered` states it once more: nothing rests on that one.
  pub effect_kept : (i : ℕ) → is_open closed i ≡ true → effects (converted_sheet f sheet) (new_number closed i) ≡ effects sheet i
  unfolding effects
  effect_kept i o = rw lines_same (lines.holds_alike closed rises old_lines i o)

  pub effect_renumbered : (i : ℕ) → is_open closed i ≡ true → effects (converted_sheet f sheet) (new_number closed i) ≡ effects sheet i
  effect_renumbered = effect_kept

  effect_same : (j : ℕ) → j < length open_ones → effects (converted_sheet f sheet) j ≡ effects sheet (get_or open_ones j 0)
  effect_same j h = ap (effects (converted_sheet f sheet)) (sym (number j h)) ∙ effect_kept (get_or open_ones j 0) (opened j h)

  edges_same : edges_under (effects (converted_sheet f sheet)) (edge_body (converted f)) ≡ concat_map (left_of (effects sheet) (edge_body f)) open_ones
  unfolding edges_under
  edges_same =
      rw (same.edge_count_law f sound)
      (concat_map_range (left_of (effects (converted_sheet f sheet)) (edge_body (converted f))) (left_of (effects sheet) (edge_body f)) 0 0 open_ones
      (λ j h. rw zero-add (unfold left_of in rw (effect_same j h, same.edge_at f sound j h))))

  pub under_same : network_under (effects (converted_sheet f sheet)) (converted f) ≡ old_under (effects sheet) f
  unfolding network_under old_under
  under_same = λ i. record { nodes = nodes (same.node_body_law f sound i); edges = edges_same i }

  -- ---- rules 18 to 20
  form_new : form_broken (converted_sheet f sheet) ≡ false
  unfolding converted_sheet sheet_of
  form_new =
      let z : length (concat_map line_bytes new_lines) % 7 ≡ 0 = omega (arith, new_size) in
      lines.form_fine (concat_map line_bytes new_lines) new_small z

  line_new : (l : Line) → line_broken l ≡ false → line_broken (renumbered closed l) ≡ false
  unfolding line_broken closes renumbered
  line_new l h = h

  name_new : (l : Line) → is_kept closed l ≡ true → names_none m l ≡ false → names_none (length open_ones) (renumbered closed l) ≡ false
  unfolding names_none is_kept renumbered open_in open_of
  name_new l o h = lt-leb (length open_ones) (new_number closed l.edge) (has_number closed rises m l.edge (leb-false m l.edge h) o).0

  pub form_kept : sheet_broken sheet ≡ false → sheet_broken (converted_sheet f sheet) ≡ false
  unfolding sheet_broken
  form_kept h = rw (form_new, lines_same) (any_none line_broken new_lines each)
    where
      each : (l : Line) → Memᴰ l new_lines → line_broken l ≡ false
      each l k =
          let (old, there, o, e) = from k in
          rw e (line_new old (none_any line_broken old_lines (or-false (form_broken sheet) (any line_broken old_lines) h).1 there))

  pub names_kept : names_broken m sheet ≡ false → names_broken (edge_count (edge_body (converted f))) (converted_sheet f sheet) ≡ false
  unfolding names_broken
  names_kept h = rw (same.edge_count_law f sound, lines_same) (any_none (names_none (length open_ones)) new_lines each)
    where
      each : (l : Line) → Memᴰ l new_lines → names_none (length open_ones) l ≡ false
      each l k =
          let (old, there, o, e) = from k in
          rw e (name_new old o (none_any (names_none m) old_lines h there))

  pub slow_same : slow_broken (effects (converted_sheet f sheet)) (converted f) ≡ any too_slow (old_under (effects sheet) f).edges
  unfolding slow_broken
  slow_same = rw under_same
