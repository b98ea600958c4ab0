-- The open edges and the kept lines, record by record: what is left to write, and how long it is. Assumes nothing.
use Prim.Native.Nat.{ℕ, ◌+◌, ◌-◌, ◌*◌, ◌/◌, ◌<◌, ◌≤◌}
use native.Mathlib.Omega.{arith}
use mathlib.Core.Path.{◌≡◌, refl, ◌∙◌, ap}
use mathlib.Core.Bool.{Bool, true, false, cond}
use mathlib.Core.List.{List, [], ◌∷◌, ◌++◌, map, append-nil, Memᴰ}
use lib.ListN.{length, take, drop, length-append, length-drop, take-append-drop}
use lib.Seq.{length-take-le}
use Rattle.model.specs.Lists.{filter, concat_map, up_to}
use Rattle.model.specs.Bytes.{Bytes, bytes16, bytes32, cut, splice, words16, number_size}
use Rattle.model.specs.Network.{edge_size, edge_count}
use Rattle.theory.specs.Members.{filter→, range→}
use Rattle.theory.specs.RangeLaws.{rest, rest_step, rest_end, rest_all}
use Rattle.sheet.specs.Sheet.{Line, line, line_size, line_count, lines_in, line_bytes}
use Rattle.emit.specs.Records.{Wrote}
use Rattle.emit.proofs.Writing.{Then}
use Rattle.convert.specs.Old.{is_open, open_of}
use Rattle.convert.specs.Convert.{edge_record, open_records, is_kept, renumbered, kept_lines}
use Rattle.convert.specs.Parts.{edge_left, OldBodies, line_left, lines_left}
use Rattle.convert.proofs.Counts.{open_count}
use Rattle.convert.proofs.Finding.{number_count}

-- ---- one record, where a test passes
module _ (b : Bool) (old : Bytes) (at : ℕ) (bytes : Bytes) where
  pub wrote_none : b ≡ false → Wrote old at (cond b bytes []) at old
  unfolding splice
  wrote_none e =
      let z : at + 0 ≡ at = omega arith in
      record { ends = rw (e, z); spliced = rw (e, z, append-nil, take-append-drop) }

  pub wrote_some : b ≡ true → {m : ℕ} {new : Bytes} → Wrote old at bytes m new → Wrote old at (cond b bytes []) m new
  wrote_some e w = rw e w

  pub fits_some : b ≡ true → at + length (cond b bytes []) ≤ length old → at + length bytes ≤ length old
  fits_some e h = rw e at h

-- ---- all records
module _ {A : Type 0} where
  each_kept : (p : A → Bool) (f : A → Bytes) (l : List A) → concat_map f (filter p l) ≡ concat_map (λ x. cond (p x) (f x) []) l
  unfolding filter concat_map
  each_kept p f [] = refl
  each_kept p f (x ∷ l) = step (p x) (each_kept p f l)
    where
      step : (b : Bool) → concat_map f (filter p l) ≡ concat_map (λ x. cond (p x) (f x) []) l
          → concat_map f (cond b (x ∷ filter p l) (filter p l)) ≡ cond b (f x) [] ++ concat_map (λ x. cond (p x) (f x) []) l
      step true e = ap (λ (r : Bytes). f x ++ r) e
      step false e = e

  concat_map_law : {B : Type 0} (f : B → Bytes) (g : A → B) (l : List A) → concat_map f (map g l) ≡ concat_map (λ x. f (g x)) l
  unfolding concat_map
  concat_map_law f g [] = refl
  concat_map_law f g (x ∷ l) = ap (λ (r : Bytes). f (g x) ++ r) (concat_map_law f g l)

-- f for each number from i up to n.
abbrev pub left_from : (ℕ → Bytes) → ℕ → ℕ → Bytes
left_from f i n = concat_map f (rest i n)

module _ (f : ℕ → Bytes) (i n : ℕ) where
  pub left_step : i < n → Then (left_from f i n) (f i) (left_from f (i + 1) n)
  unfolding concat_map
  left_step h = record { is = rw (rest_step i n h) }

  pub left_end : n ≤ i → left_from f i n ≡ []
  unfolding concat_map
  left_end h = rw (rest_end i n h)

pub edges_all : (b : Bytes) (closed : List ℕ) → open_records b closed ≡ left_from (edge_left b closed) 0 (edge_count b)
unfolding open_records open_of edge_left
edges_all b closed = each_kept (is_open closed) (edge_record b) (up_to (edge_count b)) ∙ ap (concat_map (edge_left b closed)) (rest_all (edge_count b))

-- What is written for line k.
abbrev pub line_at : List ℕ → Bytes → ℕ → Bytes
line_at closed b k = line_left closed (line b k)

pub lines_all : (closed : List ℕ) (b : Bytes) → lines_left closed b ≡ left_from (line_at closed b) 0 (line_count b)
unfolding lines_left kept_lines lines_in line_left
lines_all closed b =
    concat_map_law line_bytes (renumbered closed) (filter (is_kept closed) (map (line b) (up_to (line_count b)))) ∙
    (each_kept (is_kept closed) (λ l. line_bytes (renumbered closed l)) (map (line b) (up_to (line_count b))) ∙
    (concat_map_law (line_left closed) (line b) (up_to (line_count b)) ∙ ap (concat_map (line_at closed b)) (rest_all (line_count b))))

-- ---- how long they are
same_lengths : (f : ℕ → Bytes) (l : List ℕ) → ((x : ℕ) → Memᴰ x l → length (f x) ≡ edge_size) → length (concat_map f l) ≡ edge_size * length l
unfolding concat_map
same_lengths f [] h = refl
same_lengths f (x ∷ l) h =
    omega (arith, length-append (f x) (concat_map f l), h x (Memᴰ.head refl), same_lengths f l (λ y m. h y (Memᴰ.tail m)))

pub length_edge : (b : Bytes) (i : ℕ) → edge_size * i + edge_size ≤ length b → length (edge_record b i) ≡ edge_size
unfolding edge_record cut
length_edge b i h = length-take-le edge_size (drop (edge_size * i) b) (simp length-drop (omega arith))

-- All edges but the closed ones.
pub length_open : {nodes : Bytes} (b closed : Bytes) → OldBodies nodes b closed → (length closed / number_size ≤ length b / edge_size)
    × (edge_size * (length b / edge_size - length closed / number_size) ≡ length (open_records b (words16 closed)))
unfolding open_records open_of edge_count
length_open b closed h =
    let m : ℕ = length b / edge_size in
    let left : List ℕ = filter (is_open (words16 closed)) (up_to m) in
    let count = open_count (words16 closed) h.rises m h.named in
    let each : (x : ℕ) → Memᴰ x left → length (edge_record b x) ≡ edge_size =
    λ x k. length_edge b x (omega (arith, (range→ 0 m x (filter→ (is_open (words16 closed)) (up_to m) k).0).1)) in
    (omega (arith, count, number_count closed), omega (arith, count, number_count closed, same_lengths (edge_record b) left each))

pub length_line : (closed : List ℕ) (l : Line) → length (line_bytes (renumbered closed l)) ≡ line_size
unfolding line_bytes bytes16 bytes32
length_line closed l = refl

-- ---- an open edge, as the part that was lent
module _ (b : Bytes) (closed : List ℕ) (i : ℕ) where
  abbrev edge_part : Bytes
  edge_part = take (edge_size * i + edge_size - edge_size * i) (drop (edge_size * i) b)

  edge_part_law : edge_part ≡ edge_record b i
  unfolding edge_record cut
  edge_part_law = let e : edge_size * i + edge_size - edge_size * i ≡ edge_size = omega arith in rw e

  module _ (old : Bytes) (at : ℕ) (o : is_open closed i ≡ true) where
    pub edge_fits : at + length (edge_left b closed i) ≤ length old → at + length edge_part ≤ length old
    unfolding edge_left
    edge_fits h = rw edge_part_law (fits_some (is_open closed i) old at (edge_record b i) o h)

    pub edge_wrote : {m : ℕ} {new : Bytes} → Wrote old at edge_part m new → Wrote old at (edge_left b closed i) m new
    unfolding edge_left
    edge_wrote w = wrote_some (is_open closed i) old at (edge_record b i) o (rw edge_part_law at w)
