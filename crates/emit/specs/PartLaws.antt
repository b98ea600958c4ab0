-- The parts as bytes: how long they are, and that they are the parts of the model's oracle. Assumes nothing.
use Rattle.std.specs.Prelude.{ℕ, suc, ◌+◌, ◌*◌, ◌<◌, ◌≡◌, length, get_or}
use Rattle.std.proofs.Common.{arith, zero-add, sym, ◌∙◌}
use Rattle.std.proofs.Math.Path.{refl, ap}
use mathlib.Core.List.{List, [], ◌∷◌, ◌++◌, map, Memᴰ, append_assoc, map-map}
use Rattle.std.proofs.lemmas.List.{length-map}
use Rattle.model.specs.Lists.{concat_map, concat, index_of, up_to}
use Rattle.model.specs.Bytes.{Bytes, bytes16, bytes32, number_size}
use Rattle.model.specs.Contents.{contents_entry_size, head_size, entry_at, entries, file}
use Rattle.model.specs.Distance.{Distance}
use Rattle.model.specs.Oracle.{value_size, start_size, entry_size, list_size, coded, value_bytes, decoded, entry_bytes, list_bytes, starts}
use Rattle.theory.specs.RangeLaws.{length-range, get_d_map_range}
use Rattle.theory.specs.Members.{range→}
use Rattle.theory.specs.FileLaws.{nine, entries_step}
use Rattle.theory.specs.ReadLaws.{length_concat_map, length_value, value_recoded}
use Rattle.theory.specs.ReadLaws as read
use Rattle.words.specs.Halves.{half}
use Rattle.emit.specs.Parts.{entries_of, head_bytes, numbers_bytes, time_bytes, row_bytes, starts_of, list_sizes, indexed_bytes, list_bytes_of}

-- ---- lists made number by number

pub map_same : (f g : ℕ → ℕ) (l : List ℕ) → ((x : ℕ) → Memᴰ x l → f x ≡ g x) → map f l ≡ map g l
map_same f g [] h = refl
map_same f g (x ∷ l) h = rw (h x (Memᴰ.head refl), map_same f g l (λ y m. h y (Memᴰ.tail m)))

pub concat_same : (f g : ℕ → Bytes) (l : List ℕ) → ((x : ℕ) → Memᴰ x l → f x ≡ g x) → concat_map f l ≡ concat_map g l
unfolding concat_map
concat_same f g [] h = refl
concat_same f g (x ∷ l) h = rw (h x (Memᴰ.head refl), concat_same f g l (λ y m. h y (Memᴰ.tail m)))

-- ---- how long they are

pub length_numbers : (l : List ℕ) → length (numbers_bytes l) ≡ number_size * length l
unfolding numbers_bytes
length_numbers l = read.length_numbers l

pub length_time : (times : List ℕ) (v : ℕ) → length (time_bytes times v) ≡ value_size
unfolding time_bytes
length_time times v = length_value (decoded (get_or times v 0))

pub length_indexed : (times : List ℕ) (index v : ℕ) → length (indexed_bytes times index v) ≡ entry_size
unfolding indexed_bytes bytes16
length_indexed times index v = omega (arith, length_time times v)

pub length_row : (times l : List ℕ) → length (row_bytes times l) ≡ value_size * length l
unfolding row_bytes
length_row times l = length_concat_map (time_bytes times) value_size (length_time times) l

pub length_list : (times transit access : List ℕ) → length (list_bytes_of times transit access) ≡ list_size (length access)
unfolding list_bytes_of bytes16
length_list times transit access =
    let size : (a : ℕ) → length (indexed_bytes times (index_of a transit) a) ≡ entry_size = λ a. length_indexed times (index_of a transit) a in
    omega (arith, length_concat_map (λ a. indexed_bytes times (index_of a transit) a) entry_size size access)

pub length_starts_of : (at : ℕ) (sizes : List ℕ) → length (starts_of at sizes) ≡ start_size * length sizes
unfolding starts_of bytes32 bytes16
length_starts_of at [] = refl
length_starts_of at (s ∷ ss) = omega (arith, length_starts_of (at + s) ss)

pub length_sizes : (n : ℕ) (counts : List ℕ) → length (list_sizes n counts) ≡ n
unfolding list_sizes
length_sizes n counts = length-map (up_to n) _ ∙ length-range 0 n

length_entries_of : (k at : ℕ) (sizes : List ℕ) → length (entries_of k at sizes) ≡ contents_entry_size * length sizes
unfolding entries_of nine bytes32 bytes16
length_entries_of k at [] = refl
length_entries_of k at (s ∷ ss) = omega (arith, length_entries_of (suc k) (at + s) ss)

pub length_head : (edition : ℕ) (sizes : List ℕ) → length (head_bytes edition sizes) ≡ entry_at (length sizes)
unfolding head_bytes entry_at
length_head edition sizes = omega (arith, length_entries_of 0 (head_size (length sizes)) sizes)

-- ---- the head of a file: its entries depend on the sizes of the bodies alone

entries_sizes : (k at : ℕ) (bodies : List Bytes) (l : Bytes) → entries k at bodies ++ l ≡ entries_of k at (map length bodies) ++ l
unfolding entries_of
entries_sizes k at [] l = unfold entries in refl
entries_sizes k at (b ∷ bs) l =
    entries_step k at b bs l ∙
    ap (λ (r : Bytes). nine k at (length b) ++ r) (entries_sizes (suc k) (at + length b) bs l) ∙
    sym (append_assoc (nine k at (length b)) (entries_of (suc k) (at + length b) (map length bs)) l)

pub file_head : (edition : ℕ) (bodies : List Bytes) → file edition bodies ≡ head_bytes edition (map length bodies) ++ concat bodies
unfolding file head_bytes
file_head edition bodies = rw (length-map bodies length) (ap (λ (r : Bytes). edition ∷ (length bodies ∷ r))
    (entries_sizes 0 (entry_at (length bodies)) bodies (concat bodies)))

-- ---- the starts: they depend on the sizes of the lists alone

pub starts_sizes : (at : ℕ) (ls : List Bytes) → starts at ls ≡ starts_of at (map length ls)
unfolding starts starts_of
starts_sizes at [] = refl
starts_sizes at (l ∷ ls) = ap (λ (r : Bytes). bytes32 at ++ r) (starts_sizes (at + length l) ls)

-- n lists with these numbers of entries.
pub starts_lists : (f : ℕ → Bytes) (n : ℕ) (counts : List ℕ) → ((v : ℕ) → v < n → length (f v) ≡ list_size (half counts v))
    → starts (start_size * n) (map f (up_to n)) ≡ starts_of (start_size * n) (list_sizes n counts)
unfolding list_sizes
starts_lists f n counts h =
    starts_sizes (start_size * n) (map f (up_to n)) ∙
    ap (starts_of (start_size * n)) (map-map length f (up_to n) ∙ map_same _ _ (up_to n) (λ v m. h v (omega (arith, (range→ 0 n v m).1))))

-- ---- rows and lists, with the times as the distances' keys

pub time_same : (times others : List ℕ) (v : ℕ) → get_or times v 0 ≡ get_or others v 0 → time_bytes times v ≡ time_bytes others v
unfolding time_bytes
time_same times others v e = ap (λ (w : ℕ). value_bytes (decoded w)) e

module _ (d : ℕ → Distance) (n : ℕ) (times : List ℕ) (e : times ≡ map (λ v. coded (d v)) (up_to n)) where
  time_value : (v : ℕ) → v < n → time_bytes times v ≡ value_bytes (d v)
  unfolding time_bytes
  time_value v h = ap (λ (w : ℕ). value_bytes (decoded w)) (rw e (get_d_map_range (λ w. coded (d w)) 0 0 n v h ∙ rw zero-add)) ∙ value_recoded (d v)

  module _ (l : List ℕ) (below : (v : ℕ) → Memᴰ v l → v < n) where
    pub row_values : row_bytes times l ≡ concat_map (λ b. value_bytes (d b)) l
    unfolding row_bytes
    row_values = concat_same (time_bytes times) (λ b. value_bytes (d b)) l (λ v m. time_value v (below v m))

pub list_values : (d : ℕ → ℕ → Distance) (u n : ℕ) (times transit access : List ℕ) → times ≡ map (λ v. coded (d u v)) (up_to n)
    → ((v : ℕ) → Memᴰ v access → v < n) → list_bytes_of times transit access ≡ list_bytes d transit u access
unfolding list_bytes_of list_bytes indexed_bytes entry_bytes
list_values d u n times transit access e below =
    ap (λ (r : Bytes). bytes16 (length access) ++ r)
    (concat_same (λ a. indexed_bytes times (index_of a transit) a) (λ a. entry_bytes transit a (d u a)) access
    (λ v m. ap (λ (r : Bytes). bytes16 (index_of v transit) ++ r) (time_value (d u) n times e v (below v m))))
