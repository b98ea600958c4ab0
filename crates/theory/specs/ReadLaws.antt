-- Reading back lists of records of one size, tables, and access bodies. Assumes nothing.
use Prim.Native.Nat.{ℕ, zero, suc, ◌+◌, ◌*◌, ◌≤◌, ◌<◌}
use Rattle.std.proofs.Common.{add_assoc, add-zero, mul-zero, mul_assoc, mul_comm, mul-add, sym, ◌∙◌, get_or-drop, ne_eqb, eqb-true}
use Rattle.std.proofs.Math.Nat.{zero-add, mul-suc}
use native.Mathlib.Omega.{arith}
use Rattle.std.specs.Prelude.{◌≡◌, refl, get_or, take, Bool, true, false, cond, eqb}
use Rattle.std.proofs.Math.Path.{ap}
use mathlib.Core.List.{List, [], ◌∷◌, ◌++◌, map, append_assoc}
use Rattle.std.proofs.Math.ListN.{length, drop, length-append}
use Rattle.std.proofs.lemmas.List.{length-map, drop-append-le}
use Rattle.std.proofs.Math.Seq.{drop-append-add}
use Rattle.model.specs.Lists.{concat, concat_map, index_of, range, up_to}
use Rattle.model.specs.Bytes.{Bytes, word16, word32, bytes16, bytes32, number_size}
use Rattle.model.specs.Pair.{seconds_of, hops_of}
use Rattle.model.specs.Distance.{Distance, unreachable, finite}
use Rattle.model.specs.Oracle.{no_walk, coded, seconds_size, value_size, value_bytes, decoded, value_key, value, table_bytes, table_entry}
use Rattle.model.specs.Oracle.{start_size, starts, count_size, entry_size}
use Rattle.model.specs.Oracle.{list_size, entry_bytes, list_bytes, access_bytes, list_start, list_count, AccessEntry, access_at, access_entry, access_list}
use Rattle.theory.specs.FileLaws.{word16_append, word32_append, word16_read, word32_read, drop_concat, start_of, start_step, concat_bound}
use Rattle.theory.specs.RangeLaws.{length-range, get_d_map_range}

-- ---- reading behind a position

pub word16_drop : (b : Bytes) (p n : ℕ) → word16 b (p + n) ≡ word16 (drop p b) n
unfolding word16
word16_drop b p n = rw (get_or-drop p b n 0, get_or-drop p b (n + 1) 0, add_assoc)

pub word32_drop : (b : Bytes) (p n : ℕ) → word32 b (p + n) ≡ word32 (drop p b) n
unfolding word32
word32_drop b p n = rw (word16_drop b p n, add_assoc, word16_drop b p (n + 2))

-- ---- records of one size

module _ {A : Type 0} (f : A → Bytes) (c : ℕ) (size : (x : A) → length (f x) ≡ c) where
  pub length_concat_map : (l : List A) → length (concat_map f l) ≡ c * length l
  unfolding concat_map
  length_concat_map [] = omega arith
  length_concat_map (x ∷ xs) = length-append (f x) (concat_map f xs) ∙ rw (size x, length_concat_map xs, mul-suc) (omega arith)

  pub drop_concat_map : (i : ℕ) (l : List A) (d : A) → i < length l → drop (c * i) (concat_map f l) ≡ f (get_or l i d) ++ concat_map f (drop (suc i) l)
  unfolding concat_map
  drop_concat_map i [] d h = absurd (omega arith)
  drop_concat_map zero (x ∷ xs) d h = rw (mul-zero c)
  drop_concat_map (suc i) (x ∷ xs) d h =
      let e : c * suc i ≡ length (f x) + c * i = omega (arith, mul-suc c i, size x) in
      rw e (drop-append-add (f x) (concat_map f xs) (c * i) ∙ drop_concat_map i xs d (omega arith))

pub length_numbers : (l : List ℕ) → length (concat_map bytes16 l) ≡ number_size * length l
length_numbers l = length_concat_map bytes16 number_size (λ n. unfold bytes16 in refl) l

-- ---- distances

-- A distance that a 32-bit number tells from 'no walk'.
abbrev pub Small : Distance → Type 0
Small unreachable = Unit {0}
Small (finite n) = n < no_walk

-- A number tells a distance, and a distance its number.
pub decoded_coded : (x : Distance) → Small x → decoded (coded x) ≡ x
unfolding coded decoded
decoded_coded unreachable s = refl
decoded_coded (finite n) s = rw (ne_eqb n no_walk (λ e. omega arith))

pub coded_decoded : (v : ℕ) → coded (decoded v) ≡ v
unfolding coded decoded
coded_decoded v = step (eqb v no_walk) refl
  where
    step : (b : Bool) → eqb v no_walk ≡ b → coded (cond b unreachable (finite v)) ≡ v
    step true e = sym (eqb-true v no_walk e)
    step false e = refl

-- The bytes of a value are those of its key, and a value that was read is the key that stands there.
pub value_bytes_law : (v : ℕ) → value_bytes (decoded v) ≡ bytes32 (seconds_of v) ++ bytes16 (hops_of v)
unfolding value_bytes
value_bytes_law v = rw (coded_decoded v)

pub value_recoded : (x : Distance) → value_bytes (decoded (coded x)) ≡ value_bytes x
unfolding value_bytes
value_recoded x = value_bytes_law (coded x)

pub value_number : (b : Bytes) (p v : ℕ) → decoded v ≡ value b p → v ≡ value_key b p
unfolding value
value_number b p v e = sym (coded_decoded v) ∙ (ap coded e ∙ coded_decoded (value_key b p))

pub length_value : (x : Distance) → length (value_bytes x) ≡ value_size
unfolding value_bytes bytes32 bytes16
length_value x = refl

pub value_drop : (b : Bytes) (p n : ℕ) → value b (p + n) ≡ value (drop p b) n
unfolding value value_key
value_drop b p n = ap decoded (rw (word32_drop b p n, add_assoc, word16_drop b p (n + seconds_size)))

pub value_append : (xs ys : Bytes) (n : ℕ) → value (xs ++ ys) (length xs + n) ≡ value ys n
unfolding value value_key
value_append xs ys n = ap decoded (rw (word32_append xs ys n, add_assoc, word16_append xs ys (n + seconds_size)))

-- The key that is read is the key that was written.
key_read : (k : ℕ) (l : Bytes) → k ≤ no_walk → value_key (bytes32 (seconds_of k) ++ (bytes16 (hops_of k) ++ l)) 0 ≡ k
unfolding value_key bytes32 bytes16
key_read k l s =
    let a = word32_read (seconds_of k) (bytes16 (hops_of k) ++ l) (omega arith) in
    let b : word16 (bytes32 (seconds_of k) ++ (bytes16 (hops_of k) ++ l)) seconds_size ≡ hops_of k =
    word16_append (bytes32 (seconds_of k)) (bytes16 (hops_of k) ++ l) 0 ∙ word16_read (hops_of k) l (omega arith) in
    rw (a, b) (omega arith)

coded_small : (x : Distance) → Small x → coded x ≤ no_walk
unfolding coded
coded_small unreachable s = omega arith
coded_small (finite n) s = omega arith

pub value_read : (x : Distance) (l : Bytes) → Small x → value (value_bytes x ++ l) 0 ≡ x
unfolding value value_bytes
value_read x l s =
    rw (append_assoc (bytes32 (seconds_of (coded x))) (bytes16 (hops_of (coded x))) l, key_read (coded x) l (coded_small x s)) (decoded_coded x s)

-- ---- records of one size, each with a distance at its start

-- What stands at record i of a list of distances, behind which there may be more.
pub value_at : {A : Type 0} (f : A → Distance) (l : List A) (rest : Bytes) (i : ℕ) (a : A) → i < length l → Small (f (get_or l i a))
    → value (concat_map (λ x. value_bytes (f x)) l ++ rest) (value_size * i) ≡ f (get_or l i a)
value_at {A} f l rest i a h s =
    let e : value_size * i ≡ value_size * i + 0 = omega arith in
    rw e (value_drop (whole ++ rest) (value_size * i) 0 ∙ rw (
      drop-append-le (value_size * i) whole rest fits,
      drop_concat_map (λ x. value_bytes (f x)) value_size
          size i l a h,
      append_assoc (value_bytes (f (get_or l i a))) (concat_map (λ x. value_bytes (f x)) (drop (suc i) l)) rest,
    ) (value_read (f (get_or l i a)) _ s))
  where
    size : (x : A) → length (value_bytes (f x)) ≡ value_size
    size x = length_value (f x)

    whole : Bytes
    whole = concat_map (λ x. value_bytes (f x)) l

    fits : value_size * i ≤ length whole
    fits = omega (arith, length_concat_map (λ x. value_bytes (f x)) value_size size l)

-- ---- the table

length_row : (d : ℕ → Distance) (l : List ℕ) → length (concat_map (λ b. value_bytes (d b)) l) ≡ value_size * length l
length_row d l = length_concat_map (λ b. value_bytes (d b)) value_size (λ b. length_value (d b)) l

pub length_table : (d : ℕ → ℕ → Distance) (l : List ℕ) → length (table_bytes d l) ≡ value_size * length l * length l
unfolding table_bytes
length_table d l = length_concat_map (λ a. concat_map (λ b. value_bytes (d a b)) l) (value_size * length l) (λ a. length_row (d a) l) l

pub table_read : (d : ℕ → ℕ → Distance) (transit : List ℕ) (i j : ℕ) → i < length transit → j < length transit → Small (d (get_or transit i 0) (get_or transit j 0))
    → table_entry (table_bytes d transit) (length transit) i j ≡ d (get_or transit i 0) (get_or transit j 0)
unfolding table_entry table_bytes
table_read d transit i j p q s =
    let row : ℕ → Bytes = λ a. concat_map (λ b. value_bytes (d a b)) transit in
    let size : (a : ℕ) → length (row a) ≡ value_size * length transit = λ a. length_row (d a) transit in
    let e : value_size * (i * length transit + j) ≡ value_size * length transit * i + value_size * j = mul-add value_size (i * length transit) j
    ∙ ap (λ (k : ℕ). k + value_size * j) (ap (λ (k : ℕ). value_size * k) (mul_comm i (length transit)) ∙ sym (mul_assoc value_size (length transit) i)) in
    rw e (value_drop (concat_map row transit) (value_size * length transit * i) (value_size * j)
    ∙ rw (drop_concat_map row (value_size * length transit) size i transit 0 p) (value_at (d (get_or transit i 0)) transit _ j 0 q s))

-- ---- the access body

pub length_starts : (at : ℕ) (ls : List Bytes) → length (starts at ls) ≡ start_size * length ls
unfolding starts bytes32 bytes16
length_starts at [] = refl
length_starts at (l ∷ ls) = omega (arith, length_starts (at + length l) ls)

pub start_read : (at j : ℕ) (ls : List Bytes) (rest : Bytes) → j < length ls → start_of at ls j < 4294967296
    → word32 (starts at ls ++ rest) (start_size * j) ≡ start_of at ls j
start_read at j [] rest h s = absurd (omega arith)
start_read at zero (l ∷ ls) rest h s = unfold starts bytes32 bytes16 word32 word16 concat in omega arith
start_read at (suc j) (l ∷ ls) rest h s =
    let e : start_size * suc j ≡ length (bytes32 at) + start_size * j = unfold bytes32 bytes16 in omega arith in
    let a : starts at (l ∷ ls) ++ rest ≡ bytes32 at ++ (starts (at + length l) ls ++ rest) = unfold starts in append_assoc (bytes32 at)
    (starts (at + length l) ls) rest in
    rw (e, a) (word32_append (bytes32 at) (starts (at + length l) ls ++ rest) (start_size * j)
    ∙ start_read (at + length l) j ls rest (omega arith) (omega (arith, start_step at j l ls)) ∙ start_step at j l ls)

-- Records of an index and a distance.
abbrev pub record_bytes : {A : Type 0} → (A → ℕ) → (A → Distance) → A → Bytes
record_bytes index dist x = bytes16 (index x) ++ value_bytes (dist x)

module _ {A : Type 0} (index : A → ℕ) (dist : A → Distance) (l : List A) (rest : Bytes) (i : ℕ) (a : A) (h : i < length l) where
  record_size : (x : A) → length (record_bytes index dist x) ≡ entry_size
  unfolding bytes16
  record_size x = omega (arith, length_value (dist x))

  from_record : drop (entry_size * i) (concat_map (record_bytes index dist) l ++ rest) ≡ bytes16 (index (get_or l i a)) ++
      (value_bytes (dist (get_or l i a)) ++ (concat_map (record_bytes index dist) (drop (suc i) l) ++ rest))
  from_record =
      let fits : entry_size * i ≤ length (concat_map (record_bytes index dist) l) = omega
      (arith, length_concat_map (record_bytes index dist) entry_size record_size l) in
      rw (
        drop-append-le (entry_size * i) (concat_map (record_bytes index dist) l) rest fits,
        drop_concat_map (record_bytes index dist) entry_size record_size i l a
            h,
      )
      (unfold bytes16 in append_assoc (bytes16 (index (get_or l i a)) ++ value_bytes (dist (get_or l i a))) (concat_map (record_bytes index dist) (drop (suc i) l))
      rest ∙ append_assoc (bytes16 (index (get_or l i a))) (value_bytes (dist (get_or l i a))) (concat_map (record_bytes index dist) (drop (suc i) l) ++ rest))

  pub record_index : index (get_or l i a) < 65536 → word16 (concat_map (record_bytes index dist) l ++ rest) (entry_size * i) ≡ index (get_or l i a)
  record_index s =
      let e : entry_size * i ≡ entry_size * i + 0 = omega arith in
      rw e (word16_drop (concat_map (record_bytes index dist) l ++ rest) (entry_size * i) 0 ∙ rw from_record (word16_read (index (get_or l i a)) _ s))

  pub record_distance : Small (dist (get_or l i a)) → value (concat_map (record_bytes index dist) l ++ rest) (entry_size * i + number_size) ≡ dist (get_or l i a)
  unfolding bytes16
  record_distance s = value_drop (concat_map (record_bytes index dist) l ++ rest) (entry_size * i) number_size
      ∙ rw from_record (value_append (bytes16 (index (get_or l i a))) _ 0 ∙ value_read (dist (get_or l i a)) _ s)

pub length_list : (d : ℕ → ℕ → Distance) (transit : List ℕ) (u : ℕ) (access : List ℕ) → length (list_bytes d transit u access) ≡ list_size (length access)
unfolding list_bytes bytes16
length_list d transit u access =
    let size : (a : ℕ) → length (entry_bytes transit a (d u a)) ≡ entry_size = λ a. unfold entry_bytes in omega (arith, length_value (d u a)) in
    omega (arith, length_concat_map (λ a. entry_bytes transit a (d u a)) entry_size size access)

-- A list made by index is the list made by element.
pub map_range : {A B : Type 0} (f : ℕ → A) (g : B → A) (b : B) (s : ℕ) (l : List B) → ((i : ℕ) → i < length l → f (s + i) ≡ g (get_or l i b))
    → map f (range s (length l)) ≡ map g l
unfolding range
map_range f g b s [] h = refl
map_range {A} f g b s (x ∷ xs) h =
    let head : f s ≡ g x = rw add-zero at (h 0 (omega arith)) in
    let shift : (i : ℕ) → suc s + i ≡ s + suc i = λ i. omega arith in
    let tail : map f (range (suc s) (length xs)) ≡ map g xs = map_range f g b (suc s) xs (λ i q. ap f (shift i) ∙ h (suc i) (omega arith)) in
    λ k. ◌∷◌ (head k) (tail k)

-- What a built access body holds, for the access nodes of each node.
abbrev pub entry_of : (ℕ → ℕ → Distance) → List ℕ → ℕ → ℕ → AccessEntry
entry_of d transit u a = record { index = index_of a transit; distance = d u a }

module _ (d : ℕ → ℕ → Distance) (transit : List ℕ) (lists : List (List ℕ)) where
  abbrev pub ls : List Bytes
  ls = map (λ u. list_bytes d transit u (get_or lists u [])) (up_to (length lists))

  abbrev pub all_bytes : Bytes
  all_bytes = access_bytes d transit lists

  pub count_lists : length ls ≡ length lists
  count_lists = length-map (up_to (length lists)) (λ u. list_bytes d transit u (get_or lists u [])) ∙ length-range 0 (length lists)

  pub length_front : length (starts (start_size * length lists) ls) ≡ start_size * length lists
  length_front = length_starts (start_size * length lists) ls ∙ ap (λ (n : ℕ). start_size * n) count_lists

  module _ (u : ℕ) (h : u < length lists) (small : length all_bytes < 4294967296) where
    abbrev pub its : List ℕ
    its = get_or lists u []

    in_ls : u < length ls
    in_ls = rw count_lists h

    pub its_list : get_or ls u [] ≡ list_bytes d transit u its
    its_list = get_d_map_range (λ u. list_bytes d transit u (get_or lists u [])) [] 0 (length lists) u h ∙ rw zero-add

    pub list_start_law : list_start all_bytes u ≡ start_of (start_size * length lists) ls u
    unfolding list_start access_bytes
    list_start_law = start_read (start_size * length lists) u ls (concat ls) in_ls
        (omega (arith, small, length-append (starts (start_size * length lists) ls) (concat ls), length_front, concat_bound u ls in_ls))

    pub from_list : drop (list_start all_bytes u) all_bytes ≡ list_bytes d transit u its ++ concat (drop (suc u) ls)
    unfolding access_bytes
    from_list =
        ap (λ (m : ℕ). drop m all_bytes) list_start_law ∙
        (ap (λ (m : ℕ). drop (m + length (concat (take u ls))) all_bytes) (sym length_front) ∙
        (drop-append-add (starts (start_size * length lists) ls) (concat ls) (length (concat (take u ls))) ∙
        (drop_concat u ls in_ls ∙ ap (λ (x : Bytes). x ++ concat (drop (suc u) ls)) its_list)))

    -- the entries, behind the count
    abbrev behind : Bytes
    behind = concat_map (record_bytes (λ a. index_of a transit) (d u)) its ++ concat (drop (suc u) ls)

    from_count : drop (list_start all_bytes u) all_bytes ≡ bytes16 (length its) ++ behind
    unfolding list_bytes entry_bytes
    from_count = from_list ∙ append_assoc (bytes16 (length its)) (concat_map (record_bytes (λ a. index_of a transit) (d u)) its) (concat (drop (suc u) ls))

    pub list_count_law : length its < 65536 → list_count all_bytes u ≡ length its
    unfolding list_count
    list_count_law s =
        let e : list_start all_bytes u ≡ list_start all_bytes u + 0 = omega arith in
        ap (word16 all_bytes) e ∙ (word16_drop all_bytes (list_start all_bytes u) 0 ∙ rw from_count (word16_read (length its) behind s))

    pub entry_read : (i : ℕ) → i < length its → index_of (get_or its i 0) transit < 65536 → Small (d u (get_or its i 0))
        → access_entry all_bytes u i ≡ entry_of d transit u (get_or its i 0)
    unfolding access_entry access_at
    entry_read i q s t = λ k. record { index = ix k; distance = dx k }
      where
        e : list_start all_bytes u + count_size + entry_size * i ≡ list_start all_bytes u + (count_size + entry_size * i)
        e = omega arith

        ix : word16 all_bytes (list_start all_bytes u + count_size + entry_size * i) ≡ index_of (get_or its i 0) transit
        ix =
            ap (word16 all_bytes) e ∙
            (word16_drop all_bytes (list_start all_bytes u) (count_size + entry_size * i) ∙
            rw from_count (unfold bytes16 in word16_append (bytes16 (length its)) behind (entry_size * i)
            ∙ record_index (λ a. index_of a transit) (d u) its _ i 0 q s))

        e2 : list_start all_bytes u + count_size + entry_size * i + number_size ≡ list_start all_bytes u + (count_size + (entry_size * i + number_size))
        e2 = omega arith

        dx : value all_bytes (list_start all_bytes u + count_size + entry_size * i + number_size) ≡ d u (get_or its i 0)
        dx =
            ap (value all_bytes) e2 ∙
            (value_drop all_bytes (list_start all_bytes u) (count_size + (entry_size * i + number_size)) ∙
            rw from_count (unfold bytes16 in value_append (bytes16 (length its)) behind (entry_size * i + number_size)
            ∙ record_distance (λ a. index_of a transit) (d u) its _ i 0 q t))

    -- the whole list
    pub list_read : length its < 65536 → ((i : ℕ) → i < length its → index_of (get_or its i 0) transit < 65536)
        → ((i : ℕ) → i < length its → Small (d u (get_or its i 0)))
        → access_list all_bytes u ≡ map (entry_of d transit u) its
    unfolding access_list
    list_read c s t = rw (list_count_law c) (map_range (access_entry all_bytes u) (entry_of d transit u) 0 0 its
        (λ i q. rw zero-add (entry_read i q (s i q) (t i q))))
