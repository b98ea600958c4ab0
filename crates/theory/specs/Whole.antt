-- A file that keeps rules 1 and 2 is the file of its bodies: nothing else stands in it. Assumes nothing.
use Prim.Native.Nat.{ℕ, zero, suc, ◌+◌, ◌-◌, ◌*◌, ◌/◌, ◌%◌, ◌≤◌, ◌<◌}
use native.Mathlib.Omega.{arith}
use Rattle.std.specs.Prelude.{◌≡◌, true, false, ◌||◌, [], ◌∷◌, ◌++◌, map, ltb}
use Rattle.std.proofs.Math.Path.{refl, sym, ap}
use Rattle.std.proofs.Common.{◌∙◌, append_assoc, take-append-drop, take-add}
use Rattle.std.proofs.Math.Bool.{not}
use Rattle.std.proofs.Math.ListN.{length, take, drop, length-map, length-drop}
use Rattle.std.proofs.Math.Seq.{drop-cons, drop-drop, take_all, length-take-le}
use Rattle.std.proofs.Math.Dec.{eqb}
use borrow.Author.Tests.{eqb-true}
use Rattle.model.specs.Lists.{gapless, all, range, up_to, concat}
use Rattle.model.specs.Bytes.{Bytes, byte, word16, word32, bytes16, bytes32, cut}
use Rattle.model.specs.Contents.{entry, entry_at, body_part, body, of_its_kind, contents_broken, bodies_broken, entries, file, head_size, contents_entry_size}
use Rattle.theory.specs.Tests.{both}
use Rattle.theory.specs.Passed.{or-false, not-false}
use Rattle.theory.specs.RangeLaws.{length-range}
use Rattle.theory.specs.Joined.{whole_contents, gapless_after}

-- Every byte is below 256.
abbrev pub AreBytes : Bytes → Type 0
AreBytes f = (i : ℕ) → byte f i < 256

-- ---- numbers read and written back

last : (b m : ℕ) → b < 256 → (b + 256 * m) % 256 ≡ b
last b m h = omega arith

first : (c d : ℕ) → c < 256 → d < 256 → (c + 256 * d) / 256 % 256 ≡ d
first c d h k = let e : (c + 256 * d) / 256 ≡ d = omega arith in rw e (omega arith)

word_back : (a b c d : ℕ) → a < 256 → b < 256 → c < 256 → d < 256 → (n : ℕ) → n ≡ a + 256 * b + 65536 * (c + 256 * d) → bytes32 n ≡ a ∷ b ∷ c ∷ d ∷ []
unfolding bytes32 bytes16
word_back a b c d ha hb hc hd n e =
    let high : n / 65536 ≡ c + 256 * d = omega arith in
    let low : n / 256 ≡ b + 256 * (c + 256 * d) = omega arith in
    let p : n % 256 ≡ a = omega arith in
    let q : n / 256 % 256 ≡ b = ap (λ (m : ℕ). m % 256) low ∙ last b (c + 256 * d) hb in
    let r : n / 65536 % 256 ≡ c = ap (λ (m : ℕ). m % 256) high ∙ last c d hc in
    let s : n / 65536 / 256 % 256 ≡ d = ap (λ (m : ℕ). m / 256 % 256) high ∙ first c d hc hd in
    λ i. p i ∷ q i ∷ r i ∷ s i ∷ []

module _ (f : Bytes) (small : AreBytes f) where
  -- Four bytes from p on are those of the number that they are.
  pub four : (p : ℕ) → p + 4 ≤ length f → take 4 (drop p f) ≡ bytes32 (word32 f p)
  unfolding word32 word16
  four p h =
      let e : drop p f ≡ byte f p ∷ byte f (p + 1) ∷ byte f (p + 2) ∷ byte f (p + 3) ∷ drop (p + 4) f = next p (omega arith)
      ∙ ap (λ (l : Bytes). byte f p ∷ l) (next (p + 1) (omega arith) ∙ ap (λ (l : Bytes). byte f (p + 1) ∷ l)
      (step₂ ∙ ap (λ (l : Bytes). byte f (p + 2) ∷ l) step₃)) in
      rw e (sym (word_back (byte f p) (byte f (p + 1)) (byte f (p + 2)) (byte f (p + 3)) (small p) (small (p + 1)) (small (p + 2)) (small (p + 3)) _ shape))
    where
      next : (q : ℕ) → q < length f → drop q f ≡ byte f q ∷ drop (q + 1) f
      next q l = let z : suc q ≡ q + 1 = omega arith in drop-cons f q 0 l ∙ ap (λ (m : ℕ). byte f q ∷ drop m f) z

      step₂ : drop (p + 1 + 1) f ≡ byte f (p + 2) ∷ drop (p + 3) f
      step₂ = let z : p + 1 + 1 ≡ p + 2 = omega arith in let y : p + 2 + 1 ≡ p + 3 = omega arith in rw z (next (p + 2) (omega arith) ∙ rw y)

      step₃ : drop (p + 3) f ≡ byte f (p + 3) ∷ drop (p + 4) f
      step₃ = let y : p + 3 + 1 ≡ p + 4 = omega arith in next (p + 3) (omega arith) ∙ rw y

      shape : byte f p + 256 * byte f (p + 1) + 65536 * (byte f (p + 2) + 256 * byte f (p + 2 + 1)) ≡ byte f p + 256 * byte f (p + 1) + 65536 *
          (byte f (p + 2) + 256 * byte f (p + 3))
      shape = let z : p + 2 + 1 ≡ p + 3 = omega arith in rw z

  -- Nine bytes from p on: the kind, and two numbers.
  nine : (p : ℕ) → p + 9 ≤ length f → take 9 (drop p f) ≡ byte f p ∷ (bytes32 (word32 f (p + 1)) ++ bytes32 (word32 f (p + 5)))
  nine p h =
      let one : drop p f ≡ byte f p ∷ drop (p + 1) f = let z : suc p ≡ p + 1 = omega arith in drop-cons f p 0 (omega arith)
      ∙ ap (λ (m : ℕ). byte f p ∷ drop m f) z in
      let y : p + 1 + 4 ≡ p + 5 = omega arith in
      let eight : take 8 (drop (p + 1) f) ≡ take 4 (drop (p + 1) f) ++ take 4 (drop 4 (drop (p + 1) f)) = take-add 4 4 (drop (p + 1) f) in
      let later : drop 4 (drop (p + 1) f) ≡ drop (p + 5) f = drop-drop 4 (p + 1) f ∙ ap (λ (m : ℕ). drop m f) y in
      rw one (ap (λ (l : Bytes). byte f p ∷ l) (eight ∙ rw (later, four (p + 1) (omega arith), four (p + 5) (omega arith))))

  body_size : (k : ℕ) → (entry f k).offset + (entry f k).size ≤ length f → length (body f k) ≡ (entry f k).size
  unfolding body cut body_part
  body_size k h = length-take-le (entry f k).size (drop (entry f k).offset f) (simp length-drop (omega arith))

  -- The entries from k on, whose bodies stand one after the other from `at` on.
  entries_are : (m k at end : ℕ) → head_size (k + m) ≤ length f → end ≤ length f → all (of_its_kind f) (range k m) ≡ true
      → gapless at (map (body_part f) (range k m)) end ≡ true
      → take (contents_entry_size * m) (drop (head_size k) f) ≡ entries k at (map (body f) (range k m))
  unfolding all gapless range entries body_part entry entry_at of_its_kind bytes32 bytes16
  entries_are zero k at end h l a g = refl
  entries_are (suc m) k at end h l a g =
      let p = both {b = eqb (byte f (head_size k)) (k + 1)} a in
      let q = both {b = eqb (word32 f (head_size k + 1)) at} g in
      let kind : byte f (head_size k) ≡ suc k = omega (arith, eqb-true (byte f (head_size k)) (k + 1) p.0) in
      let start : word32 f (head_size k + 1) ≡ at = eqb-true (word32 f (head_size k + 1)) at q.0 in
      let fits : word32 f (head_size k + 1) + word32 f (head_size k + 5) ≤ length f = omega
      (arith, start, gapless_after (at + word32 f (head_size k + 5)) end (map (body_part f) (range (suc k) m)) q.1) in
      let size : word32 f (head_size k + 5) ≡ length (body f k) = sym (body_size k fits) in
      let rest = entries_are m (suc k) (at + length (body f k)) end (omega arith) l p.1 (rw (← size) q.1) in
      let z : contents_entry_size * suc m ≡ 9 + contents_entry_size * m = omega arith in
      let y : head_size k + 9 ≡ head_size (suc k) = omega arith in
      let cut_off : drop 9 (drop (head_size k) f) ≡ drop (head_size (suc k)) f = drop-drop 9 (head_size k) f ∙ ap (λ (j : ℕ). drop j f) y in
      rw z (take-add 9 (contents_entry_size * m) (drop (head_size k) f) ∙ rw (cut_off, rest, nine (head_size k) (omega arith), kind, start, size)
      (ap (λ (l : Bytes). suc k ∷ l) (append_assoc (bytes32 at) (bytes32 (length (body f k))) _)))

  -- The bodies from k on, one after the other from `at` to `end`.
  bodies_are : (m k at end : ℕ) → end ≤ length f → gapless at (map (body_part f) (range k m)) end ≡ true
      → concat (map (body f) (range k m)) ≡ take (end - at) (drop at f)
  unfolding gapless range concat body cut
  bodies_are zero k at end l g =
      let e : end - at ≡ 0 = omega (arith, eqb-true at end g) in
      rw e
  bodies_are (suc m) k at end l g =
      let q = both {b = eqb (body_part f k).start at} g in
      let start : (body_part f k).start ≡ at = eqb-true (body_part f k).start at q.0 in
      let size : ℕ = (body_part f k).size in
      let most : at + size ≤ end = gapless_after (at + size) end (map (body_part f) (range (suc k) m)) q.1 in
      let e : end - at ≡ size + (end - (at + size)) = omega arith in
      let here : body f k ≡ take size (drop at f) = ap (λ (j : ℕ). take size (drop j f)) start in
      rw (e, bodies_are m (suc k) (at + size) end l q.1, here) (sym (take-add size (end - (at + size)) (drop at f)
      ∙ ap (λ (l : Bytes). take size (drop at f) ++ take (end - (at + size)) l) (drop-drop size at f)))

  -- The edition and the number of entries stand first.
  head_bytes : (edition n : ℕ) → contents_broken edition n f ≡ false → head_size n ≤ length f → f ≡ edition ∷ (n ∷ drop 2 f)
  unfolding contents_broken
  head_bytes edition n c long =
      let p = or-false (ltb (length f) 2 || not (eqb (byte f 0) edition) || not (eqb (byte f 1) n)) (ltb (length f) (entry_at n)) c in
      let q = or-false (ltb (length f) 2 || not (eqb (byte f 0) edition)) (not (eqb (byte f 1) n)) p.0 in
      let r = or-false (ltb (length f) 2) (not (eqb (byte f 0) edition)) q.0 in
      let a : byte f 0 ≡ edition = eqb-true (byte f 0) edition (not-false r.1) in
      let b : byte f 1 ≡ n = eqb-true (byte f 1) n (not-false q.1) in
      drop-cons f 0 0 (omega arith) ∙ rw (drop-cons f 1 0 (omega arith), a, b)

  -- The file is its head, its entries and its bodies.
  pub whole_file : (edition n : ℕ) → contents_broken edition n f ≡ false → bodies_broken n f ≡ false → f ≡ file edition (map (body f) (up_to n))
  unfolding file bodies_broken entry_at
  whole_file edition n c b =
      let long : head_size n ≤ length f = whole_contents edition n f c in
      let h = head_bytes edition n c long in
      let g = both {b = all (of_its_kind f) (up_to n)} (not-false b) in
      let count : length (map (body f) (up_to n)) ≡ n = length-map (up_to n) (body f) ∙ length-range 0 n in
      let es : take (contents_entry_size * n) (drop 2 f) ≡ entries 0 (head_size n) (map (body f) (up_to n)) = entries_are n 0 (head_size n) (length f) (omega arith)
      (omega arith)
      g.0 g.1 in
      let bs : concat (map (body f) (up_to n)) ≡ take (length f - (head_size n)) (drop (head_size n) f) = bodies_are n 0 (head_size n) (length f) (omega arith)
      g.1
      in
      let rest : drop (contents_entry_size * n) (drop 2 f) ≡ concat (map (body f) (up_to n)) = drop-drop (contents_entry_size * n) 2 f
      ∙ sym (bs ∙ take_all (length f - (head_size n)) (drop (head_size n) f) (simp length-drop (omega arith))) in
      h ∙ rw (count) (ap (λ (l : Bytes). edition ∷ (n ∷ l)) (sym (take-append-drop (contents_entry_size * n) (drop 2 f)) ∙ (rw (es, rest))))
