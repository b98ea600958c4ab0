-- A list of 16-bit numbers that was written is read back. Assumes nothing.
use Rattle.std.specs.Prelude.{ℕ, ◌+◌, ◌*◌, ◌/◌, ◌<◌, ◌≡◌, refl, List, [], ◌∷◌, map, length, get_or}
use Rattle.std.proofs.Common.{arith, ◌∙◌, ap}
use Rattle.model.specs.Lists.{concat_map}
use Rattle.model.specs.Bytes.{word16, bytes16, number_size, words16}
use Rattle.theory.specs.FileLaws.{word16_read}
use Rattle.theory.specs.ReadLaws as read

map-id : {A : Type 0} (l : List A) → map (λ x. x) l ≡ l
map-id [] = refl
map-id (x ∷ l) = ap (λ r. x ∷ r) (map-id l)

pub words_read : (l : List ℕ) → ((i : ℕ) → i < length l → get_or l i 0 < 65536) → words16 (concat_map bytes16 l) ≡ l
unfolding words16
words_read l h =
    let count : length (concat_map bytes16 l) / number_size ≡ length l = omega (arith, read.length_numbers l) in
    rw count (read.map_range (λ i. word16 (concat_map bytes16 l) (number_size * i)) (λ x. x) 0 0 l (λ i q. each i q) ∙ map-id l)
  where
    each : (i : ℕ) → i < length l → word16 (concat_map bytes16 l) (number_size * (0 + i)) ≡ get_or l i 0
    each i q =
        let e : number_size * (0 + i) ≡ number_size * i + 0 = omega arith in
        rw e (read.word16_drop (concat_map bytes16 l) (number_size * i) 0 ∙ rw (read.drop_concat_map bytes16 number_size (λ n. unfold bytes16 in refl) i l 0 q)
        (word16_read (get_or l i 0) _ (h i q)))

-- ---- the rules
