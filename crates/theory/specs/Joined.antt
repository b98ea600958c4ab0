-- What a file that keeps rules 1 and 2 has: all of its contents, and its bodies within it. Assumes nothing.
use Rattle.std.specs.Prelude.{ℕ, zero, suc, ◌+◌, ◌*◌, ◌<◌, ◌≤◌, ◌≡◌, refl, Bool, true, false, not, ◌||◌, List, [], ◌∷◌, map, length, get_or, eqb, ltb}
use Rattle.std.proofs.Common.{zero-add, arith, true≢false, eqb-true, ltb-false}
use Rattle.std.proofs.lemmas.List.{length-map}
use Rattle.std.proofs.lemmas.Bool.{not-false}
use Rattle.model.specs.Lists.{Part, gapless, all, up_to}
use Rattle.model.specs.Bytes.{Bytes, byte}
use Rattle.model.specs.Contents.{entry, entry_at, body_part, of_its_kind, contents_broken, bodies_broken}
use Rattle.model.specs.Oracle.{start_size, list_size, list_start, list_count, list_part, access_broken}
use Rattle.theory.specs.Tests.{both}
use Rattle.theory.specs.RangeLaws.{length-range, get_d_map_range}

neither : (b : Bool) {c : Bool} → b || c ≡ false → c ≡ false
neither true h = absurd (true≢false h)
neither false h = h

first_false : (b c : Bool) → b || c ≡ false → b ≡ false
first_false true c h = absurd (true≢false h)
first_false false c h = refl

pub whole_contents : (edition n : ℕ) (f : Bytes) → contents_broken edition n f ≡ false → entry_at n ≤ length f
unfolding contents_broken
whole_contents edition n f h =
    ltb-false (length f) (entry_at n) (neither (ltb (length f) 2 || not (eqb (byte f 0) edition) || not (eqb (byte f 1) n)) h)

-- Parts without gaps lie within their end.
pub gapless_after : (at end : ℕ) (ps : List Part) → gapless at ps end ≡ true → at ≤ end
unfolding gapless
gapless_after at end [] h = omega (arith, eqb-true at end h)
gapless_after at end (p ∷ ps) h = omega (arith, gapless_after (at + p.size) end ps (both {b = eqb p.start at} h).1)

gapless_within : (at end : ℕ) (ps : List Part) (k : ℕ) (d : Part) → gapless at ps end ≡ true → k < length ps → (get_or ps k d).start + (get_or ps k d).size ≤ end
unfolding gapless
gapless_within at end [] k d h l = absurd (omega arith)
gapless_within at end (p ∷ ps) zero d h l =
    let b = both {b = eqb p.start at} h in
    omega (arith, eqb-true p.start at b.0, gapless_after (at + p.size) end ps b.1)
gapless_within at end (p ∷ ps) (suc k) d h l = gapless_within (at + p.size) end ps k d (both {b = eqb p.start at} h).1 (omega arith)

pub part_within : (f : ℕ → Part) (at n end k : ℕ) → gapless at (map f (up_to n)) end ≡ true → k < n → (f k).start + (f k).size ≤ end
part_within f at n end k h l =
    let e = get_d_map_range f (f 0) 0 n k l in
    let q : k < length (map f (up_to n)) = rw (length-map (up_to n) f, length-range 0 n) l in
    rw (e, zero-add) at (gapless_within at end (map f (up_to n)) k (f 0) h q)

pub body_within : (f : Bytes) (n k : ℕ) → bodies_broken n f ≡ false → k < n → (entry f k).offset + (entry f k).size ≤ length f
unfolding bodies_broken body_part
body_within f n k h l =
    let g = (both {b = all (of_its_kind f) (up_to n)} (not-false _ h)).1 in
    part_within (body_part f) (entry_at n) n (length f) k g l

-- A list of an access body that keeps rule 10 lies within it.
pub list_within : (n T : ℕ) (b : Bytes) (u : ℕ) → access_broken n T b ≡ false → u < n → list_start b u + list_size (list_count b u) ≤ length b
unfolding access_broken list_part
list_within n T b u h l =
    let g : gapless (start_size * n) (map (list_part b) (up_to n)) (length b) ≡ true = not-false _ (first_false _ _ h) in
    part_within (list_part b) (start_size * n) n (length b) u g l
