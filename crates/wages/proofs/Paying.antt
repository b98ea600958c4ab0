-- The sheet as it is written, leg by leg, in terms of what is left to write. Assumes nothing.
use Prim.Native.Nat.{ℕ, ◌+◌, ◌*◌, ◌≤◌, ◌<◌}
use native.Mathlib.Omega.{arith}
use mathlib.Core.Path.{◌≡◌, refl, sym, ◌∙◌, ap}
use mathlib.Core.Bool.{Bool, true, false, not, cond}
use mathlib.Core.List.{List, [], ◌∷◌, ◌++◌, map, append_assoc, append-nil}
use lib.ListN.{length}
use Rattle.model.specs.Lists.{filter, concat_map, total}
use Rattle.model.specs.Bytes.{Bytes, bytes32, bytes64, splice}
use Rattle.theory.specs.FileLaws.{length_32}
use Rattle.theory.specs.RangeLaws.{rest, rest_step, rest_end, rest_all}
use Rattle.tables.specs.Bounds.{seconds_small}
use Rattle.emit.proofs.Writing.{Then, WrittenFrom, from_start, from_next, from_end}
use Rattle.wages.specs.Wages.{leg, leg_count, legs, leg_time, leg_times, is_marked, is_time, marked, total_of, times_bytes, wages_bytes}
use Rattle.wages.specs.Kept.{LegsKept}
use Rattle.wages.specs.Sizes.{times_parts}
use Rattle.wages.specs.Tallies.{time_size, tallied}
use Rattle.wages.specs.declared.Tally.{Tally}

-- ---- one time more
module _ (t : Tally) (time : ℕ) where
  marked_on : (ts : List ℕ) → t.marked + marked (time ∷ ts) ≡ (tallied t time).marked + marked ts
  unfolding tallied marked filter
  marked_on ts = step (is_marked time)
    where
      step : (b : Bool) → t.marked + length (cond b (time ∷ filter is_marked ts) (filter is_marked ts))
          ≡ cond b (t.marked + 1) t.marked + length (filter is_marked ts)
      step true = omega arith
      step false = refl

  total_on : (ts : List ℕ) → t.total + total_of (time ∷ ts) ≡ (tallied t time).total + total_of ts
  unfolding tallied total_of filter total is_time
  total_on ts = step (is_marked time)
    where
      step : (b : Bool) → t.total + total (cond (not b) (time ∷ filter is_time ts) (filter is_time ts))
          ≡ cond b t.total (t.total + time) + total (filter is_time ts)
      step true = refl
      step false = omega arith

  few_on : (i : ℕ) → t.marked ≤ i → (tallied t time).marked ≤ i + 1
  unfolding tallied
  few_on i h = step (is_marked time)
    where
      step : (b : Bool) → cond b (t.marked + 1) t.marked ≤ i + 1
      step true = omega arith
      step false = omega arith

  small_on : (i : ℕ) → time < 4294967296 → t.total ≤ 4294967296 * i → (tallied t time).total ≤ 4294967296 * (i + 1)
  unfolding tallied
  small_on i w h = step (is_marked time)
    where
      step : (b : Bool) → cond b t.total (t.total + time) ≤ 4294967296 * (i + 1)
      step true = omega arith
      step false = omega arith

-- ---- what is left to write: these times, and the tally with them
abbrev left_bytes : Tally → List ℕ → Bytes
left_bytes t ts = concat_map bytes32 ts ++ (bytes32 (t.marked + marked ts) ++ bytes64 (t.total + total_of ts))

left_all : (ts : List ℕ) → times_bytes ts ≡ left_bytes (record { marked = 0; total = 0 }) ts
left_all ts =
    let m : 0 + marked ts ≡ marked ts = omega arith in
    let s : 0 + total_of ts ≡ total_of ts = omega arith in
    rw (m, s) (times_parts ts)

left_next : (t : Tally) (time : ℕ) (ts : List ℕ) → Then (left_bytes t (time ∷ ts)) (bytes32 time) (left_bytes (tallied t time) ts)
unfolding concat_map
left_next t time ts = record {
  is = rw (marked_on t time ts, total_on t time ts) (append_assoc (bytes32 time) (concat_map bytes32 ts) _);
}

left_end : (t : Tally) → left_bytes t [] ≡ (bytes32 t.marked ++ bytes64 t.total) ++ []
unfolding concat_map marked total_of filter total
left_end t =
    let m : t.marked + 0 ≡ t.marked = omega arith in
    let s : t.total + 0 ≡ t.total = omega arith in
    rw (m, s) (sym (append-nil (bytes32 t.marked ++ bytes64 t.total)))

-- ---- the legs, over the output as it was lent
module _ (o b old : Bytes) where
  abbrev times_left : ℕ → List ℕ
  times_left i = map (leg_time o) (map (leg b) (rest i (leg_count b)))

  pub record Paying (i : ℕ) (out : Bytes) (t : Tally) : Type 0 where
    pub far : i ≤ leg_count b
    pub bytes : WrittenFrom old 0 (wages_bytes o b) (time_size * i) out (left_bytes t (times_left i))
    pub few : t.marked ≤ i
    pub small : t.total ≤ 4294967296 * i

  pub paying_start : length (wages_bytes o b) ≤ length old → Paying 0 old (record { marked = 0; total = 0 })
  unfolding wages_bytes leg_times legs
  paying_start h =
      let none : Tally = record { marked = 0; total = 0 } in
      let room : 0 + length (times_bytes (leg_times o b)) ≤ length old = omega (arith, h) in
      record {
        far = omega arith;
        bytes = from_start (left_all (leg_times o b) ∙ ap (λ (l : List ℕ). left_bytes none (map (leg_time o) (map (leg b) l))) (rest_all (leg_count b))) room;
        few = omega arith;
        small = omega arith;
      }

  pub paying_next : (kept : LegsKept o b) (i : ℕ) (out out' : Bytes) (t t' : Tally) → i < leg_count b → Paying i out t
      → t' ≡ tallied t (leg_time o (leg b i)) → out' ≡ splice (time_size * i) (bytes32 (leg_time o (leg b i))) out → Paying (i + 1) out' t'
  paying_next kept i out out' t t' h p e s = rw e (record {
    far = omega arith;
    bytes = from_next next p.bytes (record { ends = omega (arith, length_32 time); spliced = s });
    few = few_on t time i p.few;
    small = small_on t time i (unfold leg_time in seconds_small o kept.shape (leg b i).start (leg b i).end (kept.start i h) (kept.end i h)) p.small;
  })
    where
      time : ℕ
      time = leg_time o (leg b i)

      next : Then (left_bytes t (times_left i)) (bytes32 time) (left_bytes (tallied t time) (times_left (i + 1)))
      next = rw (rest_step i (leg_count b) h) (left_next t time (times_left (i + 1)))

  pub paying_end : (i : ℕ) (out out' : Bytes) (t : Tally) → leg_count b ≤ i → Paying i out t
      → out' ≡ splice (time_size * i) (bytes32 t.marked ++ bytes64 t.total) out → out' ≡ splice 0 (wages_bytes o b) old
  paying_end i out out' t h p s =
      (from_end refl (from_next {more = []} (record { is = last }) p.bytes (record { ends = refl; spliced = s }))).spliced
    where
      last : left_bytes t (times_left i) ≡ (bytes32 t.marked ++ bytes64 t.total) ++ []
      last = rw (rest_end i (leg_count b) h) (left_end t)
