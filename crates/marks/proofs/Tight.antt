-- Arcs that lead on, one at a time. Assumes nothing.
use Prim.Native.Nat.{ℕ, ◌+◌, ◌-◌, ◌<◌}
use mathlib.Core.Path.{◌≡◌, refl}
use mathlib.Core.Bool.{Bool, true, false, cond}
use mathlib.Core.List.{List}
use borrow.Author.Tests.{eq-eqb, eqb-true}
use borrow.Rule.Slice.PartMut.{mid_of}
use lib.Dec.{eqb, ltb}
use lib.ListN.{length, get_or, drop}
use Rattle.model.specs.Lists.{any}
use Rattle.model.specs.Walk.{Arc}
use Rattle.theory.specs.Tests.{both}
use Rattle.algorithms.specs.Dijkstra.{at}
use Rattle.bitset.specs.Bits.{is_in, flag, flags}
use Rattle.bitset.proofs.Members.{flag_at}
use Rattle.marks.specs.Due.{leading, due}
use Rattle.words.proofs.Parts.{back_part}
use Rattle.words.specs.Regions.{times_in, marks_in, queue_words}

-- ---- a node of the set is one whose flag is not 0
flag_test : (n : ℕ) (s : List ℕ) (v : ℕ) → v < n → ltb 0 (at (flags n s) v) ≡ is_in s v
unfolding flag
flag_test n s v h = rw (flag_at n s v h) (pick (is_in s v))
  where
    pick : (b : Bool) → ltb 0 (cond b 1 0) ≡ b
    pick true = refl
    pick false = refl

-- ---- one arc from v, by the words w; m is where the marks begin, as the code has it
module _ (w : List ℕ) (n v to cost : ℕ) (j : to < n) (m : ℕ) (e : m ≡ queue_words n) where
  abbrev Leads : Bool → Type 0
  Leads r = r ≡ leading (times_in n w) (marks_in n w) v (record { from = v; to = to; cost = cost })

  abbrev marked : Bool
  marked = is_in (mid_of m (length w - m) w) to

  pub arc_unmarked : marked ≡ false → Leads false
  unfolding leading
  arc_unmarked h = let k : is_in (drop (queue_words n) w) to ≡ false = rw (back_part w m, e) at h in rw
      (eq-eqb v v refl, flag_test n (drop (queue_words n) w) to j, k)

  -- x and y are the times of the two nodes.
  pub arc_marked : marked ≡ true → (x y : ℕ) → x ≡ get_or (times_in n w) to 0 → y ≡ get_or (times_in n w) v 0 → Leads (eqb x (y + cost))
  unfolding leading
  arc_marked h x y p q =
      let k : is_in (drop (queue_words n) w) to ≡ true = rw (back_part w m, e) at h in
      rw (eq-eqb v v refl, flag_test n (drop (queue_words n) w) to j, k, ← p, ← q)

-- ---- a node, where the wanted ones are the bits s
module _ (arcs : List Arc) (t s m : List ℕ) (n v : ℕ) (i : v < n) where
  pub due_wanted : is_in s v ≡ true → true ≡ due arcs t (flags n s) m v
  unfolding due
  due_wanted h = rw (flag_test n s v i, h)

  pub due_leads : is_in s v ≡ false → any (leading t m v) arcs ≡ due arcs t (flags n s) m v
  unfolding due
  due_leads h = rw (flag_test n s v i, h)

pub leading_from : (times marks : List ℕ) (v : ℕ) (a : Arc) → leading times marks v a ≡ true → a.from ≡ v
unfolding leading
leading_from times marks v a e = eqb-true a.from v (both {b = eqb a.from v} e).0
