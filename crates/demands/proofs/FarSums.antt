-- The far answer of any well-shaped oracle is the least sum of pairs that its lists and table hold. Assumes nothing.
use Prim.Native.Nat.{ℕ, ◌+◌, ◌<◌}
use Rattle.std.proofs.Common.{arith, ◌∙◌, subst}
use Rattle.std.specs.Prelude.{◌≡◌, refl}
use Rattle.std.proofs.Math.Path.{sym, ap}
use mathlib.Core.List.{List, Memᴰ}
use Rattle.model.specs.Bytes.{Bytes}
use Rattle.model.specs.Contents.{node_body, transit_body, access_body, table_body}
use Rattle.model.specs.Pair.{Pair, NoMore, hop_base, pair_of, hops_of}
use Rattle.model.specs.Distance.{Distance, unreachable, finite, IsLeast, IsLeastPair, plus}
use Rattle.model.specs.Network.{node_count}
use Rattle.model.specs.Oracle.{AccessEntry, transit_count, access_list, table_entry}
use Rattle.model.specs.Query.{sum_by, far_distance}
use Rattle.theory.specs.Least.{apart, time_inj, Among, meets_soonest}
use Rattle.theory.specs.Keys.{key_of, key_of_pair, pair_of_key, key_order, key_sum₃}
use Rattle.theory.specs.Passed.{Shaped}
use Rattle.demands.specs.Outcomes.{FarSum}
use Rattle.demands.specs.FarHops.{entry_hops, cell_hops}

-- A distance is the least number that it is.
itself : (x : Distance) → IsLeast (λ n. x ≡ finite n) x
itself unreachable = λ n e. apart e
itself (finite m) = record { has = refl; least = λ k e. omega (arith, time_inj e) }

-- The parts of a sum that is finite.
record Parts (p q r : Distance) (n : ℕ) : Type 0 where
  x : ℕ
  y : ℕ
  z : ℕ
  first : p ≡ finite x
  middle : q ≡ finite y
  last : r ≡ finite z
  sum : x + y + z ≡ n

parts : (p q r : Distance) (n : ℕ) → plus p (plus q r) ≡ finite n → Parts p q r n
unfolding plus
parts (finite x) (finite y) (finite z) n e = record { x = x; y = y; z = z; first = refl; middle = refl; last = refl; sum = omega (arith, time_inj e) }
parts (finite x) (finite y) unreachable n e = absurd (apart e)
parts (finite x) unreachable r n e = absurd (apart e)
parts unreachable q r n e = absurd (apart e)

whole : {p q r : Distance} {x y z n : ℕ} → p ≡ finite x → q ≡ finite y → r ≡ finite z → x + y + z ≡ n → plus p (plus q r) ≡ finite n
unfolding plus
whole a b c e = rw (a, b, c) (ap finite (omega arith))

-- What is least by keys is least by pairs, where each of the pairs has few hops.
by_keys : (K : ℕ → Type 0) (P : Pair → Type 0) → ((n : ℕ) → K n → P (pair_of n)) → ((p : Pair) → P p → K (key_of p) × (p.hops < hop_base))
    → (x : Distance) → IsLeast K x → IsLeastPair P x
by_keys K P there back (finite n) l = record {
  has = there n l.has;
  least = λ q w.
      let r = back q w in
      subst (λ (z : Pair). NoMore (pair_of n) z) (pair_of_key q r.1) ((key_order n (key_of q)).0 (l.least (key_of q) r.0));
}
by_keys K P there back unreachable l = λ p w. l (key_of p) (back p w).0

module _ (o : Bytes) (shaped : Shaped o) (s t : ℕ) (hs : s < node_count (node_body o)) (ht : t < node_count (node_body o)) where
  abbrev out : List AccessEntry
  out = access_list (access_body o) s

  abbrev into : List AccessEntry
  into = access_list (access_body o) t

  abbrev T : ℕ
  T = transit_count (transit_body o)

  SumOf : AccessEntry → AccessEntry → ℕ → Type 0
  SumOf a b n = sum_by (table_body o) T a b ≡ finite n

  Some : ℕ → Type 0
  Some = Among out (λ a. Among into (SumOf a))

  sums : IsLeast Some (far_distance (table_body o) T out into)
  unfolding far_distance Some SumOf
  sums = meets_soonest (λ a. Among into (SumOf a)) _ out (λ a m. meets_soonest (SumOf a) (sum_by (table_body o) T a) into
      (λ b k. itself (sum_by (table_body o) T a b)))

  -- The three parts of a sum have few hops, so that keys are added as pairs are.
  few : (a b : AccessEntry) → Memᴰ a out → Memᴰ b into → {x y z : ℕ} → a.distance ≡ finite x
      → table_entry (table_body o) T a.index b.index ≡ finite y → b.distance ≡ finite z → hops_of x + hops_of y + hops_of z < hop_base
  few a b m k {x} {y} {z} p q r =
      let c = entry_hops o shaped s hs m in
      let d = entry_hops o shaped t ht k in
      omega (arith, c.1 x p, cell_hops o shaped a.index b.index c.0 d.0 y q, d.1 z r)

  some_sum : (n : ℕ) → Some n → FarSum o s t (pair_of n)
  unfolding Some SumOf sum_by
  some_sum n w =
      let p = parts w.x.distance (table_entry (table_body o) T w.x.index w.has.x.index) w.has.x.distance n w.has.has in
      record {
        a = w.x;
        b = w.has.x;
        leaving = w.listed;
        entering = w.has.listed;
        x = p.x;
        y = p.y;
        z = p.z;
        first = p.first;
        middle = p.middle;
        last = p.last;
        sum = sym (key_sum₃ p.x p.y p.z (few w.x w.has.x w.listed w.has.listed p.first p.middle p.last)) ∙ ap pair_of p.sum;
      }

  sum_some : (p : Pair) → FarSum o s t p → Some (key_of p) × (p.hops < hop_base)
  unfolding Some SumOf sum_by
  sum_some p h =
      let n : ℕ = h.x + h.y + h.z in
      let e : pair_of n ≡ p = key_sum₃ h.x h.y h.z (few h.a h.b h.leaving h.entering h.first h.middle h.last) ∙ h.sum in
      let k : n ≡ key_of p = sym (key_of_pair n) ∙ ap key_of e in (
        record {
          x = h.a;
          listed = h.leaving;
          has = record { x = h.b; listed = h.entering; has = whole h.first h.middle h.last k };
        },
        omega (arith, ap (λ (q : Pair). q.hops) e),
      )

  pub far_least_sum : IsLeastPair (FarSum o s t) (far_distance (table_body o) T out into)
  far_least_sum = by_keys Some (FarSum o s t) some_sum sum_some (far_distance (table_body o) T out into) sums
