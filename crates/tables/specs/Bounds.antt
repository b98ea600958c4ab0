-- A time over a well-shaped oracle, built or not, has at most 3 × 409,500,000 seconds: a 32-bit number, and never the mark of 'no walk'. Assumes nothing.
use Prim.Native.Nat.{ℕ, ◌+◌, ◌*◌, ◌≤◌, ◌<◌}
use Rattle.std.proofs.Math.Decide.{ℕ_discrete}
use native.Mathlib.Omega.{arith}
use Rattle.std.specs.Prelude.{◌≡◌, true}
use Rattle.std.proofs.Math.Path.{refl}
use mathlib.Core.List.{List, [], ◌∷◌, Memᴰ}
use Rattle.std.proofs.Common.{eq-eqb, ne_eqb}
use Rattle.model.specs.Lists.{up_to}
use Rattle.model.specs.Bytes.{Bytes, number_size}
use Rattle.model.specs.Contents.{node_body, transit_body, access_body, table_body}
use Rattle.model.specs.Distance.{Distance, unreachable, finite, plus, sooner, soonest}
use Rattle.model.specs.Network.{network, order, node_count, arcs, distance}
use Rattle.model.specs.Oracle.{value_size, no_seconds, no_walk, coded, decoded, value_key, value, AccessEntry, access_at, access_entry, access_list, list_count}
use Rattle.model.specs.Oracle.{table_entry, transit_count}
use Rattle.model.specs.Query.{distance_of, sum_by, far_distance, time_answer, time_word, seconds_word, answer_of, kind_between, far_answer}
use Rattle.model.specs.Query.{local_answer}
use Rattle.model.specs.Rules.{well_shaped}
use Rattle.model.specs.declared.Kind.{Kind}
use Rattle.model.specs.declared.Kind.TheVariants.{Far, Local}
use Rattle.theory.specs.Exact.{dist_bound}
use Rattle.theory.specs.Given.{distance_of_law}
use Rattle.theory.specs.Members.{map→, range→}
use Rattle.theory.specs.Passed.{Sound, all_shaped}
use Rattle.theory.specs.ReadLaws.{Small, decoded_coded}
use Rattle.theory.specs.Sound.{max_cost, within, costs, few, count_nodes}
use Rattle.tables.specs.Premises.{max_key, InRange}
use Rattle.tables.specs.Entries.{index_below, value_in_range, cell_in_range}
use Rattle.tables.specs.Oracles.{has_list, has_table}

-- ---- 'no walk', or at most this key
abbrev Within : ℕ → Distance → Type 0
Within k unreachable = Unit {0}
Within k (finite n) = n ≤ k

within_sum : (k m : ℕ) (x y : Distance) → Within k x → Within m y → Within (k + m) (plus x y)
unfolding plus
within_sum k m unreachable y p q = tt
within_sum k m (finite a) unreachable p q = tt
within_sum k m (finite a) (finite b) p q = omega arith

within_sooner : (k : ℕ) (x y : Distance) → Within k x → Within k y → Within k (sooner x y)
unfolding sooner
within_sooner k unreachable y p q = q
within_sooner k (finite a) unreachable p q = p
within_sooner k (finite a) (finite b) p q = omega arith

within_soonest : {A : Type 0} (k : ℕ) (f : A → Distance) (l : List A) → ((x : A) → Memᴰ x l → Within k (f x)) → Within k (soonest f l)
unfolding soonest
within_soonest k f [] h = tt
within_soonest k f (x ∷ l) h = within_sooner k (f x) (soonest f l) (h x (Memᴰ.head refl)) (within_soonest k f l (λ y m. h y (Memᴰ.tail m)))

value_within : (v : ℕ) {x : Distance} → decoded v ≡ x → InRange v → Within max_key x
unfolding decoded
value_within v e r = rw (← e) (pick (ℕ_discrete v no_walk))
  where
    pick : Dec (v ≡ no_walk) → Within max_key (decoded v)
    pick (yes e) = rw (eq-eqb v no_walk e) tt
    pick (no d) = rw (ne_eqb v no_walk d) (r d)

-- The most that a sum of three values comes to.
abbrev most : ℕ
most = max_key + (max_key + max_key)

-- ---- the far answer
module _ (o : Bytes) (shape : well_shaped o ≡ true) where
  abbrev T : ℕ
  T = transit_count (transit_body o)

  -- An entry of a list: an index that the table has, and a value in range.
  abbrev Fine : AccessEntry → Type 0
  Fine a = (a.index < T) × Within max_key a.distance

  entry_fine : (u : ℕ) → u < node_count (node_body o) → (a : AccessEntry) → Memᴰ a (access_list (access_body o) u) → Fine a
  unfolding access_list
  entry_fine u h a m =
      let (i, j, e) = map→ (access_entry (access_body o) u) (up_to (list_count (access_body o) u)) m in
      let k : i < list_count (access_body o) u = let r = (range→ 0 (list_count (access_body o) u) i j).1 in omega arith in
      rw e (there u h i k)
    where
      there : (u : ℕ) → u < node_count (node_body o) → (i : ℕ) → i < list_count (access_body o) u → Fine (access_entry (access_body o) u i)
      there u h i k =
          let l = has_list o (all_shaped o shape) u h in
          let v : ℕ = value_key (access_body o) (access_at (access_body o) u i + number_size) in
          let e : decoded v ≡ (access_entry (access_body o) u i).distance = unfold access_entry value in refl in
          (index_below T (access_body o) u l i k, value_within v e (value_in_range T (access_body o) u l i k v e))

  sum_within : (a b : AccessEntry) → Fine a → Fine b → Within most (sum_by (table_body o) T a b)
  unfolding sum_by
  sum_within a b p q = within_sum max_key _ _ _ p.1 (within_sum max_key max_key _ _ cell q.1)
    where
      cell : Within max_key (table_entry (table_body o) T a.index b.index)
      cell =
          let v : ℕ = value_key (table_body o) (value_size * (a.index * T + b.index)) in
          let e : decoded v ≡ table_entry (table_body o) T a.index b.index = unfold table_entry value in refl in
          value_within v e (cell_in_range T (table_body o) (has_table o (all_shaped o shape)) a.index b.index p.0 q.0 v e)

  module _ (s t : ℕ) (hs : s < node_count (node_body o)) (ht : t < node_count (node_body o)) where
    abbrev leaving : List AccessEntry
    leaving = access_list (access_body o) s

    abbrev entering : List AccessEntry
    entering = access_list (access_body o) t

    far_within : Within most (far_distance (table_body o) T leaving entering)
    unfolding far_distance
    far_within = within_soonest most (λ a. soonest (sum_by (table_body o) T a) entering) leaving (λ a m. within_soonest most (sum_by (table_body o) T a) entering
        (λ b k. sum_within a b (entry_fine s hs a m) (entry_fine t ht b k)))

    -- ---- the local answer: a walk that passes no node twice has at most 4,095 roads
    local_within : Within most (distance (network o) s t)
    unfolding distance
    local_within = step (distance (network o) s t) refl
      where
        sound : Sound o
        sound = (all_shaped o shape).sound

        step : (x : Distance) → distance (network o) s t ≡ x → Within most x
        step unreachable e = tt
        step (finite n) e =
            let bound = dist_bound (arcs (network o)) (order (network o)) s t (within o sound) (rw (count_nodes o) hs) max_cost n (costs o sound) e in
            omega (arith, few o sound, bound)

    -- ---- the time
    time_within : Within most (distance_of (time_answer o s t))
    unfolding time_answer answer_of local_answer far_answer
    time_within = step (kind_between o s t)
      where
        step : (k : Kind) → Within most (distance_of (answer_of k o s t))
        step Far = rw (distance_of_law Far) far_within
        step Local = rw (distance_of_law Local 0 (distance (network o) s t)) local_within

    word_within : (time_word o s t ≡ no_walk → ⊥) → time_word o s t ≤ most
    unfolding time_word coded
    word_within = step (distance_of (time_answer o s t)) time_within
      where
        step : (d : Distance) → Within most d → (coded d ≡ no_walk → ⊥) → coded d ≤ most
        step unreachable h ne = absurd (ne refl)
        step (finite n) h ne = h

    pub word_small : time_word o s t ≤ no_walk
    word_small = pick (ℕ_discrete (time_word o s t) no_walk)
      where
        pick : Dec (time_word o s t ≡ no_walk) → time_word o s t ≤ no_walk
        pick (yes e) = omega arith
        pick (no ne) = omega (arith, word_within ne)

    pub seconds_small : seconds_word o s t < 4294967296
    unfolding seconds_word
    seconds_small = omega (arith, word_small)

    -- The key tells the time, and the seconds alone tell 'no walk'.
    pub word_tells : decoded (time_word o s t) ≡ distance_of (time_answer o s t)
    unfolding time_word
    word_tells = decoded_coded (distance_of (time_answer o s t)) (step (distance_of (time_answer o s t)) time_within)
      where
        step : (d : Distance) → Within most d → Small d
        step unreachable h = tt
        step (finite n) h = omega arith

    pub seconds_tell : seconds_word o s t ≡ no_seconds → time_word o s t ≡ no_walk
    unfolding seconds_word
    seconds_tell e = pick (ℕ_discrete (time_word o s t) no_walk)
      where
        pick : Dec (time_word o s t ≡ no_walk) → time_word o s t ≡ no_walk
        pick (yes d) = d
        pick (no ne) = absurd (omega (arith, word_within ne))
