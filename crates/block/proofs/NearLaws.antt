-- The wanted set of a row's search, end by end, and the times with a search and without one. Assumes nothing.
use Prim.Native.Nat.{ℕ, zero, suc, ◌+◌, ◌≤◌, ◌<◌}
use native.Mathlib.Decide.{ℕ_discrete}
use native.Mathlib.Omega.{arith}
use mathlib.Core.Path.{◌≡◌, refl, sym, ap, ◌∙◌, subst}
use mathlib.Core.Bool.{Bool, true, false}
use mathlib.Core.List.{List, [], ◌∷◌}
use lib.ListN.{length, get_or, set, drop, replicate, length-replicate}
use lib.Seq.{get_or-set_same}
use Rattle.model.specs.Bytes.{Bytes}
use Rattle.model.specs.Contents.{node_body, edge_body}
use Rattle.model.specs.Lists.{any}
use Rattle.model.specs.Network.{node_count}
use Rattle.model.specs.Oracle.{coded}
use Rattle.model.specs.Query.{kind_between}
use Rattle.model.specs.Rules.{is_local, local_pair, no_such_node, well_shaped, words_needed}
use Rattle.theory.specs.Times.{kind_itself}
use Rattle.algorithms.specs.Dijkstra.{at, at_set}
use Rattle.algorithms.specs.Settle.{blank}
use Rattle.algorithms.specs.Stops.{Stopped, lacking, nonzeros, lacking_all, nonzeros_none, nonzeros_most}
use Rattle.arcs.specs.Arcs.{arcs_in}
use Rattle.bitset.specs.Bits.{set_words, is_in}
use Rattle.bitset.proofs.Members.{length_flags, flag_in, flag_out}
use Rattle.words.specs.Regions.{region_at, region_flags, times_in, want, want_in, grid_at, search_words}
use Rattle.words.specs.Times.{time_words, store}
use Rattle.opened.specs.Opened.{Opened}
use Rattle.checks.proofs.RulesKept.{some_node}
use Rattle.opened.proofs.SearchWords.{distance_in, itself_no_time}
use Rattle.checks.proofs.NameLists.{named_there}
use Rattle.block.specs.Near.{wanted_in, Wants, WantsToo, WantedTimes, NearTimes}
use Rattle.words.specs.Frames.{Only, KeptFrom}
use Rattle.words.proofs.Windows.{times_fit}
use Rattle.words.proofs.TimeLaws.{time_at, store_same, store_kept}

-- A flag more.
nonzeros_set : (xs : List ℕ) (t : ℕ) → t < length xs → at xs t ≡ 0 → nonzeros (set xs t 1) ≡ nonzeros xs + 1
unfolding nonzeros
nonzeros_set [] t h z = absurd (omega arith)
nonzeros_set (zero ∷ xs) zero h z = omega arith
nonzeros_set (suc x ∷ xs) zero h z = absurd (omega arith)
nonzeros_set (zero ∷ xs) (suc t) h z = nonzeros_set xs t (omega arith) z
nonzeros_set (suc x ∷ xs) (suc t) h z = omega (arith, nonzeros_set xs t (omega arith) z)

nonzeros_single : (n s : ℕ) → s < n → nonzeros (set (replicate n 0) s 1) ≡ 1
nonzeros_single n s h =
    omega (arith, nonzeros_set (replicate n 0) s (omega (arith, length-replicate {A = ℕ} n 0)) (omega (arith, blank n s)), nonzeros_none n)

-- ---- the start as an end: no cell is far from itself
itself_local : (o : Bytes) (s : ℕ) → local_pair o s s ≡ true
unfolding local_pair is_local kind_between
itself_local o s = rw (kind_itself _ _)

-- ---- the wanted set, end by end
module _ (o : Bytes) (s : ℕ) where
  wants_start : (n : ℕ) (names w : List ℕ) → s < n → w ≡ set (replicate n 0) s 1 → Wants o s names 0 0 w
  wants_start n names w i e = rw e (record {
    near = λ i h l. absurd (omega arith);
    only = λ v h. rw (single v h) (itself_local o s);
    count = nonzeros_single n s i;
    fits = omega arith;
    alone = λ z v h. single v h;
  })
    where
      single : (v : ℕ) → 0 < at (set (replicate n 0) s 1) v → v ≡ s
      single = at_set (λ v x. 0 < x → v ≡ s) (replicate n 0) s 1 (λ h. refl) (λ v h. absurd (omega (arith, blank n v)))

  pub wants_all : (names : List ℕ) (j left : ℕ) (w : List ℕ) → j ≡ length names → Wants o s names j left w → Wants o s names (length names) left w
  wants_all names j left w e g = subst (λ (k : ℕ). Wants o s names k left w) e g

  module _ (t : ℕ) (w : List ℕ) where
    -- The end t beside those before it.
    near_too : (w' names : List ℕ) (j left : ℕ) → get_or names j 0 ≡ t → Wants o s names j left w → ((v : ℕ) → 0 < at w v → 0 < at w' v)
        → (local_pair o s t ≡ true → 0 < at w' t) → (i : ℕ) → i < j + 1 → local_pair o s (get_or names i 0) ≡ true → 0 < at w' (get_or names i 0)
    near_too w' names j left e g more new i h = pick (ℕ_discrete i j)
      where
        pick : Dec (i ≡ j) → local_pair o s (get_or names i 0) ≡ true → 0 < at w' (get_or names i 0)
        pick (yes q) l = let k : get_or names i 0 ≡ t = ap (λ (m : ℕ). get_or names m 0) q ∙ e in rw k (new (rw k at l))
        pick (no n) l = more (get_or names i 0) (g.near i (omega (arith, n)) l)

    -- It is there already, or not local.
    pub wants_same : (local_pair o s t ≡ true → 0 < at w t) → WantsToo o s t 0 w w
    wants_same new names j left e g = record {
      near = near_too w names j left e g (λ v h. h) new;
      only = g.only;
      count = omega (arith, g.count);
      fits = omega (arith, g.fits);
      alone = λ z. g.alone (omega arith);
    }

    -- It is put there.
    pub wants_put : local_pair o s t ≡ true → t < length w → at w t ≡ 0 → (w' : List ℕ) → w' ≡ set w t 1 → WantsToo o s t 1 w w'
    wants_put l i z w' e names j left q g = rw e (record {
      near = near_too (set w t 1) names j left q g still (λ h. omega (arith, get_or-set_same w t 1 0 i));
      only = at_set (λ v x. 0 < x → local_pair o s v ≡ true) w t 1 (λ h. l) g.only;
      count = omega (arith, g.count, nonzeros_set w t i z);
      fits = omega (arith, g.fits);
      alone = λ z. absurd (omega arith);
    })
      where
        still : (v : ℕ) → 0 < at w v → 0 < at (set w t 1) v
        still = at_set (λ v x. 0 < at w v → 0 < x) w t 1 (λ h. omega arith) (λ v h. h)

-- ---- region WANT
pub wanted_size : (o : Bytes) (w : List ℕ) → length (wanted_in o w) ≡ node_count (node_body o)
unfolding want_in
wanted_size o w = length_flags (node_count (node_body o)) (drop (search_words (node_count (node_body o))) w)

-- Where the wanted set ends.
want_end : (k : ℕ) → region_at k want + set_words k ≡ grid_at k
want_end k = omega arith

-- m is the number of nodes as the code has it.
module _ (o : Bytes) (m : ℕ) (e : m ≡ node_count (node_body o)) (w : List ℕ) where
  pub want_fits : Opened o w → region_at m want + set_words m ≤ length w
  unfolding words_needed
  want_fits h = omega (arith, e, h.room, some_node o h.shape)

  want_is : (x : List ℕ) → region_flags m want x ≡ wanted_in o x
  unfolding want_in
  want_is x = let q : region_at m want ≡ search_words m = omega arith in rw (q, e)

  pub want_has : (t : ℕ) → t < node_count (node_body o) → is_in (drop (region_at m want) w) t ≡ true → 0 < at (wanted_in o w) t
  want_has t i h = rw (← want_is w) (omega (arith, flag_in m (drop (region_at m want) w) t (omega (arith, e)) h))

  pub want_lacks : (t : ℕ) → t < node_count (node_body o) → is_in (drop (region_at m want) w) t ≡ false → at (wanted_in o w) t ≡ 0
  want_lacks t i h = rw (← want_is w) (flag_out m (drop (region_at m want) w) t (omega (arith, e)) h)

  pub want_put : (x : List ℕ) (t : ℕ) → region_flags m want x ≡ set (region_flags m want w) t 1 → wanted_in o x ≡ set (wanted_in o w) t 1
  want_put x t h = sym (want_is x) ∙ (h ∙ ap (λ (l : List ℕ). set l t 1) (want_is w))

  pub want_only : (x : List ℕ) → Only m want w x → KeptFrom (grid_at (node_count (node_body o))) w x
  want_only x h = rw (want_end m, e) at h.back

  -- From w it was cleared, in x, and s put there, in y.
  module _ (x y : List ℕ) (s : ℕ) where
    pub want_first : (names : List ℕ) → s < m → region_flags m want x ≡ replicate m 0 → region_flags m want y ≡ set (region_flags m want x) s 1
        → Wants o s names 0 0 (wanted_in o y)
    want_first names i z h = wants_start o s m names (wanted_in o y) i (sym (want_is y) ∙ (h ∙ ap (λ (l : List ℕ). set l s 1) z))

-- ---- the times, in the words w' that were w when the wanted set was made
module _ (o : Bytes) (s : ℕ) (names : List ℕ) (left : ℕ) (w : List ℕ) (g : Wants o s names (length names) left (wanted_in o w)) where
  abbrev n : ℕ
  n = node_count (node_body o)

  pub want_lacking : lacking (wanted_in o w) (replicate n 0) ≤ left + 1
  want_lacking = omega (arith, lacking_all (wanted_in o w) n (omega (arith, wanted_size o w)), g.count)

  -- Where another node than s is wanted, there are two.
  pub want_two : (left ≡ 0 → ⊥) → 2 ≤ n
  want_two h = omega (arith, g.count, nonzeros_most (wanted_in o w), wanted_size o w)

  module _ (there : any (no_such_node o) names ≡ false) where
    told : (t : ℕ) → t < n → (local_pair o s t ≡ true → 0 < at (wanted_in o w) t) → is_in (drop (search_words n) w) t ≡ local_pair o s t
    unfolding want_in
    told t i near = pick (is_in (drop (search_words n) w) t) (local_pair o s t) refl refl
      where
        pick : (b c : Bool) → is_in (drop (search_words n) w) t ≡ b → local_pair o s t ≡ c → b ≡ c
        pick true c e q = sym (g.only t (omega (arith, flag_in n (drop (search_words n) w) t i e))) ∙ q
        pick false true e q = absurd (omega (arith, near q, flag_out n (drop (search_words n) w) t i e))
        pick false false e q = refl

    pub near_times : (w' : List ℕ) → KeptFrom (search_words n) w w' → WantedTimes o s (wanted_in o w) w' → NearTimes o s names w'
    near_times w' same times j h =
        let t = get_or names j 0 in
        let i : t < n = named_there o names j h there in
        let e : region_at n want ≡ search_words n = omega arith in
        record {
          told = ap (λ (k : ℕ). is_in (drop k w') t) e ∙ (ap (λ (l : List ℕ). is_in l t) same ∙ told t i (g.near j h));
          time = λ l. times t i (g.near j h l);
        }

    -- No end but s is local to it: the time of s is 0, and no search is made.
    pub itself_times : left ≡ 0 → well_shaped o ≡ true → s < n → time_words n ≤ length w → NearTimes o s names (store n s 0 w)
    itself_times z shape i room = near_times (store n s 0 w) (store_kept n s 0 w i (search_words n) (times_fit n)) (λ v k h.
        rw (g.alone z v h) (store_same n s 0 w i room ∙ sym (itself_no_time o s shape i)))

-- What a search leaves, over the bodies and the number of nodes as the code has them.
module _ (o : Bytes) (m : ℕ) (e : m ≡ node_count (node_body o)) (eb : Bytes) (p : eb ≡ edge_body o) (s : ℕ) (w w' order : List ℕ) where
  pub stopped_times : Stopped (arcs_in eb) m s (want_in m w) (times_in m w') order → WantedTimes o s (wanted_in o w) w'
  stopped_times found v i h =
      let n = node_count (node_body o) in
      let f : Stopped (arcs_in (edge_body o)) n s (want_in n w) (times_in n w') order = rw (e, p) at found in
      sym (time_at n w' v i) ∙ (f.wanted v i h ∙ ap coded (sym (distance_in o s v)))
