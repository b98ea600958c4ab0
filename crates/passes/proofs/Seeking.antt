-- The nodes of region OWN looked for from region WANT, and the list from what a search for them has found. Assumes nothing.
use Prim.Native.Nat.{ℕ, ◌≤◌, ◌<◌}
use native.Mathlib.Nat.{zero-add}
use native.Mathlib.Omega.{arith}
use mathlib.Core.Path.{◌≡◌, refl, sym, ap, ◌∙◌}
use mathlib.Core.Bool.{or-false}
use mathlib.Core.List.{List, [], ◌∷◌, ◌++◌, Memᴰ}
use lib.ListN.{length, take, drop, replicate}
use Rattle.model.specs.Bytes.{Bytes, bytes16}
use Rattle.model.specs.Lists.{member, index_of, concat_map}
use Rattle.model.specs.Distance.{dist}
use Rattle.model.specs.Oracle.{coded}
use Rattle.model.specs.Walk.{Arc}
use Rattle.theory.specs.RangeLaws.{get_d_map_range}
use Rattle.theory.specs.Members.{get_d_mem}
use Rattle.algorithms.specs.Rounds.{distance_words}
use Rattle.algorithms.specs.Stops.{Stopped, lacking}
use Rattle.bitset.specs.Bits.{set_words, is_in, flags}
use Rattle.crossing.specs.Sets.{member_flags, either, ones}
use Rattle.crossing.specs.SetLaws.{flags_test, test_flags_same, either_test, no_members}
use Rattle.marks.specs.Due.{Flagged}
use Rattle.words.specs.Regions.{region_at, region, region_flags, want, own, transit, want_in, times_in, search_words}
use Rattle.words.proofs.Windows.{region_later, region_kept, flags_kept}
use Rattle.emit.specs.PartLaws.{concat_same, time_same}
use Rattle.bitset.specs.Members.{members_of}
use Rattle.emit.specs.Members.{Among}
use Rattle.emit.specs.Parts.{time_bytes, indexed_bytes, list_bytes_of}
use Rattle.access.specs.Pairs.{NotAlone}
use Rattle.access.proofs.Flagging as flagging
use Rattle.access.proofs.Wanted.{want_region, lacking_want}
use Rattle.passes.specs.Building.{members_in}
use Rattle.passes.specs.Sought.{Sought}
use Rattle.passes.proofs.Listing.{flagged_member, count_members}
use Rattle.words.specs.Frames.{Only, KeptFrom}
use Rattle.words.proofs.Stays.{kept_more, after_kept}

-- The list of no node has no time in it.
same_none : (d d' transits access : List ℕ) → 0 ≡ length access → list_bytes_of d transits access ≡ list_bytes_of d' transits access
unfolding list_bytes_of concat_map
same_none d d' transits [] e = refl
same_none d d' transits (a ∷ access) e = absurd (omega arith)

-- ---- region WANT made the set of region OWN
either_none : (n : ℕ) (s : List ℕ) → either (flags n s) (replicate n 0) ≡ flags n s
unfolding member_flags member
either_none n s = rw (flags_test n s, ← no_members n) (either_test (is_in s) (λ v. member v []) n ∙ test_flags_same _ _ n (λ v h. or-false (is_in s v)))

-- From the words w, region WANT is cleared in x, and united with region OWN in y.
pub sought_made : (n : ℕ) → 0 < n → (w x y : List ℕ) → NotAlone n own w → region_flags n want x ≡ replicate n 0 → Only n want w x
    → region_flags n want y ≡ either (region_flags n own x) (region_flags n want x) → Only n want x y → (left : ℕ) → left ≡ ones (region_flags n own y)
    → (members_in n own y ≡ members_in n own w) × Sought n left y × (KeptFrom (region_at n transit) w y)
sought_made n h w x y a z o u q left k = (
  ap (members_of n) (region_kept n own want x y (λ i. omega arith) q h ∙ region_kept n own want w x (λ i. omega arith) o h),
  record {
    wants = u ∙ (ap (either (region_flags n own x)) z ∙ (either_none n (drop (region_at n own) x) ∙ sym (flags_kept n own want x y (λ i. omega arith) q)));
    count = k ∙ count_members n own y;
    alone = λ v f. a v (rw (flags_kept n own want x y (λ i. omega arith) q ∙ flags_kept n own want w x (λ i. omega arith) o) at f);
  },
  after_kept _ _ x y q (region_at n transit) (omega arith) ∙ after_kept _ _ w x o (region_at n transit) (omega arith),
)

module _ (n left : ℕ) (w : List ℕ) (g : Sought n left w) where
  -- As many nodes are lacking at the beginning of a search.
  pub sought_lacking : lacking (want_in n w) (replicate n 0) ≤ left
  sought_lacking = omega (arith, lacking_want n w, ap ones g.wants, count_members n own w, g.count)

  -- Where one is sought, there are two nodes.
  pub sought_two : 0 < left → 2 ≤ n
  sought_two h =
      let m = get_d_mem (members_in n own w) 0 0 (omega (arith, g.count)) in
      g.alone _ ((flagged_member n own w _).1 m)

  -- They are sought still when a search has changed the first words.
  pub sought_later : (w' : List ℕ) → KeptFrom (search_words n) w w' → Sought n left w'
  sought_later w' e =
      let a = kept_more (search_words n) (region_at n want) w w' (omega arith) e in
      let b = kept_more (search_words n) (region_at n own) w w' (omega arith) e in
      record {
        wants = ap (flags n) a ∙ (g.wants ∙ sym (ap (flags n) b));
        count = g.count ∙ sym (ap (λ (l : List ℕ). length (members_of n (take (set_words n) l))) b);
        alone = flagging.alone_later n own w w' (omega arith) e g.alone;
      }

  -- Where none is sought, any times give the list.
  pub list_of_none : left ≡ 0 → (d d' transits : List ℕ) → list_bytes_of d transits (members_in n own w) ≡ list_bytes_of d' transits (members_in n own w)
  list_of_none z d d' transits = same_none d d' transits (members_in n own w) (sym z ∙ g.count)

  -- ---- the list, from the times that a search from s has found for them
  module _ (arcs : List Arc) (s : ℕ) (d order : List ℕ) (f : Stopped arcs n s (want_in n w) d order) where
    sought_time : (v : ℕ) → Memᴰ v (members_in n own w) → time_bytes d v ≡ time_bytes (distance_words arcs n s) v
    unfolding distance_words
    sought_time v m =
        let o = (flagged_member n own w v).1 m in
        let i : v < n = (flagging.member→ n (drop (region_at n own) w) v o).0 in
        let g' : Flagged (want_in n w) v = rw (want_region n w, g.wants) o in
        time_same d (distance_words arcs n s) v (f.wanted v i g' ∙ sym (get_d_map_range (λ v. coded (dist arcs n s v)) 0 0 n v i ∙ rw zero-add))

    sought_list : (transits : List ℕ) → list_bytes_of d transits (members_in n own w) ≡ list_bytes_of (distance_words arcs n s) transits (members_in n own w)
    unfolding list_bytes_of indexed_bytes
    sought_list transits =
        ap (λ (r : Bytes). bytes16 (length (members_in n own w)) ++ r)
        (concat_same (λ a. indexed_bytes d (index_of a transits) a) (λ a. indexed_bytes (distance_words arcs n s) (index_of a transits) a) (members_in n own w)
        (λ v m. ap (λ (r : Bytes). bytes16 (index_of v transits) ++ r) (sought_time v m)))

  -- The same from the words that the search leaves.
  pub list_searched : (w' : List ℕ) → KeptFrom (search_words n) w w' → (arcs : List Arc) (s : ℕ) (order : List ℕ)
      → Stopped arcs n s (want_in n w) (times_in n w') order
      → list_bytes_of (times_in n w') (members_in n transit w') (members_in n own w')
      ≡ list_bytes_of (distance_words arcs n s) (members_in n transit w) (members_in n own w)
  list_searched w' e arcs s order f =
      rw (kept transit (omega arith), kept own (omega arith)) (sought_list arcs s (times_in n w') order f (members_in n transit w))
    where
      kept : (k : ℕ) → search_words n ≤ region_at n k → members_in n k w' ≡ members_in n k w
      kept k h = ap (λ (l : List ℕ). members_of n (take (set_words n) l)) (kept_more (search_words n) (region_at n k) w w' h e)

-- The access nodes stay among the transit nodes in the sets that a search leaves.
pub among_later : (n : ℕ) (w w' : List ℕ) → KeptFrom (search_words n) w w' → Among n (region n own w) (region n transit w)
    → Among n (region n own w') (region n transit w')
among_later n w w' e a = rw (region_later n own w w' (omega arith) e, region_later n transit w w' (omega arith) e) a
