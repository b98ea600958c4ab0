-- Relaxing one arc after another: what the lent words hold on the way. Assumes nothing.
use Prim.Native.Nat.{ℕ, ◌+◌, ◌≤◌, ◌<◌}
use native.Mathlib.Omega.{arith}
use mathlib.Core.Path.{◌≡◌, refl, sym, ap, ◌∙◌}
use mathlib.Core.List.{List, [], ◌∷◌, ◌++◌}
use lib.ListN.{length, take, drop}
use Rattle.model.specs.Bytes.{Bytes}
use Rattle.model.specs.Walk.{Arc}
use Rattle.algorithms.specs.Dijkstra.{at, relax, relax_all, relax_append}
use Rattle.algorithms.proofs.DijkstraLaws.{relax_all_le, relax_all_same}
use Rattle.sheet.specs.ArcsUnder.{arcs_under}
use Rattle.arcs.specs.Arcs.{leaving}
use Rattle.heap.specs.Queue.{lowered}
use Rattle.words.specs.Frames.{KeptFrom}
use Rattle.search.specs.Holds.{Holds, Relaxed, SettledWithin}
use Rattle.arcs.proofs.Kept.{passes_kept, edges_kept}
use Rattle.words.specs.Times.{time}
use Rattle.words.proofs.TimeLaws.{time_at, times_front}
use Rattle.words.proofs.Windows.{times_fit}
use Rattle.words.specs.Regions.{front_in, times_in, search_words}
use Rattle.words.proofs.Parts.{front_is, front_others}
use Rattle.arcs.specs.declared.leaving.ArcAt.{ArcAt}
use Rattle.arcs.specs.Leaving.{EdgesUnder, arc_here, PassedArcs, SteppedArc}

relaxed_as : (n e : ℕ) (d d' w w' : List ℕ) (r : ℕ) → Relaxed n e d w w' r → d ≡ d' → Relaxed n e d' w w' r
relaxed_as n e d d' w w' r t p = rw p at t

-- d is the time of u, as it is read in all the words.
pub time_read : (n u : ℕ) (w : List ℕ) → u < n → (d : ℕ) → d ≡ time n w u → at (times_in n (front_in n w)) u ≡ d
time_read n u w i d e = ap (λ (l : List ℕ). at l u) (times_front n (search_words n) w (times_fit n)) ∙ (time_at n w u i ∙ sym e)

-- From w₀ to w, with k nodes held: the arcs that the walk has passed are relaxed.
pub record RelaxedArcs (b lines : Bytes) (n e u d : ℕ) (w₀ : List ℕ) (a : ArcAt) (w : List ℕ) (k : ℕ) : Type 0 where
  pub done : List Arc
  pub passes : PassedArcs b lines n w u done a
  pub relaxed : Relaxed n e (relax_all d done (times_in n (front_in n w₀))) (front_in n w₀) (front_in n w) k
  pub within : SettledWithin n d (front_in n w)
  pub edges : EdgesUnder b lines n w
  pub others : KeptFrom (search_words n) w₀ w

module _ (b lines : Bytes) (n e u d : ℕ) (w₀ : List ℕ) where
  pub passed_first : (k : ℕ) (a : ArcAt) → Holds n k e (front_in n w₀) → SettledWithin n d (front_in n w₀) → EdgesUnder b lines n w₀
      → PassedArcs b lines n w₀ u [] a
      → RelaxedArcs b lines n e u d w₀ a w₀ k
  unfolding relax_all
  passed_first k a h s r p = record {
    done = [];
    passes = p;
    relaxed = record { holds = h; times = refl; order = refl; settled = refl };
    within = s;
    edges = r;
    others = refl;
  }

  -- An arc is relaxed: ys come back for the words of the search in w.
  module _ (a : ArcAt) (k : ℕ) (w ys : List ℕ) (g : RelaxedArcs b lines n e u d w₀ a w k) (long : search_words n ≤ length w)
      (same : length ys ≡ length (take (search_words n) w)) where
    abbrev whole : List ℕ
    whole = ys ++ drop (search_words n) w

    kept : KeptFrom (search_words n) w whole
    kept = front_others w ys (search_words n) long same

    pub turn_passes : PassedArcs b lines n whole u g.done a
    turn_passes = passes_kept b lines n w whole kept u a g.done g.passes

    pub turn_edges : EdgesUnder b lines n whole
    turn_edges = edges_kept b lines n w whole kept g.edges

    module _ (r : ℕ) (t : Relaxed n e (lowered (times_in n (front_in n w)) a.to (d + a.cost)) (front_in n w) ys r) where
      one : times_in n ys ≡ relax_all d (arc_here u a ∷ []) (times_in n (front_in n w))
      unfolding relax_all relax
      one = t.times

      more : times_in n ys ≡ relax_all d (g.done ++ arc_here u a ∷ []) (times_in n (front_in n w₀))
      more = one ∙ ap (relax_all d (arc_here u a ∷ [])) g.relaxed.times ∙ sym (relax_append d g.done (arc_here u a ∷ []) (times_in n (front_in n w₀)))

      pub passed_next : (a' : ArcAt) → SteppedArc b lines n whole u a a' → RelaxedArcs b lines n e u d w₀ a' whole r
      passed_next a' s = record {
        done = g.done ++ arc_here u a ∷ [];
        passes = s.passes g.done turn_passes;
        relaxed = rw (front_is w ys (search_words n) long same) (record {
          holds = t.holds;
          times = more;
          order = t.order
              ∙ g.relaxed.order;
          settled = t.settled ∙ g.relaxed.settled;
        });
        within = rw (front_is w ys (search_words n) long same)
            (λ v l z. omega (
              arith,
              ap (λ (x : List ℕ). at x v) one,
              relax_all_le d (arc_here u a ∷ []) (times_in n (front_in n w)) v,
              g.within v l
                  (rw t.settled at z),
            ));
        edges = turn_edges;
        others = kept ∙ g.others;
      }

  -- All are passed.
  pub passed_last : (k : ℕ) (w : List ℕ) (a : ArcAt) → n ≤ a.to → RelaxedArcs b lines n e u d w₀ a w k
      → Relaxed n e (relax_all d (leaving u (arcs_under b lines)) (times_in n (front_in n w₀))) (front_in n w₀) (front_in n w) k
  passed_last k w a h g =
      relaxed_as n e _ _ (front_in n w₀) (front_in n w) k g.relaxed
      (relax_all_same d g.done (leaving u (arcs_under b lines)) (times_in n (front_in n w₀)) (g.passes.all h))
