-- Relaxing one edge after another under the lines of a sheet: what the lent words hold on the way. Assumes nothing.
use Prim.Native.Nat.{ℕ, ◌+◌, ◌≤◌, ◌<◌}
use native.Mathlib.Omega.{arith}
use mathlib.Core.Path.{◌≡◌, refl, sym, ap, ◌∙◌, subst}
use mathlib.Core.Bool.{false}
use mathlib.Core.List.{List, [], ◌∷◌, ◌++◌}
use lib.ListN.{length, take, drop}
use borrow.Author.Tests.{ne_eqb}
use Rattle.model.specs.Lists.{concat_map}
use Rattle.model.specs.Bytes.{Bytes}
use Rattle.model.specs.Walk.{Arc}
use Rattle.model.specs.Network.{edge, edge_count, some_edge_broken}
use Rattle.model.specs.Oracle.{no_walk}
use Rattle.theory.specs.Sound.{edge_fine, max_cost}
use Rattle.algorithms.specs.Dijkstra.{at, relax, relax_all, relax_append}
use Rattle.algorithms.proofs.DijkstraLaws.{relax_all_le, relax_all_same}
use Rattle.heap.specs.Queue.{lowered}
use Rattle.words.specs.Frames.{Enough, KeptFrom}
use Rattle.words.specs.Regions.{front_in, times_in, search_words, index_at}
use Rattle.words.proofs.Parts.{front_is}
use Rattle.words.proofs.Stays.{kept_more}
use Rattle.sheet.specs.Sheet.{lines_in, holds}
use Rattle.sheet.specs.ArcsUnder.{arcs_under, arcs_left}
use Rattle.sheet.specs.Spans.{cost_left}
use Rattle.arcs.specs.Arcs.{leaving}
use Rattle.arcs.specs.Cursor.{PassedEdges, Stepped}
use Rattle.arcs.specs.declared.cursor.Cursor.{Cursor}
use Rattle.arcs.specs.Leaving.{EdgesUnder, EndAt, LeftAt, arcs_over}
use Rattle.arcs.proofs.Kept.{edges_kept, passing_kept}
use Rattle.arcs.proofs.Passes.{Other, left_some, over_more}
use Rattle.arcs.proofs.Same.{passing_all, arcs_same→, →arcs_same}
use Rattle.search.specs.Holds.{Holds, Relaxed, SettledWithin}

-- Where there is an edge, there is room for a search.
pub edge_room : (n : ℕ) (edges : Bytes) (i : ℕ) (w : List ℕ) → some_edge_broken n edges ≡ false → i < edge_count edges → Enough n w → search_words n ≤ length w
edge_room n edges i w ends h long = omega (arith, (edge_fine n edges ends i h).first_in)

-- ---- one edge i at u: s and v are its cost and its other end, as the code has read them
module _ (edges lines : Bytes) (n u i : ℕ) (ends : some_edge_broken n edges ≡ false) (h : i < edge_count edges) (end : EndAt edges lines u i)
    (first second v s : ℕ) (p : first ≡ (edge edges i).first) (q : second ≡ (edge edges i).second) (o : Other first second u v)
    (r : s ≡ cost_left (holds (lines_in lines) i) (edge edges i)) where
  here : LeftAt edges lines n u (record { edge = i; stop = 0; link = 0; size = 0 }) (record { to = v; cost = s; edge = i; stop = 0; link = 0; size = 0 })
  here = left_some edges lines n u (record { edge = i; stop = 0; link = 0; size = 0 }) ends h end first second v s p q o r

  pub end_in : v < n
  end_in = here.inside h

  pub cost_low : (s ≡ no_walk → ⊥) → s ≤ max_cost
  cost_low = here.low

  pub one_arc : (s ≡ no_walk → ⊥) → leaving u (arcs_left edges lines i) ≡ record { from = u; to = v; cost = s } ∷ []
  one_arc d = here.arc h ∙ rw (ne_eqb s no_walk d)

module _ (n e u d : ℕ) (w : List ℕ) (k : ℕ) (g : Holds n k e (front_in n w)) (arcs : List Arc) where
  pub closed_edge : arcs ≡ [] → Relaxed n e (relax_all d arcs (times_in n (front_in n w))) (front_in n w) (front_in n w) k
  unfolding relax_all
  closed_edge z = rw z (record { holds = g; times = refl; order = refl; settled = refl })

  pub offered : (v s : ℕ) → arcs ≡ record { from = u; to = v; cost = s } ∷ [] → (ys : List ℕ) (r : ℕ) → search_words n ≤ length w
      → length ys ≡ length (take (search_words n) w)
      → Relaxed n e (lowered (times_in n (front_in n w)) v (d + s)) (front_in n w) ys r
      → Relaxed n e (relax_all d arcs (times_in n (front_in n w))) (front_in n w) (front_in n (ys ++ drop (search_words n) w)) r
  unfolding relax_all relax
  offered v s z ys r long same t =
      rw (z, front_is w ys (search_words n) long same) (record { holds = t.holds; times = t.times; order = t.order; settled = t.settled })

-- ---- from w₀ to w, with k nodes held: what is left of the edges passed is relaxed
pub record RelaxedEdges (b lines : Bytes) (n e u d : ℕ) (w₀ : List ℕ) (c : Cursor) (w : List ℕ) (k : ℕ) : Type 0 where
  pub over : List ℕ
  pub passing : PassedEdges b n w u over c
  pub relaxed : Relaxed n e (relax_all d (arcs_over b lines u over) (times_in n (front_in n w₀))) (front_in n w₀) (front_in n w) k
  pub within : SettledWithin n d (front_in n w)
  pub edges : EdgesUnder b lines n w
  pub others : KeptFrom (search_words n) w₀ w

module _ (b lines : Bytes) (n e u d : ℕ) (w₀ : List ℕ) where
  pub edges_first : (k : ℕ) (c : Cursor) → Holds n k e (front_in n w₀) → SettledWithin n d (front_in n w₀) → EdgesUnder b lines n w₀
      → PassedEdges b n w₀ u [] c → RelaxedEdges b lines n e u d w₀ c w₀ k
  unfolding relax_all arcs_over concat_map
  edges_first k c h s r p = record {
    over = [];
    passing = p;
    relaxed = record { holds = h; times = refl; order = refl; settled = refl };
    within = s;
    edges = r;
    others = refl;
  }

  -- An edge is relaxed, and the words become w'.
  module _ (c : Cursor) (k : ℕ) (w w' : List ℕ) (g : RelaxedEdges b lines n e u d w₀ c w k) (kept : KeptFrom (search_words n) w w') where
    pub turn_edges : EdgesUnder b lines n w'
    turn_edges = edges_kept b lines n w w' kept g.edges

    pub turn_passing : PassedEdges b n w' u g.over c
    turn_passing = passing_kept b n w w' (kept_more (search_words n) (index_at n) w w' (omega arith) kept) u c g.over g.passing

    pub edges_next : (r : ℕ) → Relaxed n e (relax_all d (leaving u (arcs_left b lines c.edge)) (times_in n (front_in n w))) (front_in n w) (front_in n w') r
        → (c' : Cursor) → Stepped b n w' u c c' → RelaxedEdges b lines n e u d w₀ c' w' r
    edges_next r t c' s =
        let j = c.edge in
        let new = leaving u (arcs_left b lines j) in
        let times₀ = times_in n (front_in n w₀) in
        let more : times_in n (front_in n w') ≡ relax_all d (arcs_over b lines u (g.over ++ j ∷ [])) times₀ =
        t.times ∙ (ap (relax_all d new) g.relaxed.times ∙ (sym (relax_append d (arcs_over b lines u g.over) new times₀)
        ∙ ap (λ (l : List Arc). relax_all d l times₀) (sym (over_more b lines u g.over j)))) in
        record {
          over = g.over ++ j ∷ [];
          passing = s.passing g.over turn_passing;
          relaxed = record { holds = t.holds; times = more; order = t.order ∙ g.relaxed.order; settled = t.settled ∙ g.relaxed.settled };
          within = λ v l z. omega (
            arith,
            ap (λ (x : List ℕ). at x v) t.times,
            relax_all_le d new (times_in n (front_in n w)) v,
            g.within v l (rw t.settled at z),
          );
          edges = turn_edges;
          others = kept ∙ g.others;
        }

  -- All are passed.
  pub edges_last : (k : ℕ) (w : List ℕ) (c : Cursor) → edge_count b ≤ c.edge → RelaxedEdges b lines n e u d w₀ c w k
      → Relaxed n e (relax_all d (leaving u (arcs_under b lines)) (times_in n (front_in n w₀))) (front_in n w₀) (front_in n w) k
  edges_last k w c h g =
      let all = passing_all b u g.over n w c h g.passing in
      let same = relax_all_same d (arcs_over b lines u g.over) (leaving u (arcs_under b lines)) (times_in n (front_in n w₀))
      (λ x. (arcs_same→ b u g.over lines all x, →arcs_same b u g.over lines all x)) in
      subst (λ (t : List ℕ). Relaxed n e t (front_in n w₀) (front_in n w) k) same g.relaxed
