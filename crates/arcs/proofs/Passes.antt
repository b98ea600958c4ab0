-- From the cursor over the edges at u to the arcs out of u that a sheet leaves: edges that it closes are passed over. Assumes nothing.
use Prim.Native.Nat.{ℕ, ◌+◌, ◌<◌, ◌≤◌}
use native.Mathlib.Decide.{ℕ_discrete, dec_lt}
use native.Mathlib.Nat.{add-zero}
use native.Mathlib.Omega.{arith}
use mathlib.Core.Path.{◌≡◌, refl, sym, ap, ◌∙◌, subst}
use mathlib.Core.Bool.{Bool, true, false, cond}
use mathlib.Core.List.{List, [], ◌∷◌, ◌++◌, append-nil, append_assoc, Memᴰ}
use mathlib.Core.Logic.{◌⊎◌, inl, inr}
use lib.ListN.{length}
use lib.Dec.{eqb}
use borrow.Author.Tests.{eq-eqb, ne_eqb}
use Rattle.model.specs.Lists.{filter, concat_map}
use Rattle.model.specs.Bytes.{Bytes}
use Rattle.model.specs.Pair.{key}
use Rattle.model.specs.Walk.{Arc}
use Rattle.model.specs.Network.{Edge, edge, edge_count, arcs_of, some_edge_broken, max_seconds}
use Rattle.model.specs.Oracle.{no_walk}
use Rattle.sheet.specs.Sheet.{Effect, Effect.shut, Effect.delayed, line_count, lines_in, holds}
use Rattle.sheet.specs.Under.{left, left_of}
use Rattle.sheet.specs.ArcsUnder.{arcs_under, arcs_left}
use Rattle.sheet.specs.Spans.{cost_left}
use Rattle.sheet.proofs.Lasts.{none_held}
use Rattle.sheet.proofs.Ground.{not_slow, plain_slow}
use Rattle.sheet.proofs.Costs.{as_was}
use Rattle.arcs.specs.Arcs.{leaves, leaving}
use Rattle.theory.specs.Sound.{Fine, edge_fine, max_cost}
use Rattle.theory.specs.Slower.{later}
use Rattle.arcs.specs.declared.cursor.Cursor.{Cursor}
use Rattle.arcs.specs.declared.leaving.ArcAt.{ArcAt}
use Rattle.arcs.specs.Cursor.{Valid, PassedEdges, Stepped}
use Rattle.arcs.specs.Leaving.{EdgesUnder, cursor_of, arc_here, arcs_over, EndAt, LeftAt, Found, PassedArcs, SkippedTo, FirstArc, arc_rank}
use Rattle.arcs.specs.Leaving.{SteppedArc}
use Rattle.arcs.proofs.Same.{passing_all, left_arc, arcs_same→, →arcs_same}

-- ---- the arc of an edge e that leaves u, one of its two ends: `first`, `second`, v and s are as the code has read them
abbrev pub Other : ℕ → ℕ → ℕ → ℕ → Type 0
Other first second u v = (first ≡ u → v ≡ second) × ((first ≡ u → ⊥) → v ≡ first)

module _ (u : ℕ) (e : Edge) (apart : e.first ≡ e.second → ⊥) (v s : ℕ) (r : s ≡ key e.seconds 1) where
  by_first : e.first ≡ u → v ≡ e.second → leaving u (arcs_of e) ≡ record { from = u; to = v; cost = s } ∷ []
  unfolding leaving leaves filter arcs_of
  by_first p q = rw (eq-eqb e.first u p, ne_eqb e.second u (λ z. apart (p ∙ sym z)), p, ← q, ← r)

  by_second : e.second ≡ u → v ≡ e.first → leaving u (arcs_of e) ≡ record { from = u; to = v; cost = s } ∷ []
  unfolding leaving leaves filter arcs_of
  by_second p q = rw (ne_eqb e.first u (λ z. apart (z ∙ sym p)), eq-eqb e.second u p, p, ← q, ← r)

  by_other : (first second : ℕ) → first ≡ e.first → second ≡ e.second → Other first second u v → (e.first ≡ u) ⊎ (e.second ≡ u)
      → leaving u (arcs_of e) ≡ record { from = u; to = v; cost = s } ∷ []
  by_other first second p q o end = pick (ℕ_discrete first u) end
    where
      pick : Dec (first ≡ u) → (e.first ≡ u) ⊎ (e.second ≡ u) → leaving u (arcs_of e) ≡ record { from = u; to = v; cost = s } ∷ []
      pick (yes f) _ = by_first (sym p ∙ f) (o.0 f ∙ q)
      pick (no f) (inl g) = absurd (f (p ∙ g))
      pick (no f) (inr g) = by_second g (o.1 f ∙ p)

other_in : (n u first second v : ℕ) → first < n → second < n → Other first second u v → v < n
other_in n u first second v h l o = pick (ℕ_discrete first u)
  where
    pick : Dec (first ≡ u) → v < n
    pick (yes f) = omega (arith, o.0 f)
    pick (no f) = omega (arith, o.1 f)

-- ---- the edges passed
pub over_more : (b lines : Bytes) (u : ℕ) (done : List ℕ) (j : ℕ) → arcs_over b lines u (done ++ j ∷ []) ≡ arcs_over b lines u done ++ leaving u
    (arcs_left b lines j)
unfolding arcs_over concat_map
over_more b lines u [] j = append-nil (leaving u (arcs_left b lines j))
over_more b lines u (x ∷ done) j =
    ap (λ (l : List Arc). leaving u (arcs_left b lines x) ++ l) (over_more b lines u done j)
    ∙ sym (append_assoc (leaving u (arcs_left b lines x)) (arcs_over b lines u done) (leaving u (arcs_left b lines j)))

-- An edge with other seconds leads to where it led.
abbrev from_of : List Arc → ℕ
from_of [] = 0
from_of (a ∷ as') = a.from

abbrev to_of : List Arc → ℕ
to_of [] = 0
to_of (a ∷ as') = a.to

recost : (u : ℕ) (e : Edge) (v k s : ℕ) → leaving u (arcs_of e) ≡ record { from = u; to = v; cost = k } ∷ []
    → leaving u (arcs_of (record { first = e.first; second = e.second; seconds = s })) ≡ record { from = u; to = v; cost = key s 1 } ∷ []
unfolding leaving leaves filter arcs_of
recost u e v k s = pick (eqb e.first u) (eqb e.second u)
  where
    there : ℕ → Arc
    there x = record { from = e.first; to = e.second; cost = key x 1 }

    back : ℕ → Arc
    back x = record { from = e.second; to = e.first; cost = key x 1 }

    pick : (a b : Bool) → cond a (there e.seconds ∷ cond b (back e.seconds ∷ []) []) (cond b (back e.seconds ∷ []) []) ≡ record
        { from = u; to = v; cost = k } ∷ []
        → cond a (there s ∷ cond b (back s ∷ []) []) (cond b (back s ∷ []) []) ≡ record { from = u; to = v; cost = key s 1 } ∷ []
    pick true true h = absurd (omega (arith, ap (λ (l : List Arc). length l) h))
    pick true false h = rw (ap from_of h, ap to_of h)
    pick false true h = rw (ap from_of h, ap to_of h)
    pick false false h = absurd (omega (arith, ap (λ (l : List Arc). length l) h))

-- ---- what the lines leave of an edge e: s is its cost as the code has read it, 'no walk' for nothing
left_low : (f : Effect) (e : Edge) (s : ℕ) → s ≡ cost_left f e → (s ≡ no_walk → ⊥) → ((x : ℕ) → f ≡ delayed x → e.seconds + x ≤ max_seconds)
    → s ≤ max_cost
unfolding cost_left
left_low shut e s r d most = absurd (d r)
left_low (delayed x) e s r d most = omega (arith, most x refl)

-- A cost of one hop is never 'no walk'.
left_leaving : (f : Effect) (e : Edge) (u v s : ℕ) → s ≡ cost_left f e
    → ((x : ℕ) → leaving u (arcs_of (later x e)) ≡ record { from = u; to = v; cost = key (e.seconds + x) 1 } ∷ [])
    → leaving u (concat_map arcs_of (left f e)) ≡ cond (eqb s no_walk) [] (record { from = u; to = v; cost = s } ∷ [])
unfolding left cost_left concat_map
left_leaving shut e u v s r h = unfold leaving filter in rw (eq-eqb s no_walk r)
left_leaving (delayed x) e u v s r h = rw (ne_eqb s no_walk (λ z. omega arith), r) (unfold arcs_of in h x)

nothing_leaves : (f : Effect) (e : Edge) (u s : ℕ) → s ≡ no_walk → s ≡ cost_left f e → leaving u (concat_map arcs_of (left f e)) ≡ []
unfolding left cost_left concat_map leaving filter
nothing_leaves shut e u s z r = refl
nothing_leaves (delayed x) e u s z r = absurd (omega arith)

pub none_left : (edges lines : Bytes) (u i s : ℕ) → s ≡ no_walk → s ≡ cost_left (holds (lines_in lines) i) (edge edges i) → leaving u (arcs_left edges lines i) ≡ []
unfolding arcs_left left_of
none_left edges lines u i s z r = nothing_leaves (holds (lines_in lines) i) (edge edges i) u s z r

module _ (edges lines : Bytes) (n u : ℕ) (c : Cursor) where
  pub left_none : edge_count edges ≤ c.edge
      → LeftAt edges lines n u c (record { to = n; cost = 0; edge = c.edge; stop = c.stop; link = c.link; size = c.size })
  left_none h = record {
    cursor = refl;
    inside = λ l. absurd (omega arith);
    arc = λ l. absurd (omega arith);
    ended = λ l. (refl, refl);
    low = λ d. omega arith;
  }

  pub left_some : some_edge_broken n edges ≡ false → c.edge < edge_count edges → EndAt edges lines u c.edge
      → (first second v s : ℕ) → first ≡ (edge edges c.edge).first → second ≡ (edge edges c.edge).second → Other first second u v
      → s ≡ cost_left (holds (lines_in lines) c.edge) (edge edges c.edge)
      → LeftAt edges lines n u c (record { to = v; cost = s; edge = c.edge; stop = c.stop; link = c.link; size = c.size })
  left_some ends h end first second v s p q o r =
      let e = edge edges c.edge in
      let f = edge_fine n edges ends c.edge h in
      record {
        cursor = refl;
        inside = λ l. other_in n u first second v (omega (arith, f.first_in)) (omega (arith, f.second_in)) o;
        arc = λ l. unfold arcs_left left_of in left_leaving (holds (lines_in lines) c.edge) e u v s r
            (λ x. by_other u (later x e) f.apart v (key (e.seconds + x) 1) refl first second p q o end.end);
        ended = λ l. absurd (omega arith);
        low = λ d. left_low (holds (lines_in lines) c.edge) e s r d end.limit;
      }

-- Without lines an edge is as it was.
pub no_bytes : (lines : Bytes) → length lines ≡ 0 → lines ≡ []
no_bytes [] e = refl
no_bytes (x ∷ lines) e = absurd (omega (arith, e))

-- Its arcs are all left.
plain_left : (edges : Bytes) (i : ℕ) → arcs_left edges [] i ≡ arcs_of (edge edges i)
unfolding arcs_left left_of left concat_map arcs_of line_count
plain_left edges i = rw (none_held [] (omega arith) i, add-zero)

pub plain_some : (edges : Bytes) (n u : ℕ) (c : Cursor) → some_edge_broken n edges ≡ false → c.edge < edge_count edges
    → ((edge edges c.edge).first ≡ u) ⊎ ((edge edges c.edge).second ≡ u)
    → (first second v s : ℕ) → first ≡ (edge edges c.edge).first → second ≡ (edge edges c.edge).second → Other first second u v
    → s ≡ key (edge edges c.edge).seconds 1
    → LeftAt edges [] n u c (record { to = v; cost = s; edge = c.edge; stop = c.stop; link = c.link; size = c.size })
unfolding line_count
plain_some edges n u c ends h end first second v s p q o r =
    let held = none_held [] (omega arith) c.edge in
    let limit = not_slow edges [] (plain_slow edges n ends) c.edge h in
    left_some edges [] n u c ends h (record { end = end; limit = limit }) first second v s p q o (as_was _ s (edge edges c.edge) held r)

-- The edge of an arc is the cursor's.
pub same_edge : (edges lines : Bytes) (n u : ℕ) (c : Cursor) (a : ArcAt) → LeftAt edges lines n u c a → a.edge ≡ c.edge
same_edge edges lines n u c a g = ap (λ (z : Cursor). z.edge) g.cursor

-- At the end the lines change nothing.
pub left_over : (edges lines : Bytes) (n u : ℕ) (c : Cursor) (a : ArcAt) → LeftAt edges [] n u c a → edge_count edges ≤ a.edge → LeftAt edges lines n u c a
left_over edges lines n u c a g h = record {
  cursor = g.cursor;
  inside = g.inside;
  arc = λ l. absurd (omega arith);
  ended = g.ended;
  low = g.low;
}

-- The arc a of the edge, read without the lines; s is what it costs under them.
pub left_recost : (edges lines : Bytes) (n u : ℕ) (c : Cursor) (a : ArcAt) → LeftAt edges [] n u c a → a.cost ≤ max_cost → a.edge < edge_count edges
    → EndAt edges lines u a.edge → (s : ℕ) → s ≡ cost_left (holds (lines_in lines) a.edge) (edge edges a.edge)
    → LeftAt edges lines n u c (record { to = a.to; cost = s; edge = a.edge; stop = a.stop; link = a.link; size = a.size })
unfolding arcs_left left_of
left_recost edges lines n u c a g low h end s r =
    let e = edge edges a.edge in
    let plain : leaving u (arcs_of e) ≡ arc_here u a ∷ [] =
    ap (leaving u) (sym (plain_left edges a.edge)) ∙ (g.arc h ∙ rw (ne_eqb a.cost no_walk (λ z. omega arith))) in
    record {
      cursor = g.cursor;
      inside = g.inside;
      arc = λ l. left_leaving (holds (lines_in lines) a.edge) e u a.to s r (λ x. recost u e a.to a.cost (e.seconds + x) plain);
      ended = λ l. absurd (omega arith);
      low = λ d. left_low (holds (lines_in lines) a.edge) e s r d end.limit;
    }

-- An edge between two nodes.
pub two_ends : {n : ℕ} {e : Edge} → Fine n e → 2 ≤ n
two_ends {n} {e} f = let z : ¬ (e.first ≡ e.second) = f.apart in omega (arith, f.first_in, f.second_in, z)

-- What is known of the edge that a cursor has found.
pub end_at : (edges lines : Bytes) (n : ℕ) (w : List ℕ) (u : ℕ) (c : Cursor) → EdgesUnder edges lines n w → Valid edges n w u c
    → c.edge < edge_count edges → EndAt edges lines u c.edge
end_at edges lines n w u c g v l =
    let o = v.here l in
    record { end = o.end; limit = not_slow edges lines g.quick c.edge l }

-- ---- where a sheet may close edges

-- What is left is read where the cursor stands.
pub own_left : (edges lines : Bytes) (n u : ℕ) (c : Cursor) (a : ArcAt) → LeftAt edges lines n u c a → LeftAt edges lines n u (cursor_of a) a
own_left edges lines n u c a g = subst (λ (z : Cursor). LeftAt edges lines n u z a) (sym g.cursor) g

pub at_own : (edges lines : Bytes) (n : ℕ) (w : List ℕ) (u : ℕ) (b c : Cursor) (a : ArcAt) → Stepped edges n w u b c → LeftAt edges lines n u c a
    → Stepped edges n w u b (cursor_of a) × LeftAt edges lines n u (cursor_of a) a
at_own edges lines n w u b c a s g = subst (λ (z : Cursor). Stepped edges n w u b z × LeftAt edges lines n u z a) (sym g.cursor) (s, g)

module _ (edges lines : Bytes) (n u : ℕ) (a : ArcAt) (g : LeftAt edges lines n u (cursor_of a) a) where
  -- Nothing is left: the cursor has found an edge.
  pub shut_edge : a.cost ≡ no_walk → a.edge < edge_count edges
  shut_edge z = pick (dec_lt a.edge (edge_count edges))
    where
      pick : Dec (a.edge < edge_count edges) → a.edge < edge_count edges
      pick (yes h) = h
      pick (no h) = absurd (omega (arith, (g.ended (omega arith)).1))

  shut_none : a.cost ≡ no_walk → leaving u (arcs_left edges lines a.edge) ≡ []
  shut_none z = g.arc (shut_edge z) ∙ rw (eq-eqb a.cost no_walk z)

  -- The arc is left.
  left_found : (a.cost ≡ no_walk → ⊥) → Found edges lines n u a
  left_found d = record {
    inside = g.inside;
    arc = λ h. g.arc h ∙ rw (ne_eqb a.cost no_walk d);
    ended = λ h. (g.ended h).0;
    low = g.low d;
  }

  module _ (w : List ℕ) where
    pub skip_more : (c : Cursor) → SkippedTo edges lines n w u c (cursor_of a) → a.cost ≡ no_walk
        → (c' : Cursor) → Stepped edges n w u (cursor_of a) c' → SkippedTo edges lines n w u c c'
    skip_more c k z c' s = record {
      valid = s.valid;
      passing = λ over p. let r = k.passing over p in (
        r.0 ++ a.edge ∷ [],
        s.passing r.0 r.1,
        over_more edges lines u r.0 a.edge ∙ ap (λ (l : List Arc). arcs_over edges lines u r.0 ++ l) (shut_none z)
            ∙ append-nil (arcs_over edges lines u r.0) ∙ r.2,
      );
      less = omega (arith, s.less, k.less);
    }

    pub first_arc : (c : Cursor) → SkippedTo edges lines n w u c (cursor_of a) → (a.cost ≡ no_walk → ⊥)
        → FirstArc edges lines n w u c a
    first_arc c k d = record { skipped = k; found = left_found d }

pub skip_none : (edges lines : Bytes) (n : ℕ) (w : List ℕ) (u : ℕ) (c : Cursor) → Valid edges n w u c
    → SkippedTo edges lines n w u c c
skip_none edges lines n w u c v = record { valid = v; passing = λ over p. (over, p, refl); less = omega arith }

-- What is left was read at c.
module _ (edges lines : Bytes) (n : ℕ) (w : List ℕ) (u : ℕ) (c : Cursor) (a : ArcAt) (g : LeftAt edges lines n u c a) where
  pub own-valid : Valid edges n w u c → Valid edges n w u (cursor_of a)
  own-valid v = subst (λ (z : Cursor). Valid edges n w u z) (sym g.cursor) v

  pub first_arc_here : Valid edges n w u c → (a.cost ≡ no_walk → ⊥) → FirstArc edges lines n w u c a
  first_arc_here v d =
      subst (λ (z : Cursor). FirstArc edges lines n w u z a) g.cursor
      (first_arc edges lines n u a (own_left edges lines n u c a g) w (cursor_of a)
      (skip_none edges lines n w u (cursor_of a) (own-valid v)) d)

  pub first_arc_from : (b : ArcAt) → FirstArc edges lines n w u (cursor_of a) b → FirstArc edges lines n w u c b
  first_arc_from b f = subst (λ (z : Cursor). FirstArc edges lines n w u z b) g.cursor f

-- ---- what is passed
module _ (edges lines : Bytes) (n : ℕ) (w : List ℕ) (u : ℕ) (a : ArcAt) (f : Found edges lines n u a) where
  pub found_edge : a.to < n → a.edge < edge_count edges
  found_edge l = pick (dec_lt a.edge (edge_count edges))
    where
      pick : Dec (a.edge < edge_count edges) → a.edge < edge_count edges
      pick (yes h) = h
      pick (no h) = absurd (omega (arith, f.ended (omega arith)))

  found_end : n ≤ a.to → edge_count edges ≤ a.edge
  found_end l = pick (dec_lt a.edge (edge_count edges))
    where
      pick : Dec (a.edge < edge_count edges) → edge_count edges ≤ a.edge
      pick (yes h) = absurd (omega (arith, f.inside h))
      pick (no h) = omega arith

  module _ (over : List ℕ) (p : PassedEdges edges n w u over (cursor_of a)) where
    leaves_here : a.to < n → Memᴰ (arc_here u a) (leaving u (arcs_under edges lines))
    leaves_here l =
        let h = found_edge l in
        left_arc edges u over lines a.edge (arc_here u a) (p.valid.here h)
        (subst (λ (z : List Arc). Memᴰ (arc_here u a) z) (sym (f.arc h)) (Memᴰ.head refl))

    passes : PassedArcs edges lines n w u (arcs_over edges lines u over) a
    passes = record {
      over = over;
      passing = p;
      same = refl;
      valid = record { cursor = p.valid; found = f };
      low = f.low;
      here = leaves_here;
      all = λ l x. let all = passing_all edges u over n w (cursor_of a) (found_end l) p in
          (arcs_same→ edges u over lines all x, →arcs_same edges u over lines all x);
    }

-- c is what the edge cursor has found, and a the first arc from there on.
module _ (edges lines : Bytes) (n : ℕ) (w : List ℕ) (u : ℕ) (c : Cursor) (a : ArcAt) (g : FirstArc edges lines n w u c a) where
  -- What was passed with c is passed with a.
  from_edges : (over : List ℕ) → PassedEdges edges n w u over c → PassedArcs edges lines n w u (arcs_over edges lines u over) a
  from_edges over p =
      let r = g.skipped.passing over p in
      subst (λ (z : List Arc). PassedArcs edges lines n w u z a) r.2 (passes edges lines n w u a g.found r.0 r.1)

  pub passes_first : PassedEdges edges n w u [] c → PassedArcs edges lines n w u [] a
  unfolding arcs_over concat_map
  passes_first p = from_edges [] p

  pub passes_next : (b : ArcAt) → Found edges lines n u b → b.to < n → Stepped edges n w u (cursor_of b) c → SteppedArc edges lines n w u b a
  unfolding arc_rank
  passes_next b f l s = record { passes = more; less = omega (arith, g.skipped.less, s.less) }
    where
      more : (done : List Arc) → PassedArcs edges lines n w u done b → PassedArcs edges lines n w u (done ++ arc_here u b ∷ []) a
      more done p =
          let j = b.edge in
          let e : arcs_over edges lines u (p.over ++ j ∷ []) ≡ done ++ arc_here u b ∷ [] =
          over_more edges lines u p.over j ∙ ap (λ (z : List Arc). z ++ leaving u (arcs_left edges lines j)) (sym p.same)
          ∙ ap (λ (z : List Arc). done ++ z) (f.arc (found_edge edges lines n w u b f l)) in
          subst (λ (z : List Arc). PassedArcs edges lines n w u z a) e (from_edges (p.over ++ j ∷ []) (s.passing p.over p.passing))
