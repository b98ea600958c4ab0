-- The edges that a cursor has passed, at the end, are the edges at the node, and the arcs of what the lines leave of them are those that leave it.
-- Assumes nothing.
use Prim.Native.Nat.{ℕ, ◌≤◌}
use native.Mathlib.Omega.{arith}
use mathlib.Core.Path.{◌≡◌, sym, ap, ◌∙◌}
use mathlib.Core.List.Memᴰ
use mathlib.Core.List.{List, Memᴰ}
use mathlib.Core.Logic.{◌⊎◌, inl, inr, ⊎_elim}
use borrow.Author.Tests.{eqb-true}
use Rattle.model.specs.Lists.{concat_map}
use Rattle.model.specs.Bytes.{Bytes}
use Rattle.model.specs.Walk.{Arc}
use Rattle.model.specs.Network.{Edge, edge, edge_count, arcs_of}
use Rattle.theory.specs.Members.{filter→, →filter, concat_map→, →concat_map}
use Rattle.sheet.specs.Sheet.{Effect, lines_in, holds}
use Rattle.sheet.specs.Under.{left_of, edges_under}
use Rattle.sheet.specs.ArcsUnder.{left_under, arcs_under, arcs_left}
use Rattle.sheet.proofs.Ground.{left→, under→, →under}
use Rattle.arcs.specs.Arcs.{leaves, leaving}
use Rattle.index.specs.Index.{Incident}
use Rattle.arcs.specs.declared.cursor.Cursor.{Cursor}
use Rattle.arcs.specs.Cursor.{PassedEdges}
use Rattle.arcs.specs.Leaving.{arcs_over}

-- Just the edges at u.
pub record AllOf (edges : Bytes) (u : ℕ) (done : List ℕ) : Type 0 where
  pub real : (j : ℕ) → Memᴰ j done → Incident edges u j
  pub full : (j : ℕ) → Incident edges u j → Memᴰ j done

-- The edge of an arc that leaves u has an end there.
end_there : (u : ℕ) (e : Edge) (a : Arc) → Memᴰ a (arcs_of e) → a.from ≡ u → (e.first ≡ u) ⊎ (e.second ≡ u)
unfolding arcs_of
end_there u e a m q =
    ⊎_elim
    (λ p. inl (sym (ap (λ (x : Arc). x.from) p) ∙ q))
    (λ k. ⊎_elim (λ p. inr (sym (ap (λ (x : Arc). x.from) p) ∙ q)) (λ z. absurd (Memᴰ.not-nil z)) (Memᴰ.cases_cons k))
    (Memᴰ.cases_cons m)

module _ (edges : Bytes) (u : ℕ) (done : List ℕ) where
  pub passing_all : (n : ℕ) (w : List ℕ) (c : Cursor) → edge_count edges ≤ c.edge → PassedEdges edges n w u done c → AllOf edges u done
  passing_all n w c h p = record {
    real = p.real;
    full = λ j o. ⊎_elim (λ m. m)
        (λ r. ⊎_elim (λ e. absurd (omega (arith, o.below))) (λ a. absurd (p.valid.over h j a)) r) (p.full j o);
  }

  module _ (lines : Bytes) where
    abbrev effect : ℕ → Effect
    effect = holds (lines_in lines)

    abbrev under : List Edge
    under = edges_under effect edges

    -- What is left of an edge at u is in the network that the lines leave.
    pub left_arc : (j : ℕ) (a : Arc) → Incident edges u j → Memᴰ a (leaving u (arcs_left edges lines j))
        → Memᴰ a (leaving u (arcs_under edges lines))
    unfolding leaving arcs_left arcs_under left_under
    left_arc j a o l =
        let f = filter→ (leaves u) (arcs_left edges lines j) l in
        let (e, p, q) = concat_map→ arcs_of (left_of effect edges j) f.0 in
        →filter (leaves u) (concat_map arcs_of under)
        (→concat_map arcs_of under (→under effect edges o.below p) q) f.1

    module _ (all : AllOf edges u done) (a : Arc) where
      pub arcs_same→ : Memᴰ a (arcs_over edges lines u done) → Memᴰ a (leaving u (arcs_under edges lines))
      unfolding arcs_over
      arcs_same→ m = let (j, k, l) = concat_map→ (λ j. leaving u (arcs_left edges lines j)) done m in left_arc j a (all.real j k) l

      pub →arcs_same : Memᴰ a (leaving u (arcs_under edges lines)) → Memᴰ a (arcs_over edges lines u done)
      unfolding arcs_over leaving arcs_left arcs_under left_under leaves left_of
      →arcs_same m =
          let f = filter→ (leaves u) (concat_map arcs_of under) m in
          let (e, k, l) = concat_map→ arcs_of under f.0 in
          let (j, h, q) = under→ effect edges k in
          let (n, _, z) = left→ (effect j) (edge edges j) q in
          let end : ((edge edges j).first ≡ u) ⊎ ((edge edges j).second ≡ u) =
          rw z at (end_there u e a l (eqb-true a.from u f.1)) in
          let o : Incident edges u j = record { below = h; end = end } in
          →concat_map (λ j. leaving u (arcs_left edges lines j)) done (all.full j o)
          (→filter (leaves u) (arcs_left edges lines j) (→concat_map arcs_of (left_of effect edges j) q l) f.1)
