-- The proofs of what `SlowerDemands` states. Assumes nothing.
use Rattle.std.specs.Prelude.{ℕ, ◌+◌, ◌*◌, ◌≤◌, ◌<◌, ◌≡◌, refl, ◌≢◌, ◌⊎◌, ◌↔◌}
use Rattle.std.proofs.Common.{arith, sym, subst, inl, inr}
use Rattle.std.proofs.Math.Decide.{ℕ_discrete}
use mathlib.Core.List.{List, Memᴰ}
use Rattle.model.specs.Bytes.{Bytes}
use Rattle.model.specs.Contents.{node_body, edge_body}
use Rattle.model.specs.Pair.{Pair, hop_base}
use Rattle.model.specs.Walk.{PairWalk, LeastPair}
use Rattle.model.specs.Network.{Edge, network, edge, edges, edge_count, node_count, order, timed_arcs, arcs}
use Rattle.model.specs.Calls.{Build}
use Rattle.model.specs.declared.Division.{Division}
use Rattle.model.specs.declared.Kind.{Kind}
use Rattle.model.specs.declared.Answer.{Answer}
use Rattle.model.specs.declared.Answer.TheVariants.{None}
use Rattle.model.specs.declared.Built.{Built}
use Rattle.theory.specs.Passed.{Sound, all_passed}
use Rattle.theory.specs.Sound.{edge_listed, edge_numbered, ends, positive, few, count_nodes}
use Rattle.theory.specs.PairModel.{none_timed}
use Rattle.theory.proofs.PairLaws.{pair_least, pair_hops}
use Rattle.theory.specs.Slower.{Rising, Slower, between, none_both}
use Rattle.theory.proofs.SlowerLaws.{least_rises}
use Rattle.theory.specs.Slower.{later, Comes, comes_itself, Again, Again.as_quick, Again.risen, slower_arcs, rising_arcs}
use Rattle.demands.specs.Outcomes.{timed, Answers}
use Rattle.demands.specs.Demands.{built_accepted}

-- ---- two networks that differ in edge j alone, which takes k seconds more in the second
module _ (f₁ f₂ : Bytes) (j k : ℕ) (roads : edge_count (edge_body f₂) ≡ edge_count (edge_body f₁)) (is_road : j < edge_count (edge_body f₁))
    (others : (i : ℕ) → i < edge_count (edge_body f₁) → i ≢ j → edge (edge_body f₂) i ≡ edge (edge_body f₁) i)
    (slower : edge (edge_body f₂) j ≡ later k (edge (edge_body f₁) j)) where
  abbrev b₁ : Bytes
  b₁ = edge_body f₁

  abbrev b₂ : Bytes
  b₂ = edge_body f₂

  -- The ends of the edge.
  abbrev x : ℕ
  x = (edge b₁ j).first

  abbrev y : ℕ
  y = (edge b₁ j).second

  -- Each edge of the second was there, no slower.
  comes : (e : Edge) → Memᴰ e (edges b₂) → Comes (edges b₁) e
  comes e m = let (i, h, q) = edge_numbered b₂ m in subst (λ (z : Edge). Comes (edges b₁) z) (sym q) (step i (rw (← roads) h) (ℕ_discrete i j))
    where
      step : (i : ℕ) → i < edge_count b₁ → Dec (i ≡ j) → Comes (edges b₁) (edge b₂ i)
      step i h (no n) = rw (others i h n) (comes_itself (edges b₁) (edge b₁ i) (edge_listed b₁ i h))
      step i h (yes p) = rw (p, slower) (record { old = edge b₁ j; listed = edge_listed b₁ j is_road; first = refl; second = refl; seconds = omega arith })

  -- Each edge of the first is there again, edge j slower.
  again : (e : Edge) → Memᴰ e (edges b₁) → Again x y k (edges b₂) e
  again e m = let (i, h, q) = edge_numbered b₁ m in subst (λ (z : Edge). Again x y k (edges b₂) z) (sym q) (step i h (ℕ_discrete i j))
    where
      step : (i : ℕ) → i < edge_count b₁ → Dec (i ≡ j) → Again x y k (edges b₂) (edge b₁ i)
      step i h (no n) = as_quick (rw (← others i h n) (comes_itself (edges b₂) (edge b₂ i) (edge_listed b₂ i (rw roads h))))
      step i h (yes p) = rw p (risen refl refl (rw (← slower) (comes_itself (edges b₂) (edge b₂ j) (edge_listed b₂ j (rw roads is_road)))))

  falls : Slower (arcs (network f₁)) (arcs (network f₂))
  unfolding arcs network
  falls = slower_arcs (edges b₁) (edges b₂) comes

  -- An arc costs the key of its seconds, so that k seconds more are `hop_base * k`.
  rises : Rising (between x y (hop_base * k)) (arcs (network f₁)) (arcs (network f₂))
  unfolding arcs network
  rises = rising_arcs x y k (edges b₁) (edges b₂) again

  module _ (sound₁ : Sound f₁) (sound₂ : Sound f₂) (s t : ℕ) (hs₁ : s < node_count (node_body f₁)) (hs₂ : s < node_count (node_body f₂)) where
    start₁ : s < order (network f₁)
    start₁ = rw (count_nodes f₁) hs₁

    start₂ : s < order (network f₂)
    start₂ = rw (count_nodes f₂) hs₂

    -- In seconds the least pair does not fall, and rises by at most k.
    seconds_rise : {p q : Pair} → LeastPair (timed_arcs (network f₁)) s t p → LeastPair (timed_arcs (network f₂)) s t q
        → (p.seconds ≤ q.seconds) × (q.seconds ≤ p.seconds + k)
    seconds_rise l m =
        let r = least_rises x y (hop_base * k) (arcs (network f₁)) (arcs (network f₂)) (positive f₁ sound₁) falls rises
        (pair_least (network f₁) (ends f₁ sound₁) (few f₁ sound₁) start₁ t l) (pair_least (network f₂) (ends f₂ sound₂) (few f₂ sound₂) start₂ t m) in
        let g = pair_hops (network f₁) (ends f₁ sound₁) (few f₁ sound₁) start₁ t l in
        let h = pair_hops (network f₂) (ends f₂ sound₂) (few f₂ sound₂) start₂ t m in
        (omega (arith, r.0, few f₂ sound₂, h), omega (arith, r.1, few f₁ sound₁, g))

    none_alike : ((p : Pair) → PairWalk (timed_arcs (network f₁)) s t p → ⊥) ↔ ((p : Pair) → PairWalk (timed_arcs (network f₂)) s t p → ⊥)
    none_alike =
        let a = none_timed (network f₁) (ends f₁ sound₁) (few f₁ sound₁) start₁ t in
        let b = none_timed (network f₂) (ends f₂ sound₂) (few f₂ sound₂) start₂ t in
        let c = none_both x y (hop_base * k) (arcs (network f₁)) (arcs (network f₂)) (positive f₁ sound₁) falls rises in
        (λ h. b.0 (c.0 (a.1 h)), λ h. a.0 (c.1 (b.1 h)))

    -- What holds of two times, of which the second is no less and at most k seconds more, and of 'none' twice, holds of the two answers.
    pub both : {kind₁ kind₂ : Kind} {pairs₁ pairs₂ : ℕ} {a₁ a₂ : Answer} → Answers (PairWalk (timed_arcs (network f₁)) s t) kind₁ pairs₁ a₁
        → Answers (PairWalk (timed_arcs (network f₂)) s t) kind₂ pairs₂ a₂ → (P : Answer → Answer → Type 0)
        → ((p q : Pair) → p.seconds ≤ q.seconds → q.seconds ≤ p.seconds + k → P (timed p kind₁ pairs₁) (timed q kind₂ pairs₂))
        → P (None kind₁ pairs₁) (None kind₂ pairs₂) → P a₁ a₂
    both {kind₁} {kind₂} {pairs₁} {pairs₂} {a₁} {a₂} first second P times nones = step first.given second.given
      where
        step : ((p : Pair) × (a₁ ≡ timed p kind₁ pairs₁)) ⊎ (a₁ ≡ None kind₁ pairs₁)
            → ((q : Pair) × (a₂ ≡ timed q kind₂ pairs₂)) ⊎ (a₂ ≡ None kind₂ pairs₂) → P a₁ a₂
        step (inl (p, e)) (inl (q, i)) = let r = seconds_rise ((first.least p).0 e) ((second.least q).0 i) in rw (e, i) (times p q r.0 r.1)
        step (inl (p, e)) (inr i) = absurd (none_alike.1 (second.none.0 i) p ((first.least p).0 e).has)
        step (inr e) (inl (q, i)) = absurd (none_alike.0 (first.none.0 e) q ((second.least q).0 i).has)
        step (inr e) (inr i) = rw (e, i) nones

-- What `build` has not refused keeps rules 1 to 7.
pub sound : {f : Bytes} {dv : Division} {work work' : List ℕ} {out out' : Bytes} {r : Built} → Build f dv work out r work' out' → r.rule ≡ 0 → Sound f
sound {f} {dv} call done = (all_passed f dv (built_accepted call done)).sound
