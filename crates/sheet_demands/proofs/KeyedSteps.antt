-- Steps of a way by keys and in pairs: the code goes by keys, the statements by seconds and hops. Assumes nothing.
use Rattle.std.specs.Prelude.{ℕ, ◌≡◌, refl, ◌↔◌}
use Rattle.std.proofs.Common.{arith, sym, ◌∙◌, ap, subst}
use mathlib.Core.List.{List, [], ◌∷◌}
use Rattle.model.specs.Pair.{key}
use Rattle.model.specs.Walk.{Arc}
use Rattle.theory.specs.Keys.{keyed, Keyed}
use Rattle.sheet_demands.specs.SheetOutcomes.{Between, Again, Driven}

-- ---- steps: one arc each, so that keys differ just where seconds do
module _ (timed arcs : List Arc) (same : Keyed timed arcs) {u v : ℕ} where
  by_key : {c : ℕ} → Between timed u v c → Between arcs u v (key c 1)
  by_key b = record { arc = keyed b.arc; listed = same.there b.arc b.listed; starts = b.starts; ends = b.ends; cost = ap (λ c. key c 1) b.cost }

  by_seconds : {k : ℕ} → Between arcs u v k → (c : ℕ) × (k ≡ key c 1) × Between timed u v c
  by_seconds b =
      let (a, m, e) = same.back b.arc b.listed in (
        a.cost,
        sym b.cost ∙ ap (λ (x : Arc). x.cost) e,
        record {
          arc = a;
          listed = m;
          starts = sym (ap (λ (x : Arc). x.from) e) ∙ b.starts;
          ends = sym (ap (λ (x : Arc). x.to) e) ∙ b.ends;
          cost = refl;
        },
      )

module _ (old old_arcs new new_arcs : List Arc) (was : Keyed old old_arcs) (is : Keyed new new_arcs) where
  again_seconds : {u v : ℕ} → Again old_arcs new_arcs u v → Again old new u v
  again_seconds {u} {v} g =
      let (c, e, b) = by_seconds old old_arcs was g.was.has in
      let (i, q, n) = by_seconds new new_arcs is g.still in
      let z : i ≡ c = omega (arith, e, q) in
      record {
        seconds = c;
        was = record { has = b; least = λ m w. omega (arith, e, g.was.least (key m 1) (by_key old old_arcs was w)) };
        still = subst (λ (x : ℕ). Between new u v x) z n;
      }

  again_key : {u v : ℕ} → Again old new u v → Again old_arcs new_arcs u v
  again_key g = record {
    seconds = key g.seconds 1;
    was = record {
      has = by_key old old_arcs was g.was.has;
      least = λ m w. let (c, e, b) = by_seconds old old_arcs was w in omega (arith, e, g.was.least c b);
    };
    still = by_key new new_arcs is g.still;
  }

  pub driven_seconds : (l : List ℕ) → Driven old_arcs new_arcs l ↔ Driven old new l
  unfolding Driven
  driven_seconds [] = (λ h. h, λ h. h)
  driven_seconds (u ∷ []) = (λ h. h, λ h. h)
  driven_seconds (u ∷ (v ∷ l)) =
      let rest = driven_seconds (v ∷ l) in
      (λ h. (again_seconds h.0, rest.0 h.1), λ h. (again_key h.0, rest.1 h.1))
