-- The edges that a sheet leaves: which they are, what rules 6 and 20 give of them and of their arcs; and a sheet without lines. Assumes nothing.
use Prim.Native.Nat.{ℕ, ◌+◌, ◌≤◌, ◌<◌}
use native.Mathlib.Omega.{arith}
use native.Mathlib.Nat.{add-zero}
use mathlib.Core.Path.{◌≡◌, refl, sym, ◌∙◌, ap}
use mathlib.Core.Bool.{false}
use mathlib.Core.List.Memᴰ
use mathlib.Core.List.{List, [], ◌∷◌, map, Memᴰ}
use borrow.Author.Tests.{ltb-false, le-ltb}
use Rattle.model.specs.Lists.{any, concat_map, up_to}
use Rattle.model.specs.Bytes.{Bytes}
use Rattle.model.specs.Network.{Edge, edge, edges, edge_count, arcs_of, max_seconds, some_edge_broken}
use Rattle.theory.specs.Walks.{Within, Costs, Positive}
use Rattle.theory.specs.Members.{concat_map→, →concat_map, range→, →up_to, none_any}
use Rattle.theory.specs.Shape.{any_none}
use Rattle.theory.specs.Sound as sound
use Rattle.theory.specs.Slower.{later, Comes}
use Rattle.sheet.specs.Sheet.{Effect, Effect.shut, Effect.delayed, line_count, lines_in, holds}
use Rattle.sheet.specs.Under.{left, left_of, edges_under, too_slow}
use Rattle.sheet.specs.ArcsUnder.{left_under, arcs_under}
use Rattle.sheet.proofs.Lasts.{none_held}

-- ---- what an effect leaves of an edge
pub left→ : (x : Effect) (e₀ : Edge) {e : Edge} → Memᴰ e (left x e₀) → (n : ℕ) × (x ≡ delayed n) × (e ≡ later n e₀)
unfolding left
left→ shut e₀ m = absurd (Memᴰ.not-nil m)
left→ (delayed n) e₀ m = (n, refl, Memᴰ.eq_of_singleton m)

pub →left : {x : Effect} (e₀ : Edge) {e : Edge} {n : ℕ} → x ≡ delayed n → e ≡ later n e₀ → Memᴰ e (left x e₀)
unfolding left
→left e₀ p q = rw p (Memᴰ.head q)

-- ---- the edges that are left, by their numbers

module _ (effect : ℕ → Effect) (b : Bytes) where
  pub under→ : {e : Edge} → Memᴰ e (edges_under effect b) → (i : ℕ) × (i < edge_count b) × Memᴰ e (left_of effect b i)
  unfolding edges_under
  under→ m = let r = concat_map→ (left_of effect b) (up_to (edge_count b)) m in (r.0, omega (arith, range→ 0 (edge_count b) r.0 r.1), r.2)

  pub →under : {e : Edge} {i : ℕ} → i < edge_count b → Memᴰ e (left_of effect b i) → Memᴰ e (edges_under effect b)
  unfolding edges_under
  →under {i = i} h m = →concat_map (left_of effect b) (up_to (edge_count b)) (→up_to (edge_count b) i h) m

  -- Each was there, with the same ends and no more seconds.
  pub left_comes : {e : Edge} → Memᴰ e (edges_under effect b) → Comes (edges b) e
  unfolding left_of
  left_comes m =
      let (i, h, k) = under→ m in
      let (n, p, q) = left→ (effect i) (edge b i) k in
      record {
        old = edge b i;
        listed = sound.edge_listed b i h;
        first = sym (ap (λ (e : Edge). e.first) q);
        second = sym (ap (λ (e : Edge). e.second) q);
        seconds = omega (arith, ap (λ (e : Edge). e.seconds) q);
      }

-- ---- rules 6 and 20
module _ (b lines : Bytes) (n : ℕ) (ends : some_edge_broken n b ≡ false) (slow : any too_slow (left_under b lines) ≡ false) where
  pub left_fine : (e : Edge) → Memᴰ e (left_under b lines) → sound.Fine n e
  unfolding left_under
  left_fine e m =
      let c = left_comes (holds (lines_in lines)) b m in
      let r = sound.each_fine n b ends c.old c.listed in
      record {
        first_in = omega (arith, r.first_in, c.first);
        second_in = omega (arith, r.second_in, c.second);
        apart = λ q. r.apart (c.first ∙ (q ∙ sym c.second));
        at_most = ltb-false max_seconds e.seconds (unfold too_slow in none_any too_slow (left_under b lines) slow m);
      }

  pub arcs_within : Within n (arcs_under b lines)
  unfolding arcs_under
  arcs_within = sound.arcs_within n (left_under b lines) left_fine

  pub arcs_cost : Costs sound.max_cost (arcs_under b lines)
  unfolding arcs_under
  arcs_cost = sound.arcs_cost n (left_under b lines) left_fine

  pub arcs_positive : Positive (arcs_under b lines)
  unfolding arcs_under
  arcs_positive = sound.arcs_positive n (left_under b lines) left_fine

-- What rule 20 says of one edge.
module _ (b lines : Bytes) (slow : any too_slow (left_under b lines) ≡ false) where
  pub not_slow : (i : ℕ) → i < edge_count b → (x : ℕ) → holds (lines_in lines) i ≡ delayed x
      → (edge b i).seconds + x ≤ max_seconds
  unfolding left_under left_of too_slow
  not_slow i h x p =
      let m = →under (holds (lines_in lines)) b h (→left (edge b i) p refl) in
      ltb-false max_seconds ((edge b i).seconds + x) (none_any too_slow (edges_under (holds (lines_in lines)) b) slow m)

-- ---- effects that do nothing, and a sheet without lines
left_zero : (e : Edge) → left (delayed 0) e ≡ e ∷ []
unfolding left
left_zero e = rw add-zero

all_left : (effect : ℕ → Effect) → ((i : ℕ) → effect i ≡ delayed 0) → (b : Bytes) (is : List ℕ) → concat_map (left_of effect b) is ≡ map (edge b) is
unfolding concat_map left_of
all_left effect h b [] = refl
all_left effect h b (i ∷ is) = rw (h i, left_zero (edge b i), all_left effect h b is)

pub as_were : (effect : ℕ → Effect) → ((i : ℕ) → effect i ≡ delayed 0) → (b : Bytes) → edges_under effect b ≡ edges b
unfolding edges_under edges
as_were effect h b = all_left effect h b (up_to (edge_count b))

edges_as_were : (b : Bytes) → left_under b [] ≡ edges b
unfolding left_under line_count
edges_as_were b = as_were (holds (lines_in [])) (none_held [] refl) b

pub no_lines : (b : Bytes) → arcs_under b [] ≡ concat_map arcs_of (edges b)
unfolding arcs_under
no_lines b = ap (concat_map arcs_of) (edges_as_were b)

-- Rule 20 follows from rule 6 then.
pub all_quick : (n : ℕ) (b : Bytes) → some_edge_broken n b ≡ false → any too_slow (edges b) ≡ false
unfolding too_slow
all_quick n b h = any_none too_slow (edges b) (λ e m. le-ltb max_seconds e.seconds (sound.each_fine n b h e m).at_most)

pub plain_slow : (b : Bytes) (n : ℕ) → some_edge_broken n b ≡ false → any too_slow (left_under b []) ≡ false
plain_slow b n h = rw (edges_as_were b) (all_quick n b h)
