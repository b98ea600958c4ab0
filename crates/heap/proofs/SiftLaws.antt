-- Each way out of a level, up and down, and the loop over the levels. Assumes nothing.
use Prim.Native.Nat.{ℕ, ◌+◌, ◌-◌, ◌/◌, ◌≤◌, ◌<◌}
use native.Mathlib.Decide.{ℕ_discrete}
use native.Mathlib.Numerals.{add-one}
use native.Mathlib.Omega.{arith}
use mathlib.Core.Bool.{Bool, true, false, cond}
use mathlib.Core.Path.{◌≡◌, refl, sym, ap, subst}
use mathlib.Core.Logic.{◌≢◌}
use mathlib.Core.List.{List}
use borrow.Author.Tests.{ltb-true, ltb-false}
use mir.Val.{bool_byte}
use lib.Dec.{ltb}
use Rattle.heap.specs.Words.{Positioned, key, swapped}
use Rattle.heap.specs.Order.{Below, Ordered, OrderedUp, OrderedDown, Lesser}
use Rattle.model.specs.Network.{max_nodes}
use Rattle.heap.specs.Levels.{max_levels, Up, Down, Rises, Sinks, Passes, stays, passes}
use Rattle.heap.specs.Sifts.{Rearranged, Level, Sifted}
use Rattle.heap.proofs.OrderLaws.{Exchanged, up_root, up_done, up_step, down_leaf, down_done, down_step}
use Rattle.heap.proofs.LevelLaws.{level_up, level_end, level_down, level_leaf}
use Rattle.heap.proofs.SwapLaws.{Swapped, swap_is, swap_kept, swap_keys, kept_refl, kept_then}

-- A comparison as a number.
pub less_is : (b : Bool) → bool_byte b ≡ cond b 1 0
less_is true = refl
less_is false = refl

pub less_small : (b : Bool) → bool_byte b ≤ 1
less_small true = omega arith
less_small false = omega arith

-- ---- one level, in either direction: the node stays, or changes positions with the one there
module _ (n k i : ℕ) (w : List ℕ) (p : Positioned n w) (k_in : k ≤ n) (On : ℕ → ℕ → Type 0) (Partly : ℕ → ℕ → (ℕ → ℕ) → Type 0) where
  stands : Partly k i (key n w) → Ordered k (key n w) → Level n k On Partly i w w i
  stands u o = record { kept = kept_refl n k w p; order = u; done = λ _. (o, refl); moved = λ f. absurd (f refl) }

  goes : (r : ℕ) → i < k → r < k → r ≢ i → On i r → (Exchanged k i r (key n w) (key n (swapped n i r w)) → Partly k r (key n (swapped n i r w)))
      → (w' : List ℕ) → w' ≡ swapped n i r w → Level n k On Partly i w w' r
  goes r h l ne on step w' q =
      let s : Swapped n i r w (swapped n i r w) = swap_is n i r w p (omega arith) (omega arith) in
      rw q (record {
        kept = swap_kept n i r w (swapped n i r w) s k h l;
        order = step (swap_keys n i r w (swapped n i r w) s k k_in (omega arith) (omega arith));
        done = λ f. absurd (ne f);
        moved = λ f. (on, l, refl);
      })

module _ (n k i : ℕ) (w : List ℕ) (p : Positioned n w) (k_in : k ≤ n) where
  -- ---- one level up
  module _ (h : i < k) (u : OrderedUp k i (key n w)) where
    pub rise_root : i ≡ 0 → Level n k Up OrderedUp i w w i
    rise_root e = stands n k i w p k_in Up OrderedUp u (up_root k (key n w) i e u)

    pub rise_stop : (i ≡ 0 → ⊥) → key n w ((i - 1) / 2) ≤ key n w i → Level n k Up OrderedUp i w w i
    rise_stop e l = stands n k i w p k_in Up OrderedUp u (up_done k (key n w) i ((i - 1) / 2) (omega arith, omega arith) l u)

    pub rise_move : (i ≡ 0 → ⊥) → key n w i < key n w ((i - 1) / 2) → (w' : List ℕ) → w' ≡ swapped n i ((i - 1) / 2) w
        → Level n k Up OrderedUp i w w' ((i - 1) / 2)
    rise_move e l = goes n k i w p k_in Up OrderedUp ((i - 1) / 2) h (omega arith) (λ f. omega arith) (omega arith, omega arith)
        (up_step k (key n w) i ((i - 1) / 2) (omega arith, omega arith) h l u (key n (swapped n i ((i - 1) / 2) w)))

  -- ---- the lesser of the two below i
  lesser_right : i + i + 1 + 1 < k → key n w (i + i + 1 + 1) < key n w (i + i + 1) → Lesser k (key n w) i (i + i + 1 + 1)
  lesser_right h l = record { below = (omega arith, omega arith); inside = h; least = λ b q r. pick b q r (ℕ_discrete b (i + i + 1)) }
    where
      pick : (b : ℕ) → Below i b → b < k → Dec (b ≡ i + i + 1) → key n w (i + i + 1 + 1) ≤ key n w b
      pick b q r (yes e) = omega (arith, ap (key n w) e)
      pick b q r (no m) = let e : b ≡ i + i + 1 + 1 = omega arith in omega (arith, ap (key n w) e)

  pub lesser_left : i + i + 1 < k → (i + i + 1 + 1 < k → key n w (i + i + 1) ≤ key n w (i + i + 1 + 1)) → Lesser k (key n w) i (i + i + 1)
  lesser_left h l = record { below = (omega arith, omega arith); inside = h; least = λ b q r. pick b q r (ℕ_discrete b (i + i + 1)) }
    where
      pick : (b : ℕ) → Below i b → b < k → Dec (b ≡ i + i + 1) → key n w (i + i + 1) ≤ key n w b
      pick b q r (yes e) = omega (arith, ap (key n w) e)
      pick b q r (no m) = let e : b ≡ i + i + 1 + 1 = omega arith in omega (arith, ap (key n w) e, l (omega arith))

  -- Their comparison as a number.
  pub lesser_of : (r : ℕ) → r ≡ cond (ltb (key n w (i + i + 1 + 1)) (key n w (i + i + 1))) 1 0 → i + i + 1 + 1 < k → Lesser k (key n w) i (i + i + 1 + r)
  lesser_of r er h = pick (ltb (key n w (i + i + 1 + 1)) (key n w (i + i + 1))) refl
    where
      pick : (b : Bool) → ltb (key n w (i + i + 1 + 1)) (key n w (i + i + 1)) ≡ b → Lesser k (key n w) i (i + i + 1 + r)
      pick true e =
          let z : r ≡ 1 = rw e at er in
          rw z (lesser_right h (omega (arith, ltb-true (key n w (i + i + 1 + 1)) (key n w (i + i + 1)) e)))
      pick false e =
          let z : i + i + 1 + r ≡ i + i + 1 = omega (arith, rw e at er) in
          rw z (lesser_left (omega arith) (λ _. omega (arith, ltb-false (key n w (i + i + 1 + 1)) (key n w (i + i + 1)) e)))

  -- ---- one level down
  module _ (u : OrderedDown k i (key n w)) where
    pub fall_leaf : k ≤ i + i + 1 → Level n k Down OrderedDown i w w i
    fall_leaf l = stands n k i w p k_in Down OrderedDown u (down_leaf k (key n w) i l u)

    module _ (c : ℕ) (q : Lesser k (key n w) i c) where
      pub fall_stop : key n w i ≤ key n w c → Level n k Down OrderedDown i w w i
      fall_stop l = stands n k i w p k_in Down OrderedDown u (down_done k (key n w) i c q l u)

      pub fall_move : key n w c < key n w i → (w' : List ℕ) → w' ≡ swapped n i c w → Level n k Down OrderedDown i w w' c
      fall_move l =
          let b = q.below in
          let d = q.inside in
          goes n k i w p k_in Down OrderedDown c (omega arith) d (λ f. omega arith) b (down_step k (key n w) i c q l u (key n (swapped n i c w)))

-- ---- the loop over the levels, in either direction: what holds when so many are passed
pub record Going (n k : ℕ) (On : ℕ → ℕ → Type 0) (Partly : ℕ → ℕ → (ℕ → ℕ) → Type 0) (from : ℕ) (w₀ w : List ℕ) (i level : ℕ) : Type 0 where
  pub kept : Rearranged n k w₀ w
  pub order : Partly k i (key n w)
  pub path : Passes n On from w₀ level i w

module _ (n k : ℕ) (On : ℕ → ℕ → Type 0) (Partly : ℕ → ℕ → (ℕ → ℕ) → Type 0) (from : ℕ) (w₀ : List ℕ) where
  going_first : Positioned n w₀ → Partly k from (key n w₀) → Going n k On Partly from w₀ w₀ from 0
  going_first p u = record { kept = kept_refl n k w₀ p; order = u; path = stays }

  module _ (w : List ℕ) (i level : ℕ) (s : Going n k On Partly from w₀ w i level) where
    going_turn : (w' : List ℕ) (r : ℕ) → Level n k On Partly i w w' r → r ≢ i → Going n k On Partly from w₀ w' r (level + 1)
    going_turn w' r t m = record {
      kept = kept_then n k w₀ w w' s.kept t.kept;
      order = t.order;
      path = rw ((t.moved m).2, add-one)
          (passes s.path r (t.moved m).0);
    }

    ended : level ≤ max_levels → Ordered k (key n w) → Sifted n k On from w₀ w
    ended h o = record { kept = s.kept; order = o; levels = record { levels = level; last = i; few = h; passed = s.path } }

    stopped : level ≤ max_levels → (w' : List ℕ) (r : ℕ) → Level n k On Partly i w w' r → r ≡ i → Sifted n k On from w₀ w'
    stopped h w' r t e = let d = t.done e in subst (Sifted n k On from w₀) (sym d.1) (ended h (subst (λ (l : List ℕ). Ordered k (key n l)) d.1 d.0))

-- ---- what the loop keeps, with where the way may stand
pub record Sifting (n k : ℕ) (On : ℕ → ℕ → Type 0) (Partly : ℕ → ℕ → (ℕ → ℕ) → Type 0) (Stands : ℕ → ℕ → ℕ → Type 0) (from : ℕ) (w₀ w : List ℕ) (i level : ℕ) :
    Type 0 where
  pub going : Going n k On Partly from w₀ w i level
  pub stands : Stands k level i
  pub last : level ≤ max_levels

module _ (n k : ℕ) (On : ℕ → ℕ → Type 0) (Partly : ℕ → ℕ → (ℕ → ℕ) → Type 0) (Stands : ℕ → ℕ → ℕ → Type 0) (from : ℕ) (w₀ : List ℕ) where
  pub sifting_first : Positioned n w₀ → Partly k from (key n w₀) → Stands k 0 from → Sifting n k On Partly Stands from w₀ w₀ from 0
  sifting_first p u s = record { going = going_first n k On Partly from w₀ p u; stands = s; last = omega arith }

  module _ (w : List ℕ) (i level : ℕ) (s : Sifting n k On Partly Stands from w₀ w i level) where
    pub sifting_turn : ((level i r : ℕ) → level < max_levels → Stands k level i → On i r → r < k → Stands k (level + 1) r) → level < max_levels
        → (w' : List ℕ) (r : ℕ) → Level n k On Partly i w w' r → (r ≡ i → ⊥) → Sifting n k On Partly Stands from w₀ w' r (level + 1)
    sifting_turn turns h w' r t m =
        let d = t.moved m in
        record { going = going_turn n k On Partly from w₀ w i level s.going w' r t m; stands = turns level i r h s.stands d.0 d.1; last = omega arith }

    pub sifting_stop : (w' : List ℕ) (r : ℕ) → Level n k On Partly i w w' r → r ≡ i → Sifted n k On from w₀ w'
    sifting_stop = stopped n k On Partly from w₀ w i level s.going s.last

    pub sifting_end : ((i : ℕ) (key : ℕ → ℕ) → Stands k max_levels i → Partly k i key → Ordered k key) → max_levels ≤ level → Sifted n k On from w₀ w
    sifting_end ends h =
        let e : level ≡ max_levels = omega (arith, s.last) in
        ended n k On Partly from w₀ w i level s.going s.last (ends i (key n w) (subst (λ (l : ℕ). Stands k l i) e s.stands) s.going.order)

-- ---- upwards the position halves
pub rises_turn : (k level i r : ℕ) → level < max_levels → Rises k level i → Up i r → r < k → Rises k (level + 1) r
rises_turn k level i r h s b l = (l, level_up level i r h s.1 b.0)

pub rises_end : (k i : ℕ) (key : ℕ → ℕ) → Rises k max_levels i → OrderedUp k i key → Ordered k key
rises_end k i key s o = up_root k key i (level_end max_levels i (omega arith) s.1) o

-- ---- downwards it doubles
pub sinks_turn : (k level i r : ℕ) → level < max_levels → Sinks k level i → Down i r → r < k → Sinks k (level + 1) r
sinks_turn k level i r h s b l = (omega arith, level_down level i r s.1 b.0)

pub sinks_end : (k i : ℕ) (key : ℕ → ℕ) → k ≤ max_nodes → Sinks k max_levels i → OrderedDown k i key → Ordered k key
sinks_end k i key few s o = down_leaf k key i (level_leaf max_levels i k (omega arith) (omega arith) few s.1) o
