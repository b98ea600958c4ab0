-- The order of a heap when two keys change places, upwards and downwards. Assumes nothing.
use Prim.Native.Nat.{ℕ, zero, suc, ◌+◌, ◌-◌, ◌/◌, ◌≤◌, ◌<◌}
use native.Mathlib.Decide.{ℕ_discrete}
use native.Mathlib.Omega.{arith}
use mathlib.Core.Path.{◌≡◌, ap}
use mathlib.Core.Logic.{◌≢◌}
use Rattle.heap.specs.Order.{Below, Ordered, OrderedUp, OrderedDown, Lesser}

-- Two of the first k keys change places.
pub record Exchanged (k i j : ℕ) (key key' : ℕ → ℕ) : Type 0 where
  pub first : key' i ≡ key j
  pub second : key' j ≡ key i
  pub others : (m : ℕ) → m < k → m ≢ i → m ≢ j → key' m ≡ key m

-- The first is the least.
least_to : (m k : ℕ) (key : ℕ → ℕ) → Ordered k key → (i : ℕ) → i ≤ m → i < k → key 0 ≤ key i
least_to zero k key o i h l = let e : i ≡ 0 = omega arith in omega (arith, ap key e)
least_to (suc m) k key o i h l = pick (ℕ_discrete i 0) (λ p q r. least_to m k key o p q r)
  where
    pick : Dec (i ≡ 0) → ((p : ℕ) → p ≤ m → p < k → key 0 ≤ key p) → key 0 ≤ key i
    pick (yes e) rec = omega (arith, ap key e)
    pick (no n) rec = omega (arith, rec ((i - 1) / 2) (omega arith) (omega arith), o ((i - 1) / 2) i (omega arith, omega arith) l)

pub least_first : (k : ℕ) (key : ℕ → ℕ) → Ordered k key → (i : ℕ) → i < k → key 0 ≤ key i
least_first k key o i l = least_to i k key o i (omega arith) l

module _ (k : ℕ) (key : ℕ → ℕ) where
  -- ---- upwards
  pub up_root : (i : ℕ) → i ≡ 0 → OrderedUp k i key → Ordered k key
  up_root i e u a b h l = u.rest a b h l (λ q. omega arith)

  pub up_done : (i p : ℕ) → Below p i → key p ≤ key i → OrderedUp k i key → Ordered k key
  up_done i p q r u a b h l = pick (ℕ_discrete b i)
    where
      pick : Dec (b ≡ i) → key a ≤ key b
      pick (no n) = u.rest a b h l n
      pick (yes e) = let f : a ≡ p = omega arith in omega (arith, ap key e, ap key f)

  pub up_step : (i p : ℕ) → Below p i → i < k → key i < key p → OrderedUp k i key → (key' : ℕ → ℕ) → Exchanged k i p key key' → OrderedUp k p key'
  up_step i p q ik r u key' x = record { rest = rest'; over = over' }
    where
      rest' : (a b : ℕ) → Below a b → b < k → b ≢ p → key' a ≤ key' b
      rest' a b h l n = pick (ℕ_discrete b i) (ℕ_discrete a i) (ℕ_discrete a p)
        where
          pick : Dec (b ≡ i) → Dec (a ≡ i) → Dec (a ≡ p) → key' a ≤ key' b
          pick (yes e) s t = let f : a ≡ p = omega arith in omega (arith, ap key' e, ap key' f, x.first, x.second)
          pick (no e) (yes f) t = omega (arith, ap key' f, x.first, x.others b l e n, u.over p b q (omega arith, omega arith) l)
          pick (no e) (no f) (yes g) = omega (arith, ap key' g, x.second, x.others b l e n, u.rest p b (omega arith, omega arith) l e)
          pick (no e) (no f) (no g) = omega (arith, x.others a (omega arith) f g, x.others b l e n, u.rest a b h l e)

      over' : (a b : ℕ) → Below a p → Below p b → b < k → key' a ≤ key' b
      over' a b h j l = pick (ℕ_discrete b i)
        where
          low : key' a ≡ key a
          low = x.others a (omega arith) (λ e. omega arith) (λ e. omega arith)

          high : key a ≤ key p
          high = u.rest a p h (omega arith) (λ e. omega arith)

          pick : Dec (b ≡ i) → key' a ≤ key' b
          pick (yes e) = omega (arith, low, high, ap key' e, x.first)
          pick (no e) = omega (arith, low, high, x.others b l e (λ f. omega arith), u.rest p b j l e)

  -- ---- downwards
  pub down_leaf : (i : ℕ) → k ≤ i + i + 1 → OrderedDown k i key → Ordered k key
  down_leaf i e u a b h l = u.rest a b h l (λ q. omega arith)

  pub down_done : (i c : ℕ) → Lesser k key i c → key i ≤ key c → OrderedDown k i key → Ordered k key
  down_done i c q r u a b h l = pick (ℕ_discrete a i)
    where
      pick : Dec (a ≡ i) → key a ≤ key b
      pick (no n) = u.rest a b h l n
      pick (yes e) = omega (arith, ap key e, q.least b (omega arith, omega arith) l)

  pub down_step : (i c : ℕ) → Lesser k key i c → key c < key i → OrderedDown k i key → (key' : ℕ → ℕ) → Exchanged k i c key key' → OrderedDown k c key'
  down_step i c q r u key' x = record { rest = rest'; over = over' }
    where
      rest' : (a b : ℕ) → Below a b → b < k → a ≢ c → key' a ≤ key' b
      rest' a b h l n = pick (ℕ_discrete a i) (ℕ_discrete b i) (ℕ_discrete b c)
        where
          pick : Dec (a ≡ i) → Dec (b ≡ i) → Dec (b ≡ c) → key' a ≤ key' b
          pick (yes e) s (yes t) = omega (arith, ap key' e, ap key' t, x.first, x.second)
          pick (yes e) s (no t) = omega (arith, ap key' e, x.first, x.others b l (λ f. omega arith) t, q.least b (omega arith, omega arith) l)
          pick (no e) (yes s) t = omega (
            arith,
            x.others a (omega arith) e n,
            ap key' s,
            x.first,
            u.over a c (omega arith, omega arith) q.below
                q.inside,
          )
          pick (no e) (no s) (yes t) = absurd (e (omega (arith, q.below.0, q.below.1)))
          pick (no e) (no s) (no t) = omega (arith, x.others a (omega arith) e n, x.others b l s t, u.rest a b h l e)

      over' : (a b : ℕ) → Below a c → Below c b → b < k → key' a ≤ key' b
      over' a b h j l =
          let e : a ≡ i = omega (arith, q.below.0, q.below.1) in
          omega (
            arith,
            ap key' e,
            x.first,
            x.others b l (λ f. omega (arith, q.below.0)) (λ f. omega arith),
            u.rest c b j l
                (λ f. omega (arith, q.below.0)),
          )

-- ---- the order, before it is restored
pub lowered_up : (k : ℕ) (key key' : ℕ → ℕ) (p : ℕ) → Ordered k key → p < k → key' p ≤ key p → ((m : ℕ) → m < k → m ≢ p → key' m ≡ key m) → OrderedUp k p key'
lowered_up k key key' p o h l same = record { rest = rest'; over = over' }
  where
    rest' : (a b : ℕ) → Below a b → b < k → b ≢ p → key' a ≤ key' b
    rest' a b q r n = pick (ℕ_discrete a p)
      where
        pick : Dec (a ≡ p) → key' a ≤ key' b
        pick (yes e) = omega (arith, ap key' e, ap key e, same b r n, o a b q r)
        pick (no m) = omega (arith, same a (omega arith) m, same b r n, o a b q r)

    over' : (a b : ℕ) → Below a p → Below p b → b < k → key' a ≤ key' b
    over' a b q s r = omega (arith, same a (omega arith) (λ e. omega arith), same b r (λ e. omega arith), o a p q h, o p b s r)

pub entered_up : (k : ℕ) (key key' : ℕ → ℕ) → Ordered k key → ((m : ℕ) → m < k → key' m ≡ key m) → OrderedUp (k + 1) k key'
entered_up k key key' o same = record {
  rest = λ a b q r n. omega (arith, same a (omega arith), same b (omega arith), o a b q (omega arith));
  over = λ a b q s r. absurd (omega arith);
}

pub taken_down : (k j : ℕ) (key key' : ℕ → ℕ) → Ordered k key → j ≤ k → ((m : ℕ) → m < j → m ≢ 0 → key' m ≡ key m) → OrderedDown j 0 key'
taken_down k j key key' o h same = record {
  rest = λ a b q r n. omega (arith, same a (omega arith) n, same b r (λ e. omega arith), o a b q (omega arith));
  over = λ a b q s r. absurd (omega arith);
}
