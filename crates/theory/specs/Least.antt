-- Times, which are numbers or none, and the least number with a property as a time.
-- Assumes nothing.
use Rattle.std.specs.Prelude.{◌≡◌, refl, ◌⊎◌, ℕ, zero, suc, min, ◌+◌, ◌≤◌, ◌<◌}
use Rattle.std.proofs.Common.{sym, ap, subst, inl, inr, arith}
use mathlib.Core.List.Memᴰ
use mathlib.Core.List.{List, [], ◌∷◌, Memᴰ}
use Rattle.model.specs.Distance.{Distance, unreachable, finite, plus, sooner, soonest, IsLeast}
use Rattle.model.specs.Walk.{LeastOf}
use Rattle.theory.specs.Extremes.{either}

pub time_inj : {n k : ℕ} → finite n ≡ finite k → n ≡ k
time_inj e = cc

IsFinite : Distance → Type 0
IsFinite unreachable = ⊥
IsFinite (finite n) = Unit {0}

-- A time is not 'none'.
pub apart : {n : ℕ} → unreachable ≡ finite n → ⊥
unfolding IsFinite
apart e = subst IsFinite (sym e) tt

-- a bound that holds of the least number with P, if there is one, holds of every number with P
no_least : (P : ℕ → Type 0) → ((k : ℕ) → LeastOf P k → ⊥) → (b k : ℕ) → k < b → P k → ⊥
no_least P not zero k h p = omega arith
no_least P not (suc b) k h p = not k (record { has = p; least = λ m q. let r : ¬ (m < k) = λ lt. no_least P not b m (omega arith) q in omega arith })

pub bounded : (P : ℕ → Type 0) (n : ℕ) → ((k : ℕ) → LeastOf P k → n ≤ k) → (m : ℕ) → P m → n ≤ m
bounded P n h m p = let r : ¬ (m < n) = λ lt. no_least P (λ k l. omega (arith, h k l, l.least m p)) (suc m) m (omega arith) p in omega arith

pub none_at_all : (P : ℕ → Type 0) → ((k : ℕ) → LeastOf P k → ⊥) → (m : ℕ) → P m → ⊥
none_at_all P h m p = no_least P h (suc m) m (omega arith) p

-- ---- a distance is the least number with P, or unreachable where there is none
pub meets_unique : (P : ℕ → Type 0) (x y : Distance) → IsLeast P x → IsLeast P y → x ≡ y
meets_unique P (finite n) (finite k) p q = ap finite (omega (arith, p.least k q.has, q.least n p.has))
meets_unique P (finite n) unreachable p q = absurd (q n p.has)
meets_unique P unreachable (finite k) p q = absurd (p k q.has)
meets_unique P unreachable unreachable p q = refl

-- another property, whose least number has the first
pub meets_weaker : (P Q : ℕ → Type 0) → ((n : ℕ) → P n → Q n) → ((n : ℕ) → LeastOf Q n → P n) → (x : Distance) → IsLeast P x → IsLeast Q x
meets_weaker P Q f g (finite n) h = record { has = f n h.has; least = bounded Q n (λ k l. h.least k (g k l)) }
meets_weaker P Q f g unreachable h = none_at_all Q (λ k l. h k (g k l))

pub record Sum (P Q : ℕ → Type 0) (n : ℕ) : Type 0 where
  pub i : ℕ
  pub j : ℕ
  pub left : P i
  pub right : Q j
  pub total : i + j ≡ n

pub meets_plus : (P Q : ℕ → Type 0) (x y : Distance) → IsLeast P x → IsLeast Q y → IsLeast (Sum P Q) (plus x y)
unfolding plus
meets_plus P Q (finite n) (finite k) p q = record {
  has = record { i = n; j = k; left = p.has; right = q.has; total = refl };
  least = λ m s. omega (arith, p.least s.i s.left, q.least s.j s.right);
}
meets_plus P Q (finite n) unreachable p q = λ m s. q s.j s.right
meets_plus P Q unreachable y p q = λ m s. p s.i s.left

pub meets_sooner : (P Q : ℕ → Type 0) (x y : Distance) → IsLeast P x → IsLeast Q y → IsLeast (λ n. P n ⊎ Q n) (sooner x y)
unfolding sooner
meets_sooner P Q (finite n) (finite k) p q = record { has = holds (either n k); least = λ m. bound m }
  where
    holds : (min n k ≡ n) ⊎ (min n k ≡ k) → P (min n k) ⊎ Q (min n k)
    holds (inl e) = inl (rw e p.has)
    holds (inr e) = inr (rw e q.has)

    bound : (m : ℕ) → P m ⊎ Q m → min n k ≤ m
    bound m (inl r) = omega (arith, p.least m r)
    bound m (inr r) = omega (arith, q.least m r)
meets_sooner P Q (finite n) unreachable p q = record { has = inl p.has; least = λ m. bound m }
  where
    bound : (m : ℕ) → P m ⊎ Q m → n ≤ m
    bound m (inl r) = p.least m r
    bound m (inr r) = absurd (q m r)
meets_sooner P Q unreachable y p q = meets_weaker Q (λ n. P n ⊎ Q n) (λ n h. inr h) (λ n h. other n h.has) y q
  where
    other : (m : ℕ) → P m ⊎ Q m → Q m
    other m (inl r) = absurd (p m r)
    other m (inr r) = r

pub record Among {A : Type 0} (l : List A) (P : A → ℕ → Type 0) (n : ℕ) : Type 0 where
  pub x : A
  pub listed : Memᴰ x l
  pub has : P x n

pub meets_soonest : {A : Type 0} (P : A → ℕ → Type 0) (f : A → Distance) (l : List A) → ((x : A) → Memᴰ x l → IsLeast (P x) (f x))
    → IsLeast (Among l P) (soonest f l)
unfolding soonest
meets_soonest P f [] h = λ n a. Memᴰ.not-nil a.listed
meets_soonest P f (x ∷ l) h =
    meets_weaker (λ n. P x n ⊎ Among l P n) (Among (x ∷ l) P) put (λ n a. take n a.has (Memᴰ.cases_cons a.has.listed)) (sooner (f x) (soonest f l))
    (meets_sooner (P x) (Among l P) (f x) (soonest f l) (h x (Memᴰ.head refl)) (meets_soonest P f l (λ y m. h y (Memᴰ.tail m))))
  where
    put : (n : ℕ) → P x n ⊎ Among l P n → Among (x ∷ l) P n
    put n (inl p) = record { x = x; listed = Memᴰ.head refl; has = p }
    put n (inr a) = record { x = a.x; listed = Memᴰ.tail a.listed; has = a.has }

    take : (n : ℕ) (a : Among (x ∷ l) P n) → (a.x ≡ x) ⊎ Memᴰ a.x l → P x n ⊎ Among l P n
    take n a (inl e) = inl (subst (λ y. P y n) e a.has)
    take n a (inr m) = inr (record { x = a.x; listed = m; has = a.has })
