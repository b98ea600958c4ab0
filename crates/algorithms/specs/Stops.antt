-- A search may stop when every wanted node is settled: what it has found then, and how many are lacking. Assumes nothing.
use Rattle.std.specs.Prelude.{ℕ, zero, suc, ◌+◌, ◌-◌, ◌*◌, ◌≤◌, ◌<◌, ◌≡◌, refl, ◌⊎◌, length, set, replicate}
use Rattle.std.proofs.Common.{not-suc-le-zero, ap, ◌∙◌, inl, inr, ⊎_elim}
use native.Mathlib.Omega.{arith}
use Rattle.std.proofs.Math.Path.{sym}
use mathlib.Core.List.{List, [], ◌∷◌, Memᴰ}
use Rattle.std.proofs.lemmas.List.{length-map}
use Rattle.model.specs.Lists.{up_to}
use Rattle.model.specs.Walk.{Arc, Walk, stay, go, Least}
use Rattle.model.specs.Distance.{Distance, unreachable, finite, dist}
use Rattle.model.specs.Oracle.{no_walk, coded}
use Rattle.theory.specs.Walks.{Within, Costs, Positive, walk_in, least_unique}
use Rattle.theory.specs.Exact.{time_least, least_time}
use Rattle.theory.specs.RangeLaws.{length-range}
use Rattle.algorithms.specs.Dijkstra.{at}
use Rattle.algorithms.specs.Dijkstra.{settled_least, from_start}
use Rattle.algorithms.specs.Settle.{Falling}
use Rattle.algorithms.specs.Rounds.{Found, State, distance_words}
use Rattle.algorithms.specs.Marks.{Search}
use Rattle.algorithms.specs.Searches.{word_of, found_search}

-- What a search from s has found that stopped when each wanted node was settled, or no reached node was left: in `order` the settled nodes, the farthest
-- first, with
-- their distances; and the distance of each wanted node. A node that is not settled is no nearer than a settled one.
pub record Stopped (arcs : List Arc) (N s : ℕ) (want d order : List ℕ) : Type 0 where
  pub words : length d ≡ N
  pub inside : (v : ℕ) → Memᴰ v order → v < N
  pub exact : (v : ℕ) → Memᴰ v order → (at d v ≡ coded (dist arcs N s v)) × (at d v < no_walk)
  pub falls : Falling d order
  pub wanted : (v : ℕ) → v < N → 0 < at want v → at d v ≡ coded (dist arcs N s v)
  pub search : Search arcs s (λ v. Memᴰ v order) (at d) (λ q. 0 < at want q)
  pub rest : (v : ℕ) → v < N → (Memᴰ v order → ⊥) → (u : ℕ) → Memᴰ u order → (at d u ≤ at d v) × (at d u ≤ coded (dist arcs N s v))

-- ---- how many wanted nodes are not settled
unfoldable pub lack : ℕ → ℕ → ℕ
lack zero f = 0
lack (suc w) zero = 1
lack (suc w) (suc f) = 0

unfoldable pub lacking : List ℕ → List ℕ → ℕ
lacking [] done = 0
lacking (w ∷ want) [] = 0
lacking (w ∷ want) (f ∷ done) = lack w f + lacking want done

-- How many flags are set.
unfoldable pub nonzeros : List ℕ → ℕ
nonzeros [] = 0
nonzeros (zero ∷ xs) = nonzeros xs
nonzeros (suc x ∷ xs) = suc (nonzeros xs)

pub lacking_all : (want : List ℕ) (n : ℕ) → length want ≤ n → lacking want (replicate n 0) ≡ nonzeros want
unfolding lacking lack nonzeros
lacking_all [] n h = refl
lacking_all (w ∷ want) zero h = absurd (not-suc-le-zero h)
lacking_all (zero ∷ want) (suc n) h = omega (arith, lacking_all want n (omega arith))
lacking_all (suc w ∷ want) (suc n) h = omega (arith, lacking_all want n (omega arith))

-- One flag set among none, or any number of them.
pub nonzeros_none : (n : ℕ) → nonzeros (replicate n 0) ≡ 0
unfolding nonzeros
nonzeros_none zero = refl
nonzeros_none (suc n) = nonzeros_none n

pub nonzeros_one : (n t : ℕ) → nonzeros (set (replicate n 0) t 1) ≤ 1
unfolding nonzeros
nonzeros_one zero t = omega arith
nonzeros_one (suc n) zero = omega (arith, nonzeros_none n)
nonzeros_one (suc n) (suc t) = nonzeros_one n t

pub nonzeros_most : (xs : List ℕ) → nonzeros xs ≤ length xs
unfolding nonzeros
nonzeros_most [] = omega arith
nonzeros_most (zero ∷ xs) = omega (arith, nonzeros_most xs)
nonzeros_most (suc x ∷ xs) = omega (arith, nonzeros_most xs)

-- A wanted node is settled, or another.
pub lacking_wanted : (want done : List ℕ) (u : ℕ) → u < length done → 0 < at want u → at done u ≡ 0 → lacking want (set done u 1) + 1 ≡ lacking want done
unfolding lacking lack
lacking_wanted [] done u h g e = absurd (omega arith)
lacking_wanted (w ∷ want) [] u h g e = absurd (not-suc-le-zero h)
lacking_wanted (zero ∷ want) (f ∷ done) zero h g e = absurd (omega arith)
lacking_wanted (suc w ∷ want) (zero ∷ done) zero h g e = omega arith
lacking_wanted (suc w ∷ want) (suc f ∷ done) zero h g e = absurd (omega arith)
lacking_wanted (w ∷ want) (f ∷ done) (suc u) h g e = omega (arith, lacking_wanted want done u (omega arith) g e)

pub lacking_other : (want done : List ℕ) (u : ℕ) → at want u ≡ 0 → lacking want (set done u 1) ≡ lacking want done
unfolding lacking lack
lacking_other [] done u e = refl
lacking_other (w ∷ want) [] u e = refl
lacking_other (zero ∷ want) (f ∷ done) zero e = refl
lacking_other (suc w ∷ want) (f ∷ done) zero e = absurd (omega arith)
lacking_other (w ∷ want) (f ∷ done) (suc u) e = ap (λ (k : ℕ). lack w f + k) (lacking_other want done u e)

pub lacking_none : (want done : List ℕ) → lacking want done ≡ 0 → (v : ℕ) → v < length done → 0 < at want v → 0 < at done v
unfolding lacking lack
lacking_none [] done z v h g = absurd (omega arith)
lacking_none (w ∷ want) [] z v h g = absurd (not-suc-le-zero h)
lacking_none (zero ∷ want) (f ∷ done) z zero h g = absurd (omega arith)
lacking_none (suc w ∷ want) (zero ∷ done) z zero h g = absurd (omega arith)
lacking_none (suc w ∷ want) (suc f ∷ done) z zero h g = omega arith
lacking_none (w ∷ want) (f ∷ done) z (suc v) h g = lacking_none want done (omega arith) v (omega arith) g

-- ---- where no reached node is left
module _ (arcs : List Arc) (N s : ℕ) (within : Within N arcs) (s_in : s < N) (K : ℕ) (costs : Costs K arcs) (small : (N - 1) * K < no_walk) (d order : List ℕ)
    (found : Found arcs N s d order) where
  word : (v : ℕ) → v < N → at d v ≡ coded (dist arcs N s v)
  word = word_of arcs N s within s_in K costs small d order found

  pub found_stopped : (want : List ℕ) → Stopped arcs N s want d order
  found_stopped want = record {
    words = ap length found.times ∙ unfold distance_words in (length-map (up_to N) (λ v. coded (dist arcs N s v)) ∙ length-range 0 N);
    inside = λ v m. (found.reached v m).0;
    exact = λ v m. let r = found.reached v m in (word v r.0, r.1);
    falls = found.falls;
    wanted = λ v i g. word v i;
    search = found_search arcs N s within s_in K costs small d order found (λ q. 0 < at want q);
    rest = λ v i out u m.
        let r = found.reached u m in
        let l : ¬ (at d v < no_walk) = λ h. out (found.every v i h) in
        (omega arith, omega (arith, word v i));
  }

-- ---- where each wanted node is settled
module _ (arcs : List Arc) (N s : ℕ) (within : Within N arcs) (s_in : s < N) (positive : Positive arcs) (want d done order : List ℕ)
    (st : State arcs N s d done order)
    (all : (v : ℕ) → v < N → 0 < at want v → 0 < at done v) where
  settled_exact : (v : ℕ) → v < N → 0 < at done v → Least arcs s v (at d v)
  settled_exact v i h = settled_least arcs N s within s_in d done st.inv v i h (st.kept.settled v (st.kept.every v i h)).2

  settled_word : (v : ℕ) → v < N → 0 < at done v → at d v ≡ coded (dist arcs N s v)
  unfolding coded
  settled_word v i h = sym (ap coded (least_time arcs N s v within s_in (at d v) (settled_exact v i h)))

  -- No walk to a node that is not settled is shorter than to a settled one.
  fresh_far : {v x : ℕ} → Walk arcs s v x → v < N → at done v ≡ 0 → (u : ℕ) → u < N → 0 < at done u → at d u ≤ x
  fresh_far {v} {x} w i f u j h =
      ⊎_elim
      (λ l. omega (arith, st.inv.ordered u v j i h f))
      (λ y. omega (arith, st.inv.ordered u y.0 j y.1 h y.2, y.3))
      (from_start arcs N s within s_in d done st.inv w)

  settled_before : {v q x : ℕ} → Walk arcs s v x → v < N → q < N → 0 < at done q → x < at d q → 0 < at done v
  settled_before {v} {q} {x} w i j h l =
      let r : ¬ (at done v ≡ 0) = λ f. omega (arith, fresh_far w i f q j h) in
      omega arith

  -- A walk to another node takes time.
  moves : {u t n : ℕ} → Walk arcs u t n → (u ≡ t) ⊎ (0 < n)
  moves stay = inl refl
  moves (go a i w) = inr (omega (arith, positive a i))

  enough : {v q x y : ℕ} → Walk arcs s v x → Walk arcs v q y → Least arcs s q (x + y) → 0 < at want q → Memᴰ v order
  enough {v} {q} {x} {y} u w l g = st.kept.every v v_in (pick (moves w))
    where
      v_in : v < N
      v_in = walk_in within s_in u

      q_in : q < N
      q_in = walk_in within s_in l.has

      pick : (v ≡ q) ⊎ (0 < y) → 0 < at done v
      pick (inl e) = rw e (all q q_in g)
      pick (inr h) = settled_before u v_in q_in (all q q_in g) (omega (arith, least_unique l (settled_exact q q_in (all q q_in g))))

  fresh_out : (v : ℕ) → v < N → (Memᴰ v order → ⊥) → at done v ≡ 0
  fresh_out v i out = let r : ¬ (0 < at done v) = λ h. out (st.kept.every v i h) in omega arith

  far_enough : (v : ℕ) → v < N → at done v ≡ 0 → (u : ℕ) → u < N → 0 < at done u → at d u < no_walk → (p : Distance) → dist arcs N s v ≡ p → at d u ≤ coded p
  unfolding coded
  far_enough v i f u j h near unreachable e = omega arith
  far_enough v i f u j h near (finite n) e = fresh_far (time_least arcs N s v within s_in n e).has i f u j h

  pub state_stopped : Stopped arcs N s want d order
  state_stopped = record {
    words = st.inv.words;
    inside = λ v m. (st.kept.settled v m).0;
    exact = λ v m. let r = st.kept.settled v m in (settled_word v r.0 r.1, r.2);
    falls = st.kept.falls;
    wanted = λ v i g. settled_word v i (all v i g);
    search = record { exact = λ v m. let r = st.kept.settled v m in settled_exact v r.0 r.1; enough = enough };
    rest = λ v i out u m.
        let r = st.kept.settled u m in
        let f = fresh_out v i out in
        (st.inv.ordered u v r.0 i r.1 f, far_enough v i f u r.0 r.1 r.2 (dist arcs N s v) refl);
  }
