-- A node's time read and written, and the words that the times stand in. Assumes nothing.
use Prim.Native.Nat.{ℕ, ◌+◌, ◌-◌, ◌*◌, ◌/◌, ◌%◌, ◌≤◌, ◌<◌}
use native.Mathlib.Omega.{arith}
use native.Mathlib.Decide.{ℕ_discrete, dec_lt}
use native.Mathlib.Nat.{zero-add}
use mathlib.Core.Path.{◌≡◌, sym, ap, ◌∙◌}
use mathlib.Core.Logic.{◌≢◌}
use mathlib.Core.Bool.{Bool, true, false, cond}
use mathlib.Core.List.{List}
use lib.ListN.{length, get_or, set, take, replicate, length-set, length-map, length-replicate, get_or-replicate}
use lib.Seq.{get_or-take, get_or-drop, get_or-set_same, get_or-set_other, take-set-le, drop-set-lt, ext_get_or}
use lib.Dec.{eqb, ltb}
use borrow.Author.Tests.{ltb-true, lt-ltb, le-ltb}
use Rattle.model.specs.Lists.{up_to}
use Rattle.model.specs.Pair.{seconds_of, hops_of}
use Rattle.model.specs.Oracle.{no_walk, no_seconds, no_hops}
use Rattle.theory.specs.RangeLaws.{length-range, get_d_map_range}
use Rattle.words.specs.Halves.{half, put_half}
use Rattle.words.specs.Regions.{times_in}
use Rattle.words.specs.Times.{hops_at, time_words, time, store}
use Rattle.words.specs.Frames.{KeptFrom}
use Rattle.words.proofs.HalfLaws.{half_alike, half_small, put_apart, put_length, put_same, put_other}

-- ---- the times as a list
pub times_length : (n : ℕ) (w : List ℕ) → length (times_in n w) ≡ n
unfolding times_in
times_length n w = length-map (up_to n) (time n w) ∙ length-range 0 n

pub time_at : (n : ℕ) (w : List ℕ) (v : ℕ) → v < n → get_or (times_in n w) v 0 ≡ time n w v
unfolding times_in
time_at n w v h = get_d_map_range (time n w) 0 0 n v h ∙ ap (time n w) (zero-add v)

pub times_by : (n : ℕ) (w l : List ℕ) → length l ≡ n → ((v : ℕ) → v < n → time n w v ≡ get_or l v 0) → times_in n w ≡ l
times_by n w l e h = ext_get_or 0 (times_in n w) l (times_length n w ∙ sym e)
    (λ v k. let q : v < n = omega (arith, times_length n w) in time_at n w v q ∙ h v q)

pub time_same : (n : ℕ) (w w' : List ℕ) → times_in n w' ≡ times_in n w → (v : ℕ) → v < n → time n w' v ≡ time n w v
time_same n w w' e v h = sym (time_at n w' v h) ∙ ap (λ (l : List ℕ). get_or l v 0) e ∙ time_at n w v h

-- ---- the words that they stand in

-- Where these are the same, the times are.
module _ (n : ℕ) (w w' : List ℕ) (first : (i : ℕ) → i < n → get_or w' i 0 ≡ get_or w i 0)
    (last : (i : ℕ) → hops_at n ≤ i → i < time_words n → get_or w' i 0 ≡ get_or w i 0) where
  time_alike : (v : ℕ) → v < n → time n w' v ≡ time n w v
  unfolding time
  time_alike v h = rw (first v h, half_alike w w' (2 * hops_at n + v) (last ((2 * hops_at n + v) / 2) (omega arith) (omega arith)))

  times_alike : times_in n w' ≡ times_in n w
  times_alike = times_by n w' (times_in n w) (times_length n w) (λ v h. time_alike v h ∙ sym (time_at n w v h))

pub times_front : (n a : ℕ) (w : List ℕ) → time_words n ≤ a → times_in n (take a w) ≡ times_in n w
times_front n a w h = times_alike n w (take a w) (λ i l. get_or-take a w i 0 (omega arith)) (λ i l r. get_or-take a w i 0 (omega arith))

-- Where the first words stay, and no fewer than the times need.
pub times_kept : (n a : ℕ) (w w' : List ℕ) → time_words n ≤ a → take a w' ≡ take a w → times_in n w' ≡ times_in n w
times_kept n a w w' h e = sym (times_front n a w' h) ∙ ap (times_in n) e ∙ times_front n a w h

-- Where words between the seconds and the hops are written: what stands before position a and from b on stays.
module _ (n a b : ℕ) (w w' : List ℕ) (l : n ≤ a) (h : b ≤ hops_at n) (front : take a w' ≡ take a w) (back : KeptFrom b w w') where
  word_before : (i : ℕ) → i < n → get_or w' i 0 ≡ get_or w i 0
  word_before i k = sym (get_or-take a w' i 0 (omega arith)) ∙ ap (λ (x : List ℕ). get_or x i 0) front ∙ get_or-take a w i 0 (omega arith)

  word_behind : (i : ℕ) → hops_at n ≤ i → get_or w' i 0 ≡ get_or w i 0
  word_behind i k =
      let e : i ≡ b + (i - b) = omega arith in
      rw e (sym (get_or-drop b w' (i - b) 0) ∙ ap (λ (x : List ℕ). get_or x (i - b) 0) back ∙ get_or-drop b w (i - b) 0)

  pub times_around : times_in n w' ≡ times_in n w
  times_around = times_alike n w w' word_before (λ i k r. word_behind i k)

pub times_between : (n i x : ℕ) (w : List ℕ) → n ≤ i → i < hops_at n → times_in n (set w i x) ≡ times_in n w
times_between n i x w l h =
    times_around n i (i + 1) w (set w i x) l (omega arith) (take-set-le i w i x (omega arith)) (drop-set-lt (i + 1) w i x (omega arith))

-- A half of a word of ones.
half_ones : (w : List ℕ) (p : ℕ) → get_or w (p / 2) 0 ≡ no_seconds → half w p ≡ no_hops
unfolding half
half_ones w p e = rw e (pick (eqb (p % 2) 0))
  where
    pick : (b : Bool) → cond b (no_seconds % 65536) (no_seconds / 65536) ≡ no_hops
    pick true = omega arith
    pick false = omega arith

-- Where the words of seconds and of hops are all ones, every time is 'no walk'.
module _ (n : ℕ) (w : List ℕ) (first : (i : ℕ) → i < n → get_or w i 0 ≡ no_seconds)
    (last : (i : ℕ) → hops_at n ≤ i → i < time_words n → get_or w i 0 ≡ no_seconds) where
  time_none : (v : ℕ) → v < n → time n w v ≡ no_walk
  unfolding time
  time_none v h = rw (first v h, half_ones w (2 * hops_at n + v) (last ((2 * hops_at n + v) / 2) (omega arith) (omega arith)))

  pub times_none : times_in n w ≡ replicate n no_walk
  times_none = times_by n w (replicate n no_walk) (length-replicate n no_walk) (λ v h. time_none v h ∙ sym (get_or-replicate n v no_walk 0 h))

-- ---- times compared: by the seconds, and where these are the same by the hops
decided : (a b c d : ℕ) → (a < b → c < d) → (b ≤ a → d ≤ c) → ltb a b ≡ ltb c d
decided a b c d f g = pick (dec_lt a b)
  where
    pick : Dec (a < b) → ltb a b ≡ ltb c d
    pick (yes l) = lt-ltb a b l ∙ sym (lt-ltb c d (f l))
    pick (no l) = le-ltb a b (omega arith) ∙ sym (le-ltb c d (g (omega arith)))

module _ (n : ℕ) (w : List ℕ) (known : (i : ℕ) → get_or w i 0 < 4294967296) where
  abbrev hops : ℕ → ℕ
  hops v = half w (2 * hops_at n + v)

  few_hops : (v : ℕ) → hops v < 65536
  few_hops v = half_small w (2 * hops_at n + v) (known ((2 * hops_at n + v) / 2))

  module _ (u v : ℕ) where
    pub less_seconds : get_or w u 0 ≢ get_or w v 0 → ltb (get_or w u 0) (get_or w v 0) ≡ ltb (time n w u) (time n w v)
    unfolding time
    less_seconds d =
        decided (get_or w u 0) (get_or w v 0) (time n w u) (time n w v) (λ l. omega (arith, few_hops u)) (λ l. omega (arith, d, few_hops v))

    pub less_hops : get_or w u 0 ≡ get_or w v 0 → ltb (hops u) (hops v) ≡ ltb (time n w u) (time n w v)
    unfolding time
    less_hops e = decided (hops u) (hops v) (time n w u) (time n w v) (λ l. omega arith) (λ l. omega arith)

  module _ (v x : ℕ) where
    pub lowers_seconds : seconds_of x ≢ get_or w v 0 → ltb (seconds_of x) (get_or w v 0) ≡ ltb x (time n w v)
    unfolding time
    lowers_seconds d = decided (seconds_of x) (get_or w v 0) x (time n w v) (λ l. omega arith) (λ l. omega (arith, d, few_hops v))

    pub lowers_small : (r : Bool) → r ≡ ltb x (time n w v) → r ≡ true → x < no_walk
    unfolding time
    lowers_small r e t = omega (arith, ltb-true x (time n w v) (sym e ∙ t), known v, few_hops v)

    pub lowers_hops : seconds_of x ≡ get_or w v 0 → ltb (hops_of x) (hops v) ≡ ltb x (time n w v)
    unfolding time
    lowers_hops e = decided (hops_of x) (hops v) x (time n w v) (λ l. omega arith) (λ l. omega arith)

-- ---- a time written
module _ (n v x : ℕ) (w : List ℕ) (v_in : v < n) where
  abbrev p : ℕ
  p = 2 * hops_at n + v

  abbrev first : List ℕ
  first = set w v (seconds_of x)

  abbrev w₁ : List ℕ
  w₁ = store n v x w

  pub store_length : length w₁ ≡ length w
  unfolding store
  store_length = put_length first p (hops_of x) ∙ length-set w v (seconds_of x)

  -- The words that are neither its seconds nor of its hops.
  store_apart : (i : ℕ) → i ≢ v → i ≢ p / 2 → get_or w₁ i 0 ≡ get_or w i 0
  unfolding store
  store_apart i d e = put_apart first p (hops_of x) i e ∙ get_or-set_other w v i (seconds_of x) 0 d

  pub store_between : (i : ℕ) → n ≤ i → i < hops_at n → get_or w₁ i 0 ≡ get_or w i 0
  store_between i l h = store_apart i (λ e. omega arith) (λ e. omega arith)

  pub store_kept : (a : ℕ) → time_words n ≤ a → KeptFrom a w w₁
  unfolding store put_half
  store_kept a h = drop-set-lt a first (p / 2) _ (omega arith) ∙ drop-set-lt a w v (seconds_of x) (omega arith)

  module _ (long : time_words n ≤ length w) where
    fits : p / 2 < length first
    fits = omega (arith, length-set w v (seconds_of x))

    pub store_same : time n w₁ v ≡ x
    unfolding time store fits
    store_same = rw (
      put_same first p (hops_of x) fits (omega arith),
      put_apart first p (hops_of x) v (λ e. omega arith),
      get_or-set_same w v (seconds_of x) 0 (omega arith),
    ) (omega arith)

    pub store_other : (u : ℕ) → u < n → u ≢ v → time n w₁ u ≡ time n w u
    unfolding time store fits
    store_other u u_in d = rw (
      put_other first p (hops_of x) fits (omega arith) (2 * hops_at n + u) (λ e. d (omega arith)),
      half_alike w first (2 * hops_at n + u) (get_or-set_other w v ((2 * hops_at n + u) / 2) (seconds_of x) 0 (λ e. omega arith)),
      put_apart first p (hops_of x) u (λ e. omega arith),
      get_or-set_other w v u (seconds_of x) 0 d,
    )

    pub store_times : times_in n w₁ ≡ set (times_in n w) v x
    store_times = times_by n w₁ (set (times_in n w) v x) (length-set (times_in n w) v x ∙ times_length n w) (λ u h. at u h (ℕ_discrete u v))
      where
        at : (u : ℕ) → u < n → Dec (u ≡ v) → time n w₁ u ≡ get_or (set (times_in n w) v x) u 0
        at u h (yes e) = rw (e, get_or-set_same (times_in n w) v x 0 (rw times_length v_in)) store_same
        at u h (no d) = rw (get_or-set_other (times_in n w) v u x 0 d, time_at n w u h) (store_other u h d)
