-- An access body that keeps rule 10 is the built one just when each of its lists is: the starts follow from the sizes. Assumes nothing.
use Prim.Native.Nat.{ℕ, zero, suc, ◌+◌, ◌*◌, ◌≤◌, ◌<◌}
use native.Mathlib.Decide.{ℕ_discrete}
use native.Mathlib.Omega.{arith}
use mathlib.Core.Path.{◌≡◌, refl, sym, ◌∙◌, ap}
use mathlib.Core.Bool.{true, false}
use mathlib.Core.List.{◌++◌, map}
use lib.ListN.{length, take, drop, length-drop, take-append-drop, drop_of_length-le}
use lib.Seq.{drop-drop, take-add, take_at, drop_at, length-take-le}
use lib.Dec.{eqb}
use borrow.Author.Tests.{eqb-true}
use Rattle.model.specs.Lists.{gapless, all, equal, range, up_to, concat}
use Rattle.model.specs.Bytes.{Bytes, word16, bytes32, cut}
use Rattle.model.specs.Oracle.{start_size, list_size, starts, list_start, list_count, list_part, access_broken}
use Rattle.theory.specs.Tests.{both, same_test}
use Rattle.theory.specs.Passed.{or-false, not-false}
use Rattle.theory.specs.ReadLaws.{word16_drop}
use Rattle.theory.specs.Joined.{gapless_after}
use Rattle.theory.specs.Whole.{AreBytes, four}
use Rattle.theory.specs.Audits.{equal_self, equal→}
use Rattle.passes.specs.Stands.{lists, front, whole, length_front}
use Rattle.auditor.proofs.Tested.{below→, →below}

-- f gives the list of each node; a list's first number tells its size.
abbrev pub Sized : ℕ → (ℕ → Bytes) → Type 0
Sized n f = (v : ℕ) → v < n → (l : Bytes) → list_size (word16 (f v ++ l) 0) ≡ length (f v)

module _ (b : Bytes) (f : ℕ → Bytes) where
  abbrev Alike : ℕ → Type 0
  Alike v = cut (list_part b v) b ≡ f v

  -- The lists from k on stand from `at` to the end.
  abbrev Stand : ℕ → ℕ → ℕ → Type 0
  Stand k m at = gapless at (map (list_part b) (range k m)) (length b) ≡ true

  module _ (k m at : ℕ) (g : Stand k (suc m) at) where
    step : (eqb (list_start b k) at ≡ true) × (gapless (at + list_size (list_count b k)) (map (list_part b) (range (suc k) m)) (length b) ≡ true)
    unfolding gapless range list_part
    step = both {b = eqb (list_start b k) at} g

    start : list_start b k ≡ at
    start = eqb-true (list_start b k) at step.0

    abbrev size : ℕ
    size = list_size (list_count b k)

    fits : at + size ≤ length b
    fits = gapless_after (at + size) (length b) (map (list_part b) (range (suc k) m)) step.1

    its_cut : cut (list_part b k) b ≡ take size (drop at b)
    unfolding cut list_part
    its_cut = ap (λ (j : ℕ). take size (drop j b)) start

    its_size : Alike k → length (f k) ≡ size
    its_size e = ap length (sym e ∙ its_cut) ∙ length-take-le size (drop at b) (simp length-drop (omega (arith, fits)))

    next : Alike k → Stand (suc k) m (at + length (f k))
    next e = rw (its_size e) step.1

  lists_follow : (m k at : ℕ) → Stand k m at → ((v : ℕ) → k ≤ v → v < k + m → Alike v) → concat (map f (range k m)) ≡ drop at b
  unfolding concat range
  lists_follow zero k at g same = let e : length b ≤ at = unfold gapless range in omega (arith, eqb-true at (length b) g) in sym (drop_of_length-le b e)
  lists_follow (suc m) k at g same =
      let a : Alike k = same k (omega arith) (omega arith) in
      let here : f k ≡ take (size k m at g) (drop at b) = sym a ∙ its_cut k m at g in
      let later : concat (map f (range (suc k) m)) ≡ drop (at + length (f k)) b = lists_follow m (suc k) (at + length (f k)) (next k m at g a)
      (λ v l h. same v (omega arith) (omega arith)) in
      rw later (ap (λ (x : ℕ). f k ++ drop (at + x) b) (its_size k m at g a)
      ∙ (ap (λ (l : Bytes). l ++ drop (at + size k m at g) b) here
      ∙ (ap (λ (l : Bytes). take (size k m at g) (drop at b) ++ l) (sym (drop-drop (size k m at g) at b)) ∙ take-append-drop (size k m at g) (drop at b))))

  module _ (small : AreBytes b) where
    starts_follow : (m k at : ℕ) → start_size * (k + m) ≤ length b → Stand k m at → ((v : ℕ) → k ≤ v → v < k + m → Alike v)
        → take (start_size * m) (drop (start_size * k) b) ≡ starts at (map f (range k m))
    unfolding starts range list_start
    starts_follow zero k at h g same = refl
    starts_follow (suc m) k at h g same =
        let a : Alike k = same k (omega arith) (omega arith) in
        let z : start_size * suc m ≡ start_size + start_size * m = omega arith in
        let y : start_size * k + start_size ≡ start_size * suc k = omega arith in
        let first : take start_size (drop (start_size * k) b) ≡ bytes32 at = four b small (start_size * k) (omega arith) ∙ ap bytes32 (start k m at g) in
        let later = starts_follow m (suc k) (at + length (f k)) (omega arith) (next k m at g a) (λ v l q. same v (omega arith) (omega arith)) in
        let off : drop start_size (drop (start_size * k) b) ≡ drop (start_size * suc k) b = drop-drop start_size (start_size * k) b ∙ ap (λ (j : ℕ). drop j b) y in
        rw z (take-add start_size (start_size * m) (drop (start_size * k) b) ∙ rw (off, later, first))

  -- And back: where the lists stand from `at` on, each is found.
  module _ (k m at : ℕ) (g : Stand k (suc m) at) (sized : (l : Bytes) → list_size (word16 (f k ++ l) 0) ≡ length (f k)) (more : Bytes)
      (split : drop at b ≡ f k ++ more) where
    size_is : size k m at g ≡ length (f k)
    unfolding list_count
    size_is =
        let z : at + 0 ≡ at = omega arith in
        let w : word16 b (list_start b k) ≡ word16 (f k ++ more) 0 = ap (word16 b) (start k m at g ∙ sym z)
        ∙ (word16_drop b at 0 ∙ ap (λ (l : Bytes). word16 l 0) split) in
        rw w (sized more)

    here : Alike k
    here = its_cut k m at g ∙ rw (size_is, split) (take_at (f k) more (length (f k)) refl)

    later : drop (at + length (f k)) b ≡ more
    later = sym (drop-drop (length (f k)) at b) ∙ rw split (drop_at (f k) more (length (f k)) refl)

  follow_lists : (m k at : ℕ) → Stand k m at → ((v : ℕ) → k ≤ v → v < k + m → (l : Bytes) → list_size (word16 (f v ++ l) 0) ≡ length (f v))
      → drop at b ≡ concat (map f (range k m)) → (v : ℕ) → k ≤ v → v < k + m → Alike v
  unfolding concat range
  follow_lists zero k at g sized e v l h = absurd (omega arith)
  follow_lists (suc m) k at g sized e v l h =
      let first = sized k (omega arith) (omega arith) in
      let more = concat (map f (range (suc k) m)) in
      pick (ℕ_discrete v k) (here k m at g first more e)
      (λ d. follow_lists m (suc k) (at + length (f k)) (next k m at g (here k m at g first more e)) (λ u i j. sized u (omega arith) (omega arith))
      (later k m at g first more e) v (omega arith) (omega arith))
    where
      pick : Dec (v ≡ k) → Alike k → ((v ≡ k → ⊥) → Alike v) → Alike v
      pick (yes q) a r = rw q a
      pick (no d) a r = r d

-- The whole body.
module _ (n T : ℕ) (b : Bytes) (f : ℕ → Bytes) (kept : access_broken n T b ≡ false) where
  stand : Stand b f 0 n (start_size * n)
  unfolding access_broken
  stand = not-false (or-false _ _ kept).0

  long : start_size * n ≤ length b
  long = gapless_after (start_size * n) (length b) (map (list_part b) (up_to n)) stand

  lists_whole : AreBytes b → ((v : ℕ) → v < n → cut (list_part b v) b ≡ f v) → b ≡ whole n f
  lists_whole small same =
      let p = starts_follow b f small n 0 (start_size * n) (omega (arith, long)) stand (λ v l h. same v (omega arith)) in
      let q = lists_follow b f n 0 (start_size * n) stand (λ v l h. same v (omega arith)) in
      sym (take-append-drop (start_size * n) b) ∙ rw (p, q)

  whole_lists : Sized n f → b ≡ whole n f → (v : ℕ) → v < n → cut (list_part b v) b ≡ f v
  whole_lists sized e v h =
      let q : drop (start_size * n) b ≡ concat (lists n f) = ap (drop (start_size * n)) e
      ∙ drop_at (front n f) (concat (lists n f)) (start_size * n) (length_front n f) in
      follow_lists b f n 0 (start_size * n) stand (λ u i j. sized u (omega arith)) q v (omega arith) (omega arith)

  pub same_whole : AreBytes b → Sized n f → all (λ v. equal (cut (list_part b v) b) (f v)) (up_to n) ≡ equal b (whole n f)
  same_whole small sized = same_test
      (λ h. rw (← lists_whole small (λ v l. equal→ _ _ (below→ _ n h v l))) (equal_self b))
      (λ h. →below _ n (λ v l. rw (whole_lists sized (equal→ b (whole n f) h) v l) (equal_self (f v))))
