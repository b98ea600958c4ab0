-- An entry that is put in front of a node's chain. Assumes nothing.
use Prim.Native.Nat.{ℕ, ◌+◌, ◌<◌, ◌≤◌}
use native.Mathlib.Decide.{ℕ_discrete, dec_le}
use native.Mathlib.Omega.{arith}
use mathlib.Core.Path.{◌≡◌, refl, sym, ap, ◌∙◌, subst}
use mathlib.Core.Logic.{◌⊎◌, inl, inr, ⊎_elim}
use Rattle.index.specs.Index.{Reading, Lists, here, there}
use Rattle.index.specs.Grown.{Growing, InFront, Grown, OnlyAt, ListedAt}

pub grow_none : (n k most : ℕ) (r : Reading) (New : ℕ → ℕ → Type 0) → Growing n k r → Grown n k r k most r New
grow_none n k most r New g = record { growing = g; more = omega arith; few = omega arith; sized = λ y l. refl; kept = λ y q l c. c; fresh = λ y q l c. inl c }

module _ (n k x q : ℕ) (r r' : Reading) (x_in : x < n) (low : n ≤ k) (growing : Growing n k r) (put : InFront n k x q r r') where
  link_below : (y : ℕ) → y < n → r.next y < k
  link_below y l = pick (dec_le n (r.next y))
    where
      pick : Dec (n ≤ r.next y) → r.next y < k
      pick (yes h) = growing.heads y l h
      pick (no h) = omega arith

  link_other : (p : ℕ) → n ≤ p → p < k → r'.next p ≡ r.next p
  link_other p l h = put.links p (λ f. omega arith) (λ f. omega arith)

  block_other : (p : ℕ) → n ≤ p → p < k → r'.block p ≡ r.block p
  block_other p l h = put.blocks p l (λ f. omega arith)

  -- The chains that there were.
  frame : {e s : ℕ} → Lists r n e s → e < k → Lists r' n e s
  frame {e} {s} (here l h) g = here l (block_other e l g ∙ h)
  frame {e} {s} (there l h) g =
      let i : r'.next e ≡ r.next e = link_other e l g in
      there l (subst (λ (z : ℕ). Lists r' n z s) (sym i) (frame h (omega (arith, growing.links e (omega arith) l))))

  -- And no others below k.
  back : {e s : ℕ} → Lists r' n e s → e < k → Lists r n e s
  back {e} {s} (here l h) g = here l (sym (block_other e l g) ∙ h)
  back {e} {s} (there l h) g =
      let i : r'.next e ≡ r.next e = link_other e l g in
      there l (subst (λ (z : ℕ). Lists r n z s) i (back h (omega (arith, growing.links e (omega arith) l))))

  heads' : (y : ℕ) → y < n → n ≤ r'.next y → r'.next y < k + 1
  heads' y h g = pick (ℕ_discrete y x)
    where
      pick : Dec (y ≡ x) → r'.next y < k + 1
      pick (yes e) = rw e (rw put.head (omega arith))
      pick (no d) = omega (arith, link_below y h, put.links y d (λ f. omega arith))

  links' : (p : ℕ) → 0 < n → n ≤ p → r'.next p < p
  links' p o l = pick (ℕ_discrete p k)
    where
      pick : Dec (p ≡ k) → r'.next p < p
      pick (yes e) = rw e (rw put.link (link_below x x_in))
      pick (no d) = omega (arith, growing.links p o l, put.links p (λ f. omega arith) d)

  kept' : (y s : ℕ) → y < n → Lists r n (r.next y) s → Lists r' n (r'.next y) s
  kept' y s h c = pick (ℕ_discrete y x)
    where
      pick : Dec (y ≡ x) → Lists r' n (r'.next y) s
      pick (yes e) =
          let c' : Lists r n (r.next x) s = subst (λ (z : ℕ). Lists r n (r.next z) s) e c in
          let f : Lists r' n (r'.next k) s = subst (λ (z : ℕ). Lists r' n z s) (sym put.link) (frame c' (link_below x x_in)) in
          subst (λ (z : ℕ). Lists r' n z s) (sym (ap r'.next e ∙ put.head)) (there low f)
      pick (no d) =
          subst (λ (z : ℕ). Lists r' n z s) (sym (put.links y d (λ f. omega arith))) (frame c (link_below y h))

  fresh_k : {s : ℕ} → Lists r' n k s → Lists r n (r.next x) s ⊎ (s ≡ q)
  fresh_k {s} (here l h) = inr (sym h ∙ put.block)
  fresh_k {s} (there l h) = inl (back (subst (λ (z : ℕ). Lists r' n z s) put.link h) (link_below x x_in))

  fresh' : (y s : ℕ) → y < n → Lists r' n (r'.next y) s → Lists r n (r.next y) s ⊎ OnlyAt x q y s
  fresh' y s h c = pick (ℕ_discrete y x)
    where
      pick : Dec (y ≡ x) → Lists r n (r.next y) s ⊎ OnlyAt x q y s
      pick (yes e) =
          ⊎_elim (λ a. inl (subst (λ (z : ℕ). Lists r n (r.next z) s) (sym e) a)) (λ b. inr (e, b))
          (fresh_k (subst (λ (z : ℕ). Lists r' n z s) (ap r'.next e ∙ put.head) c))
      pick (no d) = inl (back (subst (λ (z : ℕ). Lists r' n z s) (put.links y d (λ f. omega arith)) c) (link_below y h))

  pub listed_new : ListedAt n k r (k + 1) r' x q
  listed_new = (
    record {
      growing = record { heads = heads'; links = links' };
      more = omega arith;
      few = omega arith;
      sized = put.sized;
      kept = kept';
      fresh = fresh';
    },
    subst (λ (z : ℕ). Lists r' n z q) (sym put.head) (here low put.block),
  )
