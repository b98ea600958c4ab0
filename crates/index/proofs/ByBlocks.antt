-- By blocks: what the code writes for an entry. Assumes nothing.
use Prim.Native.Nat.{ℕ, ◌+◌, ◌*◌, ◌/◌, ◌%◌, ◌<◌, ◌≤◌}
use native.Mathlib.Decide.{ℕ_discrete}
use native.Mathlib.Omega.{arith}
use mathlib.Core.Path.{◌≡◌, ap, ◌∙◌, subst}
use mathlib.Core.List.{List}
use lib.ListN.{length, get_or, set, length-set}
use lib.Seq.{get_or-set_same, get_or-set_other}
use Rattle.index.specs.Index.{next, block, by_blocks, Lists, here}
use Rattle.index.specs.Grown.{Growing, InFront, OnlyAt, ListedAt}
use Rattle.index.proofs.Grow.{grow_none, listed_new}

module _ (ix : List ℕ) (n k x q : ℕ) (x_in : x < n) (low : n ≤ k) (room : k < length ix) (small : k < 65536) where
  abbrev put : List ℕ
  put = set (set ix k (q * 65536 + next ix x)) x (block ix x * 65536 + k)

  at_x : get_or put x 0 ≡ block ix x * 65536 + k
  at_x = get_or-set_same (set ix k (q * 65536 + next ix x)) x (block ix x * 65536 + k) 0 (simp length-set (omega arith))

  at_k : get_or put k 0 ≡ q * 65536 + next ix x
  at_k =
      get_or-set_other (set ix k (q * 65536 + next ix x)) x k (block ix x * 65536 + k) 0 (λ e. omega arith)
      ∙ get_or-set_same ix k (q * 65536 + next ix x) 0 room

  at_other : (p : ℕ) → (p ≡ x → ⊥) → (p ≡ k → ⊥) → get_or put p 0 ≡ get_or ix p 0
  at_other p h g =
      get_or-set_other (set ix k (q * 65536 + next ix x)) x p (block ix x * 65536 + k) 0 h
      ∙ get_or-set_other ix k p (q * 65536 + next ix x) 0 g

  next_low : next ix x < 65536
  next_low = unfold next in omega arith

  block_other : (p : ℕ) → (p ≡ x → ⊥) → (p ≡ k → ⊥) → block put p ≡ block ix p
  unfolding block
  block_other p h g = ap (λ (w : ℕ). w / 65536) (at_other p h g)

  sizes : (y : ℕ) → y < n → block put y ≡ block ix y
  sizes y h = pick (ℕ_discrete y x)
    where
      pick : Dec (y ≡ x) → block put y ≡ block ix y
      pick (yes e) = rw e (unfold block in rw at_x (omega arith))
      pick (no d) = block_other y d (λ f. omega arith)

  in_front : InFront n k x q (by_blocks ix) (by_blocks put)
  in_front = record {
    head = unfold next in rw at_x (omega arith);
    link = unfold next in rw at_k (omega arith);
    links = λ p h g. unfold next in ap (λ (w : ℕ). w % 65536) (at_other p h g);
    block = unfold block in ap (λ (w : ℕ). w / 65536) at_k ∙ omega (arith, next_low);
    blocks = λ p l g. block_other p (λ e. omega arith) g;
    sized = sizes;
  }

-- What the code has read and written: h is where the chain of x begins, s the size.
module _ (ix : List ℕ) (n k x q h : ℕ) (e : h ≡ next ix x) where
  -- The block is the last that was listed there.
  pub was_listed : Growing n k (by_blocks ix) → (n ≤ h) × (block ix h ≡ q) → ListedAt n k (by_blocks ix) k (by_blocks ix) x q
  was_listed g p = (grow_none n k 1 (by_blocks ix) (OnlyAt x q) g, subst (λ (z : ℕ). Lists (by_blocks ix) n z q) e (here p.0 p.1))

  pub now_listed : (s : ℕ) (ix₁ ix₂ : List ℕ) → s ≡ block ix x → ix₁ ≡ set ix k (q * 65536 + h) → ix₂ ≡ set ix₁ x (s * 65536 + k)
      → x < n → n ≤ k → k < length ix → k < 65536 → Growing n k (by_blocks ix) → ListedAt n k (by_blocks ix) (k + 1) (by_blocks ix₂) x q
  now_listed s ix₁ ix₂ f p r x_in low room small g =
      let t : ix₂ ≡ put ix n k x q x_in low room small = r ∙ rw (p, e, f) in
      rw t (listed_new n k x q (by_blocks ix) (by_blocks (put ix n k x q x_in low room small)) x_in low g (in_front ix n k x q x_in low room small))
