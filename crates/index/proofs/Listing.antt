-- The chains of the edges, one edge after another. Assumes nothing.
use Prim.Native.Nat.{ℕ, zero, suc, ◌+◌, ◌-◌, ◌*◌, ◌/◌, ◌%◌, ◌<◌, ◌≤◌}
use native.Mathlib.Nat.{div-one}
use native.Mathlib.Decide.{ℕ_discrete, dec_lt}
use native.Mathlib.Omega.{arith}
use mathlib.Core.Path.{◌≡◌, refl, sym, ap, ◌∙◌, subst}
use mathlib.Core.Bool.{true, false}
use mathlib.Core.List.{List, ◌++◌}
use mathlib.Core.Logic.{◌⊎◌, inl, inr, ⊎_elim}
use borrow.Author.Tests.{eq-eqb, ne_eqb}
use lib.ListN.{length, get_or, take, drop, replicate, length-replicate, get_or-append}
use lib.Seq.{length-take-le, get_or-append-add, get_or-drop}
use Rattle.model.specs.Bytes.{Bytes}
use Rattle.model.specs.Network.{edge, edge_count}
use Rattle.words.specs.Halves.{half}
use Rattle.index.specs.Index.{Reading, next, block, by_links, by_blocks, linked, reading, Lists, here, there, Incident, Chained, IndexOf}
use Rattle.index.specs.Grown.{Growing, Grown, AtEnd, ListedAt, ListedEdge}

pub no_list : (r : Reading) (n e q : ℕ) → e < n → Lists r n e q → ⊥
no_list r n e q l (here h p) = omega arith
no_list r n e q l (there h p) = omega arith

-- ---- one edge: at its two ends x and y, as the code has read them
module _ (edges : Bytes) (i n k q : ℕ) (r : Reading) where
  pub edge_listed : (k₁ k₂ x y : ℕ) (r₁ r₂ : Reading) → x ≡ (edge edges i).first → y ≡ (edge edges i).second → x < n → y < n
      → ListedAt n k r k₁ r₁ x q → ListedAt n k₁ r₁ k₂ r₂ y q → ListedEdge edges i n k r k₂ r₂ q
  edge_listed k₁ k₂ x y r₁ r₂ e f x_in y_in (g, a) (h, b) = (grown, λ z p. each z p.0)
    where
      last : (z s : ℕ) → z < n → Lists r₂ n (r₂.next z) s → Lists r n (r.next z) s ⊎ AtEnd edges i q z s
      last z s l c =
          ⊎_elim
          (λ d. ⊎_elim (λ o. inl o) (λ (p, t). inr (inl (sym (p ∙ e)), t)) (g.fresh z s l d))
          (λ (p, t). inr (inr (sym (p ∙ f)), t))
          (h.fresh z s l c)

      grown : Grown n k r k₂ 2 r₂ (AtEnd edges i q)
      grown = record {
        growing = h.growing;
        more = omega (arith, g.more, h.more);
        few = omega (arith, g.few, h.few);
        sized = λ z l. h.sized z l ∙ g.sized z l;
        kept = λ z s l c. h.kept z s l (g.kept z s l c);
        fresh = last;
      }

      each : (z : ℕ) → ((edge edges i).first ≡ z) ⊎ ((edge edges i).second ≡ z) → Lists r₂ n (r₂.next z) q
      each z (inl p) = subst (λ (w : ℕ). Lists r₂ n (r₂.next w) q) (e ∙ p) (h.kept x q x_in a)
      each z (inr p) = subst (λ (w : ℕ). Lists r₂ n (r₂.next w) q) (f ∙ p) b

-- ---- all edges
module _ (edges : Bytes) (n s : ℕ) where
  pub chained_growing : (i k : ℕ) (r : Reading) → Chained edges i n s k r → Growing n k r
  chained_growing i k r c = record { heads = c.heads; links = c.links }

  pub chained_more : (i k k' q : ℕ) (r r' : Reading) → i < edge_count edges → q ≡ i / s → Chained edges i n s k r → ListedEdge edges i n k r k' r' q
      → Chained edges (i + 1) n s k' r'
  chained_more i k k' q r r' real e c (g, a) = record {
    sized = λ u l. g.sized u l ∙ c.sized u l;
    heads = g.growing.heads;
    links = g.growing.links;
    covers = λ u j l h p o. cover u j l h p o (ℕ_discrete j i);
    single = λ f u t l m. only f u t l (g.fresh u t l m);
  }
    where
      cover : (u j : ℕ) → u < n → j < i + 1 → 0 < s → Incident edges u j → Dec (j ≡ i) → Lists r' n (r'.next u) (j / s)
      cover u j l h p o (yes f) =
          let b : q ≡ j / s = e ∙ ap (λ (z : ℕ). z / s) (sym f) in
          subst (λ (z : ℕ). Lists r' n (r'.next u) z) b (a u ((subst (λ (z : ℕ). Incident edges u z) f o).end, refl))
      cover u j l h p o (no d) = g.kept u (j / s) l (c.covers u j l (omega arith) p o)

      only : s ≡ 1 → (u t : ℕ) → u < n → Lists r n (r.next u) t ⊎ AtEnd edges i q u t → Incident edges u t
      only f u t l (inl m) = c.single f u t l m
      only f u t l (inr (o, v)) =
          let b : i ≡ t = sym (v ∙ e ∙ ap (λ (z : ℕ). i / z) f ∙ div-one i) in
          subst (λ (z : ℕ). Incident edges u z) b (record { below = real; end = o })

  pub chained_last : (i k : ℕ) (r : Reading) → edge_count edges ≤ i → k ≤ r.reach → Chained edges i n s k r
      → Chained edges (edge_count edges) n s r.reach r
  chained_last i k r h l c = record {
    sized = c.sized;
    heads = λ u v g. omega (arith, c.heads u v g);
    links = c.links;
    covers = λ u j v g p o. c.covers u j v (omega arith) p o;
    single = c.single;
  }

-- ---- no edge yet: every link is 0
pub unlisted : (edges : Bytes) (i n s k : ℕ) (r : Reading) → (0 < s → i ≡ 0) → ((u : ℕ) → u < n → r.size u ≡ s) → ((p : ℕ) → r.next p ≡ 0)
    → Chained edges i n s k r
unlisted edges i n s k r g sized ends = record {
  sized = sized;
  heads = λ u l h. absurd (omega (arith, ends u));
  links = λ p o l. omega (arith, ends p);
  covers = λ u j l h p o. absurd (omega (arith, g p));
  single = λ e u q l m. absurd (no_list r n (r.next u) q (omega (arith, ends u)) m);
}

-- ---- cleared words
zeros : (k x : ℕ) → ◌≡◌ {A = ℕ} (get_or (replicate k 0) x 0) 0
zeros zero x = refl
zeros (suc k) zero = refl
zeros (suc k) (suc x) = zeros k x

filled : (k x y : ℕ) → x < k → ◌≡◌ {A = ℕ} (get_or (replicate k y) x 0) y
filled zero x y h = absurd (omega arith)
filled (suc k) zero y h = refl
filled (suc k) (suc x) y h = filled k x y (omega arith)

abbrev pub Cleared : ℕ → ℕ → List ℕ → Type 0
Cleared n s ix = ((x : ℕ) → x < n → get_or ix x 0 ≡ s * 65536) × ((x : ℕ) → n ≤ x → get_or ix x 0 ≡ 0)

pub clear_words : (n y k : ℕ) (l ys : List ℕ) → l ≡ replicate k 0 → ys ≡ replicate (length (take n l)) y → n ≤ length l
    → ((x : ℕ) → x < n → get_or (ys ++ drop n l) x 0 ≡ y) × ((x : ℕ) → n ≤ x → get_or (ys ++ drop n l) x 0 ≡ 0)
clear_words n y k l ys e f h = (front, behind)
  where
    size : length ys ≡ n
    size = ap length f ∙ length-replicate (length (take n l)) y ∙ length-take-le n l h

    front : (x : ℕ) → x < n → get_or (ys ++ drop n l) x 0 ≡ y
    front x p = get_or-append ys (drop n l) 0 x (omega (arith, size)) ∙ ap (λ (z : List ℕ). get_or z x 0) f
        ∙ filled (length (take n l)) x y (omega (arith, length-take-le n l h))

    behind : (x : ℕ) → n ≤ x → get_or (ys ++ drop n l) x 0 ≡ 0
    behind x p =
        let a : x ≡ length ys + (x - n) = omega (arith, size) in
        ap (λ (z : ℕ). get_or (ys ++ drop n l) z 0) a ∙ get_or-append-add ys (drop n l) (x - n) 0 ∙ get_or-drop n l (x - n) 0
        ∙ ap (λ (z : List ℕ). get_or z (n + (x - n)) 0) e ∙ zeros k (n + (x - n))

module _ (n s : ℕ) (ix : List ℕ) (c : Cleared n s ix) where
  clear_next : (x : ℕ) → next ix x ≡ 0
  unfolding next
  clear_next x = pick (dec_lt x n)
    where
      pick : Dec (x < n) → get_or ix x 0 % 65536 ≡ 0
      pick (yes h) = rw (c.0 x h) (omega arith)
      pick (no h) = rw (c.1 x (omega arith)) (omega arith)

  clear_block : (x : ℕ) → x < n → block ix x ≡ s
  unfolding block
  clear_block x h = rw (c.0 x h) (omega arith)

  pub cleared : (edges : Bytes) (i k : ℕ) → (0 < s → i ≡ 0) → Chained edges i n s k (by_blocks ix)
  cleared edges i k g = unlisted edges i n s k (by_blocks ix) g clear_block clear_next

-- Words of zeros hold no link.
zero_half : (k p : ℕ) → half (replicate k 0) p ≡ 0
unfolding half
zero_half k p = pick (ℕ_discrete (p % 2) 0)
  where
    pick : Dec (p % 2 ≡ 0) → half (replicate k 0) p ≡ 0
    pick (yes e) = rw (eq-eqb (p % 2) 0 e, zeros k (p / 2)) (omega arith)
    pick (no d) = rw (ne_eqb (p % 2) 0 d, zeros k (p / 2)) (omega arith)

pub unlinked : (edges : Bytes) (n k m : ℕ) (ix : List ℕ) → ix ≡ replicate m 0 → Chained edges 0 n 1 k (by_links n ix)
unlinked edges n k m ix e = unlisted edges 0 n 1 k (by_links n ix) (λ h. refl) (λ u l. refl) (λ p. ap (λ (z : List ℕ). half z p) e ∙ zero_half m p)

-- ---- the index
module _ (edges : Bytes) (n : ℕ) (ix : List ℕ) where
  pub linked_index : linked n (edge_count edges) ≡ true → Chained edges (edge_count edges) n 1 (2 * length ix) (by_links n ix) → IndexOf edges n ix
  linked_index e c = record { size = 1; small = omega arith; one = λ h. e; chained = unfold reading in rw e c }

  pub blocked_index : linked n (edge_count edges) ≡ false → (s : ℕ) → (s ≡ 1 → ⊥) → s ≤ 16384 → Chained edges (edge_count edges) n s (length ix) (by_blocks ix)
      → IndexOf edges n ix
  blocked_index e s d h c = record { size = s; small = h; one = λ f. absurd (d f); chained = unfold reading in rw e c }

  pub no_nodes : n < 1 → IndexOf edges n ix
  no_nodes h = record {
    size = 0;
    small = omega arith;
    one = λ e. absurd (omega arith);
    chained = record {
      sized = λ u l. absurd (omega arith);
      heads = λ u l. absurd (omega arith);
      links = λ p o. absurd (omega arith);
      covers = λ u j l. absurd (omega arith);
      single = λ e u q l. absurd (omega arith);
    };
  }

  -- Without chains.
  pub cleared_index : linked n (edge_count edges) ≡ false → Cleared n 0 ix → IndexOf edges n ix
  cleared_index e c = blocked_index e 0 (λ h. omega arith) (omega arith) (cleared n 0 ix c edges (edge_count edges) (length ix) (λ h. absurd (omega arith)))
