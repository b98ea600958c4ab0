-- By links: what the code writes for an entry. Assumes nothing.
use Prim.Native.Nat.{ℕ, ◌+◌, ◌-◌, ◌*◌, ◌/◌, ◌<◌, ◌≤◌}
use native.Mathlib.Nat.{div-one}
use native.Mathlib.Omega.{arith}
use mathlib.Core.Path.{◌≡◌, refl, sym, ◌∙◌}
use mathlib.Core.List.{List}
use lib.ListN.{length}
use Rattle.model.specs.Bytes.{Bytes}
use Rattle.model.specs.Network.{edge, edge_count}
use Rattle.words.specs.Halves.{half, put_half}
use Rattle.words.proofs.HalfLaws.{put_length, put_same, put_other}
use Rattle.index.specs.Index.{Reading, by_links, Chained}
use Rattle.index.specs.Grown.{Growing, InFront, ListedAt, ListedEdge}
use Rattle.index.proofs.Grow.{listed_new}
use Rattle.index.proofs.Listing.{edge_listed, chained_more}

module _ (ix : List ℕ) (n k x : ℕ) (x_in : x < n) (low : n ≤ k) (room : k / 2 < length ix) (small : k < 65536) (head : half ix x < 65536) where
  abbrev one : List ℕ
  one = put_half ix k (half ix x)

  abbrev put : List ℕ
  put = put_half one x k

  one_room : x / 2 < length one
  one_room = rw (put_length ix k (half ix x)) (omega arith)

  in_front : InFront n k x ((k - n) / 2) (by_links n ix) (by_links n put)
  in_front = record {
    head = put_same one x k one_room small;
    link = put_other one x k one_room small k (λ e. omega arith) ∙ put_same ix k (half ix x) room head;
    links = λ p h g. put_other one x k one_room small p h ∙ put_other ix k (half ix x) room head p g;
    block = refl;
    blocks = λ p l g. refl;
    sized = λ y h. refl;
  }

-- What the code has read and written: h is where the chain of x begins.
pub linked_at : (ix ix₁ ix₂ : List ℕ) (n k x q h : ℕ) → (h ≡ half ix x) × (h < 65536) → ix₁ ≡ put_half ix k h → ix₂ ≡ put_half ix₁ x k
    → x < n → n ≤ k → k / 2 < length ix → k < 65536 → (k - n) / 2 ≡ q → Growing n k (by_links n ix) → ListedAt n k (by_links n ix) (k + 1) (by_links n ix₂) x q
linked_at ix ix₁ ix₂ n k x q h e a b x_in low room small is g =
    let l : half ix x < 65536 = omega (arith, e.0, e.1) in
    let t : ix₂ ≡ put ix n k x x_in low room small l = b ∙ rw (a, e.0) in
    rw (t, ← is) (listed_new n k x ((k - n) / 2) (by_links n ix) (by_links n (put ix n k x x_in low room small l)) x_in low g
    (in_front ix n k x x_in low room small l))

-- ---- an edge more
module _ (edges : Bytes) (i n : ℕ) (r : Reading) where
  -- At its two ends x and y, as the code has read them.
  pub edge_linked : (x y : ℕ) (r₁ r₂ : Reading) → x ≡ (edge edges i).first → y ≡ (edge edges i).second → x < n → y < n
      → ListedAt n (n + 2 * i) r (n + 2 * i + 1) r₁ x ((n + 2 * i - n) / 2) → ListedAt n (n + 2 * i + 1) r₁ (n + 2 * i + 1 + 1) r₂ y ((n + 2 * i + 1 - n) / 2)
      → ListedEdge edges i n (n + 2 * i) r (n + 2 * i + 2) r₂ i
  edge_linked x y r₁ r₂ e f x_in y_in a b =
      let p : (n + 2 * i - n) / 2 ≡ i = omega arith in
      let q : (n + 2 * i + 1 - n) / 2 ≡ i = omega arith in
      let k : n + 2 * i + 1 + 1 ≡ n + 2 * i + 2 = omega arith in
      edge_listed edges i n (n + 2 * i) i r (n + 2 * i + 1) (n + 2 * i + 2) x y r₁ r₂ e f x_in y_in (rw p at a) (rw (q, k) at b)

  pub linked_more : (r' : Reading) → i < edge_count edges → Chained edges i n 1 (n + 2 * i) r → ListedEdge edges i n (n + 2 * i) r (n + 2 * i + 2) r' i
      → Chained edges (i + 1) n 1 (n + 2 * (i + 1)) r'
  linked_more r' l c g =
      let k : n + 2 * i + 2 ≡ n + 2 * (i + 1) = omega arith in
      rw k at (chained_more edges n 1 i (n + 2 * i) (n + 2 * i + 2) i r r' l (sym (div-one i)) c g)
