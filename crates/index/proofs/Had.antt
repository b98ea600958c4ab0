-- Of an index that there is, no more may be known than that there is one. Which blocks its chains list is found by walking them, so it can be had. Assumes
-- nothing.
use Prim.Native.Nat.{ℕ, zero, suc, ◌/◌, ◌<◌, ◌≤◌}
use native.Mathlib.Decide.{ℕ_discrete, dec_lt, dec_le}
use native.Mathlib.Omega.{arith}
use mathlib.Core.Logic.{◌⊎◌, inl, inr, ∥∥₁_elim, ∥∥₁_map}
use mathlib.Core.Path.{◌≡◌, refl, sym, ◌∙◌, subst}
use mathlib.Core.Bool.{Bool, true, false, false≢true}
use mathlib.Core.List.{List}
use Rattle.model.specs.Bytes.{Bytes}
use Rattle.model.specs.Network.{edge, edge_count}
use Rattle.index.specs.Index.{Reading, reading, Lists, here, there, Incident, Chained, IndexOf, IndexedEdges}
use Rattle.words.specs.Regions.{index_in}
use Rattle.index.proofs.Listing.{no_nodes}

-- What is decided, and true as far as is known, can be had.
pub had : {P : Type 0} → Dec P → ∥ P ∥₁ → P
had (yes p) h = p
had (no d) h = absurd (∥∥₁_elim h (λ (u v : ⊥). absurd u) d)

bool_dec : (b c : Bool) → Dec (b ≡ c)
bool_dec true true = yes refl
bool_dec false false = yes refl
bool_dec true false = no (λ e. false≢true (sym e))
bool_dec false true = no false≢true

pub had_same : {b c : Bool} → ∥ b ≡ c ∥₁ → b ≡ c
had_same {b} {c} h = had (bool_dec b c) h

either : {P Q : Type 0} → Dec P → Dec Q → Dec (P ⊎ Q)
either (yes p) d = yes (inl p)
either (no x) (yes q) = yes (inr q)
either {P} {Q} (no x) (no y) = no neither
  where
    neither : P ⊎ Q → ⊥
    neither (inl p) = x p
    neither (inr q) = y q

module _ (r : Reading) (n : ℕ) where
  starts : (e q : ℕ) → Lists r n e q → n ≤ e
  starts e q (here l z) = l
  starts e q (there l m) = l

  either_way : (e q : ℕ) → Lists r n e q → (r.block e ≡ q) ⊎ Lists r n (r.next e) q
  either_way e q (here l z) = inl z
  either_way e q (there l m) = inr m

  step : (e q : ℕ) → n ≤ e → Dec (r.block e ≡ q) → Dec (Lists r n (r.next e) q) → Dec (Lists r n e q)
  step e q l (yes z) d = yes (here l z)
  step e q l (no z) (yes m) = yes (there l m)
  step e q l (no z) (no d) = no (λ x. neither (either_way e q x))
    where
      neither : (r.block e ≡ q) ⊎ Lists r n (r.next e) q → ⊥
      neither (inl y) = z y
      neither (inr m) = d m

  at : (e q : ℕ) → Dec (n ≤ e) → (n ≤ e → Dec (Lists r n (r.next e) q)) → Dec (Lists r n e q)
  at e q (no d) rest = no (λ l. d (starts e q l))
  at e q (yes l) rest = step e q l (ℕ_discrete (r.block e) q) (rest l)

  -- The chain goes down, so the walk ends.
  listed : ((p : ℕ) → n ≤ p → r.next p < p) → (fuel e q : ℕ) → e < fuel → Dec (Lists r n e q)
  listed down zero e q h = absurd (omega arith)
  listed down (suc k) e q h = at e q (dec_le n e) (λ l. listed down k (r.next e) q (omega (arith, down e l)))

module _ (edges : Bytes) (n : ℕ) where
  incident_had : (u j : ℕ) → ∥ Incident edges u j ∥₁ → Incident edges u j
  incident_had u j h = record {
    below = had (dec_lt j (edge_count edges)) (∥∥₁_map h (λ o. o.below));
    end = had (either (ℕ_discrete (edge edges j).first u) (ℕ_discrete (edge edges j).second u)) (∥∥₁_map h (λ o. o.end));
  }

  module _ (ix : List ℕ) (h : ∥ IndexOf edges n ix ∥₁) where
    abbrev r : Reading
    r = reading n (edge_count edges) ix

    abbrev m : ℕ
    m = edge_count edges

    module _ (some : 0 < n) where
      size_is : (x : IndexOf edges n ix) → r.size 0 ≡ x.size
      size_is x = x.chained.sized 0 some

      down : (p : ℕ) → n ≤ p → r.next p < p
      down p l = had (dec_lt (r.next p) p) (∥∥₁_map h (λ x. x.chained.links p some l))

      chained_had : Chained edges m n (r.size 0) r.reach r
      chained_had = record {
        sized = λ u l. had (ℕ_discrete (r.size u) (r.size 0)) (∥∥₁_map h (λ x. x.chained.sized u l ∙ sym (size_is x)));
        heads = λ u l g. had (dec_lt (r.next u) r.reach) (∥∥₁_map h (λ x. x.chained.heads u l g));
        links = λ p o l. down p l;
        covers = λ u j l g p o. had (listed r n down (suc (r.next u)) (r.next u) (j / r.size 0) (omega arith))
            (∥∥₁_map h (λ x. subst (λ (s : ℕ). Lists r n (r.next u) (j / s)) (sym (size_is x)) (x.chained.covers u j l g (omega (arith, size_is x)) o)));
        single = λ e u q l a. incident_had u q (∥∥₁_map h (λ x. x.chained.single (sym (size_is x) ∙ e) u q l a));
      }

      index_some : IndexOf edges n ix
      index_some = record {
        size = r.size 0;
        small = had (dec_le (r.size 0) 16384) (∥∥₁_map h (λ x. omega (arith, size_is x, x.small)));
        one = λ e. had_same (∥∥₁_map h (λ x. x.one (sym (size_is x) ∙ e)));
        chained = chained_had;
      }

    pub index_had : IndexOf edges n ix
    index_had = pick (dec_lt 0 n)
      where
        pick : Dec (0 < n) → IndexOf edges n ix
        pick (yes l) = index_some l
        pick (no d) = no_nodes edges n ix (omega arith)

  pub roads_had : (w : List ℕ) → ∥ IndexedEdges edges n w ∥₁ → IndexedEdges edges n w
  roads_had w h = record { ends = had_same (∥∥₁_map h (λ x. x.ends)); indexed = index_had (index_in n w) (∥∥₁_map h (λ x. x.indexed)) }
