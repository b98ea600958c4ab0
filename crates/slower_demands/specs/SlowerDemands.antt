-- Document 02, T-08: "Show that if one road's seconds rise by k and stay within 100,000, then no time between any two places falls, none rises by more than
-- k, and 'none' stays 'none', for the oracles built from both networks under any two grids." Assumes nothing.
use Rattle.std.specs.Prelude.{ℕ, ◌+◌, ◌≤◌, ◌<◌, ◌≡◌, ◌≢◌, true, false, List, length}
use Rattle.std.proofs.Common.{arith}
use Rattle.model.specs.Bytes.{Bytes}
use Rattle.model.specs.Contents.{node_body, edge_body}
use Rattle.model.specs.Pair.{Pair}
use Rattle.model.specs.Network.{edge, edge_count, node_count, max_seconds}
use Rattle.model.specs.Grid.{grid_broken}
use Rattle.model.specs.Rules.{accepted, words_needed}
use Rattle.model.specs.Calls.{Build, TimeCall}
use Rattle.model.specs.declared.Division.{Division}
use Rattle.model.specs.declared.Kind.{Kind}
use Rattle.model.specs.declared.Answer.{Answer}
use Rattle.model.specs.declared.Answer.TheVariants.{None}
use Rattle.model.specs.declared.Built.{Built}
use Rattle.theory.specs.Passed.{Sound, all_passed}
use Rattle.demands.specs.Outcomes.{handed, timed}
use Rattle.demands.proofs.Demands.{time_built}
use Rattle.slower_demands.specs.Raised.{raised_body, raised}
use Rattle.slower_demands.specs.Raised as bytes
use Rattle.slower_demands.specs.SlowerLaws as laws

-- "One road's seconds rise by k": two networks that differ in the seconds of road j alone, of which the second has k more. "Equal seconds, k of 0 and
-- zero-second roads are included": k and the seconds are any numbers, also 0. That they "stay within 100,000" is rule 6, of a network that is built from.
pub record OneSlower (f₁ f₂ : Bytes) (j k : ℕ) : Type 0 where
  pub places : node_body f₂ ≡ node_body f₁
  pub roads : edge_count (edge_body f₂) ≡ edge_count (edge_body f₁)
  pub is_road : j < edge_count (edge_body f₁)
  pub others : (i : ℕ) → i < edge_count (edge_body f₁) → i ≢ j → edge (edge_body f₂) i ≡ edge (edge_body f₁) i
  pub first : (edge (edge_body f₂) j).first ≡ (edge (edge_body f₁) j).first
  pub second : (edge (edge_body f₂) j).second ≡ (edge (edge_body f₁) j).second
  pub seconds : (edge (edge_body f₂) j).seconds ≡ (edge (edge_body f₁) j).seconds + k

-- What is said of a pair's two answers: both are times, and the seconds of the second are no fewer and at most k more; or both are 'none'. Of the numbers of
-- roads, of the kinds and of the pairs tried nothing is said: each of them can rise and fall.
pub data RisesAtMost (k : ℕ) : Answer → Answer → Type 0 where
  time : {p q : Pair} {kind₁ kind₂ : Kind} {pairs₁ pairs₂ : ℕ} → p.seconds ≤ q.seconds → q.seconds ≤ p.seconds + k
      → RisesAtMost k (timed p kind₁ pairs₁) (timed q kind₂ pairs₂)
  none : {kind₁ kind₂ : Kind} {pairs₁ pairs₂ : ℕ} → RisesAtMost k (None kind₁ pairs₁) (None kind₂ pairs₂)

-- For every two such networks and any two grids, where `build` has refused neither: the answers of `time` over the two oracles, asked for any pair of
-- places, one place twice included, with enough working memory.
module _ {f₁ f₂ : Bytes} {j k : ℕ} (slower : OneSlower f₁ f₂ j k)
    {dv₁ : Division} {work₁ work₁' : List ℕ} {out₁ out₁' : Bytes} {r₁ : Built} (first : Build f₁ dv₁ work₁ out₁ r₁ work₁' out₁') (done₁ : r₁.rule ≡ 0)
    {dv₂ : Division} {work₂ work₂' : List ℕ} {out₂ out₂' : Bytes} {r₂ : Built} (second : Build f₂ dv₂ work₂ out₂ r₂ work₂' out₂') (done₂ : r₂.rule ≡ 0)
    (s t : ℕ) (hs : s < node_count (node_body f₁)) (ht : t < node_count (node_body f₁))
    {words₁ words₁' : List ℕ} {a₁ : Answer} (before : TimeCall (handed r₁ out₁') s t words₁ a₁ words₁') (enough₁ : words_needed f₁ ≤ length words₁)
    {words₂ words₂' : List ℕ} {a₂ : Answer} (after : TimeCall (handed r₂ out₂') s t words₂ a₂ words₂') (enough₂ : words_needed f₂ ≤ length words₂) where
  pub slower_road : RisesAtMost k a₁ a₂
  slower_road =
      laws.both f₁ f₂ j k slower.roads slower.is_road (λ i h n. slower.others i (omega (arith, h)) n)
      (λ i. record { first = slower.first i; second = slower.second i; seconds = slower.seconds i })
      (laws.sound first done₁) (laws.sound second done₂) s t hs (rw slower.places hs)
      (time_built first done₁ s t hs ht before enough₁) (time_built second done₂ s t (rw slower.places hs) (rw slower.places ht) after enough₂)
      (RisesAtMost k) (λ p q falls rises. time (omega (arith, falls)) (omega (arith, rises))) none

-- There is such a second network for every accepted one, every road of it and every k with which its seconds "stay within 100,000": the file of its bodies,
-- with those four bytes of body 2 written over. It is accepted under every grid from 1 to 64.
module _ (f : Bytes) (dv : Division) (ok : accepted f dv ≡ true) (j k : ℕ) (is_road : j < edge_count (edge_body f))
    (within : (edge (edge_body f) j).seconds + k ≤ max_seconds) where
  pub raised_slower : OneSlower f (raised f j k) j k
  raised_slower = record {
    places = bytes.node_body_law f sound j k is_road limit;
    roads = rw raised_body_law (bytes.same_count b j k is_road);
    is_road = is_road;
    others = λ i h n. rw raised_body_law (bytes.others_same b j k is_road i n);
    first = rw raised_body_law (bytes.first_same b j k is_road);
    second = rw raised_body_law (bytes.second_same b j k is_road);
    seconds = rw raised_body_law (bytes.seconds_risen b j k is_road (omega (arith, within)));
  }
    where
      b : Bytes
      b = edge_body f

      sound : Sound f
      sound = (all_passed f dv ok).sound

      limit : (edge b j).seconds + k ≤ max_seconds
      limit = omega (arith, within)

      raised_body_law : edge_body (raised f j k) ≡ raised_body b j k
      raised_body_law = bytes.edge_body_law f sound j k is_road limit

  pub raised_accepted : (dv₂ : Division) → grid_broken dv₂.g ≡ false → accepted (raised f j k) dv₂ ≡ true
  raised_accepted = bytes.accepted_raised f (all_passed f dv ok).sound j k is_road (omega (arith, within)) (all_passed f dv ok).plain
