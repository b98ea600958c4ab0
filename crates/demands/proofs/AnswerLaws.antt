-- What an answer says, for the demands. Assumes nothing.
use Rattle.std.specs.Prelude.{ℕ, ◌≡◌, refl, ◌⊎◌}
use Rattle.std.proofs.Common.{sym, ◌∙◌, ap, subst, inl, inr}
use Rattle.model.specs.Bytes.{Bytes}
use Rattle.model.specs.Pair.{Pair, LeastPairOf, pair_of}
use Rattle.model.specs.Distance.{Distance, unreachable, finite, IsLeastPair}
use Rattle.model.specs.Query.{answer, distance_of, kind_between, answer_of, time_answer, far_answer, local_answer}
use Rattle.model.specs.declared.Kind.{Kind}
use Rattle.model.specs.declared.Kind.TheVariants.{Far, Local}
use Rattle.model.specs.declared.Answer.{Answer}
use Rattle.model.specs.declared.Answer.TheVariants.{Time, None, Refused}
use Rattle.theory.specs.Least.{apart}
use Rattle.theory.specs.Keys.{one_least}
use Rattle.theory.specs.Given.{distance_of_law}
use Rattle.demands.specs.Outcomes.{pairs_tried, timed, Answers}

-- ---- an answer made of a kind, pairs and a distance
stated : Answer → Pair
stated (Time seconds hops kind pairs) = record { seconds = seconds; hops = hops }
stated (None kind pairs) = record { seconds = 0; hops = 0 }
stated (Refused rule) = record { seconds = 0; hops = 0 }

-- The pair that an answer states.
same_time : (p q : Pair) {kind other : Kind} {pairs tried : ℕ} → timed p kind pairs ≡ timed q other tried → p ≡ q
unfolding stated
same_time p q e = ap stated e

no_time : {kind other : Kind} {pairs tried : ℕ} (p : Pair) → None kind pairs ≡ timed p other tried → ⊥
unfolding distance_of
no_time p e = apart (ap distance_of e)

pub answers : (P : Pair → Type 0) (kind : Kind) (pairs : ℕ) (d : Distance) → IsLeastPair P d → Answers P kind pairs (answer kind pairs d)
unfolding answer
answers P kind pairs unreachable h = record {
  given = inr refl;
  least = λ p. (λ e. absurd (no_time p e), λ l. absurd (h p l.has));
  none = (λ e. h, λ z. refl);
}
answers P kind pairs (finite k) h = record {
  given = inl (pair_of k, refl);
  least = λ p. (
    λ e. subst (λ (q : Pair). LeastPairOf P q) (same_time (pair_of k) p e) h,
    λ l. ap (λ (q : Pair). timed q kind pairs) (one_least P (pair_of k) p h l),
  );
  none = (λ e. absurd (no_time (pair_of k) (sym e)), λ z. absurd (z (pair_of k) h.has));
}

-- Each answer to the time question is made so.
form : (kind : Kind) (pairs : ℕ) (d : Distance) → answer kind pairs d ≡ answer kind pairs (distance_of (answer kind pairs d))
form kind pairs d = ap (answer kind pairs) (sym (distance_of_law kind pairs d))

by_kind : (kind : Kind) (o : Bytes) (s t : ℕ) → answer_of kind o s t ≡ answer kind (pairs_tried kind o s t) (distance_of (answer_of kind o s t))
by_kind Far o s t = unfold answer_of far_answer in form Far _ _
by_kind Local o s t = unfold answer_of local_answer in form Local _ _

pub kind_answers : (P : Pair → Type 0) (kind : Kind) (o : Bytes) (s t : ℕ) → IsLeastPair P (distance_of (answer_of kind o s t))
    → Answers P kind (pairs_tried kind o s t) (answer_of kind o s t)
kind_answers P kind o s t h =
    subst (λ (a : Answer). Answers P kind (pairs_tried kind o s t) a) (sym (by_kind kind o s t))
    (answers P kind (pairs_tried kind o s t) (distance_of (answer_of kind o s t)) h)

pub time_answers : (P : Pair → Type 0) (o : Bytes) (s t : ℕ) → IsLeastPair P (distance_of (time_answer o s t))
    → Answers P (kind_between o s t) (pairs_tried (kind_between o s t) o s t) (time_answer o s t)
unfolding time_answer
time_answers P o s t h = kind_answers P (kind_between o s t) o s t h

-- A time is the least, whatever kind and pairs stand beside it.
pub least_of : (P : Pair → Type 0) {kind other : Kind} {pairs tried : ℕ} {p : Pair} {a : Answer} → Answers P kind pairs a → a ≡ timed p other tried
    → LeastPairOf P p
least_of P {kind} {other} {pairs} {tried} {p} {a} h e = step h.given
  where
    step : ((q : Pair) × (a ≡ timed q kind pairs)) ⊎ (a ≡ None kind pairs) → LeastPairOf P p
    step (inl (q, z)) = subst (λ (x : Pair). LeastPairOf P x) (same_time q p (sym z ∙ e)) ((h.least q).0 z)
    step (inr z) = absurd (no_time p (sym z ∙ e))
