-- Far answers over any well-shaped oracle, by the far question and by the time, are least sums. Assumes nothing.
use Rattle.std.specs.Prelude.{ℕ, ◌≤◌, ◌<◌, ◌≡◌, true, length}
use mathlib.Core.List.{List}
use Rattle.model.specs.Bytes.{Bytes}
use Rattle.model.specs.Contents.{node_body}
use Rattle.model.specs.Network.{node_count}
use Rattle.model.specs.Query.{kind_between}
use Rattle.model.specs.Rules.{well_shaped, words_needed}
use Rattle.model.specs.Calls.{TimeCall, FarCall}
use Rattle.model.specs.declared.Kind.TheVariants.{Far}
use Rattle.model.specs.declared.Answer.{Answer}
use Rattle.demands.specs.Outcomes.{pairs_tried, Answers, FarSum}
use Rattle.demands.proofs.DemandLaws.{far_is, summed}
use Rattle.demands.specs.DemandLaws.{time_far}

module _ (o : Bytes) (shaped : well_shaped o ≡ true) where
  module _ (s t : ℕ) (hs : s < node_count (node_body o)) (ht : t < node_count (node_body o)) where
    pub far_sums : {a : Answer} → FarCall o s t a → kind_between o s t ≡ Far → Answers (FarSum o s t) Far (pairs_tried Far o s t) a
    far_sums call far = rw (far_is o shaped s t hs ht call far) (summed o shaped s t hs ht)

    pub time_sums : {words words' : List ℕ} {a : Answer} → TimeCall o s t words a words' → words_needed o ≤ length words → kind_between o s t ≡ Far
        → Answers (FarSum o s t) Far (pairs_tried Far o s t) a
    time_sums query enough far = rw (time_far o shaped s t hs ht query enough far) (summed o shaped s t hs ht)
