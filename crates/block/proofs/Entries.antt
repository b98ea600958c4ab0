-- An entry of a block by the kind of its pair. Assumes nothing.
use Prim.Native.Nat.{ℕ}
use mathlib.Core.Path.{◌≡◌, refl, sym, ◌∙◌, ap}
use mathlib.Core.Bool.{Bool, true, false, true≢false}
use mathlib.Core.List.{List}
use lib.ListN.{drop}
use Rattle.model.specs.Bytes.{Bytes}
use Rattle.model.specs.Contents.{node_body}
use Rattle.model.specs.Network.{network, node_count, distance}
use Rattle.model.specs.Oracle.{coded}
use Rattle.model.specs.Query.{distance_of, far_answer, local_answer, kind_between, answer_of, time_answer, time_word}
use Rattle.model.specs.Rules.{is_local, local_pair}
use Rattle.model.specs.declared.Kind.{Kind}
use Rattle.model.specs.declared.Kind.TheVariants.{Far, Local}
use Rattle.model.specs.declared.Answer.{Answer}
use Rattle.theory.specs.Given.{distance_of_law}
use Rattle.bitset.specs.Bits.{is_in}
use Rattle.words.specs.Regions.{region_at, want}
use Rattle.words.specs.Times.{time}
use Rattle.block.specs.Near.{NearTime}

module _ (o : Bytes) (s t : ℕ) where
  pub local_told : (k : Kind) (b : Bool) → k ≡ kind_between o s t → b ≡ is_local k → local_pair o s t ≡ b
  unfolding local_pair
  local_told k b p q = sym (q ∙ ap is_local p)

  -- The bit of t, where the code has the number of nodes m.
  pub bit_told : (work : List ℕ) → NearTime o s t work → (m : ℕ) → m ≡ node_count (node_body o) → (b : Bool) → b ≡ is_in (drop (region_at m want) work) t
      → local_pair o s t ≡ b
  bit_told work near m e b q = sym (q ∙ (ap (λ (k : ℕ). is_in (drop (region_at k want) work) t) e ∙ near.told))

  kind_told : (k : Kind) → is_local k ≡ true → k ≡ Local
  unfolding is_local
  kind_told Far e = absurd (true≢false (sym e))
  kind_told Local e = refl

  kind_other : (k : Kind) → is_local k ≡ false → k ≡ Far
  unfolding is_local
  kind_other Far e = refl
  kind_other Local e = absurd (true≢false e)

  pub entry_far : (a : Answer) (r : ℕ) → local_pair o s t ≡ false → a ≡ far_answer o s t → r ≡ coded (distance_of a) → r ≡ time_word o s t
  unfolding time_word time_answer answer_of local_pair
  entry_far a r l e q = q ∙ rw (e, kind_other (kind_between o s t) l)

  pub entry_local : (work : List ℕ) → local_pair o s t ≡ true → NearTime o s t work → time (node_count (node_body o)) work t ≡ time_word o s t
  unfolding time_word time_answer answer_of local_answer local_pair
  entry_local work l near = near.time l ∙ rw (kind_told (kind_between o s t) l) (ap coded (sym (distance_of_law Local 0 (distance (network o) s t))))
