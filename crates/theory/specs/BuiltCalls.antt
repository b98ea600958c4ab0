-- A well-shaped oracle refuses nothing of the questions, where memory and output suffice. Assumes nothing.
use Rattle.std.specs.Prelude.{ℕ, ◌*◌, ◌≤◌, ◌<◌, ◌≡◌, refl, true, false, List}
use Rattle.std.proofs.Math.Path.{sym}
use Rattle.std.proofs.Math.ListN.{length}
use borrow.Author.Tests.{eqb-true, lt-leb, le-ltb}
use Rattle.model.specs.Bytes.{Bytes}
use Rattle.model.specs.Contents.{node_body}
use Rattle.model.specs.Network.{network, node_count}
use Rattle.model.specs.Query.{kind_between, way}
use Rattle.model.specs.Rules.{first_broken, network_rules, shape_rules, pair_rules, time_rules, far_rules, way_rules, list_rules, no_such_node, local_pair, is_local}
use Rattle.model.specs.Rules.{work_too_small, words_needed, output_too_small, well_shaped}
use Rattle.model.specs.Calls.{time_refusal, list_refusal, way_refusal}
use Rattle.model.specs.declared.Kind.TheVariants.{Far}
use Rattle.theory.specs.Firsts.{counted, one_kept}
use Rattle.theory.specs.Passed.{shape_counted}

pub pair_counted : (o : Bytes) (s t : ℕ) → counted (pair_rules o s t) ≡ true
unfolding pair_rules counted shape_rules network_rules
pair_counted o s t = refl

pub time_counted : (o : Bytes) (s t words : ℕ) → counted (time_rules o s t words) ≡ true
unfolding time_rules pair_rules counted shape_rules network_rules
time_counted o s t words = refl

module _ (o : Bytes) (shaped : well_shaped o ≡ true) where
  abbrev N : ℕ
  N = node_count (node_body o)

  no_shape : first_broken (shape_rules o) ≡ 0
  unfolding well_shaped
  no_shape = eqb-true (first_broken (shape_rules o)) 0 shaped

  there : (u : ℕ) → u < N → no_such_node o u ≡ false
  unfolding no_such_node
  there u h = lt-leb N u h

  pub list_kept : (u : ℕ) → u < N → list_refusal o u ≡ 0
  unfolding list_refusal list_rules
  list_kept u h = sym (one_kept (shape_rules o) 12 (shape_counted o) no_shape (there u h))

  module _ (s t : ℕ) (hs : s < N) (ht : t < N) where
    pub pair_kept : first_broken (pair_rules o s t) ≡ 0
    unfolding pair_rules
    pair_kept = sym (one_kept (shape_rules o) 12 (shape_counted o) no_shape (rw (there s hs, there t ht)))

    pub time_kept : (work : List ℕ) → words_needed o ≤ length work → time_refusal o s t work ≡ 0
    unfolding time_refusal time_rules work_too_small
    time_kept work h = sym (one_kept (pair_rules o s t) 14 (pair_counted o s t) pair_kept (le-ltb (length work) (words_needed o) h))

    pub far_kept : kind_between o s t ≡ Far → first_broken (far_rules o s t) ≡ 0
    unfolding far_rules local_pair is_local
    far_kept e = sym (one_kept (pair_rules o s t) 13 (pair_counted o s t) pair_kept (rw e))

    pub way_kept : (work : List ℕ) (out : Bytes) → words_needed o ≤ length work → 2 * length (way (network o) s t) ≤ length out → way_refusal o s t work out ≡ 0
    unfolding way_refusal way_rules output_too_small
    way_kept work out h k =
        sym (one_kept (time_rules o s t (length work)) 15 (time_counted o s t (length work)) (unfold time_refusal in time_kept work h)
        (le-ltb (length out) (2 * length (way (network o) s t)) k))
