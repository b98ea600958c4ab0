-- The way by the words of a search from its end, in any network. Assumes nothing.
use Prim.Native.Nat.{ℕ, ◌<◌}
use native.Mathlib.Decide.{dec_lt}
use native.Mathlib.Nat.{zero-add}
use native.Mathlib.Omega.{arith}
use mathlib.Core.Path.{◌≡◌, refl, sym, ◌∙◌, ap}
use mathlib.Core.List.{List, []}
use lib.ListN.{length, get_or, get_or-eq_default, length-map}
use Rattle.model.specs.Bytes.{Bytes}
use Rattle.model.specs.Contents.{node_body, edge_body}
use Rattle.model.specs.Distance.{Distance, unreachable, dist}
use Rattle.model.specs.Lists.{up_to}
use Rattle.model.specs.Network.{Network, network, node_count, order, arcs, distance}
use Rattle.model.specs.Oracle.{no_walk, coded, decoded}
use Rattle.model.specs.Query.{way, way_from}
use Rattle.model.specs.Walk.{Arc, Walk}
use Rattle.theory.specs.Least.{meets_unique}
use Rattle.theory.specs.Passed.{Shaped}
use Rattle.theory.specs.Walks.{outside}
use Rattle.theory.specs.RangeLaws.{length-range, get_d_map_range}
use Rattle.theory.specs.Sound.{near, count_nodes}
use Rattle.theory.specs.FarModel.{inside, both_ways}
use Rattle.theory.specs.NetWays.{Sane, to}
use Rattle.theory.specs.Ways.{sane}
use Rattle.theory.specs.ReadLaws.{Small, decoded_coded}
use Rattle.algorithms.specs.Rounds.{distance_words}
use Rattle.sheet.specs.ArcsUnder.{arcs_under}
use Rattle.arcs.specs.Arcs.{arcs_in_law}
use Rattle.arcs.proofs.Bodies.{plain_arcs}
use Rattle.way.specs.Distances.{distance_in}
use Rattle.opened.specs.TimesFrom.{way_over}

no_word : decoded no_walk ≡ unreachable
unfolding decoded
no_word = refl

-- A network as a search has it: n nodes and the arcs es.
pub record Searched (net : Network) (es : List Arc) (n : ℕ) : Type 0 where
  pub sane : Sane net
  pub small : (u t : ℕ) → u < order net → Small (distance net u t)
  pub same : arcs net ≡ es
  pub count : order net ≡ n

module _ (net : Network) (es : List Arc) (n : ℕ) (g : Searched net es n) where
  pub net_distance : (u t : ℕ) → dist es n u t ≡ distance net u t
  unfolding distance
  net_distance u t = rw (g.same, g.count)

  module _ (t : ℕ) (t_in : t < n) where
    abbrev words : List ℕ
    words = distance_words es n t

    words_size : length words ≡ n
    unfolding distance_words
    words_size = length-map (up_to n) _ ∙ length-range 0 n

    -- The word of a node is its distance from t and so, as roads run both ways, its distance to t; a number beyond has none.
    pub word_is : (v : ℕ) → distance_in words v ≡ distance net v t
    unfolding distance_in distance_words
    word_is v = pick (dec_lt v n)
      where
        pick : Dec (v < n) → decoded (get_or words v no_walk) ≡ distance net v t
        pick (yes h) =
            ap decoded (get_d_map_range (λ v. coded (dist es n t v)) no_walk 0 n v h ∙ rw zero-add) ∙
            (ap (λ (x : Distance). decoded (coded x)) (net_distance t v) ∙
            (decoded_coded (distance net t v) (g.small t v (omega (arith, g.count))) ∙
            both_ways net g.sane.ends t v (omega (arith, g.count)) (omega (arith, g.count))))
        pick (no h) =
            ap decoded (get_or-eq_default words no_walk {n = v} (omega (arith, words_size))) ∙
            no_word ∙
            meets_unique (Walk (arcs net) v t) unreachable (distance net v t)
            (λ k w. outside (order net) (inside net g.sane.ends) (omega (arith, g.count)) (omega (arith, g.count)) w)
            (to net g.sane t (omega (arith, g.count)) v)

    -- So the way by these words is the way.
    pub way_over_law : (s : ℕ) → way_over es n s t ≡ way net s t
    unfolding way way_over
    way_over_law s =
        (λ i. way_from (λ v. word_is v i) es (word_is s i) s) ∙
        ap (λ (xs : List Arc). way_from (λ v. distance net v t) xs (distance net s t) s) (sym g.same)

-- The oracle's own network, without lines.
pub own_searched : (o : Bytes) → Shaped o → Searched (network o) (arcs_under (edge_body o) []) (node_count (node_body o))
own_searched o shaped = record {
  sane = sane o shaped.sound;
  small = near o shaped.sound;
  same = arcs_in_law o ∙ sym (plain_arcs (edge_body o));
  count = count_nodes o;
}
