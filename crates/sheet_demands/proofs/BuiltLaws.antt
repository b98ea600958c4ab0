-- Of what `SheetAnswers` states of what building hands over, the proofs. Assumes nothing.
use Rattle.std.specs.Prelude.{ℕ, ◌*◌, ◌≤◌, ◌<◌, ◌≡◌, List, length}
use Rattle.std.proofs.Math.Path.{sym, ap}
use Rattle.std.proofs.Common.{subst}
use Rattle.model.specs.Bytes.{Bytes}
use Rattle.model.specs.Contents.{node_body}
use Rattle.model.specs.Pair.{Pair}
use Rattle.model.specs.Walk.{PairWalk, LeastPair}
use Rattle.model.specs.Distance.{IsLeastPair}
use Rattle.model.specs.Network.{network, node_count, timed_arcs}
use Rattle.model.specs.Query.{distance_of, time_answer, way}
use Rattle.model.specs.Rules.{first_broken, words_needed}
use Rattle.model.specs.Calls.{Build, WayCall}
use Rattle.model.specs.declared.Division.{Division}
use Rattle.model.specs.declared.Kind.{Kind}
use Rattle.model.specs.declared.Answer.{Answer}
use Rattle.model.specs.declared.Built.{Built}
use Rattle.model.specs.declared.Route.{Route}
use Rattle.demands.specs.Outcomes.{handed, timed, Answers, WayWritten}
use Rattle.demands.proofs.AnswerLaws.{least_of}
use Rattle.demands.specs.DemandLaws as demands
use Rattle.sheet.specs.Sheet.{effects}
use Rattle.sheet.specs.Under.{network_under, way_under}
use Rattle.sheet.specs.SheetCalls.{sheet_rules, TimeUnderCall, WayUnderCall}
use Rattle.sheet_demands.specs.SheetOutcomes.{roads, Driven, kind_under, pairs_under}
use Rattle.sheet_demands.specs.SheetLaws.{time_least, way_least, way_first, way_none}
use Rattle.sheet_demands.proofs.OldWays.{way_again}

-- ---- what building hands over
module _ {f : Bytes} {dv : Division} {work work' : List ℕ} {out out' : Bytes} {r : Built} (call : Build f dv work out r work' out') (done : r.rule ≡ 0)
    (sheet : Bytes) where
  abbrev o : Bytes
  o = handed r out'

  abbrev N : ℕ
  N = node_count (node_body f)

  -- A sheet leaves of the oracle's roads what it leaves of the network's.
  under_same : network_under (effects sheet) o ≡ network_under (effects sheet) f
  unfolding network_under
  under_same = let own = demands.built_own call done in rw (own.0, own.1)

  roads_same : roads o sheet ≡ roads f sheet
  roads_same = ap timed_arcs under_same

  own_words : {k : ℕ} → words_needed f ≤ k → words_needed o ≤ k
  own_words h = rw (demands.handed_words call done) h

  own_node : {u : ℕ} → u < N → u < node_count (node_body o)
  own_node h = rw (demands.handed_count call done) h

  old_least : (s t : ℕ) → s < N → t < N → IsLeastPair (PairWalk (timed_arcs (network o)) s t) (distance_of (time_answer o s t))
  old_least s t hs ht = rw (demands.handed_network call done) (demands.least call done s t hs ht)

  module _ (kept : first_broken (sheet_rules o sheet) ≡ 0) (s t : ℕ) (hs : s < N) (ht : t < N) where
    pub time_built : {words words' : List ℕ} {a : Answer} → TimeUnderCall o sheet s t words a words' → words_needed f ≤ length words
        → Answers (PairWalk (roads f sheet) s t) (kind_under o sheet s t) (pairs_under o sheet s t) a
    time_built {a = a} query enough =
        subst (λ es. Answers (PairWalk es s t) (kind_under o sheet s t) (pairs_under o sheet s t) a) roads_same
        (time_least o (demands.handed_shape call done) sheet s t (own_node hs) (own_node ht) kept query (own_words enough) (old_least s t hs ht))

    module _ {words words' : List ℕ} {room room' : Bytes} {route : Route} (query : WayUnderCall o sheet s t words room route words' room')
        (enough : words_needed f ≤ length words) (fits : 2 * length (way_under (effects sheet) o s t) ≤ length room) where
      pub way_built : {others others' : List ℕ} {a : Answer} → TimeUnderCall o sheet s t others a others' → words_needed f ≤ length others
          → {p : Pair} {pairs : ℕ} {kind : Kind} → a ≡ timed p kind pairs → WayWritten (roads f sheet) s t p room route room'
      way_built time many {p} e =
          let l : LeastPair (roads f sheet) s t p = least_of _ (time_built time many) e in
          subst (λ es. WayWritten es s t p room route room') roads_same
          (way_least o (demands.handed_shape call done) sheet s t (own_node hs) (own_node ht) kept query (own_words enough) fits p
          (subst (λ es. LeastPair es s t p) (sym roads_same) l))

      pub way_built_first : {p : Pair} → PairWalk (roads f sheet) s t p → (q : Pair) × WayWritten (roads f sheet) s t q room route room'
      way_built_first {p} w =
          subst (λ es. (q : Pair) × WayWritten es s t q room route room') roads_same
          (way_first o (demands.handed_shape call done) sheet s t (own_node hs) (own_node ht) kept query (own_words enough) fits
          (subst (λ es. PairWalk es s t p) (sym roads_same) w))

      pub way_built_none : ((p : Pair) → PairWalk (roads f sheet) s t p → ⊥) → (route.nodes ≡ 0) × (room' ≡ room)
      way_built_none h =
          way_none o (demands.handed_shape call done) sheet s t (own_node hs) (own_node ht) kept query (own_words enough) fits
          (λ p w. h p (subst (λ es. PairWalk es s t p) roads_same w))

      pub way_built_again : Driven (timed_arcs (network f)) (roads f sheet) (way (network f) s t)
          → {others others' : List ℕ} {plain_room : Bytes} {plain_route : Route} → WayCall o s t others room plain_route others' plain_room
          → words_needed f ≤ length others → (route ≡ plain_route) × (room' ≡ plain_room)
      way_built_again h old many =
          way_again o (demands.handed_shape call done) sheet s t (own_node hs) (own_node ht) kept query (own_words enough) fits
          (rw (demands.handed_network call done, roads_same) h) old (own_words many)
