-- The network as the lines of a sheet leave it, as a search has it; and what the words of the searches say of both networks. Assumes nothing.
use Prim.Native.Nat.{ℕ, ◌≤◌, ◌<◌}
use native.Mathlib.Omega.{arith}
use mathlib.Core.Path.{◌≡◌, refl, sym, ◌∙◌, ap, subst}
use mathlib.Core.Bool.{Bool, false}
use mathlib.Core.List.{List, [], ◌∷◌, Memᴰ}
use lib.ListN.{length}
use Rattle.model.specs.Lists.{any}
use Rattle.model.specs.Bytes.{Bytes}
use Rattle.model.specs.Contents.{node_body, edge_body}
use Rattle.model.specs.Distance.{dist}
use Rattle.model.specs.Network.{Edge, Network, network, max_nodes, node_count, order, arcs, distance, some_edge_broken}
use Rattle.model.specs.Oracle.{coded, decoded}
use Rattle.model.specs.Query.{answer, local_answer, way}
use Rattle.model.specs.Walk.{Arc}
use Rattle.model.specs.declared.Kind.TheVariants.{Local}
use Rattle.theory.specs.Passed.{Shaped, all_shaped}
use Rattle.model.specs.Rules.{words_needed}
use Rattle.theory.specs.Sound.{max_cost, ends, count_nodes, node_bytes, net_near}
use Rattle.theory.specs.FarModel.{both_ways}
use Rattle.theory.specs.ReadLaws.{decoded_coded}
use Rattle.theory.specs.Walks.{Within, Costs, Positive}
use Rattle.algorithms.specs.Rounds.{distance_words}
use Rattle.words.specs.Frames.{KeptFrom, OnlyIn}
use Rattle.words.specs.Regions.{grid_at, spans_at, span_count}
use Rattle.index.specs.Index.{IndexedEdges}
use Rattle.index.proofs.Laid.{roads_kept}
use Rattle.sheet.specs.Under.{network_under, still_driven, too_slow}
use Rattle.sheet.specs.Spans.{SpannedIn}
use Rattle.sheet.specs.ArcsUnder.{left_under, arcs_under}
use Rattle.sheet.proofs.Ground.{left_fine, arcs_within, arcs_cost, arcs_positive, plain_slow}
use Rattle.arcs.specs.Leaving.{EdgesUnder}
use Rattle.way.specs.Distances.{distance_in}
use Rattle.opened.specs.Opened.{Opened, Stays}
use Rattle.opened.specs.TimesFrom.{way_over}
use Rattle.opened.proofs.OpenLaws.{stays, stays_noted, stays_then, spans_end}
use Rattle.opened.proofs.StoppedWays.{way_itself}
use Rattle.opened.proofs.WayLaws.{Searched, own_searched, net_distance, word_is, way_over_law}
use Rattle.words.specs.Times.{time_words, time}
use Rattle.under.specs.Judged.{net_under, QuickLines, NotedThen, Judged}

module _ (o lines : Bytes) (shaped : Shaped o) where
  abbrev n : ℕ
  n = node_count (node_body o)

  abbrev net : Network
  net = net_under lines o

  abbrev old : List Arc
  old = arcs_under (edge_body o) []

  abbrev new : List Arc
  new = arcs_under (edge_body o) lines

  new_arcs : arcs net ≡ new
  unfolding arcs network_under arcs_under left_under
  new_arcs = refl

  new_order : order net ≡ n
  unfolding order network_under
  new_order = unfold order network in count_nodes o

  -- ---- as a search has it
  module _ (quick : QuickLines o lines) where
    rule_six : some_edge_broken n (edge_body o) ≡ false
    rule_six = shaped.sound.some_edge

    within : Within (order net) (arcs net)
    within = rw (new_order, new_arcs) (arcs_within (edge_body o) lines n rule_six quick)

    inside : (e : Edge) → Memᴰ e net.edges → (e.first < order net) × (e.second < order net)
    unfolding network_under
    inside e m =
        let f = left_fine (edge_body o) lines n rule_six quick e (unfold left_under in m) in
        (omega (arith, f.first_in, new_order), omega (arith, f.second_in, new_order))

    costs : Costs max_cost (arcs net)
    costs = rw new_arcs (arcs_cost (edge_body o) lines n rule_six quick)

    positive : Positive (arcs net)
    positive = rw new_arcs (arcs_positive (edge_body o) lines n rule_six quick)

    few : order net ≤ max_nodes
    few = omega (arith, new_order, (node_bytes o shaped.sound).0)

    pub under_searched : Searched net new n
    under_searched = record {
      sane = record { ends = inside; positive = positive };
      small = net_near net few within costs;
      same = new_arcs;
      count = new_order;
    }

    -- The local answer from the word that a search has left.
    pub local_under : (s t r : ℕ) → s < n → r ≡ coded (dist new n s t) → answer Local 0 (decoded r) ≡ local_answer net s t
    unfolding local_answer
    local_under s t r h e =
        ap (λ (x : ℕ). answer Local 0 (decoded x)) (e ∙ ap coded (net_distance net new n under_searched s t))
        ∙ ap (answer Local 0) (decoded_coded (distance net s t) (under_searched.small s t (omega (arith, new_order))))

    pub way_is : (s t : ℕ) → t < n → way_over new n s t ≡ way net s t
    way_is s t h = way_over_law net new n under_searched t h s

    pub way_under_itself : (s : ℕ) → s < n → way net s s ≡ s ∷ []
    way_under_itself s h = sym (way_is s s h) ∙ way_itself new n (arcs_within (edge_body o) lines n rule_six quick) s h

  -- ---- what was without the lines
  own : Searched (network o) old n
  own = own_searched o shaped

  pub old_time : (s t : ℕ) → s < n → t < n → coded (dist old n t s) ≡ coded (distance (network o) s t)
  old_time s t hs ht =
      ap coded (net_distance (network o) old n own t s
      ∙ both_ways (network o) (ends o shaped.sound) t s (rw (count_nodes o) ht) (rw (count_nodes o) hs))

  pub old_driven : (s t : ℕ) → t < n → still_driven (distance_in (distance_words old n t)) new (way_over old n s t)
      ≡ still_driven (λ v. distance (network o) v t) (arcs net) (way (network o) s t)
  old_driven s t h =
      (λ i. still_driven (λ v. word_is (network o) old n own t h v i) new (way_over old n s t))
      ∙ (ap (λ (w : List ℕ). still_driven (λ v. distance (network o) v t) new w) (way_over_law (network o) old n own t h s)
      ∙ ap (λ (es : List Arc). still_driven (λ v. distance (network o) v t) es (way (network o) s t)) (sym new_arcs))

  old_itself : (s : ℕ) → s < n → Within n old → way (network o) s s ≡ s ∷ []
  old_itself s h w = sym (way_over_law (network o) old n own s h s) ∙ way_itself old n w s h

-- ---- the lines are noted in the words
pub noted_edges : (edges lines : Bytes) (n : ℕ) (w w' : List ℕ) → 2 ≤ n → IndexedEdges edges n w → any too_slow (left_under edges lines) ≡
    false
    → SpannedIn lines n w' → OnlyIn (spans_at n) (span_count n) w w' → EdgesUnder edges lines n w'
noted_edges edges lines n w w' two r quick k o =
    record { roads = roads_kept edges n w w' (subst (λ (i : ℕ). KeptFrom i w w') (spans_end n two) o.back) r; spanned = k; quick = quick }

pub noted_then : (n : ℕ) (w mid w' : List ℕ) → length mid ≡ length w → OnlyIn (spans_at n) (span_count n) w mid → KeptFrom (grid_at n) mid w' → NotedThen n w w'
noted_then n w mid w' l o k = record { mid = mid; size = l; noted = o; later = k }

-- ---- what stays when the lines are noted and words before the grid change
pub noted_stays : (o : Bytes) (w w' : List ℕ) → Opened o w → 2 ≤ node_count (node_body o) → length w' ≡ length w → NotedThen (node_count (node_body o)) w w'
    → Stays o w w'
noted_stays o w w' h two l k =
    let first = stays_noted o w k.mid h two k.size k.noted in
    stays_then o w k.mid w' first (stays o k.mid w' first.opened (omega (arith, l, k.size)) k.later)

-- ---- the same for the bodies and the number of nodes as the code has them
pub judged_over : (o lines : Bytes) {w : List ℕ} (opened : Opened o w) (s t : ℕ) → s < node_count (node_body o) → t < node_count (node_body o) → (s ≡ t → ⊥)
    → (eb : Bytes) (m : ℕ) → eb ≡ edge_body o → m ≡ node_count (node_body o) → (w' : List ℕ) (r : Bool) → length w' ≡ length w
    → r ≡ still_driven (distance_in (distance_words (arcs_under eb []) m t)) (arcs_under eb lines) (way_over (arcs_under eb []) m s t)
    → time m w' s ≡ coded (dist (arcs_under eb []) m t s) → EdgesUnder eb lines m w' → NotedThen m w w' → Judged o lines s t w w' r
judged_over o lines {w} opened s t hs ht ne eb m p e w' r l d k g z =
    let shaped = all_shaped o opened.shape in
    let ne' : ¬ (s ≡ t) = ne in
    record {
      driven = rw (p, e) at d ∙ old_driven o lines shaped s t ht;
      old = rw (p, e) at k ∙ old_time o lines shaped s t hs ht;
      edges = rw (p, e) at g;
      stays = noted_stays o w w' opened (omega arith) l (rw e at z);
    }

pub read_time : (o : Bytes) (w : List ℕ) → Opened o w → (m : ℕ) → m ≡ node_count (node_body o) → time_words m ≤ length w
unfolding words_needed
read_time o w h m e = omega (arith, h.room)

-- The old way from a node to itself.
pub own_itself : (o : Bytes) → Shaped o → (s : ℕ) → s < node_count (node_body o) → way (network o) s s ≡ s ∷ []
own_itself o shaped s h =
    let n = node_count (node_body o) in
    let e = shaped.sound.some_edge in
    old_itself o [] shaped s h (arcs_within (edge_body o) [] n e (plain_slow (edge_body o) n e))
