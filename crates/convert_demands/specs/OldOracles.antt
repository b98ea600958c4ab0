-- The oracle that was built from an old network, beside the one built from the converted network: they agree in bodies 1 and 4 to 7, so they answer alike.
-- Assumes nothing.
use Rattle.std.specs.Prelude.{ℕ, ◌<◌, ◌≡◌, false, List, [], ◌∷◌, length, get_or}
use Rattle.std.proofs.Common.{arith, sym, ◌∙◌}
use Rattle.std.proofs.Math.Path.{refl, ap}
use Rattle.model.specs.Lists.{concat_map}
use Rattle.model.specs.Bytes.{Bytes, bytes16}
use Rattle.model.specs.Contents.{body, file, oracle_edition, node_body, edge_body, closed_body}
use Rattle.model.specs.Network.{Network, network, edges, distance, closed_listed}
use Rattle.model.specs.Grid.{grid_broken, division_bytes}
use Rattle.model.specs.Oracle.{oracle, oracle_over, access_bytes, table_bytes}
use Rattle.model.specs.Query.{time_answer, answer_of, kind_between, far_answer, way}
use Rattle.model.specs.declared.Division.{Division}
use Rattle.model.specs.declared.Kind.{Kind}
use Rattle.model.specs.declared.Kind.TheVariants.{Far, Local}
use Rattle.theory.specs.FileLaws.{body_file}
use Rattle.theory.specs.Passed.{Sound}
use Rattle.theory.specs.Sound.{edge_bytes, closed_bytes}
use Rattle.theory.specs.Accepted.{good_of, over_size}
use Rattle.theory.specs.Built.{transit_of, lists_of}
use Rattle.theory.specs.Built as built
use Rattle.demands.specs.Outcomes.{Agree}
use Rattle.demands.specs.FarBodies.{far_body_answer, kind_alike}
use Rattle.sheet.specs.Sheet.{Effect}
use Rattle.sheet.specs.Under.{edges_under, network_under, old_stands, time_under, way_under}
use Rattle.convert.specs.Old.{closed_in, open_in, old_network, old_oracle, old_answer_of, old_time, old_way, old_under, old_stood, old_time_under, old_way_under}
use Rattle.convert.specs.Convert.{converted}
use Rattle.convert_demands.specs.Converted as same

-- ---- over an oracle with an empty body 3 the old answers are today's
module _ (f : Bytes) (plain : closed_listed (closed_body f) ≡ false) where
  pub network_before : old_network f ≡ network f
  unfolding old_network network edges
  network_before = rw (same.plain_open f plain)

  pub oracle_before : (dv : Division) → old_oracle f dv ≡ oracle f dv
  unfolding old_oracle oracle
  oracle_before dv = ap (λ (net : Network). oracle_over net (node_body f) (edge_body f) (closed_body f) dv) network_before

  pub under_before : (effect : ℕ → Effect) → old_under effect f ≡ network_under effect f
  unfolding old_under network_under edges_under
  under_before effect = rw (same.plain_open f plain)

module _ (o : Bytes) (plain : closed_listed (closed_body o) ≡ false) (s t : ℕ) where
  pub time_before : old_time o s t ≡ time_answer o s t
  unfolding old_time time_answer
  time_before = each (kind_between o s t)
    where
      each : (k : Kind) → old_answer_of k o s t ≡ answer_of k o s t
      each Far = unfold old_answer_of answer_of in refl
      each Local = unfold old_answer_of answer_of in rw (network_before o plain)

  pub way_before : old_way o s t ≡ way (network o) s t
  unfolding old_way
  way_before = rw (network_before o plain)

  pub time_under_before : (effect : ℕ → Effect) → old_time_under effect o s t ≡ time_under effect o s t
  unfolding old_time_under old_stood time_under old_stands
  time_under_before effect = rw (time_before, way_before, network_before o plain, under_before o plain effect)

  pub way_under_before : (effect : ℕ → Effect) → old_way_under effect o s t ≡ way_under effect o s t
  unfolding old_way_under way_under
  way_under_before effect = rw (under_before o plain effect)

-- ---- the two oracles
module _ (f : Bytes) (sound : Sound f) (dv : Division) (grid : grid_broken dv.g ≡ false) where
  abbrev new : Bytes
  new = converted f

  abbrev o : Bytes
  o = old_oracle f dv

  abbrev p : Bytes
  p = oracle new dv

  -- The bodies that building writes, with any bodies 2 and 3.
  abbrev bodies_with : Bytes → Bytes → List Bytes
  bodies_with b2 b3 =
      node_body new ∷ b2 ∷ b3 ∷ division_bytes dv ∷ concat_map bytes16 (transit_of new dv) ∷
      access_bytes (distance (network new)) (transit_of new dv) (lists_of new dv) ∷ table_bytes (distance (network new)) (transit_of new dv) ∷ []

  old_over : o ≡ oracle_over (network new) (node_body new) (edge_body f) (closed_body f) dv
  unfolding old_oracle
  old_over = rw (same.same_network f sound, same.node_body_law f sound)

  old_file : o ≡ file oracle_edition (bodies_with (edge_body f) (closed_body f))
  old_file = old_over ∙ (unfold oracle_over in refl)

  old_small : length (file oracle_edition (bodies_with (edge_body f) (closed_body f))) < 4294967296
  unfolding oracle_over
  old_small = over_size new dv (same.sound_new f sound) grid (edge_body f) (closed_body f) (edge_bytes f sound).1 (closed_bytes f sound)

  old_body : (k : ℕ) → k < 7 → body o k ≡ get_or (bodies_with (edge_body f) (closed_body f)) k []
  old_body k h = rw old_file (body_file oracle_edition (bodies_with (edge_body f) (closed_body f)) k h old_small)

  new_body : (k : ℕ) → k < 7 → body p k ≡ get_or (bodies_with (edge_body new) (closed_body new)) k []
  new_body = built.bodies_of new dv (good_of new dv (same.sound_new f sound) grid)

  -- They agree but for bodies 2 and 3.
  pub agree : Agree p o
  agree = record {
    nodes = new_body 0 (omega arith) ∙ sym (old_body 0 (omega arith));
    grid = new_body 3 (omega arith) ∙ sym (old_body 3 (omega arith));
    transit = new_body 4 (omega arith) ∙ sym (old_body 4 (omega arith));
    access = new_body 5 (omega arith) ∙ sym (old_body 5 (omega arith));
    table = new_body 6 (omega arith) ∙ sym (old_body 6 (omega arith));
  }

  -- The old oracle said the old network, under a sheet too.
  own_nodes : node_body o ≡ node_body f
  own_nodes = old_body 0 (omega arith) ∙ same.node_body_law f sound

  own_network : old_network o ≡ old_network f
  unfolding old_network open_in closed_in
  own_network = rw (own_nodes, old_body 1 (omega arith), old_body 2 (omega arith))

  own_under : (effect : ℕ → Effect) → old_under effect o ≡ old_under effect f
  unfolding old_under open_in closed_in
  own_under effect = rw (own_nodes, old_body 1 (omega arith), old_body 2 (omega arith))

  new_under : (effect : ℕ → Effect) → network_under effect p ≡ network_under effect new
  unfolding network_under
  new_under effect = rw (new_body 0 (omega arith), new_body 1 (omega arith))

  pub network_same : network p ≡ old_network o
  network_same = built.same_network new dv (good_of new dv (same.sound_new f sound) grid) ∙ (same.same_network f sound ∙ sym own_network)

  -- ---- "every time and way over the result equals the old one", kinds and pairs included
  module _ (s t : ℕ) where
    pub kind_same : kind_between p s t ≡ kind_between o s t
    kind_same = kind_alike p o agree s t

    pub far_same : far_answer p s t ≡ far_answer o s t
    far_same = far_body_answer p o agree s t

    pub time_same : time_answer p s t ≡ old_time o s t
    unfolding time_answer old_time
    time_same = rw kind_same (each (kind_between o s t))
      where
        each : (k : Kind) → answer_of k p s t ≡ old_answer_of k o s t
        each Far = unfold answer_of old_answer_of in far_same
        each Local = unfold answer_of old_answer_of in rw network_same

    pub way_same : way (network p) s t ≡ old_way o s t
    unfolding old_way
    way_same = rw network_same

    -- Under two sheets that leave the same network.
    module _ (effect former : ℕ → Effect) (alike : network_under effect new ≡ old_under former f) where
      left_same : network_under effect p ≡ old_under former o
      left_same = new_under effect ∙ (alike ∙ sym (own_under former))

      pub time_under_same : time_under effect p s t ≡ old_time_under former o s t
      unfolding time_under old_stands old_time_under old_stood
      time_under_same = rw (time_same, way_same, network_same, left_same)

      pub way_under_same : way_under effect p s t ≡ old_way_under former o s t
      unfolding way_under old_way_under
      way_under_same = rw left_same
