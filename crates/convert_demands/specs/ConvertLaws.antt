-- The proofs of what `ConvertDemands` states over the calls. Assumes nothing.
use Rattle.std.specs.Prelude.{ℕ, ◌*◌, ◌≤◌, ◌<◌, ◌≡◌, refl, true, false, length, drop}
use Rattle.std.proofs.Common.{arith, ◌∙◌, le-ltb, ne_eqb}
use Rattle.std.proofs.Math.Path.{sym, ap}
use mathlib.Core.List.{List, [], ◌∷◌, ◌++◌}
use Rattle.model.specs.Bytes.{Bytes}
use Rattle.model.specs.Contents.{node_body, edge_body, network_edition, network_entries}
use Rattle.model.specs.Network.{network, node_count, edge_count}
use Rattle.model.specs.Grid.{grid_broken}
use Rattle.model.specs.Oracle.{oracle}
use Rattle.model.specs.Query.{kind_between, far_answer, time_answer, way}
use Rattle.model.proofs.Meanings.{meaning_injective}
use Rattle.model.specs.Rules.{Rule, rule, first_broken, network_rules, pair_rules, far_rules, words_needed, output_too_small, local_pair}
use Rattle.model.specs.Rules.{is_local, well_shaped, work_words}
use Rattle.model.specs.Calls.{output_after, size_after, answer_after, route_after, Build, TimeCall, far_result, FarCall, way_refusal, WayCall}
use Rattle.model.specs.declared.Answer.{Answer}
use Rattle.model.specs.declared.Answer.TheVariants.{Refused}
use Rattle.model.specs.declared.Built.{Built}
use Rattle.model.specs.declared.Division.{Division}
use Rattle.model.specs.declared.Kind.TheVariants.{Far, Local}
use Rattle.model.specs.declared.Output.{Output}
use Rattle.model.specs.declared.Route.{Route}
use Rattle.theory.specs.Firsts.{first_append, split, stops, goes, none, one_kept}
use Rattle.theory.specs.Passed.{Rest, Sound, network_passed, network_counted, all_passed}
use Rattle.theory.specs.BuiltCalls as calls
use Rattle.demands.specs.Outcomes.{FirstOf, handed}
use Rattle.demands.proofs.CallLaws as outcomes
use Rattle.demands.specs.DemandLaws as demands
use Rattle.sheet.specs.Sheet.{sheet_broken, names_broken}
use Rattle.convert.specs.Old.{old_oracle, old_time, old_way}
use Rattle.convert.specs.Convert.{converted, converted_sheet, convert_rules, convert_refusal, ConvertCall}
use Rattle.convert.specs.Convert.{convert_sheet_rules, convert_sheet_refusal, ConvertSheetCall}
use Rattle.convert_demands.specs.ConvertOutcomes.{KeepsSeven, Writes, written, WritesNodes}
use Rattle.convert_demands.specs.Converted as same
use Rattle.convert_demands.specs.OldOracles as old

-- ---- rules 1 to 7
pub kept : (f : Bytes) → KeepsSeven f → Rest network_edition network_entries f []
unfolding network_rules
kept f keeps = network_passed network_edition network_entries f [] keeps

-- ---- what a call hands back and writes
size_rule : (k : ℕ) (result : Bytes) → (size_after k result).rule ≡ k
unfolding size_after
size_rule k result = outcomes.after k (λ (r : Output). r.rule) (record { rule = 0; size = length result }) (record { rule = k; size = 0 }) refl refl

module _ (rules : List Rule) (result out : Bytes) {r : Output} {out' : Bytes} (hands : r ≡ size_after (first_broken rules) result)
    (leaves : out' ≡ output_after (first_broken rules) result out) where
  abbrev k : ℕ
  k = first_broken rules

  pub number : r.rule ≡ k
  number = ap (λ (x : Output). x.rule) hands ∙ size_rule k result

  -- What `Writes` says, clause by clause.
  pub parts : FirstOf rules r.rule × ((r.rule ≡ 0 → ⊥) → r.size ≡ 0) × ((r.rule ≡ 0 → ⊥) → out' ≡ out) × (r.rule ≡ 0 → r.size ≡ length result)
      × (r.rule ≡ 0 → out' ≡ result ++ drop (length result) out)
  unfolding size_after output_after
  parts = (
    rw number (outcomes.first_of rules),
    λ n. ap (λ (x : Output). x.size) hands ∙ rw (ne_eqb k 0 (λ e. n (number ∙ e))),
    λ n. leaves ∙ rw (ne_eqb k 0 (λ e. n (number ∙ e))),
    λ e. ap (λ (x : Output). x.size) hands ∙ rw (sym number ∙ e),
    λ e. leaves ∙ rw (sym number ∙ e),
  )

  pub writes : Writes rules result r out out'
  writes = let p = parts in record { first = p.0; no_size = p.1; untouched = p.2; size = p.3; bytes = p.4 }

  pub written_is : r.rule ≡ 0 → written r out' ≡ result
  written_is e =
      let p = parts in
      rw (p.3 e, leaves, sym number ∙ e) (outcomes.front_done result out)

pub convert_writes : {f out out' : Bytes} {r : Output} → ConvertCall f out r out' → Writes (convert_rules f (length out)) (converted f) r out out'
unfolding convert_refusal
convert_writes {f} {out} call =
    let p = parts (convert_rules f (length out)) (converted f) out call.result call.bytes in
    record { first = p.0; no_size = p.1; untouched = p.2; size = p.3; bytes = p.4 }

pub sheet_writes : {f sheet out out' : Bytes} {r : Output} → ConvertSheetCall f sheet out r out'
    → Writes (convert_sheet_rules f sheet (length out)) (converted_sheet f sheet) r out out'
unfolding convert_sheet_refusal
sheet_writes {f} {sheet} {out} call =
    let p = parts (convert_sheet_rules f sheet (length out)) (converted_sheet f sheet) out call.result call.bytes in
    record { first = p.0; no_size = p.1; untouched = p.2; size = p.3; bytes = p.4 }

-- Where the rules before 15 are kept and the output has room, nothing is refused.
pub convert_succeeds : {f out out' : Bytes} {r : Output} → ConvertCall f out r out' → KeepsSeven f → length (converted f) ≤ length out → r.rule ≡ 0
unfolding convert_refusal convert_rules output_too_small
convert_succeeds {f} {out} call keeps room =
    number (convert_rules f (length out)) (converted f) out call.result call.bytes ∙
    sym (one_kept (network_rules network_edition network_entries f) 15 (network_counted network_edition network_entries f) keeps
    (le-ltb (length out) (length (converted f)) room))

pub sheet_succeeds : {f sheet out out' : Bytes} {r : Output} → ConvertSheetCall f sheet out r out' → KeepsSeven f → sheet_broken sheet ≡ false
    → names_broken (edge_count (edge_body f)) sheet ≡ false → length (converted_sheet f sheet) ≤ length out → r.rule ≡ 0
unfolding convert_sheet_refusal convert_sheet_rules output_too_small
sheet_succeeds {f} {sheet} {out} call keeps form names room =
    number (convert_sheet_rules f sheet (length out)) (converted_sheet f sheet) out call.result call.bytes ∙
    (first_append (network_rules network_edition network_entries f) _ (network_counted network_edition network_entries f) keeps ∙
    sym (goes 18 _ form (goes 19 _ names (goes 15 [] (le-ltb (length out) (length (converted_sheet f sheet)) room) none))))

-- ---- the converted network, handed over
module _ {f out out' : Bytes} {r : Output} (call : ConvertCall f out r out') (done : r.rule ≡ 0) where
  pub convert_is : written r out' ≡ converted f
  unfolding convert_refusal
  convert_is = written_is (convert_rules f (length out)) (converted f) out call.result call.bytes done

  refused : first_broken (convert_rules f (length out)) ≡ 0
  unfolding convert_refusal
  refused = sym (number (convert_rules f (length out)) (converted f) out call.result call.bytes) ∙ done

  pub convert_keeps : KeepsSeven f
  unfolding convert_rules
  convert_keeps = (split (network_rules network_edition network_entries f) 15 _ (network_counted network_edition network_entries f) (omega arith) refused).0

  sound : Sound f
  sound = (kept f convert_keeps).sound

  -- ---- the oracle built from it
  module _ {dv : Division} {work work' : List ℕ} {room room' : Bytes} {b : Built} (build : Build (written r out') dv work room b work' room')
      (made : b.rule ≡ 0) where
    abbrev o : Bytes
    o = handed b room'

    pub building : Build (converted f) dv work room b work' room'
    building = rw convert_is at build

    pub handed_is : o ≡ oracle (converted f) dv
    handed_is = demands.handed_is building made

    pub handed_shape : well_shaped o ≡ true
    handed_shape = demands.handed_shape building made

    pub grid_kept : grid_broken dv.g ≡ false
    grid_kept = (all_passed (converted f) dv (demands.built_accepted building made)).grid

    pub handed_count : node_count (node_body o) ≡ node_count (node_body f)
    handed_count = demands.handed_count building made ∙ ap node_count (same.node_body_law f sound)

    pub handed_words : words_needed o ≡ words_needed f
    unfolding words_needed
    handed_words = ap work_words handed_count

    module _ (s t : ℕ) (hs : s < node_count (node_body f)) (ht : t < node_count (node_body f)) where
      time_same : time_answer o s t ≡ old_time (old_oracle f dv) s t
      time_same = rw handed_is (old.time_same f sound dv grid_kept s t)

      kind_same : kind_between o s t ≡ kind_between (old_oracle f dv) s t
      kind_same = rw handed_is (old.kind_same f sound dv grid_kept s t)

      far_same : far_answer o s t ≡ far_answer (old_oracle f dv) s t
      far_same = rw handed_is (old.far_same f sound dv grid_kept s t)

      way_same : way (network o) s t ≡ old_way (old_oracle f dv) s t
      way_same = rw handed_is (old.way_same f sound dv grid_kept s t)

      pub time_old : {words words' : List ℕ} {a : Answer} → TimeCall o s t words a words' → words_needed f ≤ length words → a ≡ old_time (old_oracle f dv) s t
      time_old query enough =
          demands.time_is o handed_shape s t (rw handed_count hs) (rw handed_count ht) query (rw handed_words enough) ∙ time_same

      pub far_old : {a : Answer} → FarCall o s t a → kind_between (old_oracle f dv) s t ≡ Far → a ≡ far_answer (old_oracle f dv) s t
      unfolding far_result answer_after
      far_old query far =
          meaning_injective _ _ query.result ∙
          (rw (calls.far_kept o handed_shape s t (rw handed_count hs) (rw handed_count ht) (kind_same ∙ far)) far_same)

      pub far_local : {a : Answer} → FarCall o s t a → kind_between (old_oracle f dv) s t ≡ Local → a ≡ Refused 13
      unfolding far_result answer_after far_rules
      far_local query near =
          let e : first_broken (pair_rules o s t ++ (rule 13 (local_pair o s t) ∷ [])) ≡ 13 =
          first_append (pair_rules o s t) (rule 13 (local_pair o s t) ∷ []) (calls.pair_counted o s t)
          (calls.pair_kept o handed_shape s t (rw handed_count hs) (rw handed_count ht)) ∙
          sym (stops 13 [] (unfold local_pair is_local in rw (kind_same ∙ near))) in
          meaning_injective _ _ query.result ∙ rw e

      module _ {words words' : List ℕ} {place place' : Bytes} {route : Route} (query : WayCall o s t words place route words' place')
          (enough : words_needed f ≤ length words) (fits : 2 * length (old_way (old_oracle f dv) s t) ≤ length place) where
        way_kept : way_refusal o s t words place ≡ 0
        way_kept = calls.way_kept o handed_shape s t (rw handed_count hs) (rw handed_count ht) words place (rw handed_words enough) (rw way_same fits)

        pub way_old : WritesNodes (old_way (old_oracle f dv) s t) route place place'
        unfolding route_after output_after
        way_old = record { result = query.result ∙ rw (way_kept, way_same); bytes = query.bytes ∙ rw (way_kept, way_same) }
