-- The calls under a converted sheet, over the oracle built from the converted network: they answer what was answered under the old sheet. Assumes nothing.
use Rattle.std.specs.Prelude.{ℕ, ◌*◌, ◌≤◌, ◌<◌, ◌≡◌, true, false, length}
use Rattle.std.proofs.Common.{arith, ◌∙◌}
use Rattle.std.proofs.Math.Path.{sym}
use mathlib.Core.List.{List, []}
use Rattle.model.specs.Lists.{any}
use Rattle.model.specs.Bytes.{Bytes}
use Rattle.model.specs.Contents.{node_body, edge_body, network_edition, network_entries}
use Rattle.model.specs.Network.{node_count, edge_count}
use Rattle.model.proofs.Meanings.{meaning_injective}
use Rattle.model.specs.Rules.{first_broken, well_shaped, words_needed}
use Rattle.model.specs.Calls.{output_after, answer_after, route_after, Build}
use Rattle.model.specs.declared.Answer.{Answer}
use Rattle.model.specs.declared.Built.{Built}
use Rattle.model.specs.declared.Division.{Division}
use Rattle.model.specs.declared.Output.{Output}
use Rattle.model.specs.declared.Route.{Route}
use Rattle.theory.specs.Firsts.{passed, goes, none}
use Rattle.theory.specs.Passed.{Sound, network_passed}
use Rattle.theory.specs.Whole.{AreBytes}
use Rattle.demands.specs.Outcomes.{handed}
use Rattle.demands.specs.DemandLaws as demands
use Rattle.sheet.specs.Sheet.{effects, sheet_broken, names_broken}
use Rattle.sheet.specs.Under.{network_under, too_slow, slow_broken, time_under, way_under}
use Rattle.sheet.specs.SheetCalls.{sheet_rules, time_under_result, TimeUnderCall}
use Rattle.sheet.specs.SheetCalls.{way_under_refusal, WayUnderCall}
use Rattle.sheet_demands.specs.UnderCalls.{time_kept, way_kept}
use Rattle.convert.specs.Old.{old_oracle, old_under, old_time_under, old_way_under}
use Rattle.convert.specs.Convert.{converted, converted_sheet, convert_sheet_rules, convert_sheet_refusal, ConvertCall, ConvertSheetCall}
use Rattle.convert_demands.specs.ConvertOutcomes.{written, WritesNodes}
use Rattle.convert_demands.specs.OldOracles as old
use Rattle.convert_demands.specs.ConvertedSheets as sheets
use Rattle.convert_demands.specs.ConvertLaws as laws

-- ---- the converted sheet, handed over
module _ {f sheet out out' : Bytes} {r : Output} (call : ConvertSheetCall f sheet out r out') (done : r.rule ≡ 0) where
  pub sheet_is : written r out' ≡ converted_sheet f sheet
  unfolding convert_sheet_refusal
  sheet_is = laws.written_is (convert_sheet_rules f sheet (length out)) (converted_sheet f sheet) out call.result call.bytes done

  -- It was checked.
  kept_both : (sheet_broken sheet ≡ false) × (names_broken (edge_count (edge_body f)) sheet ≡ false)
  unfolding convert_sheet_refusal convert_sheet_rules
  kept_both =
      let e = sym (laws.number (convert_sheet_rules f sheet (length out)) (converted_sheet f sheet) out call.result call.bytes) ∙ done in
      let r = network_passed network_edition network_entries f _ e in
      let p = passed 18 (sheet_broken sheet) _ (omega arith) r.rest in
      (p.0, (passed 19 (names_broken (edge_count (edge_body f)) sheet) _ (omega arith) p.1).0)

-- ---- both, and an oracle built from the network
module _ {f out out' : Bytes} {r : Output} (call : ConvertCall f out r out') (done : r.rule ≡ 0)
    {sheet page page' : Bytes} {q : Output} (second : ConvertSheetCall f sheet page q page') (done_too : q.rule ≡ 0) (are : AreBytes sheet)
    {dv : Division} {work work' : List ℕ} {room room' : Bytes} {b : Built} (build : Build (written r out') dv work room b work' room') (made : b.rule ≡ 0)
    (limit : any too_slow (old_under (effects sheet) f).edges ≡ false)
    (s t : ℕ) (hs : s < node_count (node_body f)) (ht : t < node_count (node_body f)) where
  abbrev o : Bytes
  o = handed b room'

  abbrev new : Bytes
  new = written q page'

  sound : Sound f
  sound = (laws.kept f (laws.convert_keeps call done)).sound

  own_edges : edge_body o ≡ edge_body (converted f)
  own_edges = (demands.built_own (laws.building call done build made) made).1

  own_slow : slow_broken (effects (converted_sheet f sheet)) o ≡ slow_broken (effects (converted_sheet f sheet)) (converted f)
  unfolding slow_broken network_under
  own_slow = rw own_edges

  rules_kept : first_broken (sheet_rules o new) ≡ 0
  unfolding sheet_rules
  rules_kept =
      let (form, names) = kept_both second done_too in
      rw (sheet_is second done_too, own_slow, own_edges)
      (sym (goes 18 _ (sheets.form_kept f sound sheet are form) (goes 19 _ (sheets.names_kept f sound sheet are names)
      (goes 20 [] (sheets.slow_same f sound sheet are ∙ limit) none))))

  oracle_same : (time_under (effects new) o s t ≡ old_time_under (effects sheet) (old_oracle f dv) s t)
      × (way_under (effects new) o s t ≡ old_way_under (effects sheet) (old_oracle f dv) s t)
  oracle_same =
      let grid = laws.grid_kept call done build made in
      let alike = sheets.under_same f sound sheet are in
      rw (sheet_is second done_too, laws.handed_is call done build made) (
        old.time_under_same f sound dv grid s t (effects (converted_sheet f sheet)) (effects sheet) alike,
        old.way_under_same f sound dv grid s t (effects (converted_sheet f sheet)) (effects sheet) alike,
      )

  shaped : well_shaped o ≡ true
  shaped = laws.handed_shape call done build made

  below : {u : ℕ} → u < node_count (node_body f) → u < node_count (node_body o)
  below h = rw (laws.handed_count call done build made) h

  pub time_under_old : {words words' : List ℕ} {a : Answer} → TimeUnderCall o new s t words a words' → words_needed f ≤ length words
      → a ≡ old_time_under (effects sheet) (old_oracle f dv) s t
  unfolding time_under_result answer_after
  time_under_old {words} query enough =
      meaning_injective _ _ query.result ∙
      (rw (time_kept o shaped new rules_kept s t (below hs) (below ht) words (rw (laws.handed_words call done build made) enough)) oracle_same.0)

  module _ {words words' : List ℕ} {place place' : Bytes} {route : Route} (query : WayUnderCall o new s t words place route words' place')
      (enough : words_needed f ≤ length words) (fits : 2 * length (old_way_under (effects sheet) (old_oracle f dv) s t) ≤ length place) where
    none_broken : way_under_refusal o new s t words place ≡ 0
    none_broken =
        way_kept o shaped new rules_kept s t (below hs) (below ht) words place (rw (laws.handed_words call done build made) enough)
        (rw oracle_same.1 fits)

    pub way_under_old : WritesNodes (old_way_under (effects sheet) (old_oracle f dv) s t) route place place'
    unfolding route_after output_after
    way_under_old = record { result = query.result ∙ rw (none_broken, oracle_same.1); bytes = query.bytes ∙ rw (none_broken, oracle_same.1) }
