-- What document 02 promises of the converter (T-06), over the calls: each statement is about any outcome that keeps the calls' contracts, which are
-- `ConvertCall` for the network and `ConvertSheetCall` for a day sheet. `converted f`, `converted_sheet f sheet` and `new_number` are defined in `convert`,
-- Convert. What an old network said (`old_network`), the oracle that was built from it (`old_oracle`) and the answers over it (`old_time`, `old_way`, and under
-- a sheet `old_time_under`, `old_way_under`) are defined in `convert`, Old. The other words used here are defined in `ConvertOutcomes`. Assumes nothing.
use Rattle.std.specs.Prelude.{ℕ, ◌+◌, ◌*◌, ◌≤◌, ◌<◌, ◌≡◌, refl, true, false, List, [], ◌∷◌, map, length}
use Rattle.std.proofs.Common.{◌∙◌}
use Rattle.std.proofs.Math.Path.{ap}
use Rattle.model.specs.Lists.{any}
use Rattle.model.specs.Bytes.{Bytes}
use Rattle.model.specs.Contents.{node_body, edge_body, closed_body, network_edition, network_entries}
use Rattle.model.specs.Network.{network, node_count, edge, edge_count, closed_listed}
use Rattle.model.specs.Grid.{grid_broken}
use Rattle.model.specs.Oracle.{oracle}
use Rattle.model.specs.Query.{kind_between, time_answer, far_answer, way}
use Rattle.model.specs.Rules.{first_broken, network_rules, plain_rules, accepted, words_needed}
use Rattle.model.specs.Calls.{Build, TimeCall, FarCall, WayCall}
use Rattle.model.specs.declared.Answer.{Answer}
use Rattle.model.specs.declared.Answer.TheVariants.{Refused}
use Rattle.model.specs.declared.Built.{Built}
use Rattle.model.specs.declared.Division.{Division}
use Rattle.model.specs.declared.Kind.TheVariants.{Far, Local}
use Rattle.model.specs.declared.Output.{Output}
use Rattle.model.specs.declared.Route.{Route}
use Rattle.theory.specs.Passed.{Sound}
use Rattle.theory.specs.Whole.{AreBytes}
use Rattle.demands.specs.Outcomes.{handed}
use Rattle.sheet.specs.Sheet.{Effect, lines_in, line_body, effects, sheet_broken, names_broken}
use Rattle.sheet.specs.Under.{network_under, too_slow, slow_broken, time_under, way_under}
use Rattle.sheet.specs.SheetCalls.{TimeUnderCall, WayUnderCall}
use Rattle.convert.specs.Old.{closed_in, is_open, old_network, old_oracle, old_time, old_way, old_under, old_time_under, old_way_under}
use Rattle.convert.specs.Convert.{edge_record, converted, new_number, kept_lines, converted_sheet, convert_rules, convert_refusal, ConvertCall}
use Rattle.convert.specs.Convert.{convert_sheet_rules, convert_sheet_refusal, ConvertSheetCall}
use Rattle.convert.proofs.Counts as counts
use Rattle.convert_demands.specs.ConvertOutcomes.{KeepsSeven, Writes, written, WritesNodes}
use Rattle.convert_demands.specs.Converted as same
use Rattle.convert_demands.specs.OldOracles as old
use Rattle.convert_demands.specs.ConvertedSheets as sheets
use Rattle.convert_demands.specs.ConvertLaws as laws
use Rattle.convert_demands.specs.UnderSheets as under

-- ==== The rules

-- "21 .. directly after 7, in every call but this converter"; "Network and sheet are two calls; the sheet's adds 18 and 19 after 7"; "any later call that
-- writes output has 15 as its last check".
pub convert_order : (f : Bytes) (room : ℕ) → map (λ r. r.number) (convert_rules f room) ≡ 1 ∷ 2 ∷ 3 ∷ 4 ∷ 5 ∷ 6 ∷ 7 ∷ 15 ∷ []
unfolding convert_rules network_rules
convert_order f room = refl

pub sheet_order : (f sheet : Bytes) (room : ℕ)
    → map (λ r. r.number) (convert_sheet_rules f sheet room) ≡ 1 ∷ 2 ∷ 3 ∷ 4 ∷ 5 ∷ 6 ∷ 7 ∷ 18 ∷ 19 ∷ 15 ∷ []
unfolding convert_sheet_rules network_rules
sheet_order f sheet room = refl

-- What each call hands back and writes, for every input.
pub convert_writes : {f out out' : Bytes} {r : Output} → ConvertCall f out r out' → Writes (convert_rules f (length out)) (converted f) r out out'
unfolding convert_refusal
convert_writes {f} {out} call =
    let p = laws.parts (convert_rules f (length out)) (converted f) out call.result call.bytes in
    record { first = p.0; no_size = p.1; untouched = p.2; size = p.3; bytes = p.4 }

pub sheet_writes : {f sheet out out' : Bytes} {r : Output} → ConvertSheetCall f sheet out r out'
    → Writes (convert_sheet_rules f sheet (length out)) (converted_sheet f sheet) r out out'
unfolding convert_sheet_refusal
sheet_writes {f} {sheet} {out} call =
    let p = laws.parts (convert_sheet_rules f sheet (length out)) (converted_sheet f sheet) out call.result call.bytes in
    record { first = p.0; no_size = p.1; untouched = p.2; size = p.3; bytes = p.4 }

-- An old network that keeps 1 to 7 is converted where the output has room, and so is a sheet that keeps 18 and 19 over it.
pub convert_succeeds : {f out out' : Bytes} {r : Output} → ConvertCall f out r out' → KeepsSeven f → length (converted f) ≤ length out → r.rule ≡ 0
convert_succeeds = laws.convert_succeeds

pub sheet_succeeds : {f sheet out out' : Bytes} {r : Output} → ConvertSheetCall f sheet out r out' → KeepsSeven f → sheet_broken sheet ≡ false
    → names_broken (edge_count (edge_body f)) sheet ≡ false → length (converted_sheet f sheet) ≤ length out → r.rule ≡ 0
sheet_succeeds = laws.sheet_succeeds

-- ==== "A converter takes an old network, leaves out its closed roads and gives each remaining road its old number less the closed ones before it."
module _ (f : Bytes) (keeps : KeepsSeven f) where
  sound : Sound f
  sound = (laws.kept f keeps).sound

  -- The same places, and the same open roads in order.
  pub same_network : network (converted f) ≡ old_network f
  same_network = same.same_network f sound

  -- The road that had number i, if open, has its new number, byte for byte. New numbers stand in the old order, and each below the new count is taken ..
  module _ (i : ℕ) (h : i < edge_count (edge_body f)) (o : is_open (closed_in f) i ≡ true) where
    pub road_renumbered : edge (edge_body (converted f)) (new_number (closed_in f) i) ≡ edge (edge_body f) i
    road_renumbered =
        let (below, at) = same.place f sound i h o in
        same.edge_at f sound (new_number (closed_in f) i) below ∙ ap (edge (edge_body f)) at

    pub bytes_renumbered : edge_record (edge_body (converted f)) (new_number (closed_in f) i) ≡ edge_record (edge_body f) i
    bytes_renumbered = same.record_renumbered f sound i h o

    pub number_below : new_number (closed_in f) i < edge_count (edge_body (converted f))
    number_below = same.number_below f sound i h o

    pub number_rises : (k : ℕ) → i < k → new_number (closed_in f) i < new_number (closed_in f) k
    number_rises k l = counts.new_less (closed_in f) (same.rises f sound) i k o l

  pub number_taken : (j : ℕ) → j < edge_count (edge_body (converted f))
      → (i : ℕ) × (i < edge_count (edge_body f)) × (is_open (closed_in f) i ≡ true) × (new_number (closed_in f) i ≡ j)
  number_taken = same.number_taken f sound

  -- .. which is the old one less the closed roads. Each of these had 8 bytes, and 2 in body 3.
  pub roads_left : edge_count (edge_body (converted f)) + length (closed_in f) ≡ edge_count (edge_body f)
  roads_left = same.counts f sound

  pub bytes_left : length (converted f) + 10 * length (closed_in f) ≡ length f
  bytes_left = same.shorter f (laws.kept f keeps).bodies sound

  -- The result keeps every rule of a network, 21 too ("body 3 .. remains and must be empty"), so it is accepted under each grid.
  pub result_keeps : first_broken (plain_rules network_edition network_entries (converted f)) ≡ 0
  result_keeps = same.no_rule f sound

  pub result_accepted : (dv : Division) → grid_broken dv.g ≡ false → accepted (converted f) dv ≡ true
  result_accepted = same.accepted_new f sound

  -- Converting twice is converting once, and a network whose body 3 is empty already stays as it is.
  pub twice_once : converted (converted f) ≡ converted f
  twice_once = same.twice f sound

  pub unchanged : AreBytes f → closed_listed (closed_body f) ≡ false → converted f ≡ f
  unchanged are plain = same.unchanged f are (laws.kept f keeps).contents (laws.kept f keeps).bodies sound plain

-- ==== What is called old above and below is no misquotation: where body 3 is empty it is what is said and answered today.
module _ (f : Bytes) (plain : closed_listed (closed_body f) ≡ false) where
  pub network_as_before : old_network f ≡ network f
  network_as_before = old.network_before f plain

  pub under_as_before : (effect : ℕ → Effect) → old_under effect f ≡ network_under effect f
  under_as_before = old.under_before f plain

  pub oracle_as_before : (dv : Division) → old_oracle f dv ≡ oracle f dv
  oracle_as_before = old.oracle_before f plain

module _ (o : Bytes) (plain : closed_listed (closed_body o) ≡ false) (s t : ℕ) where
  pub time_as_before : old_time o s t ≡ time_answer o s t
  time_as_before = old.time_before o plain s t

  pub way_as_before : old_way o s t ≡ way (network o) s t
  way_as_before = old.way_before o plain s t

  pub time_under_as_before : (effect : ℕ → Effect) → old_time_under effect o s t ≡ time_under effect o s t
  time_under_as_before = old.time_under_before o plain s t

  pub way_under_as_before : (effect : ℕ → Effect) → old_way_under effect o s t ≡ way_under effect o s t
  way_under_as_before = old.way_under_before o plain s t

-- ==== "Every time and way over the result equals the old one under each grid", kind and pairs included

-- By the definitions ..
module _ (f : Bytes) (keeps : KeepsSeven f) (dv : Division) (grid : grid_broken dv.g ≡ false) (s t : ℕ) where
  pub time_equals : time_answer (oracle (converted f) dv) s t ≡ old_time (old_oracle f dv) s t
  time_equals = old.time_same f (sound f keeps) dv grid s t

  pub way_equals : way (network (oracle (converted f) dv)) s t ≡ old_way (old_oracle f dv) s t
  way_equals = old.way_same f (sound f keeps) dv grid s t

-- .. and over the calls: what the converter writes is built under any grid, and what `build` hands over is asked.
module _ {f out out' : Bytes} {r : Output} (call : ConvertCall f out r out') (done : r.rule ≡ 0)
    {dv : Division} {work work' : List ℕ} {room room' : Bytes} {b : Built} (build : Build (written r out') dv work room b work' room') (made : b.rule ≡ 0)
    (s t : ℕ) (hs : s < node_count (node_body f)) (ht : t < node_count (node_body f)) where
  pub time_old : {words words' : List ℕ} {a : Answer} → TimeCall (handed b room') s t words a words' → words_needed f ≤ length words
      → a ≡ old_time (old_oracle f dv) s t
  time_old = laws.time_old call done build made s t hs ht

  pub far_old : {a : Answer} → FarCall (handed b room') s t a → kind_between (old_oracle f dv) s t ≡ Far → a ≡ far_answer (old_oracle f dv) s t
  far_old = laws.far_old call done build made s t hs ht

  pub far_local : {a : Answer} → FarCall (handed b room') s t a → kind_between (old_oracle f dv) s t ≡ Local → a ≡ Refused 13
  far_local = laws.far_local call done build made s t hs ht

  pub way_old : {words words' : List ℕ} {place place' : Bytes} {route : Route} → WayCall (handed b room') s t words place route words' place'
      → words_needed f ≤ length words → 2 * length (old_way (old_oracle f dv) s t) ≤ length place → WritesNodes (old_way (old_oracle f dv) s t) route place place'
  way_old = laws.way_old call done build made s t hs ht

-- ==== "It also renumbers a day sheet and drops its lines about removed roads." A sheet is any bytes; each is below 256.
module _ (f : Bytes) (keeps : KeepsSeven f) (sheet : Bytes) (are : AreBytes sheet) where
  -- The lines kept are those about open roads, in their order, and do to a road what they did.
  pub lines_kept : lines_in (line_body (converted_sheet f sheet)) ≡ kept_lines (closed_in f) (lines_in (line_body sheet))
  lines_kept = sheets.lines_same f (sound f keeps) sheet are

  pub effect_renumbered : (i : ℕ) → is_open (closed_in f) i ≡ true → effects (converted_sheet f sheet) (new_number (closed_in f) i) ≡ effects sheet i
  effect_renumbered = sheets.effect_kept f (sound f keeps) sheet are

  pub roads_same : network_under (effects (converted_sheet f sheet)) (converted f) ≡ old_under (effects sheet) f
  roads_same = sheets.under_same f (sound f keeps) sheet are

  -- A sheet that keeps 18 and 19 over the old network keeps them over the new one, and it keeps 20 just where no open road was taken over 100,000 seconds.
  pub form_kept : sheet_broken sheet ≡ false → sheet_broken (converted_sheet f sheet) ≡ false
  form_kept = sheets.form_kept f (sound f keeps) sheet are

  pub names_kept : names_broken (edge_count (edge_body f)) sheet ≡ false → names_broken (edge_count (edge_body (converted f))) (converted_sheet f sheet) ≡ false
  names_kept = sheets.names_kept f (sound f keeps) sheet are

  pub slow_same : slow_broken (effects (converted_sheet f sheet)) (converted f) ≡ any too_slow (old_under (effects sheet) f).edges
  slow_same = sheets.slow_same f (sound f keeps) sheet are

  -- Times and ways under the new sheet over the new network are those under the old sheet over the old one.
  module _ (dv : Division) (grid : grid_broken dv.g ≡ false) (s t : ℕ) where
    pub time_under_equals : time_under (effects (converted_sheet f sheet)) (oracle (converted f) dv) s t ≡ old_time_under (effects sheet) (old_oracle f dv) s t
    time_under_equals = old.time_under_same f (sound f keeps) dv grid s t (effects (converted_sheet f sheet)) (effects sheet) roads_same

    pub way_under_equals : way_under (effects (converted_sheet f sheet)) (oracle (converted f) dv) s t ≡ old_way_under (effects sheet) (old_oracle f dv) s t
    way_under_equals = old.way_under_same f (sound f keeps) dv grid s t (effects (converted_sheet f sheet)) (effects sheet) roads_same

-- The same over the calls, where no open road was over the limit: network and sheet are converted, an oracle is built, and it is asked under the new sheet.
module _ {f out out' : Bytes} {r : Output} (call : ConvertCall f out r out') (done : r.rule ≡ 0)
    {sheet page page' : Bytes} {q : Output} (second : ConvertSheetCall f sheet page q page') (done_too : q.rule ≡ 0) (are : AreBytes sheet)
    {dv : Division} {work work' : List ℕ} {room room' : Bytes} {b : Built} (build : Build (written r out') dv work room b work' room') (made : b.rule ≡ 0)
    (limit : any too_slow (old_under (effects sheet) f).edges ≡ false)
    (s t : ℕ) (hs : s < node_count (node_body f)) (ht : t < node_count (node_body f)) where
  pub time_under_old : {words words' : List ℕ} {a : Answer} → TimeUnderCall (handed b room') (written q page') s t words a words'
      → words_needed f ≤ length words → a ≡ old_time_under (effects sheet) (old_oracle f dv) s t
  time_under_old = under.time_under_old call done second done_too are build made limit s t hs ht

  pub way_under_old : {words words' : List ℕ} {place place' : Bytes} {route : Route}
      → WayUnderCall (handed b room') (written q page') s t words place route words' place' → words_needed f ≤ length words
      → 2 * length (old_way_under (effects sheet) (old_oracle f dv) s t) ≤ length place
      → WritesNodes (old_way_under (effects sheet) (old_oracle f dv) s t) route place place'
  way_under_old = under.way_under_old call done second done_too are build made limit s t hs ht
