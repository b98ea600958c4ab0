-- Calls under day sheets, worked by the definitions: one table, and one theorem that each comes out as it should. Assumes nothing.
use Rattle.std.specs.Prelude.{ℕ, ◌≡◌, refl, true, List, [], ◌∷◌, ◌++◌, drop, replicate}
use Rattle.model.specs.Lists.{concat_map, all}
use Rattle.model.specs.Bytes.{Bytes, bytes16, bytes32}
use Rattle.model.specs.Contents.{file, network_edition, oracle_edition, node_body, edge_body, grid_body, transit_body, access_body, table_body}
use Rattle.model.specs.Oracle.{oracle}
use Rattle.model.specs.Calls.{output_after, route_after, time_result}
use Rattle.model.specs.Trials.{line, fork, fork_without4, usual, Trial, ◌⇒◌, holds, told}
use Rattle.model.specs.Compute.{computed}
use Rattle.model.specs.declared.Kind.TheVariants.{Far, Local}
use Rattle.model.specs.declared.Answer.TheVariants.{Time, None, Refused}
use Rattle.sheet.specs.Sheet as sheets
use Rattle.sheet.specs.Under as under
use Rattle.sheet.specs.SheetCalls as calls

-- ---- networks and oracles: document 01's Line and Fork, and three more

-- Line with its second road twice.
doubled : Bytes
doubled =
    file network_edition (concat_map bytes32 (0 ∷ 0 ∷ 30 ∷ 0 ∷ 60 ∷ 0 ∷ [])
    ∷ (concat_map bytes16 (0 ∷ 1 ∷ 7 ∷ 0 ∷ []) ++ concat_map bytes16 (1 ∷ 2 ∷ 9 ∷ 0 ∷ []) ++ concat_map bytes16 (1 ∷ 2 ∷ 9 ∷ 0 ∷ [])) ∷ [] ∷ [])

-- From place 0 to place 2 by one road of 1 second, or by place 1: 2 seconds, and then a road of 0 seconds. Places 1 and 2 lie side by side.
side : Bytes
side =
    file network_edition (concat_map bytes32 (0 ∷ 0 ∷ 30 ∷ 0 ∷ 31 ∷ 0 ∷ [])
    ∷ (concat_map bytes16 (0 ∷ 1 ∷ 2 ∷ 0 ∷ []) ++ concat_map bytes16 (1 ∷ 2 ∷ 0 ∷ 0 ∷ []) ++ concat_map bytes16 (0 ∷ 2 ∷ 1 ∷ 0 ∷ [])) ∷ [] ∷ [])

-- An oracle that was never built: o with the roads of f, so that its lists and its table still go by its own.
unbuilt : Bytes → Bytes → Bytes
unbuilt o f = file oracle_edition (node_body o ∷ edge_body f ∷ [] ∷ grid_body o ∷ transit_body o ∷ access_body o ∷ table_body o ∷ [])

-- ---- sheets
close : ℕ → sheets.Line
close i = record { status = sheets.closed_byte; edge = i; added = 0 }

delay : ℕ → ℕ → sheets.Line
delay i n = record { status = sheets.delayed_byte; edge = i; added = n }

-- A line with another first byte, and a closure with seconds.
odd : ℕ → sheets.Line
odd status = record { status = status; edge = 0; added = 0 }

close_with : ℕ → sheets.Line
close_with n = record { status = sheets.closed_byte; edge = 0; added = n }

-- ---- what is asked, each as a list of numbers
-- The calls, with words enough for five nodes: the time, without a sheet, under any bytes and under these lines ..
words : List ℕ
words = replicate 40 7

plain : Bytes → ℕ → ℕ → List ℕ
plain o s t = told (time_result o s t words)

time_by : Bytes → Bytes → ℕ → ℕ → List ℕ
time_by o sheet s t = told (calls.time_under_result o sheet s t words)

time : Bytes → List sheets.Line → ℕ → ℕ → List ℕ
time o ls s t = time_by o (sheets.sheet_of ls) s t

-- .. and the way: the number of the broken rule, the number of nodes, and an output of 8 bytes afterwards.
route : Bytes → List sheets.Line → ℕ → ℕ → List ℕ
route o ls s t =
    let out : Bytes = replicate 8 7 in
    let sheet = sheets.sheet_of ls in
    let refusal = calls.way_under_refusal o sheet s t words out in
    let nodes = under.way_under (sheets.effects sheet) o s t in
    let r = route_after refusal nodes in
    r.rule ∷ r.nodes ∷ output_after refusal (concat_map bytes16 nodes) out

-- To unfold it is to unfold every definition of crate sheet that the calls go by.
unfoldable pub sheets_computed : Unit {0}
unfolding sheets.line sheets.line_count sheets.lines_in sheets.line_bytes sheets.sheet_file sheets.sheet_of sheets.closes sheets.effect_of sheets.is_about
    sheets.about sheets.last_effect sheets.holds sheets.effects sheets.form_broken sheets.line_broken sheets.sheet_broken sheets.names_none sheets.names_broken
    under.left under.left_of under.edges_under under.network_under under.too_slow under.slow_broken under.still_driven under.is_none under.old_stands
    under.time_under under.way_under calls.sheet_rules calls.pair_under_rules calls.time_under_rules calls.way_under_rules calls.time_under_refusal
    calls.time_under_result calls.way_under_refusal
sheets_computed = tt

-- ---- the table
pub trials : List Trial
trials =
    let line_oracle = oracle line (usual 6) in
    let fork_oracle = oracle (fork []) (usual 6) in
    let without_oracle = oracle fork_without4 (usual 6) in
    let doubled_oracle = oracle doubled (usual 6) in
    let side_oracle = oracle side (usual 1) in
    -- No lines: the old answer, kind and pairs, and the old way.
    (time fork_oracle [] 0 4 ⇒ told (Time 11 3 Far 4)) ∷
    (time fork_oracle [] 0 3 ⇒ told (Time 10 2 Local 0)) ∷
    (route fork_oracle [] 0 4 ⇒ 0 ∷ 4 ∷ 0 ∷ 0 ∷ 1 ∷ 0 ∷ 3 ∷ 0 ∷ 4 ∷ 0 ∷ []) ∷
    -- A closure on the old way 0, 1, 3, 4: the other way is as quick, but was searched for.
    (time fork_oracle (close 0 ∷ []) 0 4 ⇒ told (Time 11 3 Local 0)) ∷
    (route fork_oracle (close 0 ∷ []) 0 4 ⇒ 0 ∷ 4 ∷ 0 ∷ 0 ∷ 2 ∷ 0 ∷ 3 ∷ 0 ∷ 4 ∷ 0 ∷ []) ∷
    -- A second more on it does the same. On the last road there is no other way: 12.
    (time fork_oracle (delay 0 1 ∷ []) 0 4 ⇒ told (Time 11 3 Local 0)) ∷
    (time fork_oracle (delay 4 1 ∷ []) 0 4 ⇒ told (Time 12 3 Local 0)) ∷
    -- A closure or a delay beside the old way: the old answer stands. So it does with a delay of 0 seconds on it.
    (time fork_oracle (close 1 ∷ []) 0 4 ⇒ told (Time 11 3 Far 4)) ∷
    (time fork_oracle (delay 3 50 ∷ []) 0 4 ⇒ told (Time 11 3 Far 4)) ∷
    (time fork_oracle (delay 0 0 ∷ delay 4 0 ∷ []) 0 4 ⇒ told (Time 11 3 Far 4)) ∷
    -- A closure that leaves no walk: none, and a way of no node. One place twice needs no road.
    (time line_oracle (close 1 ∷ []) 0 2 ⇒ told (None Local 0)) ∷
    (route line_oracle (close 1 ∷ []) 0 2 ⇒ 0 ∷ 0 ∷ 7 ∷ 7 ∷ 7 ∷ 7 ∷ 7 ∷ 7 ∷ 7 ∷ 7 ∷ []) ∷
    (time line_oracle (close 1 ∷ close 0 ∷ []) 1 1 ⇒ told (Time 0 0 Local 0)) ∷
    -- Road 0 has 7 seconds. A delay to 100,000 passes, to 100,001 it gives 20.
    (time line_oracle (delay 0 99_993 ∷ []) 0 1 ⇒ told (Time 100_000 1 Local 0)) ∷
    (time line_oracle (delay 0 99_994 ∷ []) 0 1 ⇒ told (Refused 20)) ∷
    (time line_oracle (delay 0 4_294_967_295 ∷ []) 0 1 ⇒ told (Refused 20)) ∷
    -- A closure holds over a delay, wherever it stands; so for 20, which a delay that does not hold cannot give.
    (time line_oracle (close 0 ∷ delay 0 3 ∷ []) 0 1 ⇒ told (None Local 0)) ∷
    (time line_oracle (delay 0 3 ∷ close 0 ∷ []) 0 1 ⇒ told (None Local 0)) ∷
    (time line_oracle (close 0 ∷ delay 0 3 ∷ close 0 ∷ []) 0 1 ⇒ told (None Local 0)) ∷
    (time line_oracle (delay 0 5 ∷ close 0 ∷ delay 0 3 ∷ []) 0 1 ⇒ told (None Local 0)) ∷
    (route fork_oracle (close 0 ∷ delay 0 0 ∷ []) 0 4 ⇒ 0 ∷ 4 ∷ 0 ∷ 0 ∷ 2 ∷ 0 ∷ 3 ∷ 0 ∷ 4 ∷ 0 ∷ []) ∷
    (time line_oracle (delay 0 99_994 ∷ close 0 ∷ []) 0 1 ⇒ told (None Local 0)) ∷
    (time line_oracle (close 0 ∷ delay 0 99_994 ∷ []) 0 1 ⇒ told (None Local 0)) ∷
    (time line_oracle (close 1 ∷ delay 0 99_994 ∷ []) 0 1 ⇒ told (Refused 20)) ∷
    -- The last of two delays holds; so for 20.
    (time line_oracle (delay 0 5 ∷ delay 0 3 ∷ []) 0 1 ⇒ told (Time 10 1 Local 0)) ∷
    (time line_oracle (delay 0 99_994 ∷ delay 0 1 ∷ []) 0 1 ⇒ told (Time 8 1 Local 0)) ∷
    (time line_oracle (delay 0 1 ∷ delay 0 99_994 ∷ []) 0 1 ⇒ told (Refused 20)) ∷
    -- One of two equal roads side by side is closed: the other serves, and the old answer stands. Both closed: none.
    (time doubled_oracle (close 1 ∷ []) 0 2 ⇒ told (Time 16 2 Far 1)) ∷
    (time doubled_oracle (close 2 ∷ delay 1 4 ∷ []) 0 2 ⇒ told (Time 20 2 Local 0)) ∷
    (time doubled_oracle (close 1 ∷ close 2 ∷ []) 0 2 ⇒ told (None Local 0)) ∷
    -- Of equal seconds the fewer roads (T-07): a second more on the single road, and it is still the way; another, and it is not. A road of 0 seconds may be
    -- delayed, by 0 as by more.
    (time side_oracle [] 0 2 ⇒ told (Time 1 1 Local 0)) ∷
    (time side_oracle (delay 2 1 ∷ []) 0 2 ⇒ told (Time 2 1 Local 0)) ∷
    (route side_oracle (delay 2 1 ∷ []) 0 2 ⇒ 0 ∷ 2 ∷ 0 ∷ 0 ∷ 2 ∷ 0 ∷ 7 ∷ 7 ∷ 7 ∷ 7 ∷ []) ∷
    (time side_oracle (delay 2 2 ∷ []) 0 2 ⇒ told (Time 2 2 Local 0)) ∷
    (route side_oracle (delay 2 2 ∷ []) 0 2 ⇒ 0 ∷ 3 ∷ 0 ∷ 0 ∷ 1 ∷ 0 ∷ 2 ∷ 0 ∷ 7 ∷ 7 ∷ []) ∷
    (time side_oracle (delay 1 0 ∷ []) 1 2 ⇒ told (Time 0 1 Local 0)) ∷
    (time side_oracle (delay 1 5 ∷ close 2 ∷ []) 0 2 ⇒ told (Time 7 2 Local 0)) ∷
    -- Fork without road 4: an old 'none' stays 'none', with its kind and pairs, and no line can be about the road that is left out.
    (time without_oracle [] 3 4 ⇒ told (None Local 0)) ∷
    (time without_oracle (close 0 ∷ []) 0 4 ⇒ told (None Far 0)) ∷
    (time without_oracle (close 0 ∷ delay 0 3 ∷ []) 0 4 ⇒ told (None Far 0)) ∷
    (time without_oracle (delay 4 0 ∷ []) 3 4 ⇒ told (Refused 19)) ∷
    -- 18: a part of a line, a first byte of 0 or 3, a closure with seconds, another edition, a byte after the body, nothing at all.
    (time_by line_oracle (sheets.sheet_file (1 ∷ [])) 0 1 ⇒ told (Refused 18)) ∷
    (time line_oracle (odd 0 ∷ []) 0 1 ⇒ told (Refused 18)) ∷
    (time line_oracle (odd 3 ∷ []) 0 1 ⇒ told (Refused 18)) ∷
    (time line_oracle (close_with 1 ∷ []) 0 1 ⇒ told (Refused 18)) ∷
    (time_by line_oracle (2 ∷ drop 1 (sheets.sheet_of [])) 0 1 ⇒ told (Refused 18)) ∷
    (time_by line_oracle (sheets.sheet_of [] ++ (0 ∷ [])) 0 1 ⇒ told (Refused 18)) ∷
    (time_by line_oracle [] 0 1 ⇒ told (Refused 18)) ∷
    -- 19: Line has no road 2. Of all three rules broken 18 comes first, then 19, then 20; 12 comes before them, and 14 and 15 after.
    (time line_oracle (close 2 ∷ []) 0 1 ⇒ told (Refused 19)) ∷
    (time line_oracle (delay 0 99_994 ∷ close 2 ∷ odd 3 ∷ []) 0 1 ⇒ told (Refused 18)) ∷
    (time line_oracle (delay 0 99_994 ∷ close 2 ∷ []) 0 1 ⇒ told (Refused 19)) ∷
    (time line_oracle (odd 3 ∷ []) 0 3 ⇒ told (Refused 12)) ∷
    (told (calls.time_under_result line_oracle (sheets.sheet_of (close 2 ∷ [])) 0 1 []) ⇒ told (Refused 19)) ∷
    (told (calls.time_under_result line_oracle (sheets.sheet_of (close 1 ∷ [])) 0 1 []) ⇒ told (Refused 14)) ∷
    (calls.way_under_refusal line_oracle (sheets.sheet_of (close 1 ∷ [])) 0 1 words (replicate 3 7) ∷ [] ⇒ 15 ∷ []) ∷
    -- Over an oracle that was never built a far time may have no way. Without a sheet it is answered; under one, even without lines, it is not kept.
    (plain (unbuilt fork_oracle fork_without4) 0 4 ⇒ told (Time 11 3 Far 4)) ∷
    (time (unbuilt fork_oracle fork_without4) [] 0 4 ⇒ told (None Local 0)) ∷
    []

-- Every trial holds.
pub trials_hold : all holds trials ≡ true
unfolding trials holds doubled side unbuilt close delay odd close_with told words plain time_by time route ◌⇒◌ line fork fork_without4
    sheets_computed computed
trials_hold = refl
