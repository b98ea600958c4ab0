-- Document 01's Fork with closed roads, converted, and sheets renumbered for it, worked by the definitions: one table, and one theorem that each comes out
-- as it should. Assumes nothing.
use Rattle.std.specs.Prelude.{ℕ, ◌≡◌, refl, true, List, [], ◌∷◌, ◌++◌, length, replicate}
use Rattle.model.specs.Lists.{all}
use Rattle.model.specs.Bytes.{Bytes}
use Rattle.model.specs.Contents.{network_edition, network_entries}
use Rattle.model.specs.Oracle.{oracle}
use Rattle.model.specs.Query.{time_answer, way}
use Rattle.model.specs.Network.{network}
use Rattle.model.specs.Rules.{first_broken, plain_rules}
use Rattle.model.specs.Calls.{output_after, size_after}
use Rattle.model.specs.Trials.{fork, fork_without4, usual, Trial, ◌⇒◌, holds, told}
use Rattle.model.specs.Compute.{computed}
use Rattle.sheet_demands.specs.SheetTrials.{sheets_computed}
use Rattle.model.specs.declared.Kind.TheVariants.{Far, Local}
use Rattle.model.specs.declared.Answer.TheVariants.{Time, None}
use Rattle.sheet.specs.Sheet as sheets
use Rattle.sheet.specs.Under as under
use Rattle.convert.specs.Old as old
use Rattle.convert.specs.Convert as convert

close : ℕ → sheets.Line
close i = record { status = sheets.closed_byte; edge = i; added = 0 }

delay : ℕ → ℕ → sheets.Line
delay i n = record { status = sheets.delayed_byte; edge = i; added = n }

-- A line with a wrong first byte.
odd : sheets.Line
odd = record { status = 3; edge = 0; added = 0 }

-- ---- what is asked, each as a list of numbers
-- The two calls with so much room: the number handed back, the size, and the output afterwards.
network_call : Bytes → ℕ → List ℕ
network_call f room =
    let out : Bytes = replicate room 7 in
    let refusal = convert.convert_refusal f out in
    let r = size_after refusal (convert.converted f) in
    r.rule ∷ r.size ∷ output_after refusal (convert.converted f) out

sheet_call : Bytes → List sheets.Line → ℕ → List ℕ
sheet_call f ls room =
    let sheet = sheets.sheet_of ls in
    let out : Bytes = replicate room 7 in
    let refusal = convert.convert_sheet_refusal f sheet out in
    let r = size_after refusal (convert.converted_sheet f sheet) in
    r.rule ∷ r.size ∷ output_after refusal (convert.converted_sheet f sheet) out

unfoldable pub convert_computed : Unit {0}
unfolding sheets_computed old.closed_in old.is_open old.open_of old.open_in old.old_network old.old_oracle old.old_answer_of old.old_time old.old_way
    old.old_under old.old_stood old.old_time_under old.old_way_under convert.edge_record convert.open_records convert.converted convert.is_before
    convert.new_number convert.is_kept convert.renumbered convert.kept_lines convert.converted_sheet convert.convert_rules convert.convert_sheet_rules
    convert.convert_refusal convert.convert_sheet_refusal size_after
convert_computed = tt

-- ---- the table
pub trials : List Trial
trials =
    let two = fork (1 ∷ 4 ∷ []) in
    let new = convert.converted two in
    let four = fork (4 ∷ []) in
    let without_four = convert.converted four in
    let lines : List sheets.Line = delay 3 7 ∷ close 4 ∷ close 1 ∷ delay 0 9 ∷ close 2 ∷ [] in
    -- Two roads of 8 bytes and their numbers of 2 are left out.
    (length two ∷ length new ∷ [] ⇒ 113 ∷ 93 ∷ []) ∷
    -- 01's closed trial with the road left out: the file is that of Fork without the road, and 0 to 4 is far, none, 0 pairs, as it was.
    (without_four ⇒ fork_without4) ∷
    (told (time_answer (oracle without_four (usual 6)) 0 4) ⇒ told (None Far 0)) ∷
    (told (old.old_time (old.old_oracle four (usual 6)) 0 4) ⇒ told (None Far 0)) ∷
    -- With 1 and 4 closed, 0 to 2 goes round by 1 and 3, before and after.
    (told (time_answer (oracle new (usual 6)) 0 2) ⇒ told (Time 15 3 Local 0)) ∷
    (told (old.old_time (old.old_oracle two (usual 6)) 0 2) ⇒ told (Time 15 3 Local 0)) ∷
    (way (network (oracle new (usual 6))) 0 2 ⇒ 0 ∷ 1 ∷ 3 ∷ 2 ∷ []) ∷
    (old.old_way (old.old_oracle two (usual 6)) 0 2 ⇒ 0 ∷ 1 ∷ 3 ∷ 2 ∷ []) ∷
    -- Roads 0, 2, 3 are now 0, 1, 2; the lines about 1 and 4 are dropped, the others keep their order.
    (convert.converted_sheet two (sheets.sheet_of lines) ⇒ sheets.sheet_of (delay 2 7 ∷ delay 0 9 ∷ close 1 ∷ [])) ∷
    -- Under a delay of road 3 by 7, 0 to 2 takes 22, before and after; read at its old number the line would be about no road.
    (told (under.time_under (sheets.effects (convert.converted_sheet two (sheets.sheet_of (delay 3 7 ∷ [])))) (oracle new (usual 6)) 0 2) ⇒
    told (Time 22 3 Local 0)) ∷
    (told (old.old_time_under (sheets.effects (sheets.sheet_of (delay 3 7 ∷ []))) (old.old_oracle two (usual 6)) 0 2) ⇒ told (Time 22 3 Local 0)) ∷
    -- 21 only for the old network, and only where 7 is kept; the converter has no 21.
    (first_broken (plain_rules network_edition network_entries two) ∷ [] ⇒ 21 ∷ []) ∷
    (first_broken (plain_rules network_edition network_entries new) ∷ [] ⇒ 0 ∷ []) ∷
    (first_broken (convert.convert_rules two 93) ∷ [] ⇒ 0 ∷ []) ∷
    (first_broken (plain_rules network_edition network_entries (fork (5 ∷ []))) ∷ [] ⇒ 7 ∷ []) ∷
    (first_broken (convert.convert_rules (fork (5 ∷ [])) 93) ∷ [] ⇒ 7 ∷ []) ∷
    -- The calls: 93 bytes pass and touch nothing past them, 92 give 15 and are left alone.
    (network_call two 95 ⇒ 0 ∷ 93 ∷ (new ++ (7 ∷ 7 ∷ []))) ∷
    (network_call two 92 ⇒ 15 ∷ 0 ∷ replicate 92 7) ∷
    -- A sheet: 18 before 19 before 15; a line about a closed road names one, a line about a sixth road none.
    (sheet_call two (close 4 ∷ close 0 ∷ []) 20 ⇒ 0 ∷ 18 ∷ (sheets.sheet_of (close 0 ∷ []) ++ (7 ∷ 7 ∷ []))) ∷
    (sheet_call two (close 4 ∷ close 0 ∷ []) 17 ⇒ 15 ∷ 0 ∷ replicate 17 7) ∷
    (sheet_call two (close 5 ∷ []) 0 ⇒ 19 ∷ 0 ∷ []) ∷
    (sheet_call two (odd ∷ close 5 ∷ []) 0 ⇒ 18 ∷ 0 ∷ []) ∷
    []

-- Every trial holds.
pub trials_hold : all holds trials ≡ true
unfolding trials holds close delay odd told network_call sheet_call ◌⇒◌ fork fork_without4 convert_computed computed
trials_hold = refl

-- The converted file is that of Fork without road 4, byte for byte.
pub fork_without : convert.converted (fork (4 ∷ [])) ≡ fork_without4
unfolding fork fork_without4 convert_computed computed
fork_without = refl
