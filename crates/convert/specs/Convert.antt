-- The converter (document 02, T-06): a network whose closed edges are left out, and a day sheet renumbered for it. Assumes nothing.
use Rattle.std.specs.Prelude.{ℕ, ◌-◌, ◌*◌, ◌≡◌, Bool, List, [], ◌∷◌, ◌++◌, map, length, ltb}
use Rattle.model.specs.Lists.{filter, concat_map}
use Rattle.model.specs.Bytes.{Bytes, cut}
use Rattle.model.specs.Contents.{node_body, edge_body, file, network_edition, network_entries}
use Rattle.model.specs.Network.{edge_size, edge_count}
use Rattle.model.specs.Rules.{Rule, rule, first_broken, network_rules, output_too_small}
use Rattle.model.specs.Calls.{output_after, size_after}
use Rattle.model.specs.declared.Output.{Output}
use Rattle.sheet.specs.Sheet.{Line, lines_in, line_body, sheet_of, sheet_broken, names_broken}
use Rattle.convert.specs.Old.{closed_in, is_open, open_of}

-- ---- the network: it "leaves out its closed roads"; body 3 "remains and must be empty"

-- Edge i as it stands in its body.
unfoldable pub edge_record : Bytes → ℕ → Bytes
edge_record b i = cut (record { start = edge_size * i; size = edge_size }) b

-- The open edges as they stand, one after the other.
unfoldable pub open_records : Bytes → List ℕ → Bytes
open_records b closed = concat_map (edge_record b) (open_of closed (edge_count b))

unfoldable pub converted : Bytes → Bytes
converted f = file network_edition (node_body f ∷ open_records (edge_body f) (closed_in f) ∷ [] ∷ [])

-- ---- the sheet: "renumbers a day sheet and drops its lines about removed roads"

-- "Gives each remaining road its old number less the closed ones before it."
unfoldable pub is_before : ℕ → ℕ → Bool
is_before i c = ltb c i

unfoldable pub new_number : List ℕ → ℕ → ℕ
new_number closed i = i - length (filter (is_before i) closed)

unfoldable pub is_kept : List ℕ → Line → Bool
is_kept closed l = is_open closed l.edge

unfoldable pub renumbered : List ℕ → Line → Line
renumbered closed l = record { status = l.status; edge = new_number closed l.edge; added = l.added }

-- In the order in which they stand.
unfoldable pub kept_lines : List ℕ → List Line → List Line
kept_lines closed ls = map (renumbered closed) (filter (is_kept closed) ls)

unfoldable pub converted_sheet : Bytes → Bytes → Bytes
converted_sheet f sheet = sheet_of (kept_lines (closed_in f) (lines_in (line_body sheet)))

-- ---- the rules: 1 to 7 and 15; "the sheet's adds 18 and 19 after 7". 21 is for every call but these

unfoldable pub convert_rules : Bytes → ℕ → List Rule
convert_rules f room = network_rules network_edition network_entries f ++ (rule 15 (output_too_small (length (converted f)) room) ∷ [])

unfoldable pub convert_sheet_rules : Bytes → Bytes → ℕ → List Rule
convert_sheet_rules f sheet room =
    network_rules network_edition network_entries f ++
    (rule 18 (sheet_broken sheet) ∷
    rule 19 (names_broken (edge_count (edge_body f)) sheet) ∷
    rule 15 (output_too_small (length (converted_sheet f sheet)) room) ∷ [])

-- ---- the two calls, which have no working words

unfoldable pub convert_refusal : Bytes → Bytes → ℕ
convert_refusal f out = first_broken (convert_rules f (length out))

pub record ConvertCall (f out : Bytes) (r : Output) (out' : Bytes) : Type 0 where
  pub result : r ≡ size_after (convert_refusal f out) (converted f)
  pub bytes : out' ≡ output_after (convert_refusal f out) (converted f) out

unfoldable pub convert_sheet_refusal : Bytes → Bytes → Bytes → ℕ
convert_sheet_refusal f sheet out = first_broken (convert_sheet_rules f sheet (length out))

pub record ConvertSheetCall (f sheet out : Bytes) (r : Output) (out' : Bytes) : Type 0 where
  pub result : r ≡ size_after (convert_sheet_refusal f sheet out) (converted_sheet f sheet)
  pub bytes : out' ≡ output_after (convert_sheet_refusal f sheet out) (converted_sheet f sheet) out
