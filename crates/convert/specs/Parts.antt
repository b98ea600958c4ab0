-- What is converted, over the bodies, as the code writes it part by part. Assumes nothing.
use Rattle.std.specs.Prelude.{ℕ, ◌*◌, ◌≤◌, ◌≡◌, true, false, cond, List, [], ◌∷◌, ◌++◌, length, leb}
use Rattle.model.specs.Lists.{any, concat_map, rising}
use Rattle.model.specs.Bytes.{Bytes, bytes32, words16}
use Rattle.model.specs.Contents.{file, network_edition, network_entries, edge_body}
use Rattle.model.specs.Network.{node_size, edge_size, max_nodes, max_edges, edge_count}
use Rattle.model.specs.Rules.{Rule, rule, network_rules, output_too_small}
use Rattle.model.specs.Calls.{output_after, size_after}
use Rattle.model.specs.declared.Output.{Output}
use Rattle.sheet.specs.Sheet.{Line, lines_in, line_bytes, sheet_of, sheet_edition, sheet_entries, sheet_kind, sheet_broken, names_broken}
use Rattle.convert.specs.Old.{is_open}
use Rattle.convert.specs.Convert.{edge_record, open_records, is_kept, renumbered, kept_lines}

-- ---- the network

-- Edge i as it stands, where it is open, and else nothing.
unfoldable pub edge_left : Bytes → List ℕ → ℕ → Bytes
edge_left b closed i = cond (is_open closed i) (edge_record b i) []

unfoldable pub network_of : Bytes → Bytes → Bytes → Bytes
network_of nodes edges closed = file network_edition (nodes ∷ open_records edges (words16 closed) ∷ [] ∷ [])

-- What the code asks of the bodies; rules 3, 5 and 7 give it.
pub record OldBodies (nodes edges closed : Bytes) : Type 0 where
  pub few_nodes : length nodes ≤ node_size * max_nodes
  pub few_edges : length edges ≤ edge_size * max_edges
  pub rises : rising (words16 closed) ≡ true
  pub named : any (leb (edge_count edges)) (words16 closed) ≡ false

-- ---- the sheet

-- Where its body stands.
abbrev pub head_size : ℕ
head_size = 11

abbrev pub line_of : ℕ → ℕ → ℕ → Line
line_of status edge added = record { status = status; edge = edge; added = added }

-- A line with its edge's new number, where that edge is open, and else nothing.
unfoldable pub line_left : List ℕ → Line → Bytes
line_left closed l = cond (is_kept closed l) (line_bytes (renumbered closed l)) []

-- The body, and the bytes before a body of this size.
unfoldable pub lines_left : List ℕ → Bytes → Bytes
lines_left closed b = concat_map line_bytes (kept_lines closed (lines_in b))

unfoldable pub sheet_head : ℕ → Bytes
sheet_head size = sheet_edition ∷ (sheet_entries ∷ (sheet_kind ∷ (bytes32 head_size ++ bytes32 size)))

unfoldable pub sheet_left : Bytes → Bytes → Bytes
sheet_left closed b = sheet_of (kept_lines (words16 closed) (lines_in b))

-- ---- rule 15 alone, which is checked last

unfoldable pub room_rule : Bytes → Bytes → ℕ
room_rule result out = cond (output_too_small (length result) (length out)) 15 0

pub record Given (result out : Bytes) (r : Output) (out' : Bytes) : Type 0 where
  pub handed : r ≡ size_after (room_rule result out) result
  pub bytes : out' ≡ output_after (room_rule result out) result out

-- The rules of the sheet's call before it.
unfoldable pub lines_rules : Bytes → Bytes → List Rule
lines_rules f sheet =
    network_rules network_edition network_entries f ++ (rule 18 (sheet_broken sheet) ∷ rule 19 (names_broken (edge_count (edge_body f)) sheet) ∷ [])
