-- A well-shaped oracle meets the premises, and what the functions make of its bodies is what the questions ask. Assumes nothing.
use Rattle.std.specs.Prelude.{ℕ, zero, suc, ◌+◌, ◌<◌, ◌≤◌, ◌≡◌, refl, false, [], ◌∷◌, length, take, drop}
use Rattle.std.proofs.Common.{arith, ◌∙◌, ap, length-take, take-take, drop-drop}
use Rattle.std.proofs.Math.Path.{sym}
use Rattle.model.specs.Lists.{Part}
use Rattle.model.specs.Bytes.{Bytes, cut}
use Rattle.model.specs.Contents.{body_part, body, node_body, transit_body, access_body, table_body}
use Rattle.model.specs.Network.{node_count}
use Rattle.model.specs.Oracle.{transit_count, list_part, table_broken}
use Rattle.model.specs.Query.{far_answer, list_span, list_of}
use Rattle.theory.specs.Passed.{Shaped}
use Rattle.tables.specs.Premises.{HasList, far_from}
use Rattle.tables.specs.Entries.{list_within}

-- ---- a part of a part

front : (s k n : ℕ) (l : Bytes) → s + k ≤ n → take k (drop s (take n l)) ≡ take k (drop s l)
front zero k n l h = take-take k n l (omega arith)
front (suc s) k zero l h = absurd (omega arith)
front (suc s) k (suc n) [] h = refl
front (suc s) k (suc n) (x ∷ l) h = front s k n l (omega arith)

-- The part p of the part q of l, counted from the beginning of l.
abbrev inner : Part → Part → Part
inner q p = record { start = q.start + p.start; size = p.size }

cut_cut : (p q : Part) (l : Bytes) → p.start + p.size ≤ length (cut q l) → cut p (cut q l) ≡ cut (inner q p) l
unfolding cut
cut_cut p q l h =
    front p.start p.size q.size (drop q.start l) (omega (arith, length-take q.size (drop q.start l))) ∙
    ap (take p.size) (drop-drop p.start q.start l)

-- ---- the bodies of an oracle that breaks none of rules 1 to 11

module _ (o : Bytes) (shaped : Shaped o) where
  pub has_table : table_broken (transit_count (transit_body o)) (table_body o) ≡ false
  has_table = shaped.table

  module _ (u : ℕ) (below : u < node_count (node_body o)) where
    pub has_list : HasList (transit_count (transit_body o)) (access_body o) u
    has_list = record { nodes = node_count (node_body o); below = below; kept = shaped.access }

    -- The list as a part of the oracle is the list as a part of the access body.
    pub list_of_law : list_of o u ≡ cut (list_part (access_body o) u) (access_body o)
    unfolding list_of list_span body
    list_of_law = sym (cut_cut (list_part (access_body o) u) (body_part o 5) o (unfold list_part in list_within _ _ _ has_list))

-- The far answer of an oracle is that from its access body and its table.
pub far_of : (o : Bytes) (s e : ℕ) → far_answer o s e ≡ far_from (transit_count (transit_body o)) (access_body o) (table_body o) s e
unfolding far_answer
far_of o s e = refl
