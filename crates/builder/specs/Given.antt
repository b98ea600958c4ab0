-- The rules of building before the last, and what the last one leaves. Assumes nothing.
use Rattle.std.specs.Prelude.{ℕ, ◌≡◌, cond, List, [], ◌∷◌, ◌++◌, length}
use Rattle.model.specs.Bytes.{Bytes}
use Rattle.model.specs.Oracle.{oracle}
use Rattle.model.specs.Rules.{Rule, rule, accept_rules, work_too_small, output_too_small}
use Rattle.model.specs.Calls.{built_after, output_after}
use Rattle.model.specs.declared.Built.{Built}
use Rattle.model.specs.declared.Division.{Division}

-- Rules 1 to 8, and 14.
unfoldable pub work_rules : Bytes → Division → ℕ → List Rule
work_rules f dv words = accept_rules f dv ++ (rule 14 (work_too_small f words) ∷ [])

-- 15 where the output is too short for the whole oracle, else 0.
unfoldable pub room_rule : Bytes → Division → ℕ → ℕ
room_rule f dv room = cond (output_too_small (length (oracle f dv)) room) 15 0

-- What building that no rule before 15 sends back hands back and writes.
pub record BuildGiven (f : Bytes) (dv : Division) (out : Bytes) (r : Built) (out' : Bytes) : Type 0 where
  pub result : r ≡ built_after (room_rule f dv (length out)) f dv
  pub bytes : out' ≡ output_after (room_rule f dv (length out)) (oracle f dv) out
