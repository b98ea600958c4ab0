-- What is said of the outcome of a call of the converter. Assumes nothing.
use Rattle.std.specs.Prelude.{ℕ, ◌≡◌, List, ◌++◌, length, take, drop}
use Rattle.model.specs.Lists.{concat_map}
use Rattle.model.specs.Bytes.{Bytes, bytes16}
use Rattle.model.specs.Contents.{network_edition, network_entries}
use Rattle.model.specs.Rules.{Rule, first_broken, network_rules}
use Rattle.model.specs.declared.Output.{Output}
use Rattle.model.specs.declared.Route.{Route}
use Rattle.demands.specs.Outcomes.{FirstOf}

-- An old network: it keeps rules 1 to 7. Closed roads may be listed.
abbrev pub KeepsSeven : Bytes → Type 0
KeepsSeven f = first_broken (network_rules network_edition network_entries f) ≡ 0

-- A call that checks these rules and writes this result: refused, it hands back the number of the first rule broken with a size of 0 and writes nothing;
-- else it hands back the result's length, with the result at the front of the output and what stood behind it.
pub record Writes (rules : List Rule) (result : Bytes) (r : Output) (out out' : Bytes) : Type 0 where
  pub first : FirstOf rules r.rule
  pub no_size : (r.rule ≡ 0 → ⊥) → r.size ≡ 0
  pub untouched : (r.rule ≡ 0 → ⊥) → out' ≡ out
  pub size : r.rule ≡ 0 → r.size ≡ length result
  pub bytes : r.rule ≡ 0 → out' ≡ result ++ drop (length result) out

-- What the call hands over: the first bytes of the output, as many as it says.
abbrev pub written : Output → Bytes → Bytes
written r out' = take r.size out'

-- A way call that hands back the number of these nodes and writes them at the front of its output.
pub record WritesNodes (nodes : List ℕ) (route : Route) (out out' : Bytes) : Type 0 where
  pub result : route ≡ record { rule = 0; nodes = length nodes }
  pub bytes : out' ≡ concat_map bytes16 nodes ++ drop (length (concat_map bytes16 nodes)) out
