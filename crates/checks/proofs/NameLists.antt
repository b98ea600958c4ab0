-- Lists of named nodes: rule 12, as the code tests it, and what it gives when it is kept. Assumes nothing.
use Prim.Native.Nat.{ℕ, ◌<◌}
use native.Mathlib.Omega.{arith}
use mathlib.Core.Path.{◌≡◌, refl, sym, ◌∙◌}
use mathlib.Core.Bool.{Bool, true, false, ◌||◌}
use mathlib.Core.List.{List, [], ◌∷◌, ◌++◌}
use lib.ListN.{length, get_or}
use lib.Dec.{leb}
use borrow.Author.Tests.{leb-false}
use Rattle.model.specs.Lists.{any}
use Rattle.model.specs.Bytes.{Bytes}
use Rattle.model.specs.Contents.{node_body}
use Rattle.model.specs.Network.{node_count}
use Rattle.model.specs.Rules.{first_broken, network_rules, shape_rules, well_shaped, no_such_node}
use Rattle.theory.specs.Firsts.{counted, split}
use Rattle.theory.specs.Members.{get_d_mem, none_any}
use Rattle.theory.specs.Passed.{shape_counted, or-false}
use Rattle.checks.specs.RuleLists.{named_rules}
use Rattle.checks.proofs.RulesKept.{shaped, checked}

module _ (p : ℕ → Bool) where
  any_append : (a b : List ℕ) → any p (a ++ b) ≡ any p a || any p b
  unfolding any
  any_append [] b = refl
  any_append (x ∷ a) b = step (p x) (any_append a b)
    where
      step : (q : Bool) → any p (a ++ b) ≡ any p a || any p b → q || any p (a ++ b) ≡ (q || any p a) || any p b
      step true e = refl
      step false e = e

-- ---- rule 12, of n nodes
module _ (o : Bytes) (n : ℕ) (e : n ≡ node_count (node_body o)) where
  pub missing_is : (u : ℕ) → leb n u ≡ no_such_node o u
  unfolding no_such_node
  missing_is u = rw e

  pub some_missing : (names : List ℕ) → any (leb n) names ≡ any (no_such_node o) names
  unfolding no_such_node
  some_missing names = rw e

pub named_counted : (o : Bytes) (names : List ℕ) → counted (named_rules o names) ≡ true
unfolding named_rules counted shape_rules network_rules
named_counted o names = refl

-- ---- two lists
module _ (o : Bytes) (starts ends : List ℕ) where
  pub two_lists : any (no_such_node o) (starts ++ ends) ≡ any (no_such_node o) starts || any (no_such_node o) ends
  two_lists = any_append (no_such_node o) starts ends

-- What the checks of nodes that are named in lists need beside.
pub ruleset named = (checked, some_missing, two_lists, named_counted)

pub record NamedKept (o : Bytes) (starts ends : List ℕ) : Type 0 where
  pub shape : well_shaped o ≡ true
  pub firsts : any (no_such_node o) starts ≡ false
  pub seconds : any (no_such_node o) ends ≡ false

pub named_kept : (o : Bytes) (starts ends : List ℕ) → first_broken (named_rules o (starts ++ ends)) ≡ 0 → NamedKept o starts ends
unfolding named_rules
named_kept o starts ends h =
    let p = split (shape_rules o) 12 (any (no_such_node o) (starts ++ ends)) (shape_counted o) (omega arith) h in
    let q = or-false (any (no_such_node o) starts) (any (no_such_node o) ends) (sym (any_append (no_such_node o) starts ends) ∙ p.1) in
    record { shape = shaped o p.0; firsts = q.0; seconds = q.1 }

-- Each name is a node.
module _ (o : Bytes) (names : List ℕ) (i : ℕ) (h : i < length names) where
  pub named_there : any (no_such_node o) names ≡ false → get_or names i 0 < node_count (node_body o)
  unfolding no_such_node
  named_there e = leb-false (node_count (node_body o)) (get_or names i 0) (none_any (no_such_node o) names e (get_d_mem names i 0 h))
