-- Laws of the calls' contracts, for the demands. Assumes nothing.
use Rattle.std.specs.Prelude.{ℕ, ◌≤◌, ◌<◌, ◌≡◌, refl, ◌↔◌, Bool, true, false, cond, length, take, drop, eqb}
use Rattle.std.proofs.Common.{arith, ◌∙◌}
use Rattle.std.proofs.Math.Decide.{ℕ_discrete}
use Rattle.std.proofs.Math.Path.{sym}
use mathlib.Core.List.{List, [], ◌∷◌, ◌++◌, map, Memᴰ}
use Rattle.std.proofs.Math.Seq.{take-append_seam, drop-append_seam}
use borrow.Author.Tests.{eqb-true, eq-eqb, le-ltb}
use Rattle.model.specs.Lists.{any, member, up_to}
use Rattle.model.specs.Bytes.{Bytes}
use Rattle.model.specs.Grid.{Cell}
use Rattle.model.specs.Network.{network, order, distance}
use Rattle.model.specs.Access.{access_nodes, transit_nodes}
use Rattle.model.specs.Oracle.{oracle, transit_of}
use Rattle.model.specs.Query.{rule_of, kind_between, answer_of, time_answer, far_answer, local_answer}
use Rattle.model.specs.Rules.{Rule, rule, first_broken, accept_rules, build_rules, accepted, words_needed, work_too_small, output_too_small, network_rules}
use Rattle.model.specs.Calls.{clears, cleared, work_after, output_after, answer_after, build_refusal, built_after, route_after}
use Rattle.model.specs.declared.Division.{Division}
use Rattle.model.specs.declared.Kind.{Kind}
use Rattle.model.specs.declared.Kind.TheVariants.{Far, Local}
use Rattle.model.specs.declared.Answer.TheVariants.{Refused}
use Rattle.model.specs.declared.Built.{Built}
use Rattle.model.specs.declared.Route.{Route}
use Rattle.theory.specs.Members.{filter→, →filter, any→, →any, map→, →map, member→, →member, →up_to, range→}
use Rattle.theory.specs.Built.{grid_of, cells_of, count_cells}
use Rattle.theory.specs.Given.{rule_of_law}
use Rattle.theory.specs.Firsts.{counted, first_append, first_stays, goes, none}

-- ---- the number in what a call hands back
pub after : {A : Type 0} (k : ℕ) (number : A → ℕ) (x y : A) → number x ≡ 0 → number y ≡ k → number (cond (eqb k 0) x y) ≡ k
after {A} k number x y p q = step (eqb k 0) refl
  where
    step : (b : Bool) → eqb k 0 ≡ b → number (cond b x y) ≡ k
    step true e = p ∙ sym (eqb-true k 0 e)
    step false e = q

pub built_rule : (k : ℕ) (f : Bytes) (dv : Division) → (built_after k f dv).rule ≡ k
unfolding built_after
built_rule k f dv = after k (λ (b : Built). b.rule) (record { rule = 0; size = length (oracle f dv); transit = length (transit_of f dv) })
    (record { rule = k; size = 0; transit = 0 }) refl refl

pub route_rule : (k : ℕ) (nodes : List ℕ) → (route_after k nodes).rule ≡ k
unfolding route_after
route_rule k nodes = after k (λ (r : Route). r.rule) (record { rule = 0; nodes = length nodes }) (record { rule = k; nodes = 0 }) refl refl

pub time_rule : (k : ℕ) (o : Bytes) (s t : ℕ) → rule_of (answer_after k (time_answer o s t)) ≡ k
unfolding answer_after time_answer
time_rule k o s t = after k rule_of (answer_of (kind_between o s t) o s t) (Refused k) (by_kind (kind_between o s t)) (unfold rule_of in refl)
  where
    by_kind : (kind : Kind) → rule_of (answer_of kind o s t) ≡ 0
    by_kind Far = unfold answer_of far_answer in rule_of_law Far _ _
    by_kind Local = unfold answer_of local_answer in rule_of_law Local _ _

pub far_rule : (k : ℕ) (o : Bytes) (s t : ℕ) → rule_of (answer_after k (far_answer o s t)) ≡ k
unfolding answer_after
far_rule k o s t = after k rule_of (far_answer o s t) (Refused k) (unfold far_answer in rule_of_law Far _ _) (unfold rule_of in refl)

-- ---- what a call with no rule broken leaves
pub words_done : (f : Bytes) (work : List ℕ) → work_after 0 f work ≡ cleared (words_needed f) work
unfolding work_after clears
words_done f work = refl

pub bytes_done : (result out : Bytes) → output_after 0 result out ≡ result ++ drop (length result) out
unfolding output_after
bytes_done result out = refl

-- ---- building
accept_counted : (f : Bytes) (dv : Division) → counted (accept_rules f dv) ≡ true
unfolding accept_rules counted network_rules
accept_counted f dv = refl

module _ (f : Bytes) (dv : Division) (work : List ℕ) (out : Bytes) where
  abbrev two : List Rule
  two = rule 14 (work_too_small f (length work)) ∷ rule 15 (output_too_small (length (oracle f dv)) (length out)) ∷ []

  pub build_kept : accepted f dv ≡ true → words_needed f ≤ length work → length (oracle f dv) ≤ length out → build_refusal f dv work out ≡ 0
  unfolding build_refusal build_rules accepted
  build_kept ok enough room =
      first_append (accept_rules f dv) two (accept_counted f dv) (eqb-true _ _ ok) ∙
      sym (goes 14 _ (unfold work_too_small in le-ltb (length work) (words_needed f) enough)
      (goes 15 [] (unfold output_too_small in le-ltb (length out) (length (oracle f dv)) room) none))

  pub build_accepted : build_refusal f dv work out ≡ 0 → accepted f dv ≡ true
  unfolding build_refusal build_rules accepted
  build_accepted e = eq-eqb (first_broken (accept_rules f dv)) 0 (pick (ℕ_discrete (first_broken (accept_rules f dv)) 0))
    where
      pick : Dec (first_broken (accept_rules f dv) ≡ 0) → first_broken (accept_rules f dv) ≡ 0
      pick (yes q) = q
      pick (no d) = absurd (d (sym (first_stays (accept_rules f dv) two d) ∙ e))

-- What stands at the front of the output, and what stays behind it.
pub front_done : (result out : Bytes) → take (length result) (output_after 0 result out) ≡ result
unfolding output_after
front_done result out = take-append_seam result (drop (length result) out)

pub rest_done : (result out : Bytes) → drop (length result) (output_after 0 result out) ≡ drop (length result) out
unfolding output_after
rest_done result out = drop-append_seam result (drop (length result) out)

-- ---- the access nodes and the transit nodes
pub access_below : (f : Bytes) (dv : Division) (c : Cell) (a : ℕ) → Memᴰ a
    (access_nodes (distance (network f)) (grid_of f dv) (cells_of f dv) (network f).edges c) → a < order (network f)
unfolding access_nodes
access_below f dv c a m = omega (arith, count_cells f dv, range→ 0 (length (cells_of f dv)) a (filter→ _ (up_to (length (cells_of f dv))) m).0)

pub transit_member : (n : ℕ) (lists : Cell → List ℕ) (all : List Cell) → ((c : Cell) (a : ℕ) → Memᴰ a (lists c) → a < n)
    → (a : ℕ) → Memᴰ a (transit_nodes n (map lists all)) ↔ ((c : Cell) × Memᴰ c all × Memᴰ a (lists c))
unfolding transit_nodes
transit_member n lists all below a = (
  λ m.
      let l = any→ (member a) (map lists all) (filter→ (λ x. any (member x) (map lists all)) (up_to n) m).1 in
      let c = map→ lists all l.1 in
      (c.0, c.1, member→ a (lists c.0) (rw (← c.2) l.2)),
  λ (c, i, m). →filter (λ x. any (member x) (map lists all)) (up_to n) (→up_to n a (below c a m))
      (→any (member a) (map lists all) (→map lists all i) (→member a (lists c) m)),
)
