-- Checks made one after the other, as a function that hands on what each found proves them: the laws that its goals need, as one set. Assumes nothing.
use Rattle.std.specs.Prelude.{ℕ, Ok, Err, ◌≡◌, refl, Bool, cond, List, [], ◌∷◌}
use Rattle.model.specs.Rules.{Rule, rule, first_broken}
use Rattle.theory.specs.Firsts.{first_append, first_stays}
use Rattle.rules.specs.Refusals.{number_of, refused}
use Rattle.rules.specs.declared.refusal.Refusal.{Refusal}
use Rattle.rules.specs.declared.refusal.Refusal.TheVariants.{Contents, Bodies, Nodes, Coordinates, Edges, SomeEdge, Closed, Grid, Transit, Access, Table}
use Rattle.rules.specs.declared.refusal.Refusal.TheVariants.{NoSuchNode, LocalPair, WorkTooSmall, OutputTooSmall, DiffersFromBuilt, ListSize, Sheet, NoSuchEdge, TooSlow, ClosedListed}
use Rattle.rules.proofs.Refusals.{is_a_rule}

pub found_none : (u : Unit) → refused (Ok u) ≡ 0
unfolding refused
found_none u = refl

pub found_rule : (r : Refusal) → refused (Err r) ≡ number_of r
unfolding refused
found_rule r = refl

pub first_of_none : first_broken [] ≡ 0
unfolding first_broken
first_of_none = refl

pub first_of_rule : (k : ℕ) (b : Bool) (rs : List Rule) → first_broken (rule k b ∷ rs) ≡ cond b k (first_broken rs)
unfolding first_broken
first_of_rule k b rs = refl

pub contents : number_of Contents ≡ 1
unfolding number_of
contents = refl

pub bodies : number_of Bodies ≡ 2
unfolding number_of
bodies = refl

pub nodes : number_of Nodes ≡ 3
unfolding number_of
nodes = refl

pub coordinates : number_of Coordinates ≡ 4
unfolding number_of
coordinates = refl

pub edges : number_of Edges ≡ 5
unfolding number_of
edges = refl

pub some_edge : number_of SomeEdge ≡ 6
unfolding number_of
some_edge = refl

pub closed : number_of Closed ≡ 7
unfolding number_of
closed = refl

pub grid : number_of Grid ≡ 8
unfolding number_of
grid = refl

pub transit : number_of Transit ≡ 9
unfolding number_of
transit = refl

pub access : number_of Access ≡ 10
unfolding number_of
access = refl

pub table : number_of Table ≡ 11
unfolding number_of
table = refl

pub no_such_node : number_of NoSuchNode ≡ 12
unfolding number_of
no_such_node = refl

pub local_pair : number_of LocalPair ≡ 13
unfolding number_of
local_pair = refl

pub work_too_small : number_of WorkTooSmall ≡ 14
unfolding number_of
work_too_small = refl

pub output_too_small : number_of OutputTooSmall ≡ 15
unfolding number_of
output_too_small = refl

pub differs_from_built : number_of DiffersFromBuilt ≡ 16
unfolding number_of
differs_from_built = refl

pub list_size : number_of ListSize ≡ 17
unfolding number_of
list_size = refl

pub sheet : number_of Sheet ≡ 18
unfolding number_of
sheet = refl

pub no_such_edge : number_of NoSuchEdge ≡ 19
unfolding number_of
no_such_edge = refl

pub too_slow : number_of TooSlow ≡ 20
unfolding number_of
too_slow = refl

pub closed_listed : number_of ClosedListed ≡ 21
unfolding number_of
closed_listed = refl

pub ruleset numbers = (contents, bodies, nodes, coordinates, edges, some_edge, closed, grid, transit, access, table, no_such_node, local_pair, work_too_small, output_too_small, differs_from_built, list_size, sheet, no_such_edge, too_slow, closed_listed)

pub ruleset in_order = (is_a_rule, found_none, found_rule, first_of_none, first_of_rule, first_append, first_stays, numbers)
