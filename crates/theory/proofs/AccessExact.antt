-- The listed access nodes are exactly those of the paper's words. Assumes nothing.
use Rattle.std.specs.Prelude.{ℕ, ◌+◌, ◌≤◌, ◌<◌, ◌≡◌, ◌↔◌, Bool, ◌&&◌, length}
use native.Mathlib.Omega.{arith}
use Rattle.std.proofs.Math.Path.{subst}
use Rattle.std.proofs.Math.Bool.{true}
use mathlib.Core.List.{List, Memᴰ}
use Rattle.model.specs.Lists.{any, member, up_to}
use Rattle.model.specs.Pair.{Pair, add, hop_base, pair_of, hops_of}
use Rattle.model.specs.Walk.{Least, LeastPair}
use Rattle.model.specs.Network.{Edge, Network, order, timed_arcs, arcs, distance, max_nodes}
use Rattle.model.specs.Grid.{Grid, Cell}
use Rattle.model.specs.Access.{crossings, between, access_nodes}
use Rattle.theory.specs.Tests.{and, both}
use Rattle.theory.specs.Members.{filter→, →filter, any→, →any, member→, →member, →up_to}
use Rattle.theory.specs.Keys.{key_of, key_sum}
use Rattle.theory.specs.PairModel.{least_pair}
use Rattle.theory.proofs.PairLaws.{pair_least}
use Rattle.theory.specs.AccessLaws.{OnLeastPair, OnLeast, AccessNode, between_walks, crossing_node}

module _ (net : Network) (ends : (e : Edge) → Memᴰ e net.edges → (e.first < order net) × (e.second < order net)) where
  pub on_pair : order net ≤ max_nodes → (p q a : ℕ) → p < order net → a < order net → OnLeast (arcs net) p q a ↔ OnLeastPair (timed_arcs net) p q a
  on_pair few p q a hp ha = (
    λ o.
        let b = least_pair net ends few hp a o.before in
        let c = least_pair net ends few ha q o.after in
        let s : hops_of o.i + hops_of o.j < hop_base = omega (arith, few, b.1, c.1) in
        record {
          i = pair_of o.i;
          j = pair_of o.j;
          before = b.0;
          after = c.0;
          whole = subst (λ (x : Pair). LeastPair (timed_arcs net) p q x) (key_sum o.i o.j s) (least_pair net ends few hp q o.whole).0;
        },
    λ o.
        let e : key_of (add o.i o.j) ≡ key_of o.i + key_of o.j = unfold add in omega arith in
        record {
          i = key_of o.i;
          j = key_of o.j;
          before = pair_least net ends few hp a o.before;
          after = pair_least net ends few ha q o.after;
          whole = subst (λ (k : ℕ). Least (arcs net) p q k) e (pair_least net ends few hp q o.whole);
        },
  )

  module _ (few : order net ≤ max_nodes) (grid : Grid) (cs : List Cell) (size : length cs ≡ order net) (c : Cell) (a : ℕ) where
    abbrev ps : List ℕ
    ps = crossings cs net.edges 0 c

    abbrev qs : List ℕ
    qs = crossings cs net.edges grid.outer c

    abbrev inside : List ℕ
    inside = crossings cs net.edges grid.inner c

    abbrev test : ℕ → Bool
    test a = member a inside && any (λ p. any (λ q. between (distance net) p q a) qs) ps

    -- The access nodes of any cell, with nodes or without.
    pub access_exact : Memᴰ a (access_nodes (distance net) grid cs net.edges c) ↔ AccessNode net grid cs c a
    unfolding access_nodes
    access_exact = (
      λ m. found (filter→ test (up_to (length cs)) m).1,
      λ n.
          →filter test (up_to (length cs)) (→up_to (length cs) a (rw size (crossing_node net ends cs grid.inner c n.inner))) (passes n),
    )
      where
        found : test a ≡ true → AccessNode net grid cs c a
        found h =
            let b = both {b = member a inside} h in
            let m = member→ a inside b.0 in
            let p = any→ (λ p. any (λ q. between (distance net) p q a) qs) ps b.1 in
            let q = any→ (λ q. between (distance net) p.0 q a) qs p.2 in
            let hp = crossing_node net ends cs 0 c p.1 in
            let ha = crossing_node net ends cs grid.inner c m in
            record {
              inner = m;
              p = p.0;
              q = q.0;
              start = p.1;
              end = q.1;
              on = (on_pair few p.0 q.0 a hp ha).0 ((between_walks net ends p.0 q.0 a hp ha).0 q.2);
            }

        passes : AccessNode net grid cs c a → test a ≡ true
        passes n =
            let hp = crossing_node net ends cs 0 c n.start in
            let ha = crossing_node net ends cs grid.inner c n.inner in
            and (→member a inside n.inner)
            (→any (λ p. any (λ q. between (distance net) p q a) qs) ps n.start
            (→any (λ q. between (distance net) n.p q a) qs n.end
            ((between_walks net ends n.p n.q a hp ha).1 ((on_pair few n.p n.q a hp ha).1 n.on))))
