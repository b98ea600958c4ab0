-- The loop that finds the least and the greatest coordinate. Assumes nothing.
use Rattle.std.proofs.Common.{◌≡◌, ℕ, ◌+◌, ◌/◌, ◌<◌, ◌≤◌, min, max, List, ◌∷◌, map, length, sym, ◌∙◌}
use Rattle.model.specs.Lists.{least_of, greatest_of, least, greatest}
use Rattle.model.specs.Bytes.{Bytes}
use Rattle.model.specs.Network.{node, nodes, node_count, node_size}
use Rattle.theory.specs.RangeLaws.{rest, rest_all, rest_step, rest_end}
use Rattle.grid.specs.Stored.{along}
use Rattle.grid.specs.declared.span.Axis.{Axis}
use Rattle.grid.specs.declared.span.Span.{Span}

-- The coordinates of all nodes, and of those from node i to node n.
abbrev pub every : Axis → Bytes → List ℕ
every d b = map (along d) (nodes b)

abbrev pub onward : Axis → Bytes → ℕ → ℕ → List ℕ
onward d b i n = map (along d) (map (node b) (rest i n))

-- What s has seen, and xs, have the least and the greatest of ys.
pub record Spans (s : Span) (xs ys : List ℕ) : Type 0 where
  pub low : least ys ≡ least_of s.low xs
  pub high : greatest ys ≡ greatest_of s.high xs

module _ (d : Axis) (b : Bytes) (n : ℕ) where
  every_split : n ≡ length b / node_size → 0 < n → every d b ≡ along d (node b 0) ∷ onward d b 1 n
  unfolding nodes node_count
  every_split e h = rw (← e, rest_all n, rest_step 0 n h)

  pub spans_first : n ≡ length b / node_size → 0 < n → (x : ℕ) → x ≡ along d (node b 0) → Spans (record { low = x; high = x }) (onward d b 1 n) (every d b)
  unfolding least greatest
  spans_first e h x q = record { low = rw (every_split e h, ← q); high = rw (every_split e h, ← q) }

  module _ (i : ℕ) (s t : Span) where
    pub spans_next : i < n → (x : ℕ) → x ≡ along d (node b i) → (t.low ≡ min s.low x) × (t.high ≡ max s.high x) → Spans s (onward d b i n) (every d b)
        → Spans t (onward d b (i + 1) n) (every d b)
    unfolding least_of greatest_of
    spans_next h x q r p = record { low = p.low ∙ rw (rest_step i n h, r.0, q); high = p.high ∙ rw (rest_step i n h, r.1, q) }

    pub spans_end : n ≤ i → Spans s (onward d b i n) (every d b) → (s.low ≡ least (every d b)) × (s.high ≡ greatest (every d b))
    unfolding least_of greatest_of
    spans_end h p = (sym (p.low ∙ rw (rest_end i n h)), sym (p.high ∙ rw (rest_end i n h)))
