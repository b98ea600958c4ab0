-- What the rounds of a search keep, and what is found when no reached node is left. Assumes nothing.
use Rattle.std.specs.Prelude.{ℕ, ◌-◌, ◌*◌, ◌≤◌, ◌<◌, ◌≡◌, set, replicate}
use Rattle.std.proofs.Math.Decide.{dec_le}
use Rattle.std.proofs.Common.{zero-add, arith, ◌∙◌}
use Rattle.std.proofs.Math.Path.{sym}
use mathlib.Core.List.{List, [], ◌∷◌, map, Memᴰ}
use Rattle.std.proofs.Math.ListN.{length, length-map}
use Rattle.std.proofs.Math.Seq.{ext_get_or}
use Rattle.model.specs.Lists.{up_to}
use Rattle.model.specs.Walk.{Arc}
use Rattle.model.specs.Distance.{dist}
use Rattle.model.specs.Oracle.{no_walk, coded}
use Rattle.theory.specs.Walks.{Within, Costs}
use Rattle.theory.specs.RangeLaws.{length-range, get_d_map_range}
use Rattle.algorithms.specs.Dijkstra.{at, Nearest, Out, relax_all}
use Rattle.algorithms.specs.Dijkstra.{start_inv}
use Rattle.algorithms.proofs.DijkstraLaws.{settle_inv, finish}
use Rattle.algorithms.specs.Settle.{kept_start}
use Rattle.algorithms.proofs.SettleLaws.{kept_settle}
use Rattle.algorithms.specs.Rounds.{distance_words, Found, zeros_set, zeros_all, State}

pub state_first : (arcs : List Arc) (N s : ℕ) → s < N → State arcs N s (set (replicate N no_walk) s 0) (replicate N 0) []
state_first arcs N s s_in = record { inv = start_inv arcs N s s_in; kept = kept_start N (set (replicate N no_walk) s 0); filled = omega (arith, zeros_all N) }

module _ (arcs : List Arc) (N s : ℕ) (within : Within N arcs) (s_in : s < N) (d done order : List ℕ) (st : State arcs N s d done order) where
  pub state_turn : (u : ℕ) → Nearest N d done u → (out : List Arc) → Out arcs u out → State arcs N s (relax_all (at d u) out d) (set done u 1) (u ∷ order)
  state_turn u near out o = record {
    inv = settle_inv arcs N s within s_in d done st.inv u near out o;
    kept = kept_settle arcs N s within s_in d done st.inv order st.kept u near out o;
    filled = omega (arith, st.filled, zeros_set done u (omega (arith, st.inv.flags, near.inside)) near.fresh);
  }

  -- ---- when every reached node is settled
  module _ (K : ℕ) (costs : Costs K arcs) (small : (N - 1) * K < no_walk) (over : (v : ℕ) → v < N → at done v ≡ 0 → at d v ≡ no_walk) where
    word_exact : (v : ℕ) → v < N → at d v ≡ coded (dist arcs N s v)
    word_exact = finish arcs N s within s_in d done st.inv K costs small over

    words_exact : d ≡ distance_words arcs N s
    unfolding distance_words
    words_exact =
        let size : length (map (λ v. coded (dist arcs N s v)) (up_to N)) ≡ N = length-map (up_to N) (λ v. coded (dist arcs N s v)) ∙ length-range 0 N in
        ext_get_or 0 d (map (λ v. coded (dist arcs N s v)) (up_to N)) (st.inv.words ∙ sym size)
        (λ v h. let i : v < N = omega (arith, st.inv.words) in word_exact v i ∙ sym (get_d_map_range (λ v. coded (dist arcs N s v)) 0 0 N v i ∙ rw zero-add))

    pub state_found : Found arcs N s d order
    state_found = record {
      times = words_exact;
      reached = λ v m. let r = st.kept.settled v m in (r.0, r.2);
      every = λ v i h. pick v i h (dec_le (at done v) 0);
      falls = st.kept.falls;
    }
      where
        pick : (v : ℕ) → v < N → at d v < no_walk → Dec (at done v ≤ 0) → Memᴰ v order
        pick v i h (no n) = st.kept.every v i (omega arith)
        pick v i h (yes z) = let f : at done v ≡ 0 = omega arith in absurd (omega (arith, over v i f))
