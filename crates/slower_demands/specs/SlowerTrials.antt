-- Document 01's Line and Fork, and the zero-second junction, with one road slower, worked by the definitions: one table, and one theorem that each comes out
-- as it should. Assumes nothing.
use Rattle.std.specs.Prelude.{ℕ, ◌≡◌, refl, true, List, [], ◌∷◌}
use Rattle.model.specs.Lists.{all}
use Rattle.model.specs.Bytes.{Bytes}
use Rattle.model.specs.Oracle.{oracle}
use Rattle.model.specs.Query.{time_answer}
use Rattle.model.specs.Rules.{first_broken, accept_rules}
use Rattle.model.specs.Trials.{line, fork, fork_without4, junction, usual, told, Trial, ◌⇒◌, holds}
use Rattle.model.specs.Compute.{computed}
use Rattle.model.specs.declared.Kind.TheVariants.{Far, Local}
use Rattle.model.specs.declared.Answer.TheVariants.{Time, None}
use Rattle.slower_demands.specs.Raised.{raised_body, raised}

-- From s to t over the oracle of f under g.
time : Bytes → ℕ → ℕ → ℕ → List ℕ
time f g s t = told (time_answer (oracle f (usual g)) s t)

pub trials : List Trial
trials =
    let open_fork = fork [] in
    -- k of 0 leaves every byte as it is.
    (raised line 1 0 ⇒ line) ∷
    -- Line with road 0 slower by 5: 0 to 2 rises by all of it, also where the other grid makes the pair local; 1 to 2 stays.
    (time line 6 0 2 ⇒ told (Time 16 2 Far 1)) ∷
    (time (raised line 0 5) 6 0 2 ⇒ told (Time 21 2 Far 1)) ∷
    (time (raised line 0 5) 1 0 2 ⇒ told (Time 21 2 Local 0)) ∷
    (time (raised line 0 5) 1 1 2 ⇒ told (Time 9 1 Local 0)) ∷
    -- Fork with road 0 slower: 0 to 4 has another way that is as quick, and 0 to 1 rises by 10 at the most, as it can go round.
    (time (raised open_fork 0 5) 6 0 4 ⇒ told (Time 11 3 Far 1)) ∷
    (time open_fork 6 0 1 ⇒ told (Time 5 1 Local 0)) ∷
    (time (raised open_fork 0 5) 6 0 1 ⇒ told (Time 10 1 Local 0)) ∷
    (time (raised open_fork 0 20) 6 0 1 ⇒ told (Time 15 3 Local 0)) ∷
    -- 'None' stays 'none', here far and there local.
    (time fork_without4 6 0 4 ⇒ told (None Far 0)) ∷
    (time (raised fork_without4 2 7) 1 0 4 ⇒ told (None Local 0)) ∷
    -- Junction: its road of 0 seconds takes 1.
    (time junction 6 0 3 ⇒ told (Time 16 3 Far 1)) ∷
    (time (raised junction 1 1) 6 0 3 ⇒ told (Time 17 3 Far 1)) ∷
    -- Up to 100,000 seconds the network is accepted; one more gives 6.
    (first_broken (accept_rules (raised line 0 99_993) (usual 6)) ∷ [] ⇒ 0 ∷ []) ∷
    (first_broken (accept_rules (raised line 0 99_994) (usual 6)) ∷ [] ⇒ 6 ∷ []) ∷
    []

-- Every trial holds.
pub trials_hold : all holds trials ≡ true
unfolding trials holds time told ◌⇒◌ line fork fork_without4 junction raised_body raised computed
trials_hold = refl
