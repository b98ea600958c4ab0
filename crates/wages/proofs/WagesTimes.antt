-- What document 02 promises of the wages sheet (T-04, T-07), over the calls, the part that rests on the order of the rules and on that of the bytes written:
-- that a call succeeds, the times, the number of marked legs and the total. The rest stands in `WagesDemands`, with what the words mean. Assumes nothing.
use Rattle.std.specs.Prelude.{ℕ, ◌+◌, ◌*◌, ◌≤◌, ◌<◌, ◌≡◌, ◌↔◌, true, List, map, length}
use Rattle.model.specs.Lists.{up_to}
use Rattle.model.specs.Bytes.{Bytes, word32, word64}
use Rattle.model.specs.Contents.{node_body}
use Rattle.model.specs.Pair.{seconds_of}
use Rattle.model.specs.Walk.{Walk, Least}
use Rattle.model.specs.Network.{network, node_count, timed_arcs}
use Rattle.model.specs.Oracle.{no_seconds, coded}
use Rattle.model.specs.Query.{distance_of}
use Rattle.model.specs.Rules.{well_shaped, words_needed}
use Rattle.model.specs.Calls.{Build, TimeCall}
use Rattle.model.specs.declared.Answer.{Answer}
use Rattle.model.specs.declared.Built.{Built}
use Rattle.model.specs.declared.Division.{Division}
use Rattle.model.specs.declared.Output.{Output}
use Rattle.demands.specs.Outcomes.{handed}
use Rattle.wages.specs.Wages.{leg, leg_count, marked, total_of, WagesCall}
use Rattle.wages.proofs.TimesLaws as laws

-- ==== The call
module _ {o b : Bytes} {work work' : List ℕ} {out out' : Bytes} {r : Output} (call : WagesCall o b work out r work' out') where
  -- "Wages enters up to 1,000 legs": whole ones between nodes are refused for nothing, where memory and output suffice.
  pub wages_succeeds : well_shaped o ≡ true → ((i : ℕ) → i < leg_count b → ((leg b i).start < node_count (node_body o)) × ((leg b i).end < node_count (node_body o)))
      → length b ≡ 4 * leg_count b → leg_count b ≤ 1000 → words_needed o ≤ length work → 4 * leg_count b + 12 ≤ length out → r.rule ≡ 0
  wages_succeeds = laws.wages_succeeds call

  -- ==== Where nothing is refused
  module _ (given : r.rule ≡ 0) where
    -- "A 32-bit time for each in the order entered ('no walk' marked as in the table)": "each time is the answer for its leg", what `time` hands back for
    -- it, of any words that are enough: its seconds (T-07: "wages .. keep seconds").
    pub time_written : (i : ℕ) → i < leg_count b → {words words' : List ℕ} {a : Answer} → TimeCall o (leg b i).start (leg b i).end words a words'
        → words_needed o ≤ length words → word32 out' (4 * i) ≡ seconds_of (coded (distance_of a))
    time_written = laws.time_written call given

    -- The times written.
    abbrev written : List ℕ
    written = map (λ i. word32 out' (4 * i)) (up_to (leg_count b))

    -- "Then the 32-bit number of legs so marked" ..
    pub marked_written : word32 out' (4 * leg_count b) ≡ marked written
    marked_written = laws.marked_written call given

    -- .. "and the 64-bit total of the others": "the total is the sum of the times written".
    pub total_written : word64 out' (4 * leg_count b + 4) ≡ total_of written
    total_written = laws.total_written call given

-- ==== Over what `build` hands over, for each leg
module _ {f : Bytes} {dv : Division} {work work' : List ℕ} {out out' : Bytes} {r : Built} (call : Build f dv work out r work' out') (done : r.rule ≡ 0)
    {b : Bytes} {words words' : List ℕ} {room room' : Bytes} {sheet : Output} (query : WagesCall (handed r out') b words room sheet words' room')
    (given : sheet.rule ≡ 0) (i : ℕ) (h : i < leg_count b) where
  -- The time written, where it is not marked, is the least seconds over all walks on the network's roads from the leg's start to its end ..
  pub leg_least : (word32 room' (4 * i) ≡ no_seconds → ⊥) → Least (timed_arcs (network f)) (leg b i).start (leg b i).end (word32 room' (4 * i))
  leg_least = laws.leg_least call done query given i h

  -- .. and it is marked 'no walk' exactly where there is none.
  pub leg_none : (word32 room' (4 * i) ≡ no_seconds) ↔ ((n : ℕ) → Walk (timed_arcs (network f)) (leg b i).start (leg b i).end n → ⊥)
  leg_none = laws.leg_none call done query given i h
