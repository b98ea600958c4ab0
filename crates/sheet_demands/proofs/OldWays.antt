-- Of what `SheetAnswers` states of any well-shaped oracle, the proofs on the old way. Assumes nothing.
use Rattle.std.specs.Prelude.{ℕ, ◌*◌, ◌≤◌, ◌<◌, ◌≡◌, refl, ◌⊎◌, ◌↔◌, Bool, ◌||◌, List, length}
use Rattle.std.proofs.Math.Path.{sym, ap}
use Rattle.std.proofs.Common.{◌∙◌, inl, inr}
use Rattle.std.proofs.Math.Bool.{true, or-true}
use Rattle.model.specs.Lists.{concat_map}
use Rattle.model.specs.Bytes.{Bytes, bytes16}
use Rattle.model.specs.Contents.{node_body}
use Rattle.model.specs.Network.{network, node_count, order, timed_arcs, arcs, distance}
use Rattle.model.specs.Query.{time_answer, way}
use Rattle.model.specs.Rules.{first_broken, well_shaped, words_needed}
use Rattle.model.specs.Calls.{output_after, route_after, TimeCall, way_refusal, WayCall}
use Rattle.model.specs.declared.Kind.{Kind}
use Rattle.model.specs.declared.Answer.{Answer}
use Rattle.model.specs.declared.Answer.TheVariants.{Time, None, Refused}
use Rattle.model.specs.declared.Route.{Route}
use Rattle.theory.specs.Passed.{Sound, all_shaped}
use Rattle.theory.specs.Sound.{count_nodes}
use Rattle.theory.specs.BuiltCalls as plain
use Rattle.demands.specs.DemandLaws as demands
use Rattle.sheet.specs.Sheet.{effects}
use Rattle.sheet.specs.Under.{network_under, still_driven, is_none, old_stands, way_under}
use Rattle.sheet.specs.SheetCalls.{sheet_rules, WayUnderCall}
use Rattle.sheet_demands.specs.SheetOutcomes.{roads, Driven}
use Rattle.sheet_demands.specs.UnderLaws as under
use Rattle.sheet_demands.proofs.DrivenWays.{driven_way}
use Rattle.sheet_demands.specs.SheetLaws as sheets

-- ---- any well-shaped oracle, built or not
module _ (o : Bytes) (shaped : well_shaped o ≡ true) (sheet : Bytes) (s t : ℕ) (hs : s < node_count (node_body o)) (ht : t < node_count (node_body o)) where
  sound : Sound o
  sound = (all_shaped o shaped).sound

  below : t < order (network o)
  below = rw (count_nodes o) ht

  start : s < order (network o)
  start = rw (count_nodes o) hs

  abbrev old_way : List ℕ
  old_way = way (network o) s t

  -- Its every step can still be driven: in keys, as the definition asks it, and in seconds.
  abbrev driven : Bool
  driven = still_driven (λ v. distance (network o) v t) (arcs (network_under (effects sheet) o)) old_way

  abbrev StillDriven : Type 0
  StillDriven = Driven (timed_arcs (network o)) (roads o sheet) old_way

  pub still_driven_law : (driven ≡ true) ↔ StillDriven
  still_driven_law = driven_way (effects sheet) o sound s t start below

  -- The old answer was 'none', or there is an old way and it can still be driven.
  pub stands_just : {words words' : List ℕ} {b : Answer} → TimeCall o s t words b words' → words_needed o ≤ length words
      → (old_stands (effects sheet) o s t ≡ true) ↔
      (((kind : Kind) × (pairs : ℕ) × (b ≡ None kind pairs)) ⊎ StillDriven)
  unfolding old_stands is_none
  stands_just {b = b} query enough = rw e (step (time_answer o s t) driven still_driven_law)
    where
      e : b ≡ time_answer o s t
      e = demands.time_is o shaped s t hs ht query enough

      step : (x : Answer) (c : Bool) → (c ≡ true) ↔ StillDriven
          → (is_none x || c ≡ true) ↔ (((kind : Kind) × (pairs : ℕ) × (x ≡ None kind pairs)) ⊎ StillDriven)
      step x c h = (to x, back)
        where
          to : (y : Answer) → is_none y || c ≡ true → ((kind : Kind) × (pairs : ℕ) × (y ≡ None kind pairs)) ⊎ StillDriven
          to (Time n hops kind pairs) q = inr (h.0 q)
          to (None kind pairs) q = inl (kind, pairs, refl)
          to (Refused r) q = inr (h.0 q)

          back : ((kind : Kind) × (pairs : ℕ) × (x ≡ None kind pairs)) ⊎ StillDriven → is_none x || c ≡ true
          back (inl (kind, pairs, q)) = rw q
          back (inr g) = rw (h.1 g) (or-true (is_none x))

  -- The way under the sheet is the old one where that can still be driven.
  driven_same : StillDriven → way_under (effects sheet) o s t ≡ old_way
  unfolding way_under
  driven_same h = under.way_again (effects sheet) o sound s t start below (still_driven_law.1 h)

  module _ (kept : first_broken (sheet_rules o sheet) ≡ 0) where
    module _ {words words' : List ℕ} {room room' : Bytes} {route : Route} (query : WayUnderCall o sheet s t words room route words' room')
        (enough : words_needed o ≤ length words) (fits : 2 * length (way_under (effects sheet) o s t) ≤ length room) where
      result : route ≡ route_after 0 (way (network_under (effects sheet) o) s t)
      result = sheets.result o shaped sheet s t hs ht kept query enough fits

      bytes : room' ≡ output_after 0 (concat_map bytes16 (way (network_under (effects sheet) o) s t)) room
      bytes = sheets.bytes o shaped sheet s t hs ht kept query enough fits

      -- Where the old way can still be driven, the call does what `way` does.
      pub way_again : Driven (timed_arcs (network o)) (roads o sheet) old_way → {others others' : List ℕ} {plain_room : Bytes} {plain_route : Route}
          → WayCall o s t others room plain_route others' plain_room → words_needed o ≤ length others → (route ≡ plain_route) × (room' ≡ plain_room)
      unfolding way_under
      way_again h {others} old many =
          let e = driven_same h in
          let k : way_refusal o s t others room ≡ 0 = plain.way_kept o shaped s t hs ht others room many (rw (← e) fits) in
          (result ∙ (ap (route_after 0) e ∙ sym (old.result ∙ rw k)), bytes ∙ (ap (λ l. output_after 0 (concat_map bytes16 l) room) e ∙ sym (old.bytes ∙ rw k)))
