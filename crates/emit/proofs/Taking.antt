-- A part that goes to a sink record by record, in terms of what is left. Assumes nothing.
use mathlib.Core.Path.{◌≡◌}
use mathlib.Core.Bool.{Bool, true, false}
use mathlib.Core.List.{[], ◌++◌}
use Rattle.model.specs.Bytes.{Bytes}
use Rattle.emit.specs.Sinks.{SinkLaws}
use Rattle.emit.proofs.Writing.{Then}

-- s has become t, which has room for what is left of the bytes `whole`; what becomes of t by that becomes of s by the whole.
pub record Taking {S : Type 0} (fits : S → Bytes → Type 0) (took : S → Bytes → Bool → S → Type 0) (s : S) (whole : Bytes) (t : S) (rest : Bytes) : Type 0 where
  pub room : fits t rest
  pub last : (r : Bool) (u : S) → took t rest r u → took s whole r u

module _ {S : Type 0} {fits : S → Bytes → Type 0} {took : S → Bytes → Bool → S → Type 0} (laws : SinkLaws fits took) {s : S} {whole : Bytes} where
  pub taking_start : {rest : Bytes} → whole ≡ rest → fits s whole → Taking fits took s whole s rest
  taking_start e f = record { room = rw e at f; last = λ r u p. rw e p }

  pub taking_end : {t : S} {rest : Bytes} → rest ≡ [] → Taking fits took s whole t rest → took s whole true t
  taking_end {t} e l = l.last true t (rw e (laws.nothing t))

  -- Nothing goes there for a while.
  pub taking_same : {t : S} {rest more : Bytes} → rest ≡ more → Taking fits took s whole t rest → Taking fits took s whole t more
  taking_same e l = rw e at l

  module _ {t : S} {rest x more : Bytes} (next : Then rest x more) (l : Taking fits took s whole t rest) where
    room_both : fits t (x ++ more)
    room_both = rw next.is at l.room

    pub taking_fits : {bytes : Bytes} → bytes ≡ x → fits t bytes
    taking_fits e = rw e (laws.front t x more room_both)

    pub taking_next : {u : S} {bytes : Bytes} {r : Bool} → bytes ≡ x → r ≡ true → took t bytes r u → Taking fits took s whole u more
    taking_next {u} e h p =
        let q : took t x true u = rw (← e, ← h) p in record {
          room = laws.back t u x more room_both q;
          last = λ r v w. l.last r v (rw next.is (laws.follows t u v x more r room_both q w));
        }

    pub taking_stop : {u : S} {bytes : Bytes} {r : Bool} → bytes ≡ x → r ≡ false → took t bytes r u → took s whole false u
    taking_stop {u} e h p =
        let q : took t x false u = rw (← e, ← h) p in
        l.last false u (rw next.is (laws.stops t u x more q))
