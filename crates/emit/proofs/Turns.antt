-- The loops over the members of a set: what is left from node v on. Assumes nothing.
use Prim.Native.Nat.{ℕ, ◌+◌, ◌<◌, ◌≤◌}
use native.Mathlib.Omega.{arith}
use mathlib.Core.Path.{◌≡◌, refl}
use mathlib.Core.Bool.{Bool, true, false, cond}
use mathlib.Core.List.{List, [], ◌∷◌, ◌++◌, append-nil}
use lib.ListN.{length, take-append-drop}
use Rattle.model.specs.Lists.{filter, concat_map}
use Rattle.model.specs.Bytes.{Bytes, splice}
use Rattle.theory.specs.RangeLaws.{rest, rest_all, rest_step, rest_end}
use Rattle.bitset.specs.Bits.{is_in}
use Rattle.bitset.specs.Members.{members_of}
use Rattle.emit.specs.Members.{if_in}
use Rattle.emit.specs.Records.{Wrote, begins, compared}
use Rattle.std.specs.Prelude.{Some}
use Rattle.emit.proofs.Writing.{Then}

-- ---- one node: its record where the set has it

pub fits_in : (s : List ℕ) (v at room : ℕ) (bytes : Bytes) → is_in s v ≡ true → at + length (if_in s v bytes) ≤ room → at + length bytes ≤ room
unfolding if_in
fits_in s v at room bytes e h = rw e at h

module _ (s : List ℕ) (v : ℕ) (old : Bytes) (at : ℕ) (bytes : Bytes) where
  pub wrote_out : is_in s v ≡ false → Wrote old at (if_in s v bytes) at old
  unfolding if_in splice
  wrote_out e =
      let z : at + 0 ≡ at = omega arith in
      record { ends = rw (e, z); spliced = rw (e, z, append-nil, take-append-drop) }

  pub wrote_in : (m : ℕ) (new : Bytes) → is_in s v ≡ true → m ≡ at + length bytes → new ≡ splice at bytes old → Wrote old at (if_in s v bytes) m new
  unfolding if_in
  wrote_in m new e q p = record { ends = rw e q; spliced = rw e p }

  pub compared_out : is_in s v ≡ false → Some at ≡ compared old at (if_in s v bytes)
  unfolding if_in compared begins
  compared_out e = let z : at + 0 ≡ at = omega arith in rw (e, z)

  pub compared_in : is_in s v ≡ true → compared old at bytes ≡ compared old at (if_in s v bytes)
  unfolding if_in
  compared_in e = rw e

-- ---- all nodes

-- f for each member of s from v up to n.
abbrev pub members_from : (ℕ → Bytes) → List ℕ → ℕ → ℕ → Bytes
members_from f s n v = concat_map f (filter (is_in s) (rest v n))

module _ (f : ℕ → Bytes) (s : List ℕ) (n : ℕ) where
  pub members_all : concat_map f (members_of n s) ≡ members_from f s n 0
  unfolding members_of
  members_all = rw (← rest_all n)

  pub members_step : (v : ℕ) → v < n → Then (members_from f s n v) (if_in s v (f v)) (members_from f s n (v + 1))
  unfolding filter if_in
  members_step v h = record { is = rw (rest_step v n h) (pick (is_in s v) (filter (is_in s) (rest (v + 1) n))) }
    where
      pick : (b : Bool) (l : List ℕ) → concat_map f (cond b (v ∷ l) l) ≡ cond b (f v) [] ++ concat_map f l
      pick true l = unfold concat_map in refl
      pick false l = refl

  -- Node v has a record, or none.
  pub member_in : (v : ℕ) → v < n → is_in s v ≡ true → Then (members_from f s n v) (f v) (members_from f s n (v + 1))
  unfolding if_in
  member_in v h e = rw e at (members_step v h)

  pub member_out : (v : ℕ) → v < n → is_in s v ≡ false → members_from f s n v ≡ members_from f s n (v + 1)
  unfolding if_in
  member_out v h e = (rw e at (members_step v h)).is

  pub members_end : (v : ℕ) → n ≤ v → members_from f s n v ≡ []
  unfolding filter concat_map
  members_end v h = rw (rest_end v n h)
