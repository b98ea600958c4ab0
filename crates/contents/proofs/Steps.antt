-- One step of reading, and the loop over them. Assumes nothing.
use Prim.Native.Nat.{ℕ, zero, suc, ◌+◌, ◌-◌, ◌<◌, ◌≤◌}
use native.Mathlib.Omega.{arith}
use mathlib.Core.Path.{◌≡◌, refl, sym, ap}
use mathlib.Core.Bool.{Bool, true, false, and-false, cond}
use lib.ListN.{set}
use borrow.Author.Tests.{eq-eqb, ne_eqb}
use Rattle.model.specs.Bytes.{Bytes}
use Rattle.model.specs.Contents.{entry_at, of_its_kind, oracle_entries}
use Rattle.contents.specs.Reading.{held, no_contents, follows, extended, read_next, read_steps, contents_of, InRange}
use Rattle.contents.specs.declared.Entry.{Entry}
use Rattle.contents.specs.declared.Contents.{Contents}

module _ (f : Bytes) where
  pub goes : (c : Contents) → follows f c ≡ true → read_next f c ≡ extended f c
  unfolding read_next
  goes c h = rw h

  pub stays : (c : Contents) → follows f c ≡ false → read_next f c ≡ c
  unfolding read_next
  stays c h = rw h

  -- Reading goes no further than the first entry that does not follow.
  pub stopped : (m : ℕ) (c : Contents) → follows f c ≡ false → read_steps m f c ≡ c
  unfolding read_steps
  stopped zero c h = refl
  stopped (suc m) c h = rw (stays c h) (stopped m c h)

-- What holds of the record with one entry more and as it was, holds after a step.
pub either : (P : Contents → Type 0) (f : Bytes) (c : Contents) → P (extended f c) → P c → P (read_next f c)
unfolding read_next
either P f c e s = pick (follows f c)
  where
    pick : (b : Bool) → P (cond b (extended f c) c)
    pick true = e
    pick false = s

pub count_next : (f : Bytes) (c : Contents) → (read_next f c).count ≤ c.count + 1
unfolding extended
count_next f c = either (λ x. x.count ≤ c.count + 1) f c (omega arith) (omega arith)

-- ---- the ways out of a step that has read entry e

module _ (f : Bytes) (c : Contents) (e : Entry) (is : e ≡ held f c.count) where
  pub by_kind : (e.kind ≡ c.count + 1 → ⊥) → c ≡ read_next f c
  unfolding held follows of_its_kind
  by_kind ne = sym (stays f c (rw (← ap (λ x. x.kind) is, ne_eqb e.kind (c.count + 1) ne)))

  pub by_offset : (e.offset ≡ c.end → ⊥) → c ≡ read_next f c
  unfolding held follows
  by_offset ne = sym (stays f c (rw (← ap (λ x. x.offset) is, ne_eqb e.offset c.end ne) (and-false (of_its_kind f c.count))))

  pub by_both : e.kind ≡ c.count + 1 → e.offset ≡ c.end → record { entries = set c.entries c.count e; count = c.count + 1; end = c.end + e.size } ≡
      read_next f c
  unfolding held follows of_its_kind extended
  by_both k o = rw (goes f c (rw (← ap (λ x. x.kind) is, ← ap (λ x. x.offset) is, eq-eqb e.kind (c.count + 1) k, eq-eqb e.offset c.end o)), is)

-- ---- the loop: the steps that are left make the contents

module _ (f : Bytes) (n : ℕ) where
  pub record Left (i : ℕ) (c : Contents) : Type 0 where
    pub some : i ≤ n
    pub counted : c.count ≤ i
    pub range : InRange c
    pub rest : read_steps (n - i) f c ≡ contents_of n f

  pub left_all : (c : Contents) → n ≤ oracle_entries → c ≡ no_contents n → Left 0 c
  unfolding contents_of no_contents entry_at
  left_all c h e = let z : n - 0 ≡ n = omega arith in record { some = omega arith; counted = rw e (omega arith); range = rw e (omega arith); rest = rw (e, z) }

  pub left_next : (i : ℕ) (c r : Contents) → i < n → Left i c → r ≡ read_next f c → InRange r → Left (i + 1) r
  unfolding read_steps
  left_next i c r h l e q =
      let s : n - i ≡ suc (n - (i + 1)) = omega arith in
      record { some = omega arith; counted = rw e (omega (arith, count_next f c, l.counted)); range = q; rest = rw e (rw s at l.rest) }

  pub left_none : (i : ℕ) (c : Contents) → n ≤ i → Left i c → c ≡ contents_of n f
  unfolding read_steps
  left_none i c h l = let z : n - i ≡ 0 = omega arith in rw z at l.rest
