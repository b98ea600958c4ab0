-- What the two sinks do with bytes that they are offered, and the laws by which bytes in two parts are both parts, one after the other. Assumes nothing.
use Rattle.std.specs.Prelude.{ℕ, ◌+◌, ◌≤◌, ◌≡◌, Bool, true, false, cond, Some, None, [], ◌++◌, length}
use Rattle.std.proofs.Common.{arith, ◌∙◌, sym, refl}
use mathlib.Core.List.{append-nil}
use Rattle.std.proofs.Math.ListN.{length-append, take-append-drop}
use Rattle.model.specs.Bytes.{Bytes, splice}
use Rattle.theory.specs.Splices.{length_splice}
use Rattle.emit.specs.Records.{Wrote, compared}
use Rattle.emit.specs.RecordLaws.{wrote_both, compared_nothing, same_within, then_same, then_different}

-- `fits s bytes`: s has room for these bytes. `took s bytes r t`: s was offered them and is now t; r tells whether it took them.
pub record SinkLaws {S : Type 0} (fits : S → Bytes → Type 0) (took : S → Bytes → Bool → S → Type 0) : Type 0 where
  pub nothing : (s : S) → took s [] true s
  pub front : (s : S) (x y : Bytes) → fits s (x ++ y) → fits s x
  pub back : (s t : S) (x y : Bytes) → fits s (x ++ y) → took s x true t → fits t y
  pub stops : (s t : S) (x y : Bytes) → took s x false t → took s (x ++ y) false t
  pub follows : (s t u : S) (x y : Bytes) (r : Bool) → fits s (x ++ y) → took s x true t → took t y r u → took s (x ++ y) r u

-- ---- the writer

-- The output has room for these bytes at this position.
abbrev pub Fits : ℕ → Bytes → Bytes → Type 0
Fits at bytes out = at + length bytes ≤ length out

-- All were written.
pub record WroteAll (old : Bytes) (at : ℕ) (bytes : Bytes) (r : Bool) (end : ℕ) (new : Bytes) : Type 0 where
  pub all : r ≡ true
  pub wrote : Wrote old at bytes end new

wrote_nothing : (old : Bytes) (at : ℕ) → Wrote old at [] at old
unfolding splice
wrote_nothing old at =
    let z : at + 0 ≡ at = omega arith in
    record { ends = sym z; spliced = rw (z, append-nil, take-append-drop) }

module _ {S N : Type 0} (at : S → ℕ) (out : S → Bytes) (name : S → N) where
  pub writer_laws : SinkLaws {S = S} (λ s bytes. Fits (at s) bytes (out s)) (λ s bytes r t. WroteAll (out s) (at s) bytes r (at t) (out t) × (name t ≡ name s))
  writer_laws = record {
    nothing = λ s. (record { all = refl; wrote = wrote_nothing (out s) (at s) }, refl);
    front = λ s x y h. omega (arith, h, length-append x y);
    back = λ s t x y h w. rw w.0.wrote.spliced (omega (arith, h, length-append x y, w.0.wrote.ends, length_splice (out s) (at s) x (omega (arith, h, length-append x y))));
    stops = λ s t x y w. let e = w.0.all in cc;
    follows = λ s t u x y r h w v. (
      record {
        all = v.0.all;
        wrote = wrote_both w.0.wrote v.0.wrote (omega (arith, h, length-append x y));
      },
      v.1 ∙ w.1,
    );
  }

-- ---- the checker

-- The bytes that stand there are the same, and end at `end`; or they differ.
pub record Matched (b : Bytes) (at : ℕ) (bytes : Bytes) (r : Bool) (end : ℕ) (after : Bytes) : Type 0 where
  pub tells : cond r (Some end) None ≡ compared b at bytes
  pub stands : after ≡ b

module _ {S : Type 0} (at : S → ℕ) (b : S → Bytes) where
  pub checker_laws : SinkLaws {S = S} (λ s bytes. at s ≤ length (b s)) (λ s bytes r t. Matched (b s) (at s) bytes r (at t) (b t))
  checker_laws = record {
    nothing = λ s. record { tells = compared_nothing (b s) (at s); stands = refl };
    front = λ s x y h. h;
    back = λ s t x y h m. rw m.stands (same_within (b s) (at s) x (at t) h (sym m.tells));
    stops = λ s t x y m. record { tells = then_different (b s) (at s) x y (sym m.tells); stands = m.stands };
    follows = λ s t u x y r h m l. record {
      tells = rw m.stands at l.tells ∙ then_same (b s) (at s) x y (at t) (sym m.tells);
      stands = l.stands ∙ m.stands;
    };
  }
