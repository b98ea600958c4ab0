-- One start after another: what is gathered so far. Assumes nothing.
use Prim.Native.Nat.{ℕ, ◌+◌, ◌≤◌, ◌<◌}
use native.Mathlib.Omega.{arith}
use native.Mathlib.Decide.{ℕ_discrete}
use mathlib.Core.Path.{◌≡◌, refl, sym, ap, ◌∙◌}
use mathlib.Core.Logic.{◌↔◌, inl, inr, ⊎_elim}
use mathlib.Core.Bool.{true, false, true≢false}
use mathlib.Core.List.{List}
use lib.ListN.{length, drop, replicate}
use Rattle.model.specs.Bytes.{Bytes}
use Rattle.model.specs.Walk.{Arc}
use Rattle.algorithms.specs.Marks.{Toward}
use Rattle.algorithms.specs.Settle.{blank}
use Rattle.bitset.specs.Bits.{is_in, flags}
use Rattle.index.specs.Index.{IndexedEdges}
use Rattle.crossing.specs.Sets.{either, ones}
use Rattle.marks.specs.Due.{Flagged}
use Rattle.words.specs.Regions.{region_at, region_flags, marks, want, own, gathered, transit, search_words}
use Rattle.access.specs.Gathered.{Gathered, Joined, KeptStarts}
use Rattle.access.specs.Pairs.{NotAlone}
use Rattle.words.proofs.Windows.{flags_kept}
use Rattle.access.proofs.Flagging.{member→, →member, either_flagged}
use Rattle.words.specs.Frames.{Only, KeptFrom}
use Rattle.words.proofs.Stays.{kept_more, after_kept}
use Rattle.index.proofs.Laid.{roads_from}

-- ---- what stays
pub kept_same : (n : ℕ) (w : List ℕ) → KeptStarts n w w
kept_same n w = record { wanted = refl; starts = refl; rest = refl }

pub kept_then : (n : ℕ) (w x y : List ℕ) → KeptStarts n w x → KeptStarts n x y → KeptStarts n w y
kept_then n w x y p q = record { wanted = q.wanted ∙ p.wanted; starts = q.starts ∙ p.starts; rest = q.rest ∙ p.rest }

-- Where region GATHERED alone is changed.
pub kept_only : (n : ℕ) (w w' : List ℕ) → Only n gathered w w' → KeptStarts n w w'
kept_only n w w' o = record {
  wanted = flags_kept n want gathered w w' (λ q. omega arith) o;
  starts = flags_kept n own gathered w w' (λ q. omega arith) o;
  rest = after_kept _ _ w w' o (region_at n transit) (omega arith);
}

-- Where the first three regions alone are changed.
kept_front : (n : ℕ) (w w' : List ℕ) → KeptFrom (search_words n) w w' → KeptStarts n w w'
kept_front n w w' e = record {
  wanted = ap (flags n) (kept_more (search_words n) (region_at n want) w w' (omega arith) e);
  starts = ap (flags n) (kept_more (search_words n) (region_at n own) w w' (omega arith) e);
  rest = kept_more (search_words n) (region_at n transit) w w' (omega arith) e;
}

-- ---- one start
module _ (arcs : List Arc) (n p : ℕ) (w : List ℕ) where
  abbrev One : List ℕ → Type 0
  One w' = ((v : ℕ) → Flagged (region_flags n gathered w') v ↔ Joined arcs (region_flags n gathered w) (region_flags n own w) (region_flags n want w) p v)
      × KeptStarts n w w'

  -- x are the words after the marks, and w' those after the union.
  pub from_start : p < n → true ≡ is_in (drop (region_at n own) w) p → (x w' : List ℕ) → KeptFrom (search_words n) w x
      → ((v : ℕ) → Flagged (region_flags n marks x) v ↔ Toward arcs p (Flagged (region_flags n want w)) v)
      → region_flags n gathered w' ≡ either (region_flags n marks x) (region_flags n gathered x) → Only n gathered x w' → One w'
  from_start h e x w' d m u o =
      let same : region_flags n gathered x ≡ region_flags n gathered w = ap (flags n) (kept_more (search_words n) (region_at n gathered) w x (omega arith) d) in
      let s : Flagged (region_flags n own w) p = →member n (drop (region_at n own) w) p h (sym e) in (
        λ v. let k = either_flagged n (drop (region_at n marks) x) (drop (region_at n gathered) x) v in (
          λ l. ⊎_elim (λ f. inr (s, (m v).0 f)) (λ f. inl (rw same at f)) (k.0 (rw u at l)),
          λ j. rw u (k.1 (⊎_elim (λ f. inr (rw same f)) (λ t. inl ((m v).1 t.1)) j)),
        ),
        kept_then n w x w' (kept_front n w x d) (kept_only n x w' o),
      )

  pub from_other : false ≡ is_in (drop (region_at n own) w) p → One w
  from_other e =
      (λ v. (λ l. inl l, λ j. ⊎_elim (λ f. f) (λ t. absurd (true≢false (sym (member→ n (drop (region_at n own) w) p t.0).1 ∙ sym e))) j), kept_same n w)

-- ---- the starts below p
pub record Below (arcs : List Arc) (starts goals : List ℕ) (p v : ℕ) : Type 0 where
  pub q : ℕ
  pub below : q < p
  pub start : Flagged starts q
  pub on : Toward arcs q (Flagged goals) v

-- The words were w₀, and are w when the starts below p are passed.
pub record Gathering (arcs : List Arc) (n : ℕ) (w₀ : List ℕ) (p : ℕ) (w : List ℕ) : Type 0 where
  pub room : p ≤ n
  pub size : length w ≡ length w₀
  pub others : KeptStarts n w₀ w
  pub members : (v : ℕ) → Flagged (region_flags n gathered w) v ↔ Below arcs (region_flags n own w₀) (region_flags n want w₀) p v

module _ (arcs : List Arc) (n : ℕ) (w₀ : List ℕ) where
  pub first : region_flags n gathered w₀ ≡ replicate n 0 → Gathering arcs n w₀ 0 w₀
  first z = record {
    room = omega arith;
    size = refl;
    others = kept_same n w₀;
    members = λ v. (λ l. let f : Flagged (replicate n 0) v = rw z at l in absurd (omega (arith, blank n v)), λ b. absurd (omega (arith, b.below)));
  }

  module _ (p : ℕ) (w : List ℕ) (g : Gathering arcs n w₀ p w) where
    -- As many nodes are wanted as before, and the index stays.
    pub wanted_left : (left : ℕ) → left ≡ ones (region_flags n want w₀) → ones (region_flags n want w) ≤ left
    wanted_left left e = omega (arith, ap ones g.others.wanted, e)

    pub roads_gathering : (edges : Bytes) → IndexedEdges edges n w₀ → IndexedEdges edges n w
    roads_gathering edges r = roads_from edges n w₀ w (region_at n transit) (omega arith) g.others.rest r

    -- The starts are not alone still.
    pub alone_gathering : (w₁ : List ℕ) → Only n gathered w₁ w₀ → NotAlone n own w₁ → NotAlone n own w
    alone_gathering w₁ o a v f = a v (rw (g.others.starts ∙ (kept_only n w₁ w₀ o).starts) at f)

    pub next : p < n → (w' : List ℕ) → length w' ≡ length w → One arcs n p w w' → Gathering arcs n w₀ (p + 1) w'
    next h w' k o =
        let mine = g.others.starts in
        let goal = g.others.wanted in
        record {
          room = omega arith;
          size = k ∙ g.size;
          others = kept_then n w₀ w w' g.others o.1;
          members = λ v. (
            λ l. ⊎_elim (λ f. let b = (g.members v).0 f in record { q = b.q; below = omega (arith, b.below); start = b.start; on = b.on })
                (λ t. let t' = rw (mine, goal) at t in record { q = p; below = omega arith; start = t'.0; on = t'.1 })
                ((o.0 v).0 l),
            λ b. (o.0 v).1 (pick v b (ℕ_discrete b.q p)),
          );
        }
      where
        pick : (v : ℕ) (b : Below arcs (region_flags n own w₀) (region_flags n want w₀) (p + 1) v) → Dec (b.q ≡ p)
            → Joined arcs (region_flags n gathered w) (region_flags n own w) (region_flags n want w) p v
        pick v b (yes e) = inr (rw (g.others.starts, g.others.wanted, ← e) (b.start, b.on))
        pick v b (no d) = inl ((g.members v).1 (record { q = b.q; below = omega (arith, b.below, d); start = b.start; on = b.on }))

    pub last : n ≤ p → (w₁ : List ℕ) → Only n gathered w₁ w₀ → ((v : ℕ) → Flagged (region_flags n gathered w) v ↔ Gathered arcs (region_flags n own w₁)
        (region_flags n want w₁) v) × KeptStarts n w₁ w
    last h w₁ o =
        let k = kept_only n w₁ w₀ o in (
          λ v. rw (← k.starts, ← k.wanted) (
            λ l. let b = (g.members v).0 l in record { p = b.q; start = b.start; on = b.on },
            λ t. (g.members v).1 (record {
              q = t.p;
              below = omega (arith, (member→ n (drop (region_at n own) w₀) t.p t.start).0);
              start = t.start;
              on = t.on;
            }),
          ),
          kept_then n w₁ w₀ w k g.others,
        )
