-- T-05's rule and the one of before it do the same but to roads that a delay follows a closure of. Assumes nothing.
use Rattle.std.specs.Prelude.{ℕ, ◌≡◌, ◌⊎◌, Bool, cond}
use Rattle.std.proofs.Math.Path.{refl, ap}
use Rattle.std.proofs.Common.{sym, ◌∙◌, subst, inl, inr, true≢false, eq-eqb, eqb-true}
use Rattle.std.proofs.Math.Bool.{true, false}
use mathlib.Core.List.Memᴰ
use mathlib.Core.List.{List, [], ◌∷◌, ◌++◌, append_assoc, Memᴰ}
use Rattle.model.specs.Lists.{any, filter}
use Rattle.model.specs.Bytes.{Bytes}
use Rattle.model.proofs.Meanings.{meaning_injective}
use Rattle.model.specs.declared.Answer.{Answer}
use Rattle.model.specs.declared.Route.{Route}
use Rattle.theory.specs.Members.{any→}
use Rattle.sheet.specs.Sheet.{Line, Effect, Effect.shut, Effect.delayed, lines_in, line_body, closes, effect_of, is_about, about, last_effect, holds, NoneCloses, Last, effects}
use Rattle.sheet.specs.SheetCalls.{TimeUnderCall, WayUnderCall}
use Rattle.sheet.proofs.Lasts.{last_parts, about_append, about→, last_of, closure_holds, which}
use Rattle.sheet_demands.specs.Former.{last_holds, formerly, Reopened, Reopening, TimeBy, WayBy}
use Rattle.sheet_demands.specs.FormerLaws.{time_by, way_by}

shuts : (l : Line) → closes l ≡ true → effect_of l ≡ shut
unfolding effect_of
shuts l h = rw h

adds : (l : Line) → closes l ≡ false → effect_of l ≡ delayed l.added
unfolding effect_of
adds l h = rw h

-- ---- a road that is not reopened

-- What stands before and behind a listed line.
parts : {A : Type 0} {v : A} {l : List A} → Memᴰ v l → (b : List A) × (a : List A) × (l ≡ b ++ (v ∷ a))
parts (Memᴰ.head {x = x} {xs = r} q) = ([], r, ap (λ y. y ∷ r) (sym q))
parts (Memᴰ.tail {x = x} {xs = r} m) = let (b, a, e) = parts m in (x ∷ b, a, ap (λ l. x ∷ l) e)

module _ {ls : List Line} {i : ℕ} where
  -- A closure comes before a last line that is a delay.
  reopened : {l : Line} → Last ls i l → closes l ≡ false → {k : Line} → Memᴰ k ls → k.edge ≡ i → closes k ≡ true → Reopened ls i
  reopened {l} h d {k} m e c = where_is (Memᴰ.append_cases h.before (subst (Memᴰ k) h.all m))
    where
      behind : (k ≡ l) ⊎ Memᴰ k h.after → ⊥
      behind (inl q) = true≢false (sym c ∙ (ap closes q ∙ d))
      behind (inr n) = h.others k n e

      where_is : Memᴰ k h.before ⊎ Memᴰ k (l ∷ h.after) → Reopened ls i
      where_is (inr n) = absurd (behind (Memᴰ.cases_cons n))
      where_is (inl n) =
          let (b, a, q) = parts n in
          record {
            before = b;
            closure = k;
            between = a;
            delay = l;
            after = h.after;
            all = h.all ∙ (ap (λ r. r ++ (l ∷ h.after)) q ∙ append_assoc b (k ∷ a) (l ∷ h.after));
            closure_named = e;
            shuts = c;
            delay_named = h.named;
            delays = d;
            never = λ j p f. absurd (h.others j p f);
          }

  pub same_held : (Reopened ls i → ⊥) → holds ls i ≡ last_holds ls i
  unfolding holds last_holds
  same_held other = step (any closes (about ls i)) refl
    where
      last : (l : Line) → Last ls i l → (k : Line) → Memᴰ k ls → k.edge ≡ i → closes k ≡ true → (c : Bool) → closes l ≡ c
          → last_effect (delayed 0) (about ls i) ≡ shut
      last l h k m e c true q = last_of h (delayed 0) ∙ shuts l q
      last l h k m e c false q = absurd (other (reopened h q m e c))

      closed : (k : Line) → Memᴰ k ls → k.edge ≡ i → closes k ≡ true → ((l : Line) × Last ls i l) ⊎ ((j : Line) → Memᴰ j ls → j.edge ≡ i → ⊥)
          → last_effect (delayed 0) (about ls i) ≡ shut
      closed k m e c (inl (l, h)) = last l h k m e c (closes l) refl
      closed k m e c (inr n) = absurd (n k m e)

      found : (k : Line) × Memᴰ k (about ls i) × (closes k ≡ true) → last_effect (delayed 0) (about ls i) ≡ shut
      found (k, m, c) =
          let (n, e) = about→ i ls m in
          closed k n e c (which i ls)

      step : (b : Bool) → any closes (about ls i) ≡ b → cond b shut (last_effect (delayed 0) (about ls i)) ≡ last_effect (delayed 0) (about ls i)
      step false e = refl
      step true e = sym (found (any→ closes (about ls i) e))

-- ---- a road that is

-- After a delay that no line closes, a delay.
still_open : (i : ℕ) (ls : List Line) → NoneCloses ls i → (n : ℕ) → (m : ℕ) × (last_effect (delayed n) (about ls i) ≡ delayed m)
unfolding about filter last_effect
still_open i [] h n = (n, refl)
still_open i (l ∷ ls) h n =
    step (is_about i l) refl (λ k. still_open i ls (λ j m e. h j (Memᴰ.tail m) e) k)
  where
    step : (b : Bool) → is_about i l ≡ b → ((k : ℕ) → (m : ℕ) × (last_effect (delayed k) (filter (is_about i) ls) ≡ delayed m))
        → (m : ℕ) × (last_effect (delayed n) (cond b (l ∷ filter (is_about i) ls) (filter (is_about i) ls)) ≡ delayed m)
    step false p rest = rest n
    step true p rest =
        let (m, e) = rest l.added in
        (m, ap (λ x. last_effect x (filter (is_about i) ls)) (adds l (h l (Memᴰ.head refl) (eqb-true l.edge i (unfold is_about in p)))) ∙ e)

module _ {ls : List Line} {i : ℕ} (r : Reopened ls i) where
  abbrev later : List Line
  later = r.between ++ (r.delay ∷ r.after)

  was_closed : holds ls i ≡ shut
  was_closed =
      closure_holds (subst (Memᴰ r.closure) (sym r.all) (Memᴰ.append_right r.before (Memᴰ.head refl))) r.closure_named r.shuts

  was_open : (n : ℕ) × (last_holds ls i ≡ delayed n)
  was_open = let (n, e) = still_open i r.after r.never r.delay.added in (n, reached ∙ e)
    where
      start : List Line
      start = r.before ++ (r.closure ∷ r.between)

      cut : ls ≡ start ++ (r.delay ∷ r.after)
      cut = r.all ∙ sym (append_assoc r.before (r.closure ∷ r.between) (r.delay ∷ r.after))

      last : (x : Effect) → last_effect x (about (r.delay ∷ r.after) i) ≡ last_effect (delayed r.delay.added) (about r.after i)
      last x = unfold about filter is_about last_effect in rw (eq-eqb r.delay.edge i r.delay_named)
          (ap (λ y. last_effect y (filter (is_about i) r.after)) (adds r.delay r.delays))

      reached : last_holds ls i ≡ last_effect (delayed r.delay.added) (about r.after i)
      reached = unfold last_holds in ap (λ l. last_effect (delayed 0) (about l i)) cut
          ∙ (ap (last_effect (delayed 0)) (about_append i start (r.delay ∷ r.after))
          ∙ (last_parts (delayed 0) (about start i) (about (r.delay ∷ r.after) i) ∙ last (last_effect (delayed 0) (about start i))))

  pub other_held : (holds ls i ≡ shut) × ((n : ℕ) × (last_holds ls i ≡ delayed n))
  other_held = (was_closed, was_open)

-- ---- the calls

same_rule : (sheet : Bytes) → (Reopening sheet → ⊥) → effects sheet ≡ formerly sheet
unfolding effects formerly
same_rule sheet other = λ k i. same_held {ls = lines_in (line_body sheet)} {i = i} (λ r. other (i, r)) k

module _ (o sheet : Bytes) (other : Reopening sheet → ⊥) (s t : ℕ) {work work' former_work : List ℕ} where
  pub same_time : {a b : Answer} → TimeUnderCall o sheet s t work a work' → TimeBy (formerly sheet) o sheet s t work b former_work
      → (a ≡ b) × (work' ≡ former_work)
  same_time {a} {b} call old =
      let c : TimeBy (formerly sheet) o sheet s t work a work' =
      subst (λ (e : ℕ → Effect). TimeBy e o sheet s t work a work') (same_rule sheet other) (time_by.0 call) in
      (meaning_injective a b (c.result ∙ sym old.result), c.words ∙ sym old.words)

  pub same_way : {out out' former_out : Bytes} {r former_r : Route} → WayUnderCall o sheet s t work out r work' out'
      → WayBy (formerly sheet) o sheet s t work out former_r former_work former_out → (r ≡ former_r) × (work' ≡ former_work) × (out' ≡ former_out)
  same_way {out} {out'} {r = r} call old =
      let c : WayBy (formerly sheet) o sheet s t work out r work' out' =
      subst (λ (e : ℕ → Effect). WayBy e o sheet s t work out r work' out') (same_rule sheet other) (way_by.0 call) in
      (c.result ∙ sym old.result, c.words ∙ sym old.words, c.bytes ∙ sym old.bytes)
