-- From one edge at a node to the next. Assumes nothing.
use Prim.Native.Nat.{ℕ, ◌+◌, ◌*◌, ◌/◌, ◌<◌, ◌≤◌}
use native.Mathlib.Nat.{div-one, mul-le-mul_right, suc-mul, zero-mul}
use native.Mathlib.Decide.{ℕ_discrete, dec_lt}
use native.Mathlib.Omega.{arith}
use mathlib.Core.Path.{◌≡◌, refl, sym, ap, ◌∙◌, subst}
use mathlib.Core.List.Memᴰ
use mathlib.Core.List.{List, [], ◌∷◌, ◌++◌, Memᴰ}
use mathlib.Core.Bool.{true, false}
use mathlib.Core.Logic.{◌⊎◌, inl, inr, ⊎_elim}
use lib.ListN.{length}
use Rattle.model.specs.Bytes.{Bytes}
use Rattle.model.specs.Network.{edge_count}
use Rattle.words.specs.Frames.{Enough}
use Rattle.words.specs.Halves.{half}
use Rattle.words.specs.Regions.{index_in}
use Rattle.index.specs.Index.{Reading, next, block, by_links, linked, read_in, Lists, here, there, Within, Incident, IndexedEdges}
use Rattle.index.proofs.Listing.{no_list}
use Rattle.index.proofs.Places.{links_fit, index_length}
use Rattle.index.proofs.Readings.{read_links, read_blocks, of_one, not-one}
use Rattle.arcs.specs.declared.cursor.Cursor.{Cursor}
use Rattle.arcs.specs.Cursor.{After, Valid, PassedEdges, Stepped, rank}
use Rattle.arcs.specs.Seeking.{ending, AtEntry, From, Seeking, FoundFrom}

-- ---- members of a list with one more
mem_left : {x : ℕ} (xs ys : List ℕ) → Memᴰ x xs → Memᴰ x (xs ++ ys)
mem_left [] ys m = absurd (Memᴰ.not-nil m)
mem_left (y ∷ xs) ys (Memᴰ.head e) = Memᴰ.head e
mem_left (y ∷ xs) ys (Memᴰ.tail m) = Memᴰ.tail (mem_left xs ys m)

mem_last : (x : ℕ) (xs : List ℕ) → Memᴰ x (xs ++ x ∷ [])
mem_last x [] = Memᴰ.head refl
mem_last x (y ∷ xs) = Memᴰ.tail (mem_last x xs)

pub mem_split : {A : Type 0} (x y : A) (xs : List A) → Memᴰ x (xs ++ y ∷ []) → Memᴰ x xs ⊎ (x ≡ y)
mem_split x y [] m = ⊎_elim (λ e. inr e) (λ k. absurd (Memᴰ.not-nil k)) (Memᴰ.cases_cons m)
mem_split {A} x y (z ∷ xs) m = step (Memᴰ.cases_cons m) (λ k. mem_split x y xs k)
  where
    step : (x ≡ z) ⊎ Memᴰ x (xs ++ y ∷ []) → (Memᴰ x (xs ++ y ∷ []) → Memᴰ x xs ⊎ (x ≡ y)) → Memᴰ x (z ∷ xs) ⊎ (x ≡ y)
    step (inl e) rest = inl (Memᴰ.head e)
    step (inr k) rest = ⊎_elim (λ a. inl (Memᴰ.tail a)) (λ b. inr b) (rest k)

module _ (edges : Bytes) (n : ℕ) (w : List ℕ) (u : ℕ) (roads : IndexedEdges edges n w) (u_in : u < n) where
  abbrev read : Reading
  read = read_in edges n w

  -- ---- in blocks of one edge
  module _ (c₀ : Cursor) (one : c₀.size ≡ 1) (size : c₀.size ≡ read.size u) (passed : c₀.stop ≤ c₀.edge)
      (link : Within n read.reach c₀.link) (chain : (q : ℕ) → Lists read n c₀.link q → Lists read n (read.next u) q) where
    size_one : roads.indexed.size ≡ 1
    size_one = sym (roads.indexed.chained.sized u u_in) ∙ sym size ∙ one

    listed_none : c₀.link < n → FoundFrom edges n w u c₀ (ending edges 1)
    listed_none l = record {
      valid = record {
        size = sym one ∙ size;
        link = λ h. absurd (omega arith);
        chain = λ q p. absurd (no_list read n 0 q (omega arith) p);
        stop = omega arith;
        inside = λ h. absurd (omega arith);
        single = λ h. omega arith;
        here = λ h. absurd (omega arith);
        over = λ h j p. nothing j p;
      };
      keeps = λ j o p. absurd (none j p);
      less = unfold rank in omega (arith, zero-mul (edge_count edges + 1));
    }
      where
        nothing : (j : ℕ) → After read n (ending edges 1) j → ⊥
        nothing j (inl (a, b)) = omega arith
        nothing j (inr (a, p)) = no_list read n 0 _ (omega arith) p

        none : (j : ℕ) → From read n c₀ j → ⊥
        none j (inl (a, b)) = omega arith
        none j (inr (a, p)) = no_list read n c₀.link _ l p

    module _ (more : n ≤ c₀.link) where
      abbrev p : ℕ
      p = c₀.link

      abbrev found : Cursor
      found = record { edge = read.block p; stop = read.block p + 1; link = read.next p; size = 1 }

      edge_here : Incident edges u (read.block p)
      edge_here = roads.indexed.chained.single size_one u (read.block p) u_in (chain (read.block p) (here more refl))

      next_down : read.next p < p
      next_down = roads.indexed.chained.links p (omega arith) more

      one_keeps : (j : ℕ) → From read n c₀ j → (j ≡ read.block p) ⊎ After read n found j
      one_keeps j (inl (a, b)) = absurd (omega arith)
      one_keeps j (inr (h, here l e)) = inl (sym (div-one j) ∙ ap (λ (z : ℕ). j / z) (sym one) ∙ sym e)
      one_keeps j (inr (h, there l q)) = inr (inr (omega arith, subst (λ (z : ℕ). Lists read n (read.next p) (j / z)) one q))

      listed_some : FoundFrom edges n w u c₀ found
      listed_some = record {
        valid = record {
          size = sym one ∙ size;
          link = λ h. omega (arith, next_down, link more);
          chain = λ q l. chain q (there more l);
          stop = omega (arith, edge_here.below);
          inside = λ h. omega arith;
          single = λ h. omega arith;
          here = λ h. edge_here;
          over = λ h j l. absurd (omega (arith, edge_here.below));
        };
        keeps = λ j o q. one_keeps j q;
        less = unfold rank in omega (arith, suc-mul (read.next p) (edge_count edges + 1), mul-le-mul_right (edge_count edges + 1) next_down);
      }

    sought_listed : (c : Cursor) → AtEntry edges n read c₀.link c → FoundFrom edges n w u c₀ c
    sought_listed c l = pick (dec_lt c₀.link n)
      where
        pick : Dec (c₀.link < n) → FoundFrom edges n w u c₀ c
        pick (yes h) = subst (λ (z : Cursor). FoundFrom edges n w u c₀ z) (sym (l.ended h)) (listed_none h)
        pick (no h) = let g : n ≤ c₀.link = omega arith in subst (λ (z : Cursor). FoundFrom edges n w u c₀ z) (sym (l.entry g)) (listed_some g)

  -- ---- the first edge, where its size and link are known
  module _ (size link : ℕ) (e : size ≡ read.size u) (f : link ≡ read.next u) where
    abbrev start : ℕ → Cursor
    start stop = record { edge = 0; stop = stop; link = link; size = size }

    link_in : Within n read.reach link
    link_in = rw f (roads.indexed.chained.heads u u_in)

    in_chain : (q : ℕ) → Lists read n link q → Lists read n (read.next u) q
    in_chain q l = subst (λ (z : ℕ). Lists read n z q) f l

    first_seeking : (stop : ℕ) → stop ≤ edge_count edges → (size ≡ 1 → ⊥) → Seeking edges n w u (start stop)
    first_seeking stop l d = record { size = e; several = d; link = link_in; chain = in_chain; stop = l; low = omega arith }

    first_passing : (stop : ℕ) (c : Cursor) → (size ≡ 0 → stop ≡ edge_count edges) → FoundFrom edges n w u (start stop) c
        → PassedEdges edges n w u [] c
    first_passing stop c g s = record {
      valid = s.valid;
      real = λ j m. absurd (Memᴰ.not-nil m);
      full = λ j o. inr
          (s.keeps j o (all j o (ℕ_discrete size 0)));
    }
      where
        all : (j : ℕ) → Incident edges u j → Dec (size ≡ 0) → From read n (start stop) j
        all j o (yes z) = inl (omega arith, omega (arith, g z, o.below))
        all j o (no d) =
            let h : roads.indexed.size ≡ size = sym (roads.indexed.chained.sized u u_in) ∙ sym e in
            let l : Lists read n link (j / roads.indexed.size) =
            subst (λ (z : ℕ). Lists read n z (j / roads.indexed.size)) (sym f) (roads.indexed.chained.covers u j u_in o.below (omega arith) o) in
            inr (omega arith, subst (λ (z : ℕ). Lists read n link (j / z)) h l)

    first_listed : (c : Cursor) → size ≡ 1 → AtEntry edges n read link c → PassedEdges edges n w u [] c
    first_listed c g l = first_passing 0 c (λ z. absurd (omega arith)) (sought_listed (start 0) g e (omega arith) link_in in_chain c l)

  -- By links: link is the number of u, as the code has read it.
  module _ (is : linked n (edge_count edges) ≡ true) where
    reach_links : read.reach ≡ 2 * length (index_in n w)
    reach_links = ap (λ (z : Reading). z.reach) (read_links edges n w is)

    pub head_inside : Enough n w → u < 2 * length (index_in n w)
    head_inside h = omega (arith, links_fit n (edge_count edges) is, index_length n w h)

    at_entry : (p : ℕ) (c : Cursor) → AtEntry edges n (by_links n (index_in n w)) p c → AtEntry edges n read p c
    at_entry p c a = subst (λ (z : Reading). AtEntry edges n z p c) (sym (read_links edges n w is)) a

    pub reach_inside : (p : ℕ) → Within n read.reach p → Within n (2 * length (index_in n w)) p
    reach_inside p l h = omega (arith, l h, reach_links)

    module _ (link : ℕ) (f : link ≡ half (index_in n w) u) where
      size_is : 1 ≡ read.size u
      size_is = sym (ap (λ (z : Reading). z.size u) (read_links edges n w is))

      link_is : link ≡ read.next u
      link_is = f ∙ sym (ap (λ (z : Reading). z.next u) (read_links edges n w is))

      pub link_inside : Within n (2 * length (index_in n w)) link
      link_inside = reach_inside link (link_in 1 link size_is link_is)

      pub first_linked : (c : Cursor) → AtEntry edges n (by_links n (index_in n w)) link c → PassedEdges edges n w u [] c
      first_linked c a = first_listed 1 link size_is link_is c refl (at_entry link c a)

  -- By blocks: size and link are the word of u.
  module _ (is : linked n (edge_count edges) ≡ false) (size link : ℕ) (e : size ≡ block (index_in n w) u) (f : link ≡ next (index_in n w) u) where
    size_as : size ≡ read.size u
    size_as = e ∙ sym (ap (λ (z : Reading). z.size u) (read_blocks edges n w is))

    link_as : link ≡ read.next u
    link_as = f ∙ sym (ap (λ (z : Reading). z.next u) (read_blocks edges n w is))

    pub blocks_seeking : (stop : ℕ) → stop ≤ edge_count edges → Seeking edges n w u (record { edge = 0; stop = stop; link = link; size = size })
    blocks_seeking stop l = first_seeking size link size_as link_as stop l (λ o. not-one edges n w roads u u_in is (sym size_as ∙ o))

    pub blocks_passing : (stop : ℕ) (c : Cursor) → (size ≡ 0 → stop ≡ edge_count edges)
        → FoundFrom edges n w u (record { edge = 0; stop = stop; link = link; size = size }) c → PassedEdges edges n w u [] c
    blocks_passing = first_passing size link size_as link_as

  -- ---- the next edge
  module _ (c : Cursor) (v : Valid edges n w u c) (l : c.edge < edge_count edges) where
    abbrev pub on : Cursor
    on = record { edge = c.edge + 1; stop = c.stop; link = c.link; size = c.size }

    on_less : rank edges on < rank edges c
    unfolding rank
    on_less = omega (arith, v.inside l)

    pub seeking_on : (c.size ≡ 1 → ⊥) → Seeking edges n w u on
    seeking_on d = record { size = v.size; several = d; link = v.link; chain = v.chain; stop = v.stop; low = omega (arith, v.inside l) }

    module _ (e : c.size ≡ 1) where
      its : linked n (edge_count edges) ≡ true
      its = of_one edges n w roads u u_in (sym v.size ∙ e)

      pub next_inside : Within n (2 * length (index_in n w)) c.link
      next_inside = reach_inside its c.link v.link

      pub sought_next : (c' : Cursor) → AtEntry edges n (by_links n (index_in n w)) c.link c' → FoundFrom edges n w u on c'
      sought_next c' s = sought_listed on e v.size (v.single e) v.link v.chain c' (at_entry its c.link c' s)

    pub stepped : (c' : Cursor) → FoundFrom edges n w u on c' → Stepped edges n w u c c'
    stepped c' s = record {
      valid = s.valid;
      passing = λ done p. record {
        valid = s.valid;
        real = λ j m. ⊎_elim (λ k. p.real j k) (λ e. subst (λ (z : ℕ). Incident edges u z) (sym e) (v.here l)) (mem_split j c.edge done m);
        full = λ j o. ⊎_elim (λ k. inl (mem_left done _ k))
            (λ r. ⊎_elim (λ e. inl (subst (λ (z : ℕ). Memᴰ z (done ++ c.edge ∷ [])) (sym e) (mem_last c.edge done))) (λ a. inr (s.keeps j o a)) r)
            (p.full j o);
      };
      less = omega (arith, s.less, on_less);
    }
