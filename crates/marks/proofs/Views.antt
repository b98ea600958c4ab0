-- The order stays where the words of the queue do; a node's turn. Assumes nothing.
use Prim.Native.Nat.{ℕ, ◌+◌, ◌<◌}
use native.Mathlib.Numerals.{add-one}
use native.Mathlib.Omega.{arith}
use mathlib.Core.Path.{◌≡◌, ap}
use mathlib.Core.Bool.{true, false}
use mathlib.Core.List.{List, [], ◌∷◌}
use lib.ListN.{length, get_or, set, take, drop, length-take, length-drop, drop_of_length-le}
use lib.Seq.{length-take-le, drop-cons, get_or-take, get_or-drop}
use Rattle.model.specs.Walk.{Arc}
use Rattle.marks.specs.Due.{due, turned}
use Rattle.words.specs.Regions.{order_in, search_words, queue_words}
use Rattle.words.proofs.Stays.{take_drop, take_less}

-- ---- the settle order
pub order_kept : (n : ℕ) (w w' : List ℕ) → take (queue_words n) w' ≡ take (queue_words n) w → (i : ℕ) → order_in n i w' ≡ order_in n i w
order_kept n w w' e i =
    let k = take_less (n + n) (queue_words n) w w' (omega arith) e in
    ap (drop i) (rw (take_drop n n w', take_drop n n w, k))

-- The node at position i stands in front of the order from there on.
pub order_next : (n i : ℕ) (w : List ℕ) → length w ≡ search_words n → i < n → order_in n i w ≡ get_or w (n + i) 0 ∷ order_in n (i + 1) w
order_next n i w size h =
    let l = take n (drop n w) in
    let k : i < length l = rw (length-take-le n (drop n w) (simp length-drop (omega arith))) h in
    rw (drop-cons l i 0 k, get_or-take n (drop n w) i 0 h, get_or-drop n w i 0, add-one)

pub order_end : (n : ℕ) (w : List ℕ) → order_in n n w ≡ []
order_end n w = drop_of_length-le (take n (drop n w)) {i = n} (omega (arith, length-take n (drop n w)))

-- ---- a node's turn: marked where it is due
pub turn_due : (arcs : List Arc) (times want marks : List ℕ) (v : ℕ) → true ≡ due arcs times want marks v → set marks v 1 ≡ turned arcs times want marks v
unfolding turned
turn_due arcs times want marks v d = rw (← d)

pub turn_not : (arcs : List Arc) (times want marks : List ℕ) (v : ℕ) → false ≡ due arcs times want marks v → marks ≡ turned arcs times want marks v
unfolding turned
turn_not arcs times want marks v d = rw (← d)
