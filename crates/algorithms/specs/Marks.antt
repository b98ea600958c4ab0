-- One search from `p` finds every node that lies on a least walk from `p` to a node of `Q`: the marked nodes. Assumes nothing.
use Rattle.std.specs.Prelude.{ℕ, ◌+◌, ◌≡◌, ◌↔◌, List}
use Rattle.std.proofs.Common.{add_assoc, add-zero, arith, ◌∙◌}
use Rattle.model.specs.Walk.{Arc, Mem, Walk, stay, go, Least}
use Rattle.theory.specs.Walks.{along, least_unique, least_stay, first_part, last_part}

-- What a search from `p` has found: the nodes that it settled, each with its least time, among them every node on a least walk to a node of `Q`.
-- So a search may stop when each node of `Q` that can be reached is settled.
pub record Search (arcs : List Arc) (p : ℕ) (R : ℕ → Type 0) (D : ℕ → ℕ) (Q : ℕ → Type 0) : Type 0 where
  pub exact : (v : ℕ) → R v → Least arcs p v (D v)
  pub enough : {v q x y : ℕ} → Walk arcs p v x → Walk arcs v q y → Least arcs p q (x + y) → Q q → R v

-- The marked nodes: each reached node of `Q`, and each reached node with a tight arc to a marked one.
pub data Marked (arcs : List Arc) (R : ℕ → Type 0) (D : ℕ → ℕ) (Q : ℕ → Type 0) : ℕ → Type 0 where
  ends : {v : ℕ} → R v → Q v → Marked arcs R D Q v
  leads : (a : Arc) → Mem a arcs → R a.from → D a.to ≡ D a.from + a.cost → Marked arcs R D Q a.to → Marked arcs R D Q a.from

-- `v` is on a least walk from `p` to a node of `Q`.
pub record Toward (arcs : List Arc) (p : ℕ) (Q : ℕ → Type 0) (v : ℕ) : Type 0 where
  pub q : ℕ
  pub x : ℕ
  pub y : ℕ
  pub goal : Q q
  pub before : Least arcs p v x
  pub after : Least arcs v q y
  pub whole : Least arcs p q (x + y)

pub marked_reached : {arcs : List Arc} {R : ℕ → Type 0} {D : ℕ → ℕ} {Q : ℕ → Type 0} {v : ℕ} → Marked arcs R D Q v → R v
marked_reached (ends r g) = r
marked_reached (leads a i r e m) = r

module _ (arcs : List Arc) (p : ℕ) (R : ℕ → Type 0) (D : ℕ → ℕ) (Q : ℕ → Type 0) (found : Search arcs p R D Q) where
  pub marked_toward : {v : ℕ} → Marked arcs R D Q v → Toward arcs p Q v
  marked_toward {v} (ends r g) = record {
    q = v;
    x = D v;
    y = 0;
    goal = g;
    before = found.exact v r;
    after = least_stay v;
    whole = rw add-zero
        (found.exact v r);
  }
  marked_toward (leads a i r e m) = step (marked_toward m)
    where
      step : Toward arcs p Q a.to → Toward arcs p Q a.from
      step t =
          let l : Least arcs p a.from (D a.from) = found.exact a.from r in
          let s : t.x ≡ D a.from + a.cost = least_unique t.before (found.exact a.to (marked_reached m)) ∙ e in
          let w : Walk arcs a.from t.q (a.cost + t.y) = go a i t.after.has in
          let z : t.x + t.y ≡ D a.from + (a.cost + t.y) = omega arith in
          let h : Least arcs p t.q (D a.from + (a.cost + t.y)) = rw z at t.whole in
          record { q = t.q; x = D a.from; y = a.cost + t.y; goal = t.goal; before = l; after = last_part l.has w h; whole = h }

  pub toward_marked : {v q x y : ℕ} → Walk arcs p v x → Walk arcs v q y → Least arcs p q (x + y) → Q q → Marked arcs R D Q v
  toward_marked u stay l g = ends (found.enough u stay l g) g
  toward_marked {q = q} {x = x} u (go {n = n} a i w) l g =
      let u' : Walk arcs p a.to (x + a.cost) = along a i u in
      let l' : Least arcs p q (x + a.cost + n) = rw add_assoc l in
      let r = found.enough u (go a i w) l g in
      let e : D a.from ≡ x = least_unique (found.exact a.from r) (first_part u (go a i w) l) in
      let e' : D a.to ≡ x + a.cost = least_unique (found.exact a.to (found.enough u' w l' g)) (first_part u' w l') in
      leads a i r (omega arith) (toward_marked u' w l' g)

  -- The theorem: marked are exactly the nodes on a least walk from `p` to a node of `Q`.
  pub marks : (v : ℕ) → Marked arcs R D Q v ↔ Toward arcs p Q v
  marks v = (marked_toward, λ t. toward_marked t.before.has t.after.has t.whole t.goal)
