-- The lines of a row, one behind the other, and the answer from the words of one search. Assumes nothing.
use Prim.Native.Nat.{ℕ, ◌+◌, ◌≤◌, ◌<◌}
use native.Mathlib.Numerals.{add-one}
use mathlib.Core.Path.{◌≡◌, refl, sym, ◌∙◌}
use mathlib.Core.List.{[], ◌++◌, append-nil, append_assoc}
use Rattle.model.specs.Lists.{concat_map}
use Rattle.model.specs.Bytes.{Bytes}
use Rattle.model.specs.Contents.{node_body}
use Rattle.model.specs.Network.{node_count}
use Rattle.model.specs.Listing.{pair_line}
use Rattle.theory.specs.RangeLaws.{rest, rest_step, rest_end}
use Rattle.emit.specs.Records.{Wrote}
use Rattle.lines.specs.Texts.{Room, row_text}
use Rattle.lines.proofs.Chains.{room_first, room_second, wrote_both, wrote_none}

module _ (o : Bytes) (s : ℕ) where
  abbrev n : ℕ
  n = node_count (node_body o)

  -- The lines from t on.
  abbrev pub lines_from : ℕ → Bytes
  lines_from t = concat_map (pair_line o s) (rest t n)

  -- The row is written up to `at`, and the lines from t on are left, for which there is room.
  pub record Begun (old : Bytes) (at : ℕ) (out : Bytes) (t : ℕ) : Type 0 where
    pub done : Bytes
    pub wrote : Wrote old 0 done at out
    pub whole : row_text o s ≡ done ++ lines_from t
    pub room : Room old 0 (row_text o s)

  pub begun_start : (old : Bytes) → Room old 0 (row_text o s) → Begun old 0 old (s + 1)
  begun_start old r = record { done = []; wrote = wrote_none old 0; whole = unfold row_text in rw add-one; room = r }

  lines_step : (t : ℕ) → t < n → lines_from t ≡ pair_line o s t ++ lines_from (t + 1)
  lines_step t h = rw (rest_step t n h) (unfold concat_map in refl)

  module _ {old : Bytes} {at : ℕ} {out : Bytes} {t : ℕ} (b : Begun old at out t) where
    pub begun_fits : t < n → Room out at (pair_line o s t)
    begun_fits h = room_first _ (lines_from (t + 1)) (rw (lines_step t h) at (room_second b.done (lines_from t) (rw b.whole at b.room) b.wrote))

    pub begun_next : {m : ℕ} {new : Bytes} → t < n → Wrote out at (pair_line o s t) m new → Begun old m new (t + 1)
    begun_next h w =
        let e : row_text o s ≡ (b.done ++ pair_line o s t) ++ lines_from (t + 1) = b.whole
        ∙ rw (lines_step t h) (sym (append_assoc b.done (pair_line o s t) (lines_from (t + 1)))) in
        record {
          done = b.done ++ pair_line o s t;
          wrote = wrote_both b.done (pair_line o s t) (room_first (b.done ++ pair_line o s t) (lines_from (t + 1)) (rw e at b.room)) b.wrote w;
          whole = e;
          room = b.room;
        }

    pub begun_end : n ≤ t → Wrote old 0 (row_text o s) at out
    begun_end h =
        let e : lines_from t ≡ [] = rw (rest_end t n h) (unfold concat_map in refl) in
        rw (b.whole, e, append-nil) b.wrote
