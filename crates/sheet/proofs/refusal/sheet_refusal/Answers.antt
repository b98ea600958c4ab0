-- `refusal::sheet_refusal` meets its contract: the three rules, one after the other.
use mathlib.Core.Path.{◌≡◌, sym, ◌∙◌, ap}
use mathlib.Core.Bool.{Bool}
use Rattle.model.specs.Lists.{any}
use Rattle.model.specs.Bytes.{Bytes}
use Rattle.model.specs.Network.{edge_count}
use Rattle.rules.specs.Refusals.{number_of, refused}
use Rattle.theory.specs.Firsts.{stops, goes, none}
use Rattle.sheet.specs.Sheet.{lines_in, names_none}
use Rattle.sheet.specs.Under.{too_slow}
use Rattle.sheet.specs.ArcsUnder.{left_under}
use Rattle.sheet.proofs.Forms.{kept_form}
use Rattle.sheet.proofs.refusal.sheet_refusal.Goals as goal

-- The lines that were lent are the sheet's: the rules of the one are those of the other.
module _ {b body : Bytes} (edges : Bytes) where
  named : b ≡ body → {r : Bool} → r ≡ any (names_none (edge_count edges)) (lines_in b) → {x : Bool} → r ≡ x → any (names_none (edge_count edges)) (lines_in body) ≡ x
  named p q h = sym (ap (λ (l : Bytes). any (names_none (edge_count edges)) (lines_in l)) p) ∙ (sym q ∙ h)

  slowed : b ≡ body → {r : Bool} → r ≡ any too_slow (left_under edges b) → {x : Bool} → r ≡ x
      → any too_slow (left_under edges body) ≡ x
  slowed p q h = sym (ap (λ (l : Bytes). any too_slow (left_under edges l)) p) ∙ (sym q ∙ h)

pub returns-then-sheet_broken : goal.returns-then-sheet_broken
unfolding number_of refused
returns-then-sheet_broken c = stops 18 _ (sym c.sheet_broken.ensures ∙ c.if-sheet_broken.true)

pub line_body-lines-requires : goal.line_body-lines-requires
line_body-lines-requires c = kept_form _ (sym c.sheet_broken.ensures ∙ c.if-sheet_broken.false)

pub returns-then-names_broken : goal.returns-then-names_broken
unfolding edge_count number_of refused
returns-then-names_broken c =
    let a = c.args in
    goes 18 _ (sym c.sheet_broken.ensures ∙ c.if-sheet_broken.false) (stops 19 _ (named a.edges.now
    c.line_body-lines.ensures c.names_broken.ensures c.if-names_broken.true))

pub slow_broken-requires : goal.slow_broken-requires
unfolding edge_count
slow_broken-requires c = record { quick = c.requires; lines_value = sym c.names_broken.ensures ∙ c.if-names_broken.false }

pub returns-then-slow_broken : goal.returns-then-slow_broken
unfolding edge_count number_of refused
returns-then-slow_broken c =
    let a = c.args in
    goes 18 _ (sym c.sheet_broken.ensures ∙ c.if-sheet_broken.false) (goes 19 _ (named a.edges.now c.line_body-lines.ensures c.names_broken.ensures
    c.if-names_broken.false) (stops 20 _ (slowed a.edges.now c.line_body-lines.ensures c.slow_broken.ensures
    c.if-slow_broken.true)))

pub returns : goal.returns
unfolding edge_count refused
returns c =
    let a = c.args in
    goes 18 _ (sym c.sheet_broken.ensures ∙ c.if-sheet_broken.false) (goes 19 _ (named a.edges.now c.line_body-lines.ensures c.names_broken.ensures
    c.if-names_broken.false) (goes 20 _ (slowed a.edges.now c.line_body-lines.ensures c.slow_broken.ensures
    c.if-slow_broken.false) none))
