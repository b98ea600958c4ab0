-- `ways::write_way_itself` meets its contract.
use mathlib.Core.Path.{refl, ◌∙◌}
use mathlib.Core.List.{[], ◌∷◌, append-nil}
use Rattle.model.specs.Lists.{concat_map}
use Rattle.theory.specs.Splices.{splice_front}
use Rattle.opened.proofs.WayNodes.{given_short, given_way}
use Rattle.opened.proofs.ways.write_way_itself.Goals as goal

pub returns-then-out-lt-NUMBER_SIZE : goal.returns-then-out-lt-NUMBER_SIZE
returns-then-out-lt-NUMBER_SIZE c = given_short (c.args.s ∷ []) 2 refl _ c.if-out-lt-NUMBER_SIZE.true

pub returns : goal.returns
returns c = given_way (c.args.s ∷ []) 2 refl _ 1 refl _ c.if-out-lt-NUMBER_SIZE.false
    (unfold concat_map in
    rw append-nil (c.write16.ensures ∙ splice_front _ _))
