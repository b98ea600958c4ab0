-- `answers::seconds_between` meets its contract: a time's seconds have 32 bits.
use native.Mathlib.Omega.{arith}
use mathlib.Core.Path.{◌∙◌, ap}
use Prim.Native.Nat.{ℕ}
use Rattle.model.specs.Pair.{seconds_of}
use Rattle.model.specs.Oracle.{coded}
use Rattle.model.specs.Query.{distance_of, time_word, seconds_word}
use Rattle.model.specs.declared.Answer.{Answer}
use Rattle.tables.specs.Bounds.{word_small}
use Rattle.opened.proofs.answers.seconds_between.Goals as goal

pub seconds_of-requires : goal.seconds_of-requires
unfolding time_word
seconds_of-requires c =
    let word = c.key_of.ensures ∙ ap (λ (a : Answer). coded (distance_of a)) c.time_of.ensures.answer in
    omega (arith, word, word_small _ c.requires.0.shape _ _ c.requires.1 c.requires.2)

pub returns : goal.returns
unfolding time_word seconds_word
returns c =
    let word = c.key_of.ensures ∙ ap (λ (a : Answer). coded (distance_of a)) c.time_of.ensures.answer in
    record { seconds = c.seconds_of.ensures ∙ ap (λ (k : ℕ). seconds_of k) word; others = c.time_of.ensures.others }
