-- An answer's number and values settle the answer, so that a promise said by them says what the answer is. Assumes nothing.
use Rattle.std.specs.Prelude.{ℕ, ◌≡◌, refl}
use Rattle.std.proofs.Common.{sym, ◌∙◌, ap}
use Rattle.model.specs.Query.{none, total, Values, absent, carried, Meaning, meaning}
use Rattle.model.specs.declared.Answer.{Answer}
use Rattle.model.specs.declared.Answer.TheVariants.{Time, None, Refused}

-- The answer with this number and these values.
meant : ℕ → Values → Answer
meant rule absent = Refused rule
meant rule (carried kind none pairs) = None kind pairs
meant rule (carried kind (total p) pairs) = Time p.seconds p.hops kind pairs

meant_back : (a : Answer) → meant (meaning a).rule (meaning a).values ≡ a
unfolding meaning meant
meant_back (Time seconds hops kind pairs) = refl
meant_back (None kind pairs) = refl
meant_back (Refused rule) = refl

pub meaning_injective : (a b : Answer) → meaning a ≡ meaning b → a ≡ b
meaning_injective a b e = sym (meant_back a) ∙ (ap (λ (m : Meaning). meant m.rule m.values) e ∙ meant_back b)
