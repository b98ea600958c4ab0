-- `names::some_missing` meets its contract: what the call of `any` answered, against the definition's own recursion.
use Rattle.std.proofs.Common.{ℕ, ◌≤◌, ◌<◌, Bool, true, false, leb, List, length, Decides, MatchBool, refl, arith, rules, tests}
use Rattle.std.specs.List.{HoldsAt, AllWithin}
use Rattle.std.proofs.lemmas.Iterator.{cases_from_any, YieldsList-from_slice}
use Rattle.std.proofs.lemmas.Bool.{false≢true}
use Rattle.std.proofs.lemmas.Bool.Decides.{same_from_decides, Decides-by_or}
use borrow.Author.Tests.{leb-true, le-leb}
use Rattle.model.specs.Lists.{any}
use Rattle.checks.proofs.names.some_missing.Goals as goal

abbrev HasMissing : ℕ → List ℕ → Type 0
HasMissing n xs = (k : ℕ) × (k < length xs) × HoldsAt (λ x. n ≤ x) xs k

decides : (n : ℕ) (r : Bool) (xs : List ℕ) → MatchBool r (HasMissing n xs) (AllWithin (λ x. x < n) xs 0 (length xs)) → Decides r (HasMissing n xs)
decides n true xs h = (λ _. h, λ _. refl)
decides n false xs h =
    (λ e. absurd (false≢true e), λ w. absurd (omega (arith, h w.0 0 (omega arith) w.1, w.2 0)))

pub returns : goal.returns
unfolding any
returns c =
    let n = c.args.n in
    let xs = c.args.names.now in
    let by_call = cases_from_any _ _ _ (λ x. n ≤ x) (λ x. x < n) c.any.ensures.ran (YieldsList-from_slice xs cc) (λ x q k. search (rules, tests)) (λ x q k. search (rules, tests)) in
    let by_spec = Decides-by_or (leb n) (λ x. n ≤ x) (any (leb n)) (λ x. (leb-true n x, le-leb n x)) refl (λ _ _. refl) xs in
    same_from_decides _ (any (leb n) xs) (decides n _ xs by_call) by_spec
