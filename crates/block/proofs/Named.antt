-- The rules of a block as the code checks them, and what a broken one leaves. Assumes nothing.
use Prim.Native.Nat.{ℕ, ◌≤◌}
use mathlib.Core.Path.{◌≡◌, refl, sym, ◌∙◌, ap}
use mathlib.Core.Bool.{true, false}
use mathlib.Core.List.{List}
use lib.ListN.{length}
use lib.Dec.{ltb}
use borrow.Author.Tests.{eq-eqb, ne_eqb, le-ltb}
use Rattle.model.specs.Bytes.{Bytes}
use Rattle.model.specs.Query.{time_word}
use Rattle.model.specs.Rules.{first_broken, network_rules, shape_rules, work_too_small, words_needed}
use Rattle.model.specs.Calls.{clears, cleared}
use Rattle.checks.specs.RuleLists.{named_rules}
use Rattle.checks.proofs.AfterCall.{unclearing, words_kept, words_cleared}
use Rattle.checks.proofs.CheckOrder.{last_kept}
use Rattle.opened.specs.Opened.{Opened}
use Rattle.words.specs.Frames.{KeptFrom}
use Rattle.block.specs.Block.{max_names, names_broken, sides_rules, block_rules, block_by, given, refused, block_refusal, block_after, BlockCall}
use Rattle.block.specs.Parts.{parts_of}
use Rattle.block.proofs.PartLaws.{seconds_block, hops_block}
use Rattle.block.specs.Kept.{BlockKept}
use Rattle.block.proofs.Kept.{block_kept}
use Rattle.block.specs.declared.Block.{Block}

-- ---- rule 17
module _ (names : List ℕ) where
  pub no_names : length names ≡ 0 → names_broken names ≡ true
  unfolding names_broken
  no_names e = rw (eq-eqb (length names) 0 e)

  pub many_names : (length names ≡ 0 → ⊥) → names_broken names ≡ ltb max_names (length names)
  unfolding names_broken
  many_names h = rw (ne_eqb (length names) 0 h)

-- With words enough the rules of a block are those of its sides.
pub block_roomy : (o : Bytes) (starts ends : List ℕ) (words : ℕ) → words_needed o ≤ words
    → first_broken (block_rules o starts ends words) ≡ first_broken (sides_rules o starts ends)
unfolding block_rules work_too_small
block_roomy o starts ends words h = last_kept (sides_rules o starts ends) 14 (le-ltb words (words_needed o) h)

-- ---- a block of keys, taken apart
pub record Parts (o : Bytes) (starts ends : List ℕ) (b : Block) : Type 0 where
  pub keys : List (List ℕ)
  pub number : b.rule ≡ 0
  pub times : b.times ≡ parts_of false keys
  pub hops : b.hops ≡ parts_of true keys
  pub are : keys ≡ block_by (time_word o) starts ends

given_is : {o : Bytes} {starts ends : List ℕ} {b : Block} → Parts o starts ends b → b ≡ given o starts ends
unfolding given
given_is {o} {starts} {ends} p =
    let t = p.times ∙ (ap (parts_of false) p.are ∙ seconds_block o starts ends) in
    let h = p.hops ∙ (ap (parts_of true) p.are ∙ hops_block o starts ends) in
    λ i. record { rule = p.number i; times = t i; hops = h i }

-- ---- after a broken rule, and after none
module _ (o : Bytes) (starts ends work : List ℕ) (k : ℕ) (e : k ≡ first_broken (block_rules o starts ends (length work))) where
  unwritten : unclearing (block_rules o starts ends (length work)) ≡ true
  unfolding unclearing clears block_rules sides_rules named_rules shape_rules network_rules
  unwritten = refl

  pub block_refused : (b : Block) → (k ≡ 0 → ⊥) → b ≡ refused k → BlockCall o starts ends work b work
  unfolding block_refusal block_after
  block_refused b h p = record {
    result = rw (← e, ne_eqb k 0 h) p;
    words = rw (← e) (words_kept (block_rules o starts ends (length work)) unwritten k e o work h);
  }

  pub block_given : (b : Block) (work' mid : List ℕ) → k ≡ 0 → Parts o starts ends b → KeptFrom (words_needed o) work mid → work' ≡ cleared (words_needed o) mid
      → BlockCall o starts ends work b work'
  unfolding block_refusal block_after
  block_given b work' mid z p d c = record {
    result = rw (sym e ∙ z) (given_is p);
    words = c ∙ words_cleared o work mid d _ (sym e ∙ z);
  }

-- ---- the block of an opened oracle
module _ (o : Bytes) (starts ends work : List ℕ) (h : Opened o work) (k : ℕ) (e : k ≡ first_broken (sides_rules o starts ends)) where
  as_block : k ≡ first_broken (block_rules o starts ends (length work))
  as_block = e ∙ sym (block_roomy o starts ends (length work) h.room)

  abbrev After : Block → Type 0
  After b = b ≡ block_after (block_refusal o starts ends work) o starts ends

  pub sides_there : k ≡ 0 → BlockKept o starts ends (length work)
  sides_there z = block_kept o starts ends (length work) (sym as_block ∙ z)

  pub opened_refused : (b : Block) → (k ≡ 0 → ⊥) → b ≡ refused k → After b
  opened_refused b n p = (block_refused o starts ends work k as_block b n p).result

  pub opened_given : (b : Block) → k ≡ 0 → Parts o starts ends b → After b
  opened_given b z p = (block_given o starts ends work k as_block b (cleared (words_needed o) work) work z p refl refl).result
