-- What crosses to other languages for an answer, and for a part of the oracle. Assumes nothing.
use Rattle.std.specs.Prelude.{ℕ, cond, eqb}
use Rattle.model.specs.Bytes.{Bytes}
use Rattle.model.specs.Oracle.{no_seconds, no_hops}
use Rattle.model.specs.Query.{list_span}
use Rattle.model.specs.declared.Kind.{Kind}
use Rattle.model.specs.declared.Kind.TheVariants.{Far, Local}
use Rattle.model.specs.declared.Answer.{Answer}
use Rattle.model.specs.declared.Answer.TheVariants.{Time, None, Refused}
use Rattle.capi.specs.declared.oracles.Reply.{Reply}
use Rattle.capi.specs.declared.oracles.Part.{Part}

unfoldable pub kind_number : Kind → ℕ
kind_number Far = 1
kind_number Local = 2

-- The number and the values of each case; 'no walk' marked as in the table, zeros beside a refusal.
unfoldable pub reply : Answer → Reply
reply (Time seconds hops kind pairs) = record { rule = 0; kind = kind_number kind; seconds = seconds; hops = hops; pairs = pairs }
reply (None kind pairs) = record { rule = 0; kind = kind_number kind; seconds = no_seconds; hops = no_hops; pairs = pairs }
reply (Refused rule) = record { rule = rule; kind = 0; seconds = 0; hops = 0; pairs = 0 }

-- Where the list of u stands in the oracle; nowhere, beside a refusal.
unfoldable pub span : Bytes → ℕ → Part
span o u = record { start = (list_span o u).start; size = (list_span o u).size }

unfoldable pub list_reply : ℕ → Bytes → ℕ → Part
list_reply rule o u = cond (eqb rule 0) (span o u) (record { start = 0; size = 0 })
