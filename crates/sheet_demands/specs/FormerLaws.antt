-- The calls under a sheet are the calls by any rule, by today's. Assumes nothing.
use Rattle.std.specs.Prelude.{ℕ, ◌↔◌}
use mathlib.Core.List.{List}
use Rattle.model.specs.Bytes.{Bytes}
use Rattle.model.specs.declared.Answer.{Answer}
use Rattle.model.specs.declared.Route.{Route}
use Rattle.sheet.specs.Sheet.{effects}
use Rattle.sheet.specs.SheetCalls.{sheet_rules, pair_under_rules, time_under_rules, way_under_rules, time_under_refusal, time_under_result, TimeUnderCall, way_under_refusal, WayUnderCall}
use Rattle.sheet_demands.specs.Former.{time_rules_by, time_refusal_by, TimeBy, way_refusal_by, WayBy}

pub time_by : {o sheet : Bytes} {s t : ℕ} {work work' : List ℕ} {a : Answer}
    → TimeUnderCall o sheet s t work a work' ↔ TimeBy (effects sheet) o sheet s t work a work'
unfolding time_under_refusal time_under_result time_under_rules pair_under_rules sheet_rules time_refusal_by time_rules_by
time_by = (λ c. record { result = c.result; words = c.words }, λ c. record { result = c.result; words = c.words })

pub way_by : {o sheet : Bytes} {s t : ℕ} {work work' : List ℕ} {out out' : Bytes} {r : Route}
    → WayUnderCall o sheet s t work out r work' out' ↔ WayBy (effects sheet) o sheet s t work out r work' out'
unfolding way_under_refusal way_under_rules time_under_rules pair_under_rules sheet_rules way_refusal_by time_rules_by
way_by =
    (λ c. record { result = c.result; words = c.words; bytes = c.bytes }, λ c. record { result = c.result; words = c.words; bytes = c.bytes })
