-- `answers::time_under_of` meets its contract: the old answer where it stands, and else that of the search.
use mathlib.Core.Path.{◌∙◌, sym, ap}
use Rattle.sheet.specs.Under.{is_none}
use Rattle.theory.specs.Passed.{all_shaped}
use Rattle.opened.proofs.OpenLaws.{stays, stays_then}
use Rattle.under.proofs.Networks.{own_itself}
use Rattle.under.proofs.Stands.{stands_itself, stands_driven, stands_none, stands_not}
use Rattle.under.proofs.answers.time_under_of.Goals as goal
use Rattle.under.proofs.answers.time_under_of.Goals.{then-driven-via-then-driven, then-driven-via-else-driven+then-is_none}

pub returns-then-s-t : goal.returns-then-s-t
returns-then-s-t c =
    let a = c.args in
    let e = stands_itself _ a.o.now a.s (own_itself a.o.now (all_shaped _ c.requires.opened.0.shape) a.s c.requires.opened.1) in record {
      answer = rw (← c.if-s-t.true) (rw (← c.if-s-t.true) at c.time_of.ensures.answer ∙ e);
      stays = stays _ _ _ c.requires.opened.0
          c.time_of.auto.work c.time_of.ensures.others;
    }

pub judge-driven-requires : goal.judge-driven-requires
judge-driven-requires c = record { opened = (c.requires.opened.0, c.requires.opened.1, c.requires.opened.2, c.if-s-t.false); quick_lines = c.requires.quick_lines }

pub old_answer-old-requires : goal.old_answer-old-requires
old_answer-old-requires c = record { opened = (c.judge-driven.ensures.stays.opened, c.requires.opened.1, c.requires.opened.2); s_value = c.judge-driven.ensures.old }

pub returns-then-driven : goal.returns-then-driven
returns-then-driven c = elim c.then-driven.branch [
  | then-driven-via-then-driven w ↦ record { answer = c.old_answer-old.ensures ∙ stands_driven _ _ _ _ (sym c.judge-driven.ensures.driven ∙ w.if-driven.true); stays = c.judge-driven.ensures.stays }
  | then-driven-via-else-driven+then-is_none w ↦ record {
    answer = c.old_answer-old.ensures ∙ stands_none _ _ _ _ (sym (ap is_none c.old_answer-old.ensures) ∙ (sym w.is_none.ensures ∙ w.if-is_none.true));
    stays = c.judge-driven.ensures.stays;
  }
]

pub searched-requires : goal.searched-requires
searched-requires c = record { opened = (c.judge-driven.ensures.stays.opened, c.requires.opened.1, c.requires.opened.2, c.if-s-t.false); edges_under = c.judge-driven.ensures.edges }

pub returns : goal.returns
returns c = record {
  answer = c.searched.ensures.answer ∙ stands_not _ _ _ _ (sym c.judge-driven.ensures.driven ∙ c.if-driven.false)
      (sym (ap is_none c.old_answer-old.ensures) ∙ (sym c.is_none.ensures ∙ c.if-is_none.false));
  stays = stays_then _ _ _ _ c.judge-driven.ensures.stays (stays _ _ _ c.judge-driven.ensures.stays.opened c.searched.auto.work c.searched.ensures.others);
}
