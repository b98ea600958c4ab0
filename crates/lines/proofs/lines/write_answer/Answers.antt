-- `lines::write_answer` meets its contract. Assumes nothing.
use Rattle.lines.proofs.Chains.{wrote_none}
use Rattle.lines.proofs.Parts.{time_text_law, none_text_law, refused_text}
use Rattle.lines.proofs.lines.write_answer.Goals as goal

pub write_time-requires : goal.write_time-requires
write_time-requires c = rw (c.in-Time.is, time_text_law) at c.requires

pub write_none-requires : goal.write_none-requires
write_none-requires c = rw (c.in-None.is, none_text_law) at c.requires

pub returns-in-Time : goal.returns-in-Time
returns-in-Time c = rw (c.in-Time.is, time_text_law) c.write_time.ensures

pub returns-in-None : goal.returns-in-None
returns-in-None c = rw (c.in-None.is, none_text_law) c.write_none.ensures

pub returns-in-Refused : goal.returns-in-Refused
returns-in-Refused c = rw (c.in-Refused.is, refused_text) (wrote_none _ _)
