-- `after::way_after` comes to an end: the time left falls at each step.
use Rattle.way.proofs.after.+way_after.Given as goal

abbrev pub decreases-way_after : goal.decreases-way_after
decreases-way_after l = l.left
