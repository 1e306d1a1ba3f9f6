-- `answer_trials::main` is safe and ends. The measure is the turns left.
use Rattle.answer_trials.proofs.main.Given as goal

abbrev pub decreases-loop-turns : goal.decreases-loop-turns
decreases-loop-turns l = l.turns
