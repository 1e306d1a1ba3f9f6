use Rattle.files.proofs.MemberLoop.{Taking}
use Rattle.files.proofs.sets.read_members.Given as goal

abbrev pub invariant-loop-place : goal.invariant-loop-place
invariant-loop-place l = Taking l.objects l.count l.file l.initial.next.at l.initial.members l.start l.members l.next.at l.low l.place
