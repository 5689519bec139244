use Rattle.std.proofs.Common.{◌+◌, ◌-◌, ◌≤◌}
use Rattle.printer_link.proofs.Stories.{LosesOn}
use Rattle.printer_link.proofs.story.Story.lose_replies.Given as goal

abbrev pub invariant-loop-seen : goal.invariant-loop-seen
invariant-loop-seen l = record {
  loses : LosesOn l.initial.self l.self l.lost l.first l.from l.count l.number l.place (l.count - l.seen);
  within : l.place ≤ l.from + l.seen;
}
