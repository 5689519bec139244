use Rattle.std.proofs.Common.{◌≡◌, ◌++◌, take}
use Rattle.job_desk.specs.Views.{bytes_of}
use Rattle.job_desk.proofs.desk.calls.push_all.Given as goal

abbrev pub invariant-loop-line : goal.invariant-loop-line
invariant-loop-line l = record {
  items : bytes_of l.waiting.items ≡ bytes_of l.initial.waiting.items ++ bytes_of (take l.line-index l.lines);
  capacity : l.waiting.capacity ≡ l.initial.waiting.capacity;
}
