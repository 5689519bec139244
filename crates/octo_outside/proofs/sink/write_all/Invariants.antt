use Rattle.std.proofs.Common.{length, ◌-◌, ◌≤◌, take}
use Rattle.octo_outside.specs.Recorded.{Adds}
use Rattle.octo_outside.proofs.sink.write_all.Given as goal

abbrev pub invariant-loop-done : goal.invariant-loop-done
invariant-loop-done g l = record {
  within : l.done ≤ length l.bytes;
  counted : g.S.Sink.faults l.initial.sink ≤ g.S.Sink.faults l.sink;
  written : Adds (g.S.Sink.written l.initial.sink) (g.S.Sink.written l.sink) (take l.done l.bytes);
}

abbrev pub decreases-loop-done : goal.decreases-loop-done
decreases-loop-done g l = length l.bytes - l.done
