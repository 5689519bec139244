use Rattle.std.proofs.Common.{◌≡◌, ℕ, List, ◌++◌, drop}
use Rattle.job_desk.specs.declared.link_fact.LinkFact.TheVariants.{Quiet}
use Rattle.octo_floor_command.specs.Lines.{lines_of}
use Rattle.octo_log.specs.Logged.{Logs}
use Rattle.octo_floor_command.proofs.log.FloorLogWatch.see.Given as goal

-- the lines so far, and those of the other events, are all
abbrev pub invariant-loop-i : goal.invariant-loop-i
invariant-loop-i g l = record {
  said : (front : List ℕ)
      × Logs front (g.G.Sink.written l.initial.self.log) (g.G.Sink.written l.self.log) (g.G.Sink.faults l.initial.self.log) (g.G.Sink.faults l.self.log)
      × (lines_of l.ports Quiet l.events ≡ front ++ lines_of l.ports l.found (drop l.i l.events));
}
