use Rattle.std.proofs.Common.{◌≡◌, ◌≤◌}
use Rattle.marlin_sim.specs.Sim.{Arrives, Keeps, work}
use Rattle.marlin_sim.proofs.sim.Sim.arrive_all.Given as goal

abbrev pub invariant-loop : goal.invariant-loop
invariant-loop l = record {
  arrives : Arrives l.initial.self l.self;
  kept : Keeps l.initial.self l.self;
  work : work l.self ≤ work l.initial.self;
  text : l.self.text ≡ l.initial.self.text;
  slots : l.self.printer.slots ≡ l.initial.self.printer.slots;
}

abbrev pub decreases-loop : goal.decreases-loop
decreases-loop l = work l.self
