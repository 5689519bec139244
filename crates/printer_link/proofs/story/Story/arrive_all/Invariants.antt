use Rattle.std.proofs.Common.{◌≡◌, ◌+◌, ◌++◌, length, replicate}
use Rattle.printer_link.specs.Link.{arrivals}
use Rattle.printer_link.specs.Memory.{story_world, with_events}
use Rattle.printer_model.specs.declared.event.WorldEvent.TheVariants.{Arrive}
use Rattle.printer_link.proofs.story.Story.arrive_all.Given as goal

abbrev pub invariant-loop-arrived : goal.invariant-loop-arrived
invariant-loop-arrived l = record {
  past : l.self ≡ with_events l.initial.self (replicate l.arrived Arrive);
  rest : replicate l.arrived Arrive ++ arrivals (story_world l.self) (story_world l.self).up ≡ arrivals (story_world l.initial.self) (story_world l.initial.self).up;
  coming : length (story_world l.self).up + l.arrived ≡ l.coming;
}
