use Rattle.std.proofs.Common.{◌≡◌, replicate}
use Rattle.printer_link.specs.Memory.{with_events}
use Rattle.printer_model.specs.declared.event.WorldEvent.TheVariants.{Run}
use Rattle.printer_link.proofs.story.Story.run_all.Given as goal

abbrev pub invariant-loop-ran : goal.invariant-loop-ran
invariant-loop-ran l = l.self ≡ with_events l.initial.self (replicate l.ran Run)
