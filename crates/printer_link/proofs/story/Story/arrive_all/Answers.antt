use Rattle.std.proofs.Common.{◌≡◌, ◌∙◌, true, replicate}
use Rattle.printer_model.specs.Printer.{is_full}
use Rattle.printer_link.specs.Link.{arrivals}
use Rattle.printer_link.specs.Memory.{story_world}
use Rattle.printer_model.specs.declared.event.WorldEvent.TheVariants.{Arrive}
use Rattle.printer_link.proofs.Stories.{arrivals_full, arrived_all, free_replicate, on_err}
use Rattle.printer_link.proofs.story.Story.arrive_all.Goals as goal

pub returns-then-is_full-clause-ok : goal.returns-then-is_full-clause-ok
returns-then-is_full-clause-ok c =
    let now = c.loop-arrived.self in
    let start = c.args.self.now in
    let full : is_full (story_world now).printer ≡ true = cc in
    arrived_all start now c.loop-arrived.arrived (arrivals (story_world start) (story_world start).up) (arrivals (story_world now) (story_world now).up) c.loop-arrived.invariant.past c.loop-arrived.invariant.rest
    (arrivals_full (story_world now) (story_world now).up full)

pub returns-in_err-add-clause-err : goal.returns-in_err-add-clause-err
returns-in_err-add-clause-err c =
    on_err c.from_residual.result
    (record {
      added = replicate c.loop-arrived.arrived Arrive;
      is = c.in_err-add.ensures.err ∙ c.loop-arrived.invariant.past;
      free = free_replicate c.loop-arrived.arrived;
    })
