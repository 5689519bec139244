use Rattle.std.proofs.Common.{◌∙◌}
use Rattle.printer_link.specs.Link.{arrivals}
use Rattle.printer_link.specs.Memory.{story_world}
use Rattle.printer_link.proofs.Stories.{arrivals_free, on_err_so}
use Rattle.printer_link.proofs.story.Story.let_print.Goals as goal

pub returns-clause-err : goal.returns-clause-err
returns-clause-err c =
    let w = story_world c.args.self.now in
    on_err_so c.run_due.result c.run_due.ensures.err
    (λ same. record { added = arrivals w w.up; is = same ∙ c.in_ok-arrive_all.ensures.ok; free = arrivals_free w w.up })
