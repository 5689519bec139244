use Rattle.std.proofs.Common.{Some, sym, ap, ◌∙◌, subst}
use Rattle.job_desk.specs.Views.{bytes_of}
use Rattle.octo_asks.specs.declared.answer.Answer.TheVariants as answer
use Rattle.octo_house_rules.specs.Prints.{manual_verdict}
use Rattle.octo_house_rules.specs.Refusals.{found_or}
use Rattle.octo_house_rules.specs.Verdict.{IsDone}
use Rattle.octo_house.specs.Facing.{facing}
use Rattle.octo_house.proofs.host_desk.HostDesk.lines.Goals as goal

pub returns-in-Ok-clause-done : goal.returns-in-Ok-clause-done
returns-in-Ok-clause-done c = λ k.
    let old = facing k c.args.self.now in
    subst (λ o. IsDone (found_or o answer.BadCommand (λ commands. manual_verdict commands old)) c.manual.result old (facing k c.manual.new.self))
    (sym (c.in-Ok.ensures.are ∙ ap (λ lines. Some (bytes_of lines)) (sym c.deref.ensures.value))) (c.manual.ensures.done k)
