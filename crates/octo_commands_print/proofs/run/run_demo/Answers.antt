use Rattle.std.proofs.Common.{◌∙◌, Bool, ap, subst, refl, rules}
use Rattle.std.specs.Prelude.{is_some}
use Rattle.printer_link.specs.Memory.{MemoryLinkData, link_kind, new_link}
use Rattle.octo_commands_print.specs.Run.{IsPrint}
use Rattle.octo_commands_print.proofs.run.run_demo.Goals as goal

pub returns : goal.returns
returns c =
    let its = c.in_ok-link.ensures ∙ ap new_link c.in_ok-demo_schedule.ensures in
    let counted = subst (λ (b : Bool). IsPrint b (link_kind c.in_ok-link.link) c.in_ok-job.job c.print_over.new.link c.in_ok-end.end) c.is_some-numbered.ensures c.in_ok-end.ensures in
    let print = subst (λ (first : MemoryLinkData). IsPrint (is_some c.args.lost) (link_kind first) c.in_ok-job.job c.print_over.new.link c.in_ok-end.end) its counted in
    record {
      job = c.in_ok-job.job;
      its_file = c.in_ok-job.ensures;
      print = print;
      listed = print.listed refl;
      sound = search rules;
    }
