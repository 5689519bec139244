use Rattle.std.proofs.Common.{◌≡◌, refl, sym, ap, true, false}
use Rattle.octo_serve_command.specs.declared.hosting.HostEnd.{HostEnd}
use Rattle.octo_files.specs.declared.report.Report.TheVariants as report
use Rattle.octo_commands.specs.Commands.{carried_out, hosted}
use Rattle.octo_commands.proofs.Refusals.{other_host}
use Rattle.octo_commands.proofs.Suited.{host_suits}
use Rattle.octo_commands.proofs.carrying.run.Goals as goal

pub returns-in-Some-clause-comes : goal.returns-in-Some-clause-comes
returns-in-Some-clause-comes g c words read =
    hosted c.args.command.now c.in-Some.settings.now read (sym c.in-Some.ensures) c.host.ensures.hosts

pub returns-in-Some-clause-causes : goal.returns-in-Some-clause-causes
returns-in-Some-clause-causes g c = record {
  source_failed = c.host.ensures.source.rose;
  link_failed = λ is. let no : false ≡ true = c.host.ensures.refusal report.LinkFailed is in absurd (cc);
  turns_used = λ turns is. let no : false ≡ true = c.host.ensures.refusal (report.TurnsUsed turns) is in absurd (cc);
  hosting = c.host.ensures.causes;
}

pub returns-in-Some-clause-output : goal.returns-in-Some-clause-output
returns-in-Some-clause-output g c = other_host c.host.result.report c.host.ensures.refusal

pub returns-in-None-clause-comes : goal.returns-in-None-clause-comes
returns-in-None-clause-comes g c words read =
    carried_out c.args.command.now c.carry_out-report.result read (ap (λ (h : HostEnd). h.report) c.unserved.ensures)
    c.carry_out-report.ensures.reports c.carry_out-report.ensures.waited
    (record {
      keeper = refl;
      shelf = refl;
      doors = refl;
      unlinked = λ unused. (
        ap (g.L.Link.state) (c.carry_out-report.ensures.untouched unused).0,
        ap g.T.Clock.moment (c.carry_out-report.ensures.untouched unused).1,
      );
    })
    (ap (λ (h : HostEnd). h.history) c.unserved.ensures)

pub host-requires-clause-suits : goal.host-requires-clause-suits
host-requires-clause-suits g c κs lives =
    host_suits _ _ _ c.args.command.now c.in-Some.settings.now (sym c.in-Some.ensures) c.requires.suits
