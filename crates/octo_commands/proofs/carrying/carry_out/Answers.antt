use Rattle.std.proofs.Common.{subst, sym, refl}
use Rattle.octo_commands_print.specs.Printing.{seen_of}
use Rattle.octo_commands.specs.Commands.{Reports}
use Rattle.octo_commands.proofs.Recorded.{print_recorded}
use Rattle.octo_commands.proofs.Suited.{print_suits}
use Rattle.octo_commands.proofs.carrying.carry_out.Goals as goal

pub returns-in-Check-clause-reports : goal.returns-in-Check-clause-reports
returns-in-Check-clause-reports g c =
    let past = (g.L.Link.state c.args.link.now).past in
    subst (λ command. Reports (g.L.Link.state c.args.link.now).kind (g.F.Source.files c.args.files.now) (seen_of past past (g.L.Link.state c.args.link.now).faults (g.L.Link.state c.args.link.now).faults (g.T.Clock.moment c.args.clock.now)) command c.check.result) (sym c.in-Check.is) (c.check.ensures.check, refl)

pub returns-in-Print-clause-recorded : goal.returns-in-Print-clause-recorded
returns-in-Print-clause-recorded g c = print_recorded _ _ _ _ _ _ _ _ c.print_file.ensures.print

pub print_file-requires-clause-suits : goal.print_file-requires-clause-suits
print_file-requires-clause-suits g c = print_suits _ _ _ _ _ _ _ _ _ _ c.in-Print.is c.name_of_settings.ensures c.requires.suits
