use Rattle.std.proofs.Common.{subst, Ok}
use Rattle.octo_files.specs.Settings.{HaveSettings}
use Rattle.octo_files.specs.Checks.{check_report}
use Rattle.octo_commands.specs.Commands.{Given, checked}
use Rattle.std.proofs.Common.{◌≡◌}
use Rattle.octo_commands.proofs.carrying.check.Goals as goal

pub returns-in-Ok-clause-check : goal.returns-in-Ok-clause-check
returns-in-Ok-clause-check g c =
    let s = c.in-Ok.settings in
    let r = c.check_file.result in
    let files = g.F.Source.files c.args.files.now in
    let settings = subst (λ name. HaveSettings files name (Ok s)) c.name_of_settings.ensures c.in-Ok.ensures.exact in
    let read = subst (λ held. Given held c.as_str.result.now r (λ bytes. r ≡ check_report s.limits bytes)) c.in-Ok.ensures.files c.check_file.ensures.exact in
    checked s settings (subst (λ name. Given files name r (λ bytes. r ≡ check_report s.limits bytes)) c.as_str.ensures read)
