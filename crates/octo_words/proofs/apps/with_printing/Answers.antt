use Rattle.clap.specs.Words.{App, with_subcommand}
use Rattle.octo_words.specs.Apps.{print_app, sure_app, check_app, demo_app}
use Rattle.octo_words.proofs.apps.with_printing.Goals as goal

pub returns : goal.returns
returns c before is =
    let with_print : App = with_subcommand before print_app.top in
    let with_sure : App = with_subcommand with_print sure_app.top in
    let with_check : App = with_subcommand with_sure check_app.top in
    let first = c.with_command-program.ensures before print_app is c.print_app.ensures.app in
    let second = c.with_command-program-2.ensures with_print sure_app first c.sure_app.ensures.app in
    let third = c.with_command-program-3.ensures with_sure check_app second c.check_app.ensures.app in
    c.with_command.ensures with_check demo_app third c.demo_app.ensures.app
