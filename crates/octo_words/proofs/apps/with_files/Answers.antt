use Rattle.clap.specs.Words.{App, with_subcommand}
use Rattle.octo_words.specs.Apps.{measure_app, rest_app, serve_app, floor_app}
use Rattle.octo_words.proofs.apps.with_files.Goals as goal

pub returns : goal.returns
returns c before is =
    let with_measure : App = with_subcommand before measure_app.top in
    let with_rest : App = with_subcommand with_measure rest_app.top in
    let first = c.with_command-program.ensures before measure_app is c.measure_app.ensures.app in
    let second = c.with_command-program-2.ensures with_measure rest_app first c.rest_app.ensures.app in
    let with_serve : App = with_subcommand with_rest serve_app.top in
    let third = c.with_command-program-3.ensures with_rest serve_app second c.serve_app.ensures.app in
    c.with_command.ensures with_serve floor_app third c.floor_app.ensures.app
