use Rattle.octo_words.specs.Apps.{bare_app, with_commands, printing_commands}
use Rattle.octo_words.proofs.apps.octo_app.Goals as goal

pub returns : goal.returns
returns c =
    c.with_files.ensures (with_commands bare_app printing_commands) (c.with_printing-program.ensures bare_app c.bare_app.ensures.app)
