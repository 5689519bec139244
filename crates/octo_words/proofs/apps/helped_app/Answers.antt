use Rattle.octo_words.specs.Apps.{helped_bare_app, with_commands, printing_commands}
use Rattle.octo_words.proofs.apps.helped_app.Goals as goal

pub returns : goal.returns
returns c =
    c.with_files.ensures (with_commands helped_bare_app printing_commands) (c.with_printing-program.ensures helped_bare_app c.helped_bare_app.ensures.app)
