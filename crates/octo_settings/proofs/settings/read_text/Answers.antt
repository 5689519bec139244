use Rattle.toml.specs.View.{table_view}
use Rattle.octo_settings.specs.Config.{settings_in}
use Rattle.octo_settings.proofs.Sound.{read-sound, settings-sound}
use Rattle.octo_settings.proofs.settings.read_text.Goals as goal

pub returns-clause-sound : goal.returns-clause-sound
returns-clause-sound c =
    read-sound c.read_table.result (settings_in (table_view c.in_ok-table.table)) c.read_table.ensures (settings-sound (table_view c.in_ok-table.table))
