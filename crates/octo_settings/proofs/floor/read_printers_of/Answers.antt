use Rattle.octo_settings.specs.Seen.{data_of_value}
use Rattle.octo_settings.proofs.PrintersSound.{printers-read}
use Rattle.octo_settings.proofs.floor.read_printers_of.Goals as goal

pub returns-clause-sound : goal.returns-clause-sound
returns-clause-sound c = printers-read (data_of_value c.value_of.result) c.read_printers.result c.read_printers.ensures
