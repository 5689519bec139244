use Rattle.std.proofs.Common.{sym, subst}
use Rattle.octo_settings.specs.Sound.{IsSettings}
use Rattle.octo_settings.proofs.Sound.{plain-sound}
use Rattle.octo_settings.proofs.settings.Settings.plain.Goals as goal

pub returns-clause-sound : goal.returns-clause-sound
returns-clause-sound c = subst IsSettings (sym c.defaults.ensures) plain-sound
