use Rattle.octo_house_laws.proofs.Limits.{every_line_of_settings}
use Rattle.octo_house_laws.proofs.laws.every_line_of_read_settings_is_within_limits.Goals as goal

pub returns : goal.returns
returns c = every_line_of_settings
