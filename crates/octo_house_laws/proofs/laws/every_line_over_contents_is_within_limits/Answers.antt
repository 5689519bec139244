use Rattle.octo_house_laws.proofs.Contents.{every_line_over}
use Rattle.octo_house_laws.proofs.laws.every_line_over_contents_is_within_limits.Goals as goal

pub returns : goal.returns
returns c = every_line_over
