use Rattle.octo_house_laws.proofs.Hosts.{every_host}
use Rattle.octo_house_laws.proofs.laws.every_host_keeps_the_laws.Goals as goal

pub returns : goal.returns
returns c = every_host
