use Rattle.octo_house_tables.proofs.Contents.{some_bytes}
use Rattle.octo_house_tables.proofs.files.read_bytes.Goals as goal

pub returns-in-Ok-Some-clause-some : goal.returns-in-Ok-Some-clause-some
returns-in-Ok-Some-clause-some g c = some_bytes c.args.name.now c.in-Ok-Some.bytes
