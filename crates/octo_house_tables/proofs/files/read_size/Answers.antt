use Rattle.octo_house_tables.proofs.Contents.{some_size}
use Rattle.octo_house_tables.proofs.files.read_size.Goals as goal

pub returns-in-Ok-Some-clause-some : goal.returns-in-Ok-Some-clause-some
returns-in-Ok-Some-clause-some g c = some_size c.args.name.now c.in-Ok-Some.size
