use Rattle.octo_house.proofs.Listed.{listed-without}
use Rattle.octo_house.proofs.house.House.delete_file.Goals as goal

pub returns-clause-listed : goal.returns-clause-listed
returns-clause-listed g c = listed-without c.args.name.now _ _ _ _ c.in_default-remove.ensures.ok c.drop_name.ensures.items
