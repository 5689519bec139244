use Rattle.octo_house.proofs.Listed.{listed-with}
use Rattle.octo_house.proofs.house.House.store.Goals as goal

pub returns-clause-listed : goal.returns-clause-listed
returns-clause-listed g c = listed-with c.args.name.now _ _ _ _ _ c.in_default-put.ensures.ok (cc)
