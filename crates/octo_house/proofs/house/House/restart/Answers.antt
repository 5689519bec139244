use Rattle.octo_house.proofs.Rested.{rested-none}
use Rattle.octo_house.proofs.house.House.restart.Goals as goal

pub begin_print-requires : goal.begin_print-requires
begin_print-requires g c = λ some.
    rested-none c.args.self.now.tables.unwritten c.args.self.now.desk.session.desk.active c.args.self.now.rested c.in-Ok.ensures.active
