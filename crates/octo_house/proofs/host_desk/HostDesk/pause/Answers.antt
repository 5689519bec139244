use Rattle.octo_house.proofs.Stays.{apart-by, pause-stays}
use Rattle.octo_house.proofs.host_desk.HostDesk.pause.Goals as goal

pub returns-clause-apart : goal.returns-clause-apart
returns-clause-apart c =
    apart-by c.args.self.now.session c.pause.new.self _ c.pause.ensures.after
    (pause-stays c.args.self.now.session.desk.state c.args.self.now.session.desk)
