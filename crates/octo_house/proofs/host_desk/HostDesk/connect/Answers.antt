use Rattle.octo_house.proofs.Stays.{apart-by, connect-stays}
use Rattle.octo_house.proofs.host_desk.HostDesk.connect.Goals as goal

pub returns-clause-apart : goal.returns-clause-apart
returns-clause-apart c =
    apart-by c.args.self.now.session c.connect.new.self _ c.connect.ensures.after
    (connect-stays c.args.self.now.session.desk.state _ c.args.self.now.session.desk)
