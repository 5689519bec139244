use Rattle.octo_house.proofs.Stays.{apart-by, toggle-stays}
use Rattle.octo_house.proofs.host_desk.HostDesk.toggle.Goals as goal

pub returns-clause-apart : goal.returns-clause-apart
returns-clause-apart c =
    apart-by c.args.self.now.session c.toggle.new.self _ c.toggle.ensures.after
    (toggle-stays c.args.self.now.session.desk.state c.args.self.now.session.desk)
