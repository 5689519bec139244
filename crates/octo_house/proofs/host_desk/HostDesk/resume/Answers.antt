use Rattle.octo_house.proofs.Stays.{apart-by, resume-stays}
use Rattle.octo_house.proofs.host_desk.HostDesk.resume.Goals as goal

pub returns-clause-apart : goal.returns-clause-apart
returns-clause-apart c =
    apart-by c.args.self.now.session c.resume.new.self _ c.resume.ensures.after
    (resume-stays c.args.self.now.session.desk.state c.args.self.now.session.desk)
