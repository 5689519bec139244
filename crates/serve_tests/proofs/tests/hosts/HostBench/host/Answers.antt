use Rattle.serve_tests.proofs.Suited.{suits_any}
use Rattle.serve_tests.proofs.tests.hosts.HostBench.host.Goals as goal

pub host-requires-clause-suits : goal.host-requires-clause-suits
host-requires-clause-suits g c κs lives s have past is = suits_any s.numbered_oks _ c.requires.plain c.requires.numbered
