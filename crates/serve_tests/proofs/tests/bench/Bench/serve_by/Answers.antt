use Rattle.octo_house.specs.State.{session_of}
use Rattle.serve_tests.proofs.Suited.{suits_any}
use Rattle.serve_tests.proofs.tests.bench.Bench.serve_by.Goals as goal

pub serve-requires-clause-suits : goal.serve-requires-clause-suits
serve-requires-clause-suits g c κs lives past is = suits_any (session_of c.args.self.now.house).sender.numbered _ c.requires.plain c.requires.numbered
