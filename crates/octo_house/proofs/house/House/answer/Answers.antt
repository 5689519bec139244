use Rattle.std.proofs.Common.{refl, ap}
use Rattle.octo_house_rules.specs.Answers.{request_verdict}
use Rattle.octo_house.specs.State.{known_of}
use Rattle.octo_house.proofs.Fileless.{shelves-same, request-leaves, is_storing}
use Rattle.octo_house.proofs.house.House.answer.Goals as goal

pub returns-in-Download-clause-files : goal.returns-in-Download-clause-files
returns-in-Download-clause-files g c =
    shelves-same _ _ (λ files. request_verdict c.args.request c.args.user.now files (known_of c.args.self.now)) _ c.download.ensures.rest.stays
    (λ files. request-leaves c.args.request c.args.user.now files (known_of c.args.self.now) (ap is_storing c.in-Download.is))
