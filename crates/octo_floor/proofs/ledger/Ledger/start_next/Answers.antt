use Rattle.std.proofs.Common.{refl}
use Rattle.octo_floor.specs.Step.{takes}
use Rattle.octo_floor.proofs.ledger.Ledger.start_next.Goals as goal

pub returns-in-Some-clause-begins : goal.returns-in-Some-clause-begins
returns-in-Some-clause-begins g c =
    let took = c.take.ensures.takes in
    (took.0, took.1, takes (c.if-not-is_free.ensures.yes refl) c.in-Some.ensures.lawful c.in-Some.entry c.in-Some.ensures.next took.2)
