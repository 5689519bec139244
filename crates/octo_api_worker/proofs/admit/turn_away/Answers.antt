use Rattle.std.proofs.Common.{[], Option, subst}
use Rattle.octo_outside.proofs.Recorded.{adds_none}
use Rattle.octo_asks.specs.declared.request.Ask.{Ask}
use Rattle.octo_api_worker.specs.Served.{IsFirstAsk, no_key, by_memory}
use Rattle.octo_api_worker.proofs.Calls.{none_so, some_so}
use Rattle.octo_api_worker.proofs.admit.turn_away.Goals as goal

pub returns-in-Ok-None-clause-known : goal.returns-in-Ok-None-clause-known
returns-in-Ok-None-clause-known g c =
    let First : Option Ask → Type 0 = λ first. IsFirstAsk c.args.head.now first in
    ([], no_key (subst First c.in-Ok-None.field-0-is c.in-Ok-None.ensures), adds_none (g.A.Asker.state c.args.asker.now).mine)

pub returns-in-Ok-Some-clause-known : goal.returns-in-Ok-Some-clause-known
returns-in-Ok-Some-clause-known g c =
    let First : Option Ask → Type 0 = λ first. IsFirstAsk c.args.head.now first in
    let is = subst First c.in-Ok-Some.field-0-is c.in-Ok-Some.ensures in
    none_so c.ask_whom.result _ _ (λ known. known c.args.head.now is.0 is.1) c.ask_whom.ensures.known

pub returns-in-Ok-Some-clause-turned : goal.returns-in-Ok-Some-clause-turned
returns-in-Ok-Some-clause-turned g c =
    let First : Option Ask → Type 0 = λ first. IsFirstAsk c.args.head.now first in
    let is = subst First c.in-Ok-Some.field-0-is c.in-Ok-Some.ensures in
    some_so c.ask_whom.result _ _ (λ r turned. turned c.args.origins.now c.args.head.now c.listed-origin.ensures is.0 is.1) c.ask_whom.ensures.turned

pub returns-in-Err-clause-turned : goal.returns-in-Err-clause-turned
returns-in-Err-clause-turned g c = (
  [],
  by_memory c.reply_with.result (c.reply_with.ensures c.args.origins.now c.args.head.now c.listed-origin.ensures),
  adds_none (g.A.Asker.state c.args.asker.now).mine,
)
