use Rattle.std.proofs.Common.{◌≡◌, nat_lt, false, length, Some, subst, option_map, ap, arith}
use Rattle.std.proofs.lemmas.Bool.Decides.{nat_tests}
use Rattle.serde_json.specs.View.{view}
use Rattle.octo_api_requests.specs.Requests.{IsJson}
use Rattle.octo_api_requests.proofs.Asked.{asks_one}
use Rattle.octo_api_requests.proofs.request.asked_body.Goals as goal

pub returns-in-Some-clause-asks : goal.returns-in-Some-clause-asks
returns-in-Some-clause-asks c =
    let small : nat_lt 1048576 (length c.args.body.now) ≡ false = grind (arith, nat_tests) in
    let is : IsJson c.args.body.now (Some (view c.in-Some.value)) =
    subst (λ found. IsJson c.args.body.now (option_map (λ v. view v) found)) c.in-Some.is c.in_ok-value.ensures.ok in
    asks_one _ _ (view c.in-Some.value) _ small is c.asked_json.ensures.asks
