use Rattle.std.proofs.Common.{arith}
use Rattle.octo_http.specs.Message.{large}
use Rattle.octo_http.proofs.Filling.{on_exit}
use Rattle.octo_http.proofs.MessageLemmas.{stops_length, says_length}
use Rattle.octo_http.proofs.body.read_length.Goals as goal

pub returns-in_err-fill-clause-stops : goal.returns-in_err-fill-clause-stops
returns-in_err-fill-clause-stops g c =
    on_exit _ c.in_err-fill.field-0.0 _ c.from_residual.ensures.1
    (stops_length c.args.length _ _ _ _ (omega arith) c.in_err-fill.ensures.stops)

pub returns-clause-body : goal.returns-clause-body
returns-clause-body g c =
    let ok = c.in_ok-fill.ensures.ok in
    (ok.0, λ more. says_length c.args.length _ _ ok.0 more (omega arith) c.new-body.ensures ok.1 ok.2, ok.3)

pub returns-then-length-gt-MOST_BODY-clause-stops : goal.returns-then-length-gt-MOST_BODY-clause-stops
returns-then-length-gt-MOST_BODY-clause-stops g c input holds = large c.args.length input (omega arith)
