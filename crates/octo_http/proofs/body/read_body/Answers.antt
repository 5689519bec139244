use Rattle.std.proofs.Common.{[]}
use Rattle.octo_http.proofs.Reading.{took_none}
use Rattle.octo_http.proofs.Filling.{on_exit}
use Rattle.octo_http.proofs.MessageLemmas.{stops_chunked, says_none, says_chunked}
use Rattle.octo_http.proofs.body.read_body.Goals as goal

pub returns-in_err-body-in-Chunked-clause-stops : goal.returns-in_err-body-in-Chunked-clause-stops
returns-in_err-body-in-Chunked-clause-stops g c =
    on_exit _ c.in_err-body-in-Chunked.field-0.0 _ c.from_residual.ensures.1
    (stops_chunked c.args.framing _ _ _ _ c.in-Chunked.is c.in_err-body-in-Chunked.ensures.stops)

pub returns-in_ok-body-in-Chunked-clause-body : goal.returns-in_ok-body-in-Chunked-clause-body
returns-in_ok-body-in-Chunked-clause-body g c =
    let read = c.in_ok-body-in-Chunked.ensures.body in
    (read.0, says_chunked c.args.framing _ read.0 c.in-Chunked.is read.1, read.2)

pub returns-in-NoBody-clause-body : goal.returns-in-NoBody-clause-body
returns-in-NoBody-clause-body g c = ([], says_none c.args.framing _ c.in-NoBody.is c.new.ensures, took_none _ _)
