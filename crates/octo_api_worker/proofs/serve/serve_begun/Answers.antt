use Rattle.std.proofs.Common.{◌++◌}
use Rattle.octo_outside.proofs.Recorded.{adds_then}
use Rattle.octo_api_worker.proofs.Asked.{once_then, once_turned}
use Rattle.octo_api_worker.proofs.Writing.{turned}
use Rattle.octo_api_worker.proofs.serve.serve_begun.Goals as goal

pub returns-in-Some-clause-served : goal.returns-in-Some-clause-served
returns-in-Some-clause-served g c input begun =
    let state = g.C.Conn.state in
    let away = c.in-Some.ensures.turned in (
      away.0,
      away.2,
      turned c.args.terms.now input (state c.args.conn.now) (state c.write_worker_reply.new.conn) c.args.begun c.in-Some.replied.reply
          c.in-Some.replied.is_open away.0 c.is_head-head_alone.result begun away.1 c.is_head-head_alone.ensures c.write_worker_reply.ensures.written
          c.write_worker_reply.ensures.counted,
    )

pub returns-in-None-clause-served : goal.returns-in-None-clause-served
returns-in-None-clause-served g c input begun =
    let known = c.in-None.ensures.known in
    let rest = c.serve_rest.ensures.served input known.0 begun known.1 in
    (known.0 ++ rest.0, adds_then _ _ _ known.0 rest.0 known.2 rest.1, rest.2)

pub returns-in-Some-clause-once : goal.returns-in-Some-clause-once
returns-in-Some-clause-once g c = let away = c.in-Some.ensures.turned in once_turned _ _ _ _ _ _ (away.0, away.1, away.2)

pub returns-in-None-clause-once : goal.returns-in-None-clause-once
returns-in-None-clause-once g c = once_then c.args.begun.head _ _ _ c.in-None.ensures.known c.serve_rest.ensures.once
