use Rattle.std.proofs.Common.{[], ap, refl}
use Rattle.std.specs.Prelude.{Err}
use Rattle.octo_outside.proofs.Recorded.{adds_none}
use Rattle.octo_api_worker.proofs.Asked.{once_none}
use Rattle.octo_api_worker.proofs.Writing.{has_begun, unbegun}
use Rattle.octo_api_worker.proofs.serve.serve_conn.Goals as goal

pub returns-in-Ok-clause-served : goal.returns-in-Ok-clause-served
returns-in-Ok-clause-served g c input new =
    let state = g.C.Conn.state in
    c.serve_begun.ensures.served input
    (has_begun c.args.terms.now input (state c.args.conn.now) (state c.read_begin.new.conn) c.in-Ok.begun new c.in-Ok.ensures.begun c.in-Ok.ensures.written
    c.in-Ok.ensures.waited c.in-Ok.ensures.patience)

pub returns-in-Err-clause-served : goal.returns-in-Err-clause-served
returns-in-Err-clause-served g c input new =
    let state = g.C.Conn.state in (
      [],
      adds_none (g.A.Asker.state c.args.asker.now).mine,
      unbegun c.args.terms.now input (state c.args.conn.now) (state c.read_begin.new.conn) (state c.refuse.new.conn) c.in-Err.no_head
          c.refuse.ensures.written.0 new c.in-Err.ensures.stopped c.in-Err.ensures.written c.in-Err.ensures.patient
          (λ is. c.in-Err.ensures.counts.rose (ap Err is)) c.in-Err.ensures.counts.later c.refuse.ensures.written.1 c.refuse.ensures.written.2
          c.refuse.ensures.left c.refuse.ensures.quiets c.refuse.ensures.counted,
    )

pub returns-in-Err-clause-once : goal.returns-in-Err-clause-once
returns-in-Err-clause-once g c = once_none _ _ refl
