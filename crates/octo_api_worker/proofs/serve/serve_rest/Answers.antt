use Rattle.std.proofs.Common.{[], ap}
use Rattle.std.specs.Prelude.{Err}
use Rattle.octo_outside.proofs.Recorded.{adds_none}
use Rattle.octo_api_worker.specs.Served.{no_call}
use Rattle.octo_api_worker.proofs.Asked.{leads_to}
use Rattle.octo_api_worker.proofs.Writing.{unread, served_message}
use Rattle.octo_api_worker.proofs.serve.serve_rest.Goals as goal

pub returns-in-Ok-clause-served : goal.returns-in-Ok-clause-served
returns-in-Ok-clause-served g c input first begun admits =
    let state = g.C.Conn.state in
    let replied = c.reply_to_message-replied.ensures.replied in (
      replied.0,
      replied.1,
      served_message c.args.terms.now input (state c.args.conn.now) (state c.read_rest.new.conn) (state c.write_worker_reply.new.conn) c.args.begun first
          c.in-Ok.message c.reply_to_message-replied.result.reply c.reply_to_message-replied.result.is_open replied.0 c.is_head-head_alone.result begun admits
          c.in-Ok.ensures.head c.is_head-head_alone.ensures (c.in-Ok.ensures.answer input begun.begins) replied.2 c.write_worker_reply.ensures.written
          c.write_worker_reply.ensures.counted,
    )

pub returns-in-Err-clause-served : goal.returns-in-Err-clause-served
returns-in-Err-clause-served g c input first begun admits =
    let state = g.C.Conn.state in (
      [],
      adds_none (g.A.Asker.state c.args.asker.now).mine,
      unread c.args.terms.now input (state c.args.conn.now) (state c.read_rest.new.conn) (state c.refuse.new.conn) c.args.begun first c.in-Err.fault
          c.refuse.ensures.written.0 begun admits (c.in-Err.ensures.answer input begun.begins) (c.in-Err.ensures.patient 0 begun.waited)
          (λ is. c.in-Err.ensures.counts.rose (ap Err is)) c.in-Err.ensures.counts.later c.refuse.ensures.written.1 c.refuse.ensures.written.2
          c.refuse.ensures.left c.refuse.ensures.quiets c.refuse.ensures.counted,
    )

pub returns-in-Ok-clause-once : goal.returns-in-Ok-clause-once
returns-in-Ok-clause-once g c = let replied = c.reply_to_message-replied.ensures.replied in (replied.0, leads_to _ _ _ _ _ replied.2, replied.1)

pub returns-in-Err-clause-once : goal.returns-in-Err-clause-once
returns-in-Err-clause-once g c = ([], no_call, adds_none (g.A.Asker.state c.args.asker.now).mine)
