use Rattle.std.proofs.Common.{ℕ, List, [], Some, None, inl, refl, subst}
use Rattle.octo_http.specs.Reply.{with_fields, reply_bytes}
use Rattle.octo_outside.proofs.Recorded.{adds_none}
use Rattle.octo_api_worker.specs.Served.{Sends}
use Rattle.octo_api_worker.proofs.serve.refuse.Goals as goal

pub returns-in-Some-clause-written : goal.returns-in-Some-clause-written
returns-in-Some-clause-written g c =
    let SendsWith : List ℕ → Type 0 = λ more. Sends (g.C.Conn.state c.args.conn.now).written (g.C.Conn.state c.write_reply_or_ignore.new.conn).written
    (g.C.Conn.state c.args.conn.now).faults (g.C.Conn.state c.write_reply_or_ignore.new.conn).faults (reply_bytes (with_fields more c.in-Some.reply)) in
    (reply_bytes c.in-Some.reply, (Some c.in-Some.reply, c.in-Some.ensures, refl), subst SendsWith c.new.ensures c.write_reply_or_ignore.ensures.written)

pub returns-in-None-clause-written : goal.returns-in-None-clause-written
returns-in-None-clause-written g c = ([], (None, c.in-None.ensures, refl), inl (adds_none (g.C.Conn.state c.args.conn.now).written))
