use Rattle.std.proofs.Common.{ℕ, List, subst, ◌∙◌}
use Rattle.std.specs.Prelude.{OnOk, OnErr}
use Rattle.octo_outside.specs.Recorded.{Adds, AddsPrefix}
use Rattle.octo_http.specs.Reply.{with_fields}
use Rattle.octo_http.proofs.ReplyLemmas.{head_is}
use Rattle.octo_http.proofs.reply.write_head.Goals as goal

pub returns-clause-ok : goal.returns-clause-ok
returns-clause-ok g c =
    let Sent : List ℕ → Type 0 = λ bytes.
    OnOk c.send_all.result (Adds (g.C.Conn.state c.args.conn.now).written (g.C.Conn.state c.send_all.new.conn).written bytes) in
    subst Sent (head_is (with_fields c.args.more.now.items c.args.reply.now) _ _ c.sent_body-count.ensures (c.as_slice.ensures.value ∙ c.head_of-lines.ensures)) c.send_all.ensures.ok

pub returns-clause-err : goal.returns-clause-err
returns-clause-err g c =
    let Sent : List ℕ → Type 0 = λ bytes.
    OnErr c.send_all.result (AddsPrefix (g.C.Conn.state c.args.conn.now).written (g.C.Conn.state c.send_all.new.conn).written bytes) in
    subst Sent (head_is (with_fields c.args.more.now.items c.args.reply.now) _ _ c.sent_body-count.ensures (c.as_slice.ensures.value ∙ c.head_of-lines.ensures)) c.send_all.ensures.err
