use Rattle.std.proofs.Common.{ℕ, List, sym, subst, drop}
use Rattle.std.specs.Prelude.{Option, IfSome}
use Rattle.octo_outside.specs.Recorded.{Adds}
use Rattle.octo_outside.specs.Traits.{Receives}
use Rattle.octo_outside.specs.declared.conn.Got.TheVariants as got
use Rattle.marlin_sim.proofs.Serving.{read_follows, not_read}
use Rattle.marlin_sim.proofs.serve.take_turn.Goals as goal

pub returns-in-Ok-Bytes-clause-follows : goal.returns-in-Ok-Bytes-clause-follows
returns-in-Ok-Bytes-clause-follows g c input first going =
    let v = going.serves in
    let n = c.in-Ok-Bytes.n in
    let ok = rw c.in-Ok-Bytes.field-0-is at c.in-Ok-Bytes.ensures.ok in
    let Read : Option (List ℕ) → Type 0 = λ o. IfSome o (λ before. Receives before (got.Bytes n) c.read.new.into (g.C.Conn.state c.read.new.self).left) in
    let read = subst Read v.left ok in
    let Wrote : Option (List ℕ) → Type 0 = λ o. Adds first.wrote o v.wrote in
    c.receive.ensures.follows input (drop n v.rest) v.wrote v.printed first (subst Wrote (sym c.read.ensures.written) v.wrote_is) v.printed_is read.rest
    (read_follows c.args.plan.now input v.rest _ n c.args.sim.now v.wrote v.printed v.follows_model read.next)

pub returns-in-Err-clause-follows : goal.returns-in-Err-clause-follows
returns-in-Err-clause-follows g c input first going =
    not_read c.args.plan.now input first _ _ _ _ _ c.args.sim.now going.serves c.read.ensures.written
