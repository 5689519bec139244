use Rattle.std.proofs.Common.{◌≡◌, ℕ, length, subst, arith}
use Rattle.octo_floor.specs.Leaving.{AreDisconnected}
use Rattle.octo_floor.proofs.Leaves.{disconnected_more}
use Rattle.octo_floor.proofs.floor.Floor.disconnect_all.Goals as goal

pub loop-printer-preserved : goal.loop-printer-preserved
loop-printer-preserved c = record {
  first = disconnected_more c.loop-printer.printer c.args.self.now c.loop-printer.self c.disconnect_at.new.self c.loop-printer.invariant.first c.disconnect_at.ensures;
  end = c.loop-printer.invariant.end;
}

pub returns-clause-left : goal.returns-clause-left
returns-clause-left c =
    let end = c.loop-printer.invariant.end in
    let out = c.loop-printer-test.false in
    let within = c.loop-printer.auto.printer-end in
    let done : c.loop-printer.printer ≡ length c.args.self.now.bays = omega (arith, end, out, within) in
    subst (λ (n : ℕ). AreDisconnected n c.args.self.now c.loop-printer.self) done c.loop-printer.invariant.first
