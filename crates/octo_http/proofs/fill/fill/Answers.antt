use Rattle.std.proofs.Common.{arith, rules, ◌∙◌, length-drop, ◌≡◌, ◌-◌, length, ℕ, ap}
use Rattle.octo_http.specs.Input.{IntakeData}
use Rattle.octo_http.proofs.Filling.{sofar_moved, full, short_of, sofar_read, on_exit}
use Rattle.octo_http.proofs.fill.fill.Goals as goal

pub returns-then-due-eq0-clause-ok : goal.returns-then-due-eq0-clause-ok
returns-then-due-eq0-clause-ok g c =
    full _ _ _ _ _ _ _ _ _ _ _
    (sofar_moved _ _ _ _ _ _ _ _ _ _ _ _ _ _ c.filling.invariant.sofar c.in_ok-due.ensures.count c.in_ok-due.ensures.body c.in_ok-due.ensures.taken)
    c.if-due-eq0.true

pub returns-in_err-go_on-clause-stops : goal.returns-in_err-go_on-clause-stops
returns-in_err-go_on-clause-stops g c =
    let n = c.in_ok-due.field-0 in
    let bytes : ℕ = length c.filling.intake.bytes in
    let none : length c.move_bytes.new.intake.bytes ≡ bytes - n =
    ap (λ (i : IntakeData). length i.bytes) c.in_ok-due.ensures.taken ∙ length-drop n c.filling.intake.bytes in
    on_exit _ c.in_err-go_on.field-0.0 _ c.from_residual-in_err-go_on.ensures.1
    (short_of _ _ _ _ _ _ _ _ _ _ _ _
    (sofar_moved _ _ _ _ _ _ _ _ _ _ _ _ _ _ c.filling.invariant.sofar c.in_ok-due.ensures.count c.in_ok-due.ensures.body c.in_ok-due.ensures.taken)
    (omega (arith, none, c.in_ok-due.ensures.count, c.if-due-eq0.false))
    c.in_err-go_on.ensures.pause)

pub filling-preserved : goal.filling-preserved
filling-preserved g c = record {
  sofar =
      sofar_read _ _ _ _ _ _ _ _ _ _ _ _ _ _ _
      (sofar_moved _ _ _ _ _ _ _ _ _ _ _ _ _ _ c.filling.invariant.sofar c.in_ok-due.ensures.count c.in_ok-due.ensures.body c.in_ok-due.ensures.taken)
      c.in_ok-came.ensures.took c.filling.invariant.waits.kept c.in_ok-came.ensures.waits.kept c.in_ok-came.ensures.knows;
  waits = search rules;
  written = search rules;
}
