use Rattle.std.proofs.Common.{ℕ, List, Option, subst, arith, refl, sym, ◌∙◌}
use Rattle.std.specs.Prelude.{Err}
use Rattle.octo_outside.specs.Recorded.{AddsPrefix}
use Rattle.octo_outside.proofs.Recorded.{rose_after}
use Rattle.octo_http.specs.Message.{continue_line, Writes, Answers, IsPatient}
use Rattle.octo_http.proofs.MessageLemmas.{is_err, head_fault, patient_head, bounded_same}
use Rattle.octo_http.proofs.message.read_message.Goals as goal

pub returns-in_err-begun-clause-answer : goal.returns-in_err-begun-clause-answer
returns-in_err-begun-clause-answer g c =
    head_fault _ _ _ _ _ c.in_err-begun.field-0.0 c.in_err-begun.ensures.written c.in_err-begun.ensures.stopped c.from_residual.ensures.1

pub returns-in_err-begun-clause-bounded : goal.returns-in_err-begun-clause-bounded
returns-in_err-begun-clause-bounded g c = bounded_same _ _ c.in_err-begun.ensures.written

pub returns-in_err-begun-clause-patient : goal.returns-in_err-begun-clause-patient
returns-in_err-begun-clause-patient g c =
    patient_head c.args.patience _ _ _ c.in_err-begun.field-0.0 c.in_err-begun.ensures.patient c.from_residual.ensures.1

pub returns-clause-answer : goal.returns-clause-answer
returns-clause-answer g c input told =
    let From : Option (List ℕ) → Type 0 =
    λ old. Writes old (g.C.Conn.state c.read_rest.new.conn).written (Answers input (g.C.Conn.state c.read_rest.new.conn).left c.read_rest.result) in
    subst From c.in_ok-begun.ensures.written (c.read_rest.ensures.answer input (c.in_ok-begun.ensures.begun input told))

pub returns-clause-bounded : goal.returns-clause-bounded
returns-clause-bounded g c =
    let From : Option (List ℕ) → Type 0 = λ old. AddsPrefix old (g.C.Conn.state c.read_rest.new.conn).written continue_line in
    subst From c.in_ok-begun.ensures.written c.read_rest.ensures.bounded

pub returns-clause-patient : goal.returns-clause-patient
returns-clause-patient g c =
    let For : ℕ → Type 0 = λ p. IsPatient p (g.C.Conn.state c.args.conn.now).quiets (g.C.Conn.state c.read_rest.new.conn).quiets c.read_rest.result in
    subst For c.in_ok-begun.ensures.patience (c.read_rest.ensures.patient (g.C.Conn.state c.args.conn.now).quiets c.in_ok-begun.ensures.waited)

pub returns-clause-counts : goal.returns-clause-counts
returns-clause-counts g c = record {
  later = omega (arith, c.in_ok-begun.ensures.counts.later, c.read_rest.ensures.counts.later);
  rose = λ failed. rose_after _ _ _ c.in_ok-begun.ensures.counts.later c.read_rest.ensures.counts.later (c.read_rest.ensures.counts.rose failed);
}
