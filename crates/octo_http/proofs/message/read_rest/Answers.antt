use Rattle.std.proofs.Common.{refl, arith}
use Rattle.octo_outside.proofs.Recorded.{rose_after}
use Rattle.octo_http.proofs.Reading.{caused_since}
use Rattle.octo_http.proofs.MessageLemmas.{failed_with, continue_fault, bounded_part, patient_continue, body_fault, bounded_all, asked_only, patient_fault, message_read, patient_read}
use Rattle.octo_http.proofs.message.read_rest.Goals as goal

pub returns-in-Err-clause-answer : goal.returns-in-Err-clause-answer
returns-in-Err-clause-answer g c = continue_fault c.args.begun _ _ _ _ c.in-Err.ensures.left c.in-Err.ensures.err

pub returns-in-Err-clause-bounded : goal.returns-in-Err-clause-bounded
returns-in-Err-clause-bounded g c = bounded_part _ _ c.args.begun.head c.in-Err.ensures.err

pub returns-in-Err-clause-patient : goal.returns-in-Err-clause-patient
returns-in-Err-clause-patient g c = patient_continue c.args.begun _ _ c.in-Err.ensures.quiets

pub returns-in-Err-clause-counts : goal.returns-in-Err-clause-counts
returns-in-Err-clause-counts g c = record { later = c.in-Err.ensures.counts.later; rose = λ is. c.in-Err.ensures.counts.rose refl }

pub returns-in_err-body-clause-answer : goal.returns-in_err-body-clause-answer
returns-in_err-body-clause-answer g c =
    body_fault c.args.begun _ _ _ _ _ _ _ c.in_err-body.field-0.0 c.in-Ok.ensures.left c.in-Ok.ensures.ok c.in_err-body.ensures.written c.in_err-body.ensures.stops
    c.from_residual.ensures.1

pub returns-in_err-body-clause-bounded : goal.returns-in_err-body-clause-bounded
returns-in_err-body-clause-bounded g c =
    bounded_all _ _ c.args.begun.head (asked_only _ _ _ c.args.begun.head c.in-Ok.ensures.ok c.in_err-body.ensures.written)

pub returns-in_err-body-clause-patient : goal.returns-in_err-body-clause-patient
returns-in_err-body-clause-patient g c =
    patient_fault c.args.begun c.read_body.new.intake _ _ _ _ _ _ _ c.in_err-body.field-0.0 c.in-Ok.ensures.quiets c.in_err-body.ensures.waits c.in_err-body.ensures.caused
    c.from_residual.ensures.1

pub returns-in_err-body-clause-counts : goal.returns-in_err-body-clause-counts
returns-in_err-body-clause-counts g c =
    let kept = c.in_err-body.ensures.waits.kept in
    record {
      later = omega (arith, c.in-Ok.ensures.counts.later, kept);
      rose = failed_with c.read_body.new.intake _ _ _ c.in_err-body.field-0.0
          (caused_since c.read_body.new.intake _ _ _ c.in_err-body.field-0.0 c.in-Ok.ensures.counts.later kept c.in_err-body.ensures.caused)
          c.from_residual.ensures.1;
    }

pub returns-clause-answer : goal.returns-clause-answer
returns-clause-answer g c =
    message_read c.args.begun _ _ _ _ _ _ _ c.in_ok-body.body _ c.in-Ok.ensures.left c.in-Ok.ensures.ok c.in_ok-body.ensures.written c.in_ok-body.ensures.body c.message_of.ensures

pub returns-clause-head : goal.returns-clause-head
returns-clause-head g c = (c.in_ok-body.body, c.message_of.ensures)

pub returns-clause-bounded : goal.returns-clause-bounded
returns-clause-bounded g c =
    bounded_all _ _ c.args.begun.head (asked_only _ _ _ c.args.begun.head c.in-Ok.ensures.ok c.in_ok-body.ensures.written)

pub returns-clause-patient : goal.returns-clause-patient
returns-clause-patient g c =
    patient_read c.args.begun c.read_body.new.intake _ _ _ _ _ _ c.in-Ok.ensures.quiets c.in_ok-body.ensures.waits
