use Rattle.std.proofs.Common.{◌≡◌, true, false, map, refl, sym, ◌∙◌, arith}
use Rattle.job_desk.specs.Issued.{line_of}
use Rattle.job_desk.specs.declared.link_fact.LinkFact.TheVariants as fact
use Rattle.octo_session.specs.Turn.{texts_in}
use Rattle.octo_session.proofs.Counts.{noted_issued, noted_acked}
use Rattle.octo_session.proofs.Desk.{noted_quiet, noted_failed}
use Rattle.octo_session.proofs.Keeping.{said, stays_early, spent_after}
use Rattle.octo_session.proofs.Links.{linked_note, linked_pulls}
use Rattle.octo_session.proofs.Stepping.{takes_said}
use Rattle.octo_session.proofs.Stopping.{note_stops}
use Rattle.octo_session.proofs.open_turn.issue_and_send.Goals as goal

pub returns-then-send_all-clause-noted : goal.returns-then-send_all-clause-noted
returns-then-send_all-clause-noted g c =
    let some = c.if-send_all.ensures.steps in
    let kept = said c.args.moment (texts_in (map line_of c.pull_all-issued.result.items)) true some.count c.args.sender.now c.pull_all-issued.new.sender
    c.send_all.new.sender c.pull_all-issued.ensures.steps.sender some.takes.sender in
    noted_quiet c.args.moment c.acked-acked.result c.send_all.new.sender.acked (map line_of c.pull_all-issued.result.items) c.args.desk.now
    c.note-first.new.self c.pull_all-issued.new.desk c.note-first.result (kept.keeps.acked ∙ sym c.acked-acked.ensures.acked) c.note-first.ensures.ending
    c.note-first.ensures.after c.pull_all-issued.ensures.pulls

pub returns-then-send_all-clause-spent : goal.returns-then-send_all-clause-spent
returns-then-send_all-clause-spent g c quiet =
    let some = c.if-send_all.ensures.steps in
    let kept = said c.args.moment (texts_in (map line_of c.pull_all-issued.result.items)) true some.count c.args.sender.now c.pull_all-issued.new.sender
    c.send_all.new.sender c.pull_all-issued.ensures.steps.sender some.takes.sender in
    spent_after c.args.moment c.args.desk.now c.pull_all-issued.new.desk c.pull_all-issued.new.sender c.send_all.new.sender kept.room kept.last
    c.pull_all-issued.ensures.spent
    (λ stops. c.pull_all-issued.ensures.stopped (note_stops c.acked-acked.result c.args.moment c.args.desk.now c.note-first.new.self stops
    c.note-first.ensures.after))
    (c.if-send_all.ensures.sent refl)

pub returns-then-send_all-clause-joined : goal.returns-then-send_all-clause-joined
returns-then-send_all-clause-joined g c =
    let some = c.if-send_all.ensures.steps in
    let kept = said c.args.moment (texts_in (map line_of c.pull_all-issued.result.items)) true some.count c.args.sender.now c.pull_all-issued.new.sender
    c.send_all.new.sender c.pull_all-issued.ensures.steps.sender some.takes.sender in
    record {
      issued = c.pull_all-issued.ensures.issued ∙ sym kept.issued;
      acked = c.pull_all-issued.ensures.acked ∙ noted_acked c.acked-acked.result fact.Quiet c.args.moment c.args.desk.now c.note-first.new.self refl
          c.note-first.ensures.after ∙ c.acked-acked.ensures.acked ∙ sym kept.keeps.acked;
      running = λ is_open. kept.keeps.ended ∙ c.requires.running;
      linked = linked_pulls c.args.moment (map line_of c.pull_all-issued.result.items) c.note-first.new.self c.pull_all-issued.new.desk
          c.pull_all-issued.ensures.pulls ∙ linked_note c.acked-acked.result fact.Quiet c.args.moment c.args.desk.now c.note-first.new.self (λ (e : fact.Quiet ≡ fact.Ready). absurd (cc))
          c.note-first.ensures.after ∙ c.requires.linked;
      early = λ is_open. stays_early c.args.sender.now c.pull_all-issued.new.sender c.send_all.new.sender c.pull_all-issued.new.desk kept
          (c.pull_all-issued.ensures.early c.requires.early);
    }

pub returns-then-send_all-clause-ready : goal.returns-then-send_all-clause-ready
returns-then-send_all-clause-ready g c =
    let some = c.if-send_all.ensures.steps in
    let kept = said c.args.moment (texts_in (map line_of c.pull_all-issued.result.items)) true some.count c.args.sender.now c.pull_all-issued.new.sender
    c.send_all.new.sender c.pull_all-issued.ensures.steps.sender some.takes.sender in
    kept.keeps.ready

pub returns-then-send_all-clause-steps : goal.returns-then-send_all-clause-steps
returns-then-send_all-clause-steps g c =
    takes_said c.args.moment _ _ _ _ _ true (texts_in (map line_of c.pull_all-issued.result.items)) c.args.sender.now c.pull_all-issued.new.sender
    c.send_all.new.sender c.pull_all-issued.ensures.steps c.if-send_all.ensures.steps

pub note-last-requires : goal.note-last-requires
note-last-requires g c =
    let kept = said c.args.moment (texts_in (map line_of c.pull_all-issued.result.items)) false c.if-send_all.ensures.steps.count c.args.sender.now
    c.pull_all-issued.new.sender c.send_all.new.sender c.pull_all-issued.ensures.steps.sender c.if-send_all.ensures.steps.takes.sender in
    let acked = noted_acked c.acked-acked.result fact.Quiet c.args.moment c.args.desk.now c.note-first.new.self refl c.note-first.ensures.after in (
      omega (arith, acked, c.pull_all-issued.ensures.acked),
      omega (arith, c.acked-acked.ensures.acked, kept.acked, c.pull_all-issued.ensures.sound.counted, c.pull_all-issued.ensures.issued),
    )

pub returns-clause-noted : goal.returns-clause-noted
returns-clause-noted g c =
    let some = c.if-send_all.ensures.steps in
    let kept = said c.args.moment (texts_in (map line_of c.pull_all-issued.result.items)) false some.count c.args.sender.now c.pull_all-issued.new.sender
    c.send_all.new.sender c.pull_all-issued.ensures.steps.sender some.takes.sender in
    noted_failed c.args.moment c.acked-acked.result c.send_all.new.sender.acked (map line_of c.pull_all-issued.result.items) c.args.desk.now
    c.note-first.new.self c.pull_all-issued.new.desk c.note-last.new.self c.note-first.result c.note-last.result c.or.result
    (kept.keeps.acked ∙ sym c.acked-acked.ensures.acked) c.note-first.ensures.ending c.note-first.ensures.after c.pull_all-issued.ensures.pulls
    c.note-last.ensures.ending c.note-last.ensures.after c.or.ensures

pub returns-clause-joined : goal.returns-clause-joined
returns-clause-joined g c =
    let some = c.if-send_all.ensures.steps in
    let kept = said c.args.moment (texts_in (map line_of c.pull_all-issued.result.items)) false some.count c.args.sender.now c.pull_all-issued.new.sender
    c.send_all.new.sender c.pull_all-issued.ensures.steps.sender some.takes.sender in
    record {
      issued = noted_issued c.acked-acked.result fact.Failed c.args.moment c.pull_all-issued.new.desk c.note-last.new.self refl c.note-last.ensures.after
          ∙ c.pull_all-issued.ensures.issued ∙ sym kept.issued;
      acked = noted_acked c.acked-acked.result fact.Failed c.args.moment c.pull_all-issued.new.desk c.note-last.new.self refl c.note-last.ensures.after
          ∙ c.acked-acked.ensures.acked ∙ sym kept.keeps.acked;
      running = λ is_open. absurd (cc is_open);
      linked = linked_note c.acked-acked.result fact.Failed c.args.moment c.pull_all-issued.new.desk c.note-last.new.self (λ (e : fact.Failed ≡ fact.Ready). absurd (cc)) c.note-last.ensures.after;
      early = λ is_open. absurd (cc is_open);
    }

pub returns-clause-ready : goal.returns-clause-ready
returns-clause-ready g c =
    let some = c.if-send_all.ensures.steps in
    let kept = said c.args.moment (texts_in (map line_of c.pull_all-issued.result.items)) false some.count c.args.sender.now c.pull_all-issued.new.sender
    c.send_all.new.sender c.pull_all-issued.ensures.steps.sender some.takes.sender in
    kept.keeps.ready

pub returns-clause-steps : goal.returns-clause-steps
returns-clause-steps g c =
    takes_said c.args.moment _ _ _ _ _ false (texts_in (map line_of c.pull_all-issued.result.items)) c.args.sender.now c.pull_all-issued.new.sender
    c.send_all.new.sender c.pull_all-issued.ensures.steps c.if-send_all.ensures.steps
