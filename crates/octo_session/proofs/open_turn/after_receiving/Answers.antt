use Rattle.std.proofs.Common.{◌≡◌, inl, true, false, refl, sym, ap, ◌∙◌}
use Rattle.job_desk.specs.declared.link_fact.LinkFact.{LinkFact}
use Rattle.job_desk.specs.declared.link_fact.LinkFact.TheVariants as fact
use Rattle.send_window.specs.Data.{SenderData}
use Rattle.octo_session.proofs.Counts.{noted_issued, noted_acked}
use Rattle.octo_session.proofs.Desk.{noted_once, answer_none, ended_down}
use Rattle.octo_session.proofs.Keeping.{ticked_keeps, ready_unsent}
use Rattle.octo_session.proofs.Links.{linked_note}
use Rattle.octo_session.specs.Found.{up_after}
use Rattle.octo_session.proofs.open_turn.after_receiving.Goals as goal

pub returns-in-Err-clause-noted : goal.returns-in-Err-clause-noted
returns-in-Err-clause-noted g c =
    noted_once c.args.moment c.acked.result c.tick.new.self.acked (fact.Ended c.in-Err.end) c.silent.result.fact c.silent.result.issued.items c.args.desk.now
    c.note-ending.new.self c.note-ending.result c.silent.result.ending refl c.silent.ensures.fact c.silent.ensures.issued (sym c.acked.ensures.acked)
    c.silent.ensures.ending c.note-ending.ensures.ending c.note-ending.ensures.after

pub returns-in-Err-clause-joined : goal.returns-in-Err-clause-joined
returns-in-Err-clause-joined g c =
    let same = ap (λ (s : SenderData). s.issued) c.tick.ensures.state ∙ (ticked_keeps c.args.moment c.args.sender.now).issued in
    record {
      issued = noted_issued c.acked.result (fact.Ended c.in-Err.end) c.args.moment c.args.desk.now c.note-ending.new.self refl c.note-ending.ensures.after
          ∙ c.requires.counted ∙ sym same;
      acked = noted_acked c.acked.result (fact.Ended c.in-Err.end) c.args.moment c.args.desk.now c.note-ending.new.self refl c.note-ending.ensures.after
          ∙ c.acked.ensures.acked;
      running = λ is_open. absurd (ended_down c.silent.result.fact c.in-Err.end _ c.silent.ensures.fact is_open);
      linked = linked_note c.acked.result (fact.Ended c.in-Err.end) c.args.moment c.args.desk.now c.note-ending.new.self
          (λ (e : fact.Ended c.in-Err.end ≡ fact.Ready). absurd (cc)) c.note-ending.ensures.after
          ∙ sym (ap (λ (f : LinkFact). up_after f true) c.silent.ensures.fact);
      early = λ is_open. absurd (ended_down c.silent.result.fact c.in-Err.end _ c.silent.ensures.fact is_open);
    }

pub returns-clause-noted : goal.returns-clause-noted
returns-clause-noted g c =
    noted_once c.args.moment c.acked-2.result c.tick.new.self.acked fact.Ready c.silent-2.result.fact c.silent-2.result.issued.items c.args.desk.now
    c.note-ending-2.new.self c.note-ending-2.result c.silent-2.result.ending refl c.silent-2.ensures.fact c.silent-2.ensures.issued
    (sym c.acked-2.ensures.acked) c.silent-2.ensures.ending c.note-ending-2.ensures.ending c.note-ending-2.ensures.after

pub returns-clause-joined : goal.returns-clause-joined
returns-clause-joined g c =
    let same = ap (λ (s : SenderData). s.issued) c.tick.ensures.state ∙ (ticked_keeps c.args.moment c.args.sender.now).issued in
    record {
      issued = noted_issued c.acked-2.result fact.Ready c.args.moment c.args.desk.now c.note-ending-2.new.self refl c.note-ending-2.ensures.after
          ∙ c.requires.counted ∙ sym same;
      acked = noted_acked c.acked-2.result fact.Ready c.args.moment c.args.desk.now c.note-ending-2.new.self refl c.note-ending-2.ensures.after
          ∙ c.acked-2.ensures.acked;
      running = λ is_open. answer_none c.tick.new.self.ended c.in_default.field-0 (sym c.tick.ensures.answer ∙ c.in_default.is);
      linked = linked_note c.acked-2.result fact.Ready c.args.moment c.args.desk.now c.note-ending-2.new.self (λ _. c.requires.linked) c.note-ending-2.ensures.after
          ∙ sym (ap (λ (f : LinkFact). up_after f true) c.silent-2.ensures.fact);
      early = λ is_open. inl (λ (unready : c.tick.new.self.ready ≡ false). (
          let ready : c.tick.new.self.ready ≡ true = sym c.if-not-ready.ensures.ready in absurd (cc)
          ));
    }

pub returns-clause-sent : goal.returns-clause-sent
returns-clause-sent g c is_ready =
    let same = ap (λ (s : SenderData). s.issued) c.tick.ensures.state ∙ (ticked_keeps c.args.moment c.args.sender.now).issued in
    ready_unsent c.tick.new.self c.tick.ensures.sound (sym c.if-not-ready.ensures.ready) (same ∙ c.requires.fresh c.if-was_ready.false)
