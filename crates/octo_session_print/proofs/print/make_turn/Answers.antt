use Rattle.std.proofs.Common.{◌≡◌, ◌-◌, true, sym, ◌∙◌, subst, ap, arith}
use Rattle.std.proofs.lemmas.Option.{same_Some}
use Rattle.std.specs.Prelude.{Option}
use Rattle.job_desk.specs.declared.link_fact.LinkFact.{LinkFact}
use Rattle.job_desk.specs.declared.link_fact.LinkFact.TheVariants as fact
use Rattle.octo_outside.proofs.Recorded.{steady_not_rose}
use Rattle.printer_link.specs.Link.{LinkKind}
use Rattle.octo_session.specs.Data.{SessionData}
use Rattle.octo_session.specs.Turn.{fact_of}
use Rattle.send_window.specs.declared.session_end.SessionEnd.TheVariants.{NoAnswer, LostOk}
use Rattle.octo_session.specs.Data.{doing}
use Rattle.octo_session.specs.Found.{can_find}
use Rattle.octo_session.proofs.Noting.{noted_fact}
use Rattle.octo_session_line_proof.proofs.Unchanged.{turn_numbered}
use Rattle.octo_session_line_proof.proofs.Recorded.{kept_by_note}
use Rattle.send_window.specs.Patience.{IsPatient}
use Rattle.octo_session_line_proof.proofs.Numbers.{turn_fits}
use Rattle.octo_session_line_proof.proofs.Waits.{turn_patient, turn_unanswered, turn_missing}
use Rattle.octo_session_print.specs.Ends.{end_of, desk_after}
use Rattle.octo_session_print.specs.BetweenTurns.{GoesOn}
use Rattle.octo_session_print.specs.declared.end.PrintEnd.{PrintEnd}
use Rattle.octo_session_print.proofs.Steps.{HasTurned, turn_goes, turn_free}
use Rattle.octo_session_print.proofs.Follows.{follows, fact_by, calls_of}
use Rattle.octo_session_print.proofs.Turns.{HasTurned as IsPromptTurn}
use Rattle.octo_session_print.proofs.Leads.{turn_leads}
use Rattle.octo_session_print.proofs.Smooth.{poll_later, range_moment}
use Rattle.octo_session_print.specs.Enough.{LeavesOnWay}
use Rattle.octo_session_print.proofs.Prompting.{leads_left}
use Rattle.octo_session_print.proofs.print.make_turn.Goals as goal

pub returns-clause-goes : goal.returns-clause-goes
returns-clause-goes g c p port first limit patient suits way =
    let e = c.turn-turned.ensures in
    let turned = c.turn-turned.result in
    let old : SessionData = c.args.session.now in
    let mid : SessionData = c.turn-turned.new.self in
    let kind : LinkKind = (g.L.Link.state c.args.link.now).kind in
    let now = (g.L.Link.state c.turn-turned.new.link).past in
    let h : HasTurned c.args.moment kind (g.L.Link.state c.args.link.now).past now (g.L.Link.state c.args.link.now).calls (g.L.Link.state c.turn-turned.new.link).calls old mid turned =
    record {
      turn = e.turn;
      kept = kept_by_note e.by_note;
      joined = e.by_note.joined;
      greatest = e.by_note.greatest;
      ready_is = e.by_note.ready_is;
      not_fallen = e.by_note.not_fallen;
      no_port = e.by_note.no_port;
      fits = λ why is. (let t = e.turn in
          let found : fact_of turned.note ≡ t.found = noted_fact turned.note c.args.moment old.sender.acked mid.sender.acked t.lines t.got t.found t.none t.some in
          let F : LinkFact → Type 0 = λ f. can_find (doing old) f ≡ true in
          turn_fits c.args.moment _ _ _ _ _ old mid turned t e.by_note.before 0 limit (omega arith) patient why (sym found ∙ is) (subst F found e.by_note.finds));
    }
    in
    let went = turn_goes c.args.moment kind _ _ _ _ old mid turned h p port first suits way in
    let on = follows kind p port first now mid (fact_of turned.note) turned.ending
    (λ is. ((e.by_note.ready.0 is).1, e.by_note.greatest ∙ c.requires.unstarted (e.by_note.ready.0 is).0))
    (turn_free c.args.moment kind _ _ _ _ old mid turned h p port first way) went
    in
    let F : LinkFact → Type 0 = λ f. GoesOn kind p port (end_of f) first now (record mid { desk = desk_after f turned.ending mid.desk }) in
    let R : Option PrintEnd → Type 0 = λ r. GoesOn kind p port r first now (record mid { desk = desk_after c.fact_of_turn.result turned.ending mid.desk }) in
    let S : SessionData → Type 0 = λ x. GoesOn kind p port c.go_on.result first now x in
    subst S (sym c.go_on.ensures.after) (subst R (sym c.go_on.ensures.end) (subst F (sym c.fact_of_turn.ensures) on))

pub returns-clause-waits : goal.returns-clause-waits
returns-clause-waits g c start limit since p =
    let S : SessionData → Type 0 = λ x. IsPatient start limit x.sender in
    subst S (sym c.go_on.ensures.after) (turn_patient c.args.moment _ _ _ _ _ c.args.session.now c.turn-turned.new.self c.turn-turned.result c.turn-turned.ensures.turn start limit since p)

pub returns-clause-numbered : goal.returns-clause-numbered
returns-clause-numbered g c =
    let S : SessionData → Type 0 = λ x. x.sender.numbered ≡ c.args.session.now.sender.numbered in
    subst S (sym c.go_on.ensures.after) (turn_numbered c.args.moment _ _ _ _ _ c.args.session.now c.turn-turned.new.self c.turn-turned.result c.turn-turned.ensures.turn)

pub returns-clause-waited : goal.returns-clause-waited
returns-clause-waited g c start limit count since p is =
    let e = c.turn-turned.ensures in
    let t = e.turn in
    let old : SessionData = c.args.session.now in
    let note = c.turn-turned.result.note in
    let found : fact_of note ≡ t.found = noted_fact note c.args.moment old.sender.acked c.turn-turned.new.self.sender.acked t.lines t.got t.found t.none t.some in
    let ends : fact_of note ≡ fact.Ended (NoAnswer count) = fact_by (fact_of note) (NoAnswer count) (ap end_of (sym c.fact_of_turn.ensures) ∙ sym c.go_on.ensures.end ∙ is) in
    let F : LinkFact → Type 0 = λ f. can_find (doing old) f ≡ true in
    let w = turn_unanswered c.args.moment _ _ _ _ _ old c.turn-turned.new.self c.turn-turned.result t start limit since count e.by_note.before p (sym found ∙ ends) (subst F found e.by_note.finds) in
    w.0

pub returns-clause-missed : goal.returns-clause-missed
returns-clause-missed g c start limit count since p is =
    let e = c.turn-turned.ensures in
    let t = e.turn in
    let old : SessionData = c.args.session.now in
    let note = c.turn-turned.result.note in
    let found : fact_of note ≡ t.found = noted_fact note c.args.moment old.sender.acked c.turn-turned.new.self.sender.acked t.lines t.got t.found t.none t.some in
    let ends : fact_of note ≡ fact.Ended (LostOk count) = fact_by (fact_of note) (LostOk count) (ap end_of (sym c.fact_of_turn.ensures) ∙ sym c.go_on.ensures.end ∙ is) in
    let F : LinkFact → Type 0 = λ f. can_find (doing old) f ≡ true in
    let w = turn_missing c.args.moment _ _ _ _ _ old c.turn-turned.new.self c.turn-turned.result t start limit since count e.by_note.before p (sym found ∙ ends) (subst F found e.by_note.finds) in
    w.0

pub returns-clause-calls : goal.returns-clause-calls
returns-clause-calls g c awake is =
    let e = c.turn-turned.ensures in
    let note = c.turn-turned.result.note in
    e.calls (calls_of c.args.session.now (fact_of note) awake e.by_note.finds (ap end_of (sym c.fact_of_turn.ensures) ∙ sym c.go_on.ensures.end ∙ is))

pub returns-clause-prompt : goal.returns-clause-prompt
returns-clause-prompt g c p poll_ms at left prompt steady range before after way =
    let e = c.turn-turned.ensures in
    let turned = c.turn-turned.result in
    let old : SessionData = c.args.session.now in
    let mid : SessionData = c.turn-turned.new.self in
    let kind : LinkKind = (g.L.Link.state c.args.link.now).kind in
    let now = (g.L.Link.state c.turn-turned.new.link).past in
    let moment : c.args.moment ≡ range.last = range_moment c.args.moment old.sender.limit poll_ms range in
    let h : IsPromptTurn c.args.moment at poll_ms kind (g.L.Link.state c.args.link.now).past now (g.L.Link.state c.args.link.now).calls (g.L.Link.state c.turn-turned.new.link).calls old mid turned =
    record {
      turn = e.turn;
      kept = kept_by_note e.by_note;
      joined = e.by_note.joined;
      greatest = e.by_note.greatest;
      ready_is = e.by_note.ready_is;
      readies = λ is. (e.by_note.ready.0 is).0;
      not_fallen = e.by_note.not_fallen;
      no_port = e.by_note.no_port;
      unbroken = λ is. steady_not_rose _ _ steady (e.counts.rose is);
      prompt = prompt;
      small = omega (arith, moment, range.answers);
      poll_later = poll_later c.args.moment poll_ms (omega (arith, moment, range.polls)) range.some_poll;
      at_heard = λ heard. same_Some at c.args.moment (sym after ∙ c.rest_unless.ensures.stays heard ∙ before);
    }
    in
    let led = turn_leads c.args.moment at poll_ms kind _ now _ _ old mid turned h p left way in
    let on = leads_left (fact_of turned.note) turned.ending kind p poll_ms at (left - 1) now mid led in
    let F : LinkFact → Type 0 = λ f. LeavesOnWay (end_of f) kind p poll_ms at (left - 1) now (record mid { desk = desk_after f turned.ending mid.desk }) in
    let R : Option PrintEnd → Type 0 = λ r. LeavesOnWay r kind p poll_ms at (left - 1) now (record mid { desk = desk_after c.fact_of_turn.result turned.ending mid.desk }) in
    let S : SessionData → Type 0 = λ x. LeavesOnWay c.go_on.result kind p poll_ms at (left - 1) now x in
    subst S (sym c.go_on.ensures.after) (subst R (sym c.go_on.ensures.end) (subst F (sym c.fact_of_turn.ensures) on))
