use Rattle.std.proofs.Common.{◌≡◌, refl, ap, subst, ◌∙◌}
use Rattle.job_desk.specs.Data.{Data}
use Rattle.job_desk.specs.declared.state.State.{State}
use Rattle.octo_session.specs.Data.{SessionData}
use Rattle.octo_session_line_proof.proofs.Recorded.{kept_by_note}
use Rattle.octo_house.specs.State.{known_of, session_of}
use Rattle.octo_house_run.specs.Turns.{Notes}
use Rattle.octo_house_run.proofs.Noting.{turn_walks, notes_count}
use Rattle.octo_house_run.proofs.Running.{knows_of}
use Rattle.octo_house_run.proofs.Turning.{turn_adds, turn_temps}
use Rattle.octo_house_run.proofs.Tying.{turn_ties}
use Rattle.octo_house_run.proofs.link_turn.take_turn.Goals as goal

pub returns-clause-leads : goal.returns-clause-leads
returns-clause-leads g c files before below =
    let x = session_of c.args.house.now in
    let y = session_of c.turn-turned.new.self in
    let t = c.turn-turned.ensures in
    let past = (g.C.Counter.state c.args.counter.now).past in
    let past' = (g.C.Counter.state c.note_turn.new.counter).past in
    let was : c.state-was.result ≡ x.desk.state =
    c.state-was.ensures.state ∙ ap (λ (d : Data). d.state) (c.desk.ensures ∙ ap (λ (s : SessionData). s.desk) c.session.ensures) in
    let From : State → Type 0 = λ s. Notes c.args.moment y.sender.acked s y.desk.state c.turn-turned.result.note past past' in
    turn_walks c.args.moment (g.L.Link.state c.args.link.now).kind (g.L.Link.state c.args.link.now).past (g.L.Link.state c.turn-turned.new.link).past (g.L.Link.state c.args.link.now).calls
    (g.L.Link.state c.turn-turned.new.link).calls x y c.turn-turned.result (known_of c.args.house.now) (known_of c.turn-turned.new.self)
    (record {
      turn = t.turn;
      before = t.by_note.before;
      joined = t.by_note.joined;
      can = t.by_note.finds;
      up = t.by_note.up;
      ready_is = t.by_note.ready_is;
      unready = λ ready. (t.by_note.ready.0 ready).0;
      spent = t.by_note.spent;
      not_fallen = t.by_note.not_fallen;
      within = t.by_note.within;
      none_acked = t.by_note.none_acked;
      told = t.by_note.noted;
    })
    refl past past' files (knows_of c.args.moment c.turn-turned.result.note c.turn-turned.result.ending c.args.house.now c.turn-turned.new.self t.knows)
    (subst From was c.note_turn.ensures.notes) before below

pub returns-clause-counted : goal.returns-clause-counted
returns-clause-counted g c = notes_count c.args.moment _ _ _ c.turn-turned.result.note _ _ c.note_turn.ensures.notes

pub returns-clause-turns : goal.returns-clause-turns
returns-clause-turns g c =
    let t = c.turn-turned.ensures in
    turn_adds c.args.moment (session_of c.turn-turned.new.self).sender.acked _ _ (g.L.Link.state c.args.link.now).kind (g.L.Link.state c.args.link.now).past
    (g.L.Link.state c.turn-turned.new.link).past (g.L.Link.state c.args.link.now).calls (g.L.Link.state c.turn-turned.new.link).calls (session_of c.args.house.now)
    (session_of c.turn-turned.new.self) c.turn-turned.result t.turn (g.L.Link.state c.args.link.now).faults (g.L.Link.state c.turn-turned.new.link).faults
    (record { can = t.by_note.finds; no_port = λ is. (t.by_note.no_port.0 is).1; calling = t.calls; counts = t.counts }) _ _ c.note_turn.ensures.notes

pub returns-clause-temps : goal.returns-clause-temps
returns-clause-temps g c =
    let t = c.turn-turned.ensures in
    turn_temps c.args.moment (session_of c.turn-turned.new.self).sender.acked _ _ (g.L.Link.state c.args.link.now).kind (g.L.Link.state c.args.link.now).past
    (g.L.Link.state c.turn-turned.new.link).past (g.L.Link.state c.args.link.now).calls (g.L.Link.state c.turn-turned.new.link).calls (session_of c.args.house.now)
    (session_of c.turn-turned.new.self) c.turn-turned.result t.turn _ _ c.note_turn.ensures.notes

pub returns-clause-tied : goal.returns-clause-tied
returns-clause-tied g c numbered before front =
    let t = c.turn-turned.ensures in
    turn_ties c.args.moment numbered (g.L.Link.state c.args.link.now).kind (g.L.Link.state c.args.link.now).past (g.L.Link.state c.turn-turned.new.link).past (g.L.Link.state c.args.link.now).calls
    (g.L.Link.state c.turn-turned.new.link).calls (session_of c.args.house.now) (session_of c.turn-turned.new.self) c.turn-turned.result t.turn
    (kept_by_note t.by_note) before (g.C.Counter.state c.args.counter.now).past
    (g.C.Counter.state c.note_turn.new.counter).past front _ _ t.by_note.none_acked c.note_turn.ensures.notes

pub returns-clause-recorded : goal.returns-clause-recorded
returns-clause-recorded g c = c.turn-turned.ensures.turn.steps.takes.past.stays
