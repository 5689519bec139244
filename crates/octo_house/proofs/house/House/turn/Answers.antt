use Rattle.octo_keeper.specs.Tables.{with_due_end}
use Rattle.octo_session.specs.Data.{doing}
use Rattle.octo_house.specs.Turned.{known_temps}
use Rattle.octo_house.proofs.Rested.{rested-after, numbered-after, ends-rested}
use Rattle.octo_house.proofs.TurnKnown.{turned-knows, turned-goes, known-turned}
use Rattle.octo_house.proofs.house.House.turn.Goals as goal

pub invariant_of-self : goal.invariant_of-self
invariant_of-self g c =
    let old = c.args.self.now.desk.session in
    let new = c.turn-turned.new.self in
    let goes = turned-goes c.args.moment new.sender.acked (doing old) c.turn-turned.result.ending old.desk new.desk c.turn-turned.result.note
    c.turn-turned.ensures.by_note.noted c.turn-turned.ensures.by_note.still in
    record {
      numbered = numbered-after c.args.self.now.tables c.note_end.new.self c.turn-turned.result.ending old.desk.greatest new.desk.greatest
          c.args.self.now.numbered
          c.turn-turned.ensures.by_note.greatest c.note_end.ensures.rest;
      rested = rested-after c.args.self.now.tables c.note_end.new.self c.turn-turned.result.ending old.desk.active new.desk.active
          c.args.self.now.rested goes.before
          (ends-rested c.turn-turned.result.ending new.desk.active c.turn-turned.ensures.by_note.ends (λ e ends. ends.rests)) c.note_end.ensures.due;
    }

pub returns-clause-knows : goal.returns-clause-knows
returns-clause-knows g c =
    turned-knows c.args.moment c.turn-turned.new.self.sender.acked c.turn-turned.result.ending c.args.self.now _
    c.turn-turned.ensures.active c.turn-turned.result.note
    (known-turned c.args.self.now c.turn-turned.new.self.desk c.temps_after_turn-self.result (known_temps c.turn-turned.result.note c.args.self.now.desk.temps)
    c.note_end.new.self (with_due_end c.turn-turned.result.ending c.args.self.now.tables.prints) c.temps_after_turn-self.ensures c.note_end.ensures.rest)
    c.turn-turned.ensures.by_note.noted c.turn-turned.ensures.by_note.still
