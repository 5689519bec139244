use Rattle.std.proofs.Common.{ap, sym, ◌∙◌, refl}
use Rattle.printer_link_socket.specs.Lines.{LinesData}
use Rattle.printer_link_socket.proofs.Heard.{heard_line, heard_nothing}
use Rattle.printer_link_socket.proofs.stream_link.StreamLink.hear.Goals as goal

pub returns-then-take-2-clause-later : goal.returns-then-take-2-clause-later
returns-then-take-2-clause-later g c none =
    let old = c.args.self.now in
    let read = c.read_in.new.self in
    heard_line g.S.Write.contents g.S.Read.remaining g.S.WriteNow.room old.stream c.write_out.new.self.stream read.stream old.unsent read.unsent c.take-2.new.into.items
    c.in-Some.field-0 old.lines read.lines c.take-2.new.self
    c.in-Some.ensures.written c.in-Some.ensures.fits (c.read_in.ensures.unsent ∙ c.in-Some.ensures.left)
    (c.if-not-read_in.ensures.came refl)
    (c.read_in.ensures.begun ∙ ap (λ (l : LinesData). l.begun) (c.write_out.ensures.lines ∙ c.if-take.ensures.none refl))
    (c.if-not-read_in.ensures.peer refl)
    (sym c.if-take-2.ensures.found) (c.if-take-2.ensures.line refl) (c.if-take-2.ensures.after refl)

pub returns-clause-later : goal.returns-clause-later
returns-clause-later g c none =
    let old = c.args.self.now in
    let read = c.read_in.new.self in
    heard_nothing g.S.Write.contents g.S.Read.remaining g.S.WriteNow.room old.stream c.write_out.new.self.stream read.stream old.unsent read.unsent c.take-2.new.into.items
    c.in-Some.field-0 old.lines read.lines c.take-2.new.self
    c.in-Some.ensures.written c.in-Some.ensures.fits (c.read_in.ensures.unsent ∙ c.in-Some.ensures.left)
    (c.if-not-read_in.ensures.came refl)
    (c.read_in.ensures.begun ∙ ap (λ (l : LinesData). l.begun) (c.write_out.ensures.lines ∙ c.if-take.ensures.none refl))
    (c.if-not-read_in.ensures.peer refl)
    (sym c.if-take-2.ensures.found) (c.if-take-2.ensures.none refl)
