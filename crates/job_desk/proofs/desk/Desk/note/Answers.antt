use Rattle.std.proofs.Common.{◌≡◌, false, sym, ◌∙◌, ap, subst}
use Rattle.std.specs.Prelude.{Option, IfSome}
use Rattle.job_desk.specs.Data.{Data}
use Rattle.job_desk.specs.Endings.{IsEnding}
use Rattle.job_desk.specs.Note.{note_fact, note_step}
use Rattle.job_desk.specs.Pull.{settled}
use Rattle.job_desk.proofs.Endings.{ending_is, ending_rests}
use Rattle.print_queue.specs.declared.ending.Ending.{Ending}
use Rattle.job_desk.proofs.desk.Desk.note.Goals as goal

pub returns-clause-of_print : goal.returns-clause-of_print
returns-clause-of_print c =
    let acked = c.args.acked in
    let found = c.args.fact.now in
    let d : Data = c.args.self.now in
    let Q : Option Ending → Type 0 = λ gave. IfSome gave (λ ending. IsEnding acked found d ending) in
    let gave : c.take_fact-ending.result ≡ (note_step acked found c.args.moment d).0 =
    c.take_fact-ending.ensures.ending ∙ ap (λ (x : Data). (note_fact found c.args.moment x).0) c.count_acked.ensures.after in
    subst Q (sym gave) (ending_is acked found c.args.moment d c.count_acked.ensures.going)

pub returns-clause-rests : goal.returns-clause-rests
returns-clause-rests c =
    let acked = c.args.acked in
    let found = c.args.fact.now in
    let d : Data = c.args.self.now in
    let Q : Option Ending → Type 0 = λ gave. IfSome gave (λ ending. (note_step acked found c.args.moment d).1.active ≡ false) in
    let gave : c.take_fact-ending.result ≡ (note_step acked found c.args.moment d).0 =
    c.take_fact-ending.ensures.ending ∙ ap (λ (x : Data). (note_fact found c.args.moment x).0) c.count_acked.ensures.after in
    let after : c.settle.new.self ≡ (note_step acked found c.args.moment d).1 =
    c.settle.ensures ∙ ap settled (c.take_fact-ending.ensures.after ∙ ap (λ (x : Data). (note_fact found c.args.moment x).1) c.count_acked.ensures.after) in
    let R : Data → Type 0 = λ e. IfSome c.take_fact-ending.result (λ ending. e.active ≡ false) in
    subst R (sym after) (subst Q (sym gave) (ending_rests acked found c.args.moment d c.count_acked.ensures.going))
