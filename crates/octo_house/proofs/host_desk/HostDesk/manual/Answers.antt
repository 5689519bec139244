use Rattle.std.proofs.Common.{◌≡◌, None, Result, sym, ap, ◌∙◌, subst}
use Rattle.job_desk.specs.Views.{bytes_of}
use Rattle.job_desk.specs.declared.state.Refusal.{Refusal}
use Rattle.octo_asks.specs.declared.answer.Answer.{Answer}
use Rattle.octo_session.specs.Data.{SessionData}
use Rattle.octo_house_rules.specs.Prints.{first_hot_text, manual_verdict}
use Rattle.octo_house_rules.specs.Verdict.{IsDone}
use Rattle.octo_house_tables.specs.Counts.{answer_of_call}
use Rattle.octo_house.specs.Facing.{facing}
use Rattle.octo_house.proofs.Manually.{manual-done}
use Rattle.octo_house.proofs.Stays.{apart-by, manual-stays}
use Rattle.octo_house.proofs.host_desk.HostDesk.manual.Goals as goal

pub returns-clause-apart : goal.returns-clause-apart
returns-clause-apart c =
    apart-by c.args.self.now.session c.manual.new.self _ c.manual.ensures.after
    (manual-stays c.args.self.now.session.desk.state (bytes_of c.args.lines.now) c.args.self.now.session.desk)

pub returns-clause-done : goal.returns-clause-done
returns-clause-done c = λ k.
    let texts = bytes_of c.args.lines.now in
    let old = facing k c.args.self.now in
    let desk = c.args.self.now.session.desk in
    let cool : first_hot_text desk.limits texts ≡ None = cc in
    subst (λ (x : Answer). IsDone (manual_verdict texts old) x old (facing k (record c.args.self.now { session = c.manual.new.self })))
    (sym (c.answer_of_call.ensures ∙ ap (λ (r : Result (Unit {0}) Refusal). answer_of_call r) c.manual.ensures.answer))
    (manual-done texts old _ (ap (λ (s : SessionData). facing k (record c.args.self.now { session = s })) c.manual.ensures.after) cool)
