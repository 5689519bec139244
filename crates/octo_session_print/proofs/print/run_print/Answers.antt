use Rattle.std.proofs.Common.{◌≡◌, ◌≤◌, Bool, None, sym, ◌∙◌, ap, subst, arith}
use Rattle.gcode_lines.specs.Job.{texts_of}
use Rattle.temp_rules.specs.Hot.{first_hot_of}
use Rattle.temp_rules.specs.declared.limits.Limits.{Limits}
use Rattle.job_desk.specs.Data.{Data, named_file}
use Rattle.job_desk.specs.Scripts.{own_lines}
use Rattle.printer_link.specs.Suits.{SuitsAs}
use Rattle.send_window.specs.Data.{SenderData}
use Rattle.octo_session.specs.Plan.{plan}
use Rattle.octo_session_print.specs.Ends.{print_of}
use Rattle.octo_session_print.proofs.Begins.{refused, begins}
use Rattle.octo_session_print.specs.Printed.{IsOver}
use Rattle.octo_session_print.proofs.Prompting.{few_planned, smooth_prepared}
use Rattle.octo_session_print.proofs.print.run_print.Given as Given
use Rattle.octo_session_print.proofs.print.run_print.Goals as goal

pub returns-in-Some-clause-printed : goal.returns-in-Some-clause-printed
returns-in-Some-clause-printed g c =
    (refused c.args.session.now.sender.numbered (g.L.Link.state c.args.link.now).kind (plan c.args.session.now.desk.scripts (texts_of c.args.job)) (g.L.Link.state c.args.link.now).past c.args.session.now c.in-Some.hot.line c.in-Some.hot.asked c.in-Some.hot.limit c.requires.new).printed

pub make_turns-requires-clause-begins : goal.make_turns-requires-clause-begins
make_turns-requires-clause-begins g c =
    let x = c.args.session.now in
    let limits : c.limits.result.now ≡ x.desk.limits = c.limits.ensures ∙ ap (λ (d : Data). d.limits) c.desk.ensures in
    let cool : first_hot_of x.desk.limits c.args.job.commands ≡ None =
    ap (λ (l : Limits). first_hot_of l c.args.job.commands) (sym limits) ∙ sym c.first_hot.ensures ∙ c.in_default.is
    in
    record {
      print = print_of x.desk (named_file c.args.name.now c.args.job);
      dialling = begins c.args.port.now (named_file c.args.name.now c.args.job) (g.L.Link.state c.args.link.now).past x c.prepare.new.session c.requires.new cool c.prepare.ensures.desk c.prepare.ensures.sender c.prepare.ensures.up;
    }

pub make_turns-requires-clause-suits : goal.make_turns-requires-clause-suits
make_turns-requires-clause-suits g c =
    let S : SenderData → Type 0 = λ s. SuitsAs s.numbered (g.L.Link.state c.args.link.now).past (g.L.Link.state c.args.link.now).kind.oks in
    subst S (sym c.prepare.ensures.sender) c.requires.suits

-- what the turns came to
over : (g : Given.Over) (c : goal.After-make_turns g) → IsOver c.args.session.now.sender.numbered (g.L.Link.state c.args.link.now).kind (plan c.args.session.now.desk.scripts (texts_of c.args.job)) c.make_turns.result (g.L.Link.state c.args.link.now).past (g.L.Link.state c.make_turns.new.link).past c.make_turns.new.session
over g c =
    let x = c.args.session.now in
    let limits : c.limits.result.now ≡ x.desk.limits = c.limits.ensures ∙ ap (λ (d : Data). d.limits) c.desk.ensures in
    let cool : first_hot_of x.desk.limits c.args.job.commands ≡ None =
    ap (λ (l : Limits). first_hot_of l c.args.job.commands) (sym limits) ∙ sym c.first_hot.ensures ∙ c.in_default.is
    in
    let N : Bool → Type 0 = λ n. IsOver n (g.L.Link.state c.args.link.now).kind (plan x.desk.scripts (texts_of c.args.job)) c.make_turns.result (g.L.Link.state c.args.link.now).past (g.L.Link.state c.make_turns.new.link).past c.make_turns.new.session in
    subst N c.requires.new.kind (c.make_turns.ensures.over (print_of x.desk (named_file c.args.name.now c.args.job))
    (begins c.args.port.now (named_file c.args.name.now c.args.job) (g.L.Link.state c.args.link.now).past x c.prepare.new.session c.requires.new cool c.prepare.ensures.desk c.prepare.ensures.sender c.prepare.ensures.up))

pub returns-clause-printed : goal.returns-clause-printed
returns-clause-printed g c = (over g c).printed

pub returns-clause-ended : goal.returns-clause-ended
returns-clause-ended g c = (over g c).ended

pub returns-clause-unsent : goal.returns-clause-unsent
returns-clause-unsent g c = (over g c).unsent

-- the scripts of the desk have few lines
few_scripts : (g : Given.Over) (c : goal.After-make_turns g) → own_lines c.args.session.now.desk.scripts ≤ 256
few_scripts g c =
    (let S : Data → Type 0 = λ d. own_lines d.scripts ≤ 256 in
    subst S c.desk-2.ensures (omega (arith, c.script_lines.ensures.value, c.script_lines.ensures.few)))

pub returns-clause-prompt : goal.returns-clause-prompt
returns-clause-prompt g c counts none_hot smooth enough =
    let x = c.args.session.now in
    let file = named_file c.args.name.now c.args.job in
    c.make_turns.ensures.prompt (print_of x.desk file) (ap (λ (s : SenderData). s.numbered) c.prepare.ensures.sender ∙ counts)
    (begins c.args.port.now file (g.L.Link.state c.args.link.now).past x c.prepare.new.session c.requires.new none_hot c.prepare.ensures.desk c.prepare.ensures.sender c.prepare.ensures.up)
    (smooth_prepared _ _ c.args.port.now file _ _ _ x c.prepare.new.session c.requires.new c.prepare.ensures.desk c.prepare.ensures.sender smooth)
    (few_planned x.desk.scripts c.args.job (few_scripts g c) (omega (arith, c.count.ensures.value, c.count.ensures.few))) enough

pub returns-clause-numbered : goal.returns-clause-numbered
returns-clause-numbered g c = c.make_turns.ensures.numbered ∙ ap (λ (s : SenderData). s.numbered) c.prepare.ensures.sender
