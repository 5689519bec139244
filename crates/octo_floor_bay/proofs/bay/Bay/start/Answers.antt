use Rattle.std.proofs.Common.{◌≡◌, ◌<◌, ℕ, [], ◌∷◌, None, ◌∙◌, ap, sym, subst}
use Rattle.octo_floor_bay.specs.Bay.{BayData, IsBay, RunsOn, after_deed, run_in}
use Rattle.octo_floor_bay.specs.Fields.{bay_of}
use Rattle.octo_floor_bay.specs.Prints.{IsInStep}
use Rattle.octo_floor_bay.specs.declared.deed.Deed.TheVariants as deed
use Rattle.gcode_lines.specs.Job.{JobData, texts_of}
use Rattle.temp_rules.specs.Hot.{first_hot_of}
use Rattle.job_desk.specs.declared.state.State.TheVariants.{Operational}
use Rattle.job_desk.specs.Data.{Data, named_file}
use Rattle.job_desk.specs.Table.{select_at, start_at}
use Rattle.octo_session.specs.Data.{SessionData}
use Rattle.octo_floor_bay.proofs.Leading.{started_bay, bay_with, did}
use Rattle.octo_floor_bay.proofs.Running.{asked_runs, run_desk, start_begins}
use Rattle.octo_floor_bay.proofs.Tying.{called_in_step}
use Rattle.octo_floor_bay.proofs.bay.Bay.start.Goals as goal

pub led : (c : goal.After-start) → c.start.new.self ≡ (after_deed (deed.Started c.args.file.now c.args.job c.args.print) (bay_of c.self.inside)).session
led c =
    let session : SessionData = c.self.inside.session in
    let print : ℕ = c.args.print in
    let With : JobData → SessionData =
    λ job. record session { desk = (select_at session.desk.state (named_file c.args.file.now job) session.desk).1 }
    in
    let Then : SessionData → SessionData = λ s. record s { desk = (start_at s.desk.state print s.desk).1 } in
    c.start.ensures.after ∙ ap Then (c.select.ensures.after ∙ ap With c.add_start-job.ensures.same)

pub invariant_of-self : goal.invariant_of-self
invariant_of-self c =
    let old : BayData = bay_of c.self.inside in
    let at : BayData → Type 0 = λ b. b.session.desk.greatest < c.args.print in
    subst IsBay (sym (did old (deed.Started c.args.file.now c.args.job c.args.print) c.start.new.self c.add_start-job.new.deeds (led c)
    c.add_start-job.ensures.added))
    (started_bay old c.args.file.now c.args.job c.args.print (subst at (sym c.self.view_is) c.requires.number) c.self.invariant)

pub returns-clause-bay : goal.returns-clause-bay
returns-clause-bay c = invariant_of-self c

pub returns-clause-tied : goal.returns-clause-tied
returns-clause-tied c kind front past step =
    let old : BayData = bay_of c.self.inside in
    let one = deed.Started c.args.file.now c.args.job c.args.print in
    let In : BayData → Type 0 = λ b. IsInStep kind front past b in
    subst In (sym (did old one c.start.new.self c.add_start-job.new.deeds (led c) c.add_start-job.ensures.added))
    (called_in_step kind front past old one tt (subst In (sym c.self.view_is) step))

pub returns-clause-run : goal.returns-clause-run
returns-clause-run c =
    let old : BayData = bay_of c.self.inside in
    let one = deed.Started c.args.file.now c.args.job c.args.print in
    let begun = (c.args.print, texts_of c.args.job) ∷ [] in
    let New : BayData → Type 0 = λ b. RunsOn begun [] (run_in old) (run_in b) in
    let Old : BayData → Type 0 = λ b. RunsOn begun [] (run_in b) (run_in (bay_with c.start.new.self c.add_start-job.new.deeds)) in
    let Free : BayData → Type 0 = λ b. b.session.desk.state ≡ Operational in
    let Cool : BayData → Type 0 = λ b. first_hot_of b.session.desk.limits c.args.job.commands ≡ None in
    let at : (run_in old).desk ≡ old.session.desk = run_desk old c.self.invariant in
    let free : (run_in old).desk.state ≡ Operational =
    ap (λ (d : Data). d.state) at ∙ subst Free (sym c.self.view_is) c.requires.operational
    in
    let cool : first_hot_of (run_in old).desk.limits c.args.job.commands ≡ None =
    ap (λ (d : Data). first_hot_of d.limits c.args.job.commands) at ∙ subst Cool (sym c.self.view_is) c.requires.cool
    in
    let so = asked_runs begun [] old one (start_begins (run_in old) (named_file c.args.file.now c.args.job) c.args.print free cool) in
    subst Old c.self.view_is (subst New (sym (did old one c.start.new.self c.add_start-job.new.deeds (led c) c.add_start-job.ensures.added)) so)
