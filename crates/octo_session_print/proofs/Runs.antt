-- Every run of a print's steps follows its plan.
use Rattle.std.proofs.Common.{◌≡◌, List, [], ◌∷◌, None, sym, ap, subst}
use Rattle.temp_rules.specs.Hot.{first_hot_of}
use Rattle.job_desk.specs.Data.{Data}
use Rattle.job_desk.specs.Table.{Answer}
use Rattle.octo_session_print.specs.Plan.{PrintData}
use Rattle.octo_session_print.specs.Underway.{IsUnderway}
use Rattle.octo_session_print.specs.Progress.{PrintStep, Note, Pull, Start, Disconnect, Progress, after, MayTake, after_all, MayTakeAll, FollowsPlan, EveryPrintFollowsItsPlan}
use Rattle.octo_session_print.proofs.Pulling.{pull-underway}
use Rattle.octo_session_print.proofs.Noting.{note-underway}
use Rattle.octo_session_print.proofs.Calls.{new_underway, start-underway, disconnect-underway}
use Rattle.octo_session_print.proofs.Results.{underway-part, underway-whole, late-underway}

module _ (p : PrintData) (cool : first_hot_of p.limits p.file.job.commands ≡ None) where
  step-underway : (step : PrintStep) (x : Progress) → MayTake step x.desk → IsUnderway p x.desk x.issued
      → IsUnderway p (after step x).desk (after step x).issued
  step-underway (Note acked found moment) x may h = (note-underway p found acked moment x.desk x.issued may h).0
  step-underway (Pull moment) x may h = pull-underway p moment x.desk x.issued h
  step-underway Start x may h =
      let started = start-underway p x.desk x.issued may.0 may.1 cool h in
      subst (λ (d : Data). IsUnderway p d x.issued) (sym (ap (λ (a : Answer). a.1) started.0)) started.1
  step-underway Disconnect x may h = disconnect-underway p x.desk x.issued may.0 may.1 h

  all-underway : (steps : List PrintStep) (x : Progress) → MayTakeAll steps x → IsUnderway p x.desk x.issued
      → IsUnderway p (after_all steps x).desk (after_all steps x).issued
  all-underway [] x may h = h
  all-underway (step ∷ steps) x may h = all-underway steps (after step x) may.1 (step-underway step x may.0 h)

  follows : (x : Progress) → IsUnderway p x.desk x.issued → FollowsPlan p x
  follows x h = record {
    part = underway-part p x.desk x.issued h;
    whole = λ off. underway-whole p x.desk x.issued off h;
    ends = λ acked found moment may. ((note-underway p found acked moment x.desk x.issued may h).1);
    late = λ idle over moment. late-underway p moment x.desk x.issued idle over h;
  }

pub every_print : EveryPrintFollowsItsPlan
every_print scripts limits poll_ms numbered port file steps cool may =
    let p : PrintData = record { numbered = numbered; scripts = scripts; limits = limits; file = file } in
    follows p cool _ (all-underway p cool steps _ may (new_underway scripts limits poll_ms numbered port file))
