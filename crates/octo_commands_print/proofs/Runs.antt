-- What a print of a job by settings comes to, by what `run_print` promises.
use Rattle.std.proofs.Common.{◌≡◌, ◌↔◌, ◌≤◌, ◌+◌, ℕ, Bool, List, length, Option, None, true, false, refl, ◌∙◌, ap, subst}
use Rattle.gcode_lines.specs.Job.{JobData, texts_of}
use Rattle.temp_rules.specs.Hot.{first_hot_of}
use Rattle.temp_rules.specs.declared.job.HotLine.{HotLine}
use Rattle.job_desk.specs.Data.{Data, new_desk}
use Rattle.send_window.specs.Data.{SenderData, new_sender}
use Rattle.send_window.specs.declared.session_end.SessionEnd.{SessionEnd}
use Rattle.send_window.specs.declared.session_end.SessionEnd.TheVariants.{NoAnswer, LostOk, NumbersUsed}
use Rattle.printer_link.specs.Link.{LinkKind, Recorded}
use Rattle.octo_session.specs.Causes.{EndCausedAs}
use Rattle.octo_session.specs.Data.{SessionData}
use Rattle.octo_session.specs.Plan.{plan}
use Rattle.octo_session_print.specs.Ends.{IsTooHot, IsUnlisted, IsUnsent, is_too_hot}
use Rattle.octo_session_print.specs.Printed.{HasPrinted, HasEnded}
use Rattle.octo_session_print.specs.Waiting.{HasWaited}
use Rattle.octo_session.specs.Smooth.{IsSmooth}
use Rattle.octo_session_print.specs.declared.end.PrintEnd.{PrintEnd}
use Rattle.octo_session_print.specs.declared.end.PrintEnd.TheVariants as end
use Rattle.octo_settings.specs.declared.settings.Settings.{Settings}
use Rattle.octo_files.specs.declared.report.Report.{Report}
use Rattle.octo_files.specs.declared.report.Report.TheVariants as report
use Rattle.octo_commands_print.specs.Printing.{Asked, Seen, HasRun, lines_planned, print_end_report, uses_link}

pub ran : (kind : LinkKind) (s : Settings) (job : JobData) (asked : Asked) (h : Seen) (x y : SessionData) (how : PrintEnd) →
    x.desk ≡ new_desk s.scripts s.limits s.poll_ms s.numbered_oks → x.sender ≡ new_sender s.window s.numbered_oks s.limit_ms → y.sender.numbered ≡ x.sender.numbered → first_hot_of s.limits job.commands ≡ None →
    Recorded h.first h.now (HasPrinted x.sender.numbered kind (plan x.desk.scripts (texts_of job)) how y.sender.acked) →
    IsTooHot (first_hot_of x.desk.limits job.commands) how →
    (how ≡ end.NoPort) ↔ IsUnlisted (first_hot_of x.desk.limits job.commands) asked.turns (kind.listed asked.port) →
    ((why : SessionEnd) → how ≡ end.Ended why → HasEnded kind h.now y.sender why) →
    ((made : ℕ) → how ≡ end.TurnsUsed made → made ≡ asked.turns) →
    (IsUnsent how → h.now ≡ h.first) →
    (x.sender.numbered ≡ false → first_hot_of x.desk.limits job.commands ≡ None →
    IsSmooth kind h.first asked.port h.faults h.faults_now h.moment x.sender.limit x.desk.poll_ms →
    length (plan x.desk.scripts (texts_of job)) + 32 ≤ asked.turns → how ≡ end.Done) →
    HasRun kind s job asked h how
ran kind s job asked h x y how desk sender kept cool printed too_hot no_port ended used unsent prompt =
    let same : x.sender.numbered ≡ s.numbered_oks = ap (λ (t : SenderData). t.numbered) sender in
    let N : Bool → Type 0 = λ b. Recorded h.first h.now (HasPrinted b kind (plan s.scripts (texts_of job)) how y.sender.acked) in
    let E : SessionEnd → Bool → Type 0 = λ why b. EndCausedAs b kind h.now why in
    let none : first_hot_of x.desk.limits job.commands ≡ None = ap (λ (d : Data). first_hot_of d.limits job.commands) desk ∙ cool in
    let P : Data → Type 0 = λ d. Recorded h.first h.now (HasPrinted x.sender.numbered kind (plan d.scripts (texts_of job)) how y.sender.acked) in
    let H : Option HotLine → Type 0 = λ hot. IsTooHot hot how in
    let D : Data → Type 0 = λ d. IsSmooth kind h.first asked.port h.faults h.faults_now h.moment x.sender.limit d.poll_ms →
    length (plan d.scripts (texts_of job)) + 32 ≤ asked.turns → how ≡ end.Done in
    let S : SenderData → Type 0 = λ t. IsSmooth kind h.first asked.port h.faults h.faults_now h.moment t.limit s.poll_ms →
    lines_planned s job + 32 ≤ asked.turns → how ≡ end.Done in
    record {
      acked = y.sender.acked;
      printed = subst N same (subst P desk printed);
      cool = subst H none too_hot;
      no_port = (λ is. (let u = no_port.0 is in (u.some, u.unlisted)), λ u. no_port.1 (record { cool = none; some = u.0; unlisted = u.1 }));
      ended = λ why is. subst (E why) (kept ∙ same) (ended why is).caused;
      limits = λ count is. (ended (NoAnswer count) is).fits.0;
      missing = λ count is. (ended (LostOk count) is).fits.0;
      numbers = λ all is. (ended (NumbersUsed all) is).fits.0;
      used = used;
      unsent = unsent;
      prompt = λ counts. subst S sender (subst D desk (prompt (same ∙ counts) none));
    }

-- a print that is reported with no answer waited by the limit of its settings
pub waited : (s : Settings) (job : JobData) (port : List ℕ) (x : SessionData) (how : PrintEnd) (began now : Option ℕ) (count : ℕ) (r : Report) →
    x.sender ≡ new_sender s.window s.numbered_oks s.limit_ms → r ≡ print_end_report how port job → HasWaited how began x.sender.limit now →
    r ≡ report.Ended (NoAnswer count) → HasWaited (end.Ended (NoAnswer count)) began s.limit_ms now
waited s job port x end.Done began now count r sender is long ended = absurd (cc)
waited s job port x (end.TooHot line asked limit) began now count r sender is long ended = absurd (cc)
waited s job port x end.NoPort began now count r sender is long ended = absurd (cc)
waited s job port x end.LinkFailed began now count r sender is long ended = absurd (cc)
waited s job port x (end.TurnsUsed turns) began now count r sender is long ended = absurd (cc)
waited s job port x (end.Ended why) began now count r sender is long ended =
    let same : why ≡ NoAnswer count = cc in
    subst (λ (t : SenderData). HasWaited (end.Ended (NoAnswer count)) began t.limit now) sender
    (subst (λ w. HasWaited (end.Ended w) began x.sender.limit now) same long)

-- what isn't reported after a dial was too hot, since it was no other end
pub untouched : (how : PrintEnd) (port : List ℕ) (job : JobData) (r : Report) → r ≡ print_end_report how port job → uses_link r ≡ false →
    is_too_hot how ≡ true
untouched end.Done port job r is unused = absurd (cc)
untouched (end.TooHot line asked limit) port job r is unused = refl
untouched end.NoPort port job r is unused = absurd (cc)
untouched end.LinkFailed port job r is unused = absurd (cc)
untouched (end.Ended why) port job r is unused = absurd (cc)
untouched (end.TurnsUsed turns) port job r is unused = absurd (cc)
