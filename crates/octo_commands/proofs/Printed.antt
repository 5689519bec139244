-- What a print with enough turns reports.
use Rattle.std.proofs.Common.{◌≡◌, ◌⊎◌, refl, inl, inr, ℕ, false, List, Option, None, Some, Result, Ok, Err, sym, ◌∙◌, ap, subst}
use Rattle.std.specs.Prelude.{IsUtf8}
use Rattle.std.proofs.lemmas.Option.{same_Some}
use Rattle.octo_outside.specs.Recorded.{Rose, Steady}
use Rattle.octo_outside.specs.Traits.{Files}
use Rattle.octo_outside.proofs.Recorded.{steady_not_rose}
use Rattle.gcode_lines.specs.Job.{JobData}
use Rattle.temp_rules.specs.declared.limits.Limits.{Limits}
use Rattle.printer_link.specs.Link.{LinkKind}
use Rattle.octo_session_print.specs.declared.end.PrintEnd.{PrintEnd}
use Rattle.octo_settings.specs.Config.{config, plain_settings}
use Rattle.octo_settings.specs.declared.settings.Settings.{Settings}
use Rattle.octo_words.specs.Words.{command_of}
use Rattle.octo_words.specs.declared.command.Command.{Command}
use Rattle.octo_words.specs.declared.command.Command.TheVariants as command
use Rattle.octo_files.specs.declared.report.Report.{Report}
use Rattle.octo_files.specs.declared.report.Report.TheVariants as report
use Rattle.octo_files.specs.Jobs.{job_in}
use Rattle.octo_files.specs.Reading.{IsHeld, IsTrouble}
use Rattle.octo_files.specs.Settings.{HaveSettings, settings_or}
use Rattle.octo_files.specs.Status.{code_of}
use Rattle.octo_commands_print.specs.Printing.{Seen, HaveJob, Reads, UseSettings, no_settings, no_job, both, Follows, IsRun, print_end_report, over_port}
use Rattle.octo_commands.specs.Commands.{Comes, out_of_memory, no_command, carried_out, hosted, hosted_by, IsWritten, Reports, seen_in}
use Rattle.octo_commands.specs.Floors.{floor_in_words}
use Rattle.octo_commands.proofs.Ended.{floor_of_command}
use Rattle.octo_serve.specs.Ends.{HistoryData}
use Rattle.octo_serve_command.specs.Hosting.{Around}
use Rattle.octo_serve_command.specs.Reports.{host_code}
use Rattle.octo_serve_command.specs.declared.report.HostReport.{HostReport}
use Rattle.octo_serve_command.specs.declared.report.HostReport.TheVariants as host
use Rattle.octo_commands.specs.Enough.{Holds, GiveSettings, HasEnough, IsPrinted}

ok_of : {A : Type 0} → A → Result A Report → A
ok_of other (Ok x) = x
ok_of other (Err r) = other

abbrev AreEqual : {A : Type 0} → Result A Report → Result A Report → Type 0
AreEqual a b = a ≡ b

same_ok : {A : Type 0} (x y : A) → AreEqual (Ok x) (Ok y) → x ≡ y
unfolding ok_of
same_ok x y is = ap (ok_of x) is

err_of : {A : Type 0} → Result A Report → Report
err_of (Ok x) = report.NoMemory
err_of (Err r) = r

same_err : {A : Type 0} (r s : Report) → AreEqual {A = A} (Err r) (Err s) → r ≡ s
unfolding err_of
same_err r s is = ap err_of is

-- a file has one content
same_bytes : (files : Option Files) (file bytes other : List ℕ) → Holds files file bytes → IsHeld files file other → other ≡ bytes
same_bytes None file bytes other holds held = absurd holds
same_bytes (Some all) file bytes other holds held = same_Some other bytes (sym held ∙ holds)

-- settings that are given aren't refused
settings_trouble : (files : Option Files) (name : Option (List ℕ)) (s : Settings) (r : Report) → GiveSettings files name s →
    HaveSettings files name (Err r) → IsTrouble r
settings_trouble files None s r given have = absurd (cc)
settings_trouble files (Some name) s r given (inl trouble) = trouble
settings_trouble files (Some name) s r given (inr gives) =
    let same : gives.bytes ≡ given.bytes = same_bytes files name given.bytes gives.bytes given.held gives.held in
    let no : Err r ≡ Ok s = gives.given.text (subst IsUtf8 (sym same) given.text) ∙ ap settings_or (ap config same ∙ given.settings) in
    absurd (cc)

-- and no others are read
settings_same : (files : Option Files) (name : Option (List ℕ)) (s t : Settings) → GiveSettings files name s → HaveSettings files name (Ok t) → t ≡ s
settings_same files None s t given have = same_ok t plain_settings have ∙ sym given
settings_same files (Some name) s t given (inl trouble) = absurd trouble
settings_same files (Some name) s t given (inr gives) =
    let same : gives.bytes ≡ given.bytes = same_bytes files name given.bytes gives.bytes given.held gives.held in
    same_ok t s (gives.given.text (subst IsUtf8 (sym same) given.text) ∙ ap settings_or (ap config same ∙ given.settings))

-- so it is with those of a print that counts `ok`s
used_trouble : (files : Option Files) (name : Option (List ℕ)) (s : Settings) (r : Report) → GiveSettings files name s →
    UseSettings files name false (Err r) → IsTrouble r
used_trouble files name s r given (inl (refusal, have, is)) =
    subst IsTrouble (sym (same_err r refusal is)) (settings_trouble files name s refusal given have)
used_trouble files name s r given (inr (t, have, is)) = absurd (cc)

used_same : (files : Option Files) (name : Option (List ℕ)) (s t : Settings) → GiveSettings files name s → UseSettings files name false (Ok t) → t ≡ s
used_same files name s t given (inl (refusal, have, is)) = absurd (cc)
used_same files name s t given (inr (read, have, is)) = same_ok t read is ∙ settings_same files name s read given have

-- so it is with the job of a file
job_trouble : (files : Option Files) (file bytes : List ℕ) (limits : Limits) (job : JobData) (r : Report) → Holds files file bytes →
    job_in limits bytes ≡ Ok job → HaveJob files file limits (Err r) → IsTrouble r
job_trouble files file bytes limits job r holds is (inl trouble) = trouble
job_trouble files file bytes limits job r holds is (inr gives) =
    let no : Err r ≡ Ok job = gives.given ∙ ap (job_in limits) (same_bytes files file bytes gives.bytes holds gives.held) ∙ is in
    absurd (cc)

job_same : (files : Option Files) (file bytes : List ℕ) (limits : Limits) (job other : JobData) → Holds files file bytes →
    job_in limits bytes ≡ Ok job → HaveJob files file limits (Ok other) → other ≡ job
job_same files file bytes limits job other holds is (inl trouble) = absurd trouble
job_same files file bytes limits job other holds is (inr gives) =
    same_ok other job (gives.given ∙ ap (job_in limits) (same_bytes files file bytes gives.bytes holds gives.held) ∙ is)

module _ (words : List (List ℕ)) (kind : LinkKind) (files : Option Files) (h : Seen) (r : Report) (e : HasEnough words kind files h) (sure : r ≡ report.SourceFailed → ⊥) where
  -- a refusal for a trouble is for memory
  troubled : (refusal : Report) → IsTrouble refusal → r ≡ refusal → IsPrinted e.job r
  troubled refusal (inl none) is = inr (is ∙ none)
  troubled refusal (inr failed) is = absurd (sure (is ∙ failed))

  ran_done : (x : IsRun kind e.by e.job (over_port e.port e.turns) h r) → IsPrinted e.job r
  ran_done x = inl (x.is ∙ ap (λ (how : PrintEnd). print_end_report how e.port e.job) (x.run.prompt e.counts e.smooth e.enough))

  by_job : (s : Settings) (job : JobData) → s ≡ e.by → job ≡ e.job → Follows kind (over_port e.port e.turns) h r (Ok (s, job)) → IsPrinted e.job r
  by_job s job their its (inl none) = inr none.is
  by_job s job their its (inr ran) =
      let S : Settings → Type 0 = λ t. IsRun kind t job (over_port e.port e.turns) h r in
      let J : JobData → Type 0 = λ j. IsRun kind e.by j (over_port e.port e.turns) h r in
      ran_done (subst J its (subst S their ran))

  by_reads : (found : Result (Settings × JobData) Report) → Reads files e.settings false e.file found → Follows kind (over_port e.port e.turns) h r found →
      IsPrinted e.job r
  by_reads found (no_settings refusal used) so = troubled refusal (used_trouble files e.settings e.by refusal e.given used) so.is
  by_reads found (no_job s refusal used none) so =
      let their : s ≡ e.by = used_same files e.settings e.by s e.given used in
      let L : Settings → Type 0 = λ t. HaveJob files e.file t.limits (Err refusal) in
      troubled refusal (job_trouble files e.file e.bytes e.by.limits e.job refusal e.held e.its_job (subst L their none)) so.is
  by_reads found (both s job used its) so =
      let their : s ≡ e.by = used_same files e.settings e.by s e.given used in
      let L : Settings → Type 0 = λ t. HaveJob files e.file t.limits (Ok job) in
      by_job s job their (job_same files e.file e.bytes e.by.limits e.job job e.held e.its_job (subst L their its)) so

  -- a print with enough turns was printed, unless memory ran out
  reports_printed : (asked : Command) → command_of words ≡ Some asked → Reports kind files h asked r → IsPrinted e.job r
  reports_printed asked is reports =
      let R : Command → Type 0 = λ c. Reports kind files h c r in
      let so = subst R (same_Some asked (command.Print e.port e.file e.turns e.settings false) (sym is ∙ e.asked)) reports in
      by_reads so.found so.reads so.follows

-- the report of a print that has enough turns
abbrev pub EndsPrinted : JobData → HostReport → Type 0
EndsPrinted job r = (plain : Report) × (r ≡ host.Command plain) × IsPrinted job plain

-- what arguments that ask for such a print come to
pub comes_printed : (words : List (List ℕ)) (files : Option Files) (old new : Around) (r : HostReport) (known : Option HistoryData) (e : HasEnough words old.link.kind files (seen_in old new)) →
    (r ≡ host.Command report.SourceFailed → ⊥) → Comes words files old new r known → EndsPrinted e.job r
comes_printed words files old new r known e sure (out_of_memory is unused none) = (report.NoMemory, is, inr refl)
comes_printed words files old new r known e sure (no_command is none unused unknown) =
    let no : None ≡ Some (command.Print e.port e.file e.turns e.settings false) = sym none ∙ e.asked in
    absurd (cc)
comes_printed words files old new r known e sure (carried_out asked plain is r_is reports waited aside none) =
    (plain, r_is, reports_printed words old.link.kind files (seen_in old new) plain e (λ failed. sure (r_is ∙ ap (λ (p : Report). host.Command p) failed)) asked is reports)
comes_printed words files old new r known e sure (hosted asked settings is by hosts) =
    let same = same_Some asked (command.Print e.port e.file e.turns e.settings false) (sym is ∙ e.asked) in
    let no : None ≡ Some settings = sym (ap hosted_by same) ∙ by in
    absurd (cc)

-- the status of such a print
pub printed_code : (job : JobData) (r : HostReport) (code : ℕ) (out out' : Option (List ℕ)) (faults faults' : ℕ) → EndsPrinted job r → IsWritten r code out out'
    → (code ≡ 8 → Rose faults faults') → Steady faults faults' → (code ≡ 0) ⊎ (code ≡ 11)
printed_code job r code out out' faults faults' (plain, is, inl done) (inl written) rose steady =
    inl (written.0 ∙ ap host_code is ∙ ap code_of done)
printed_code job r code out out' faults faults' (plain, is, inr none) (inl written) rose steady =
    inr (written.0 ∙ ap host_code is ∙ ap code_of none)
printed_code job r code out out' faults faults' printed (inr failed) rose steady = absurd (steady_not_rose faults faults' steady (rose failed.0))

-- its arguments ask for no floor
pub prints_alone : (words : List (List ℕ)) (kind : LinkKind) (files : Option Files) (h : Seen) → HasEnough words kind files h → floor_in_words words ≡ None
prints_alone words kind files h e = floor_of_command words (command.Print e.port e.file e.turns e.settings false) e.asked
