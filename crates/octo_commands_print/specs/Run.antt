-- What a demo runs, and what it comes to.
use Rattle.std.specs.Prelude.{◌≡◌, ◌≢◌, ℕ, Bool, false, true, List, [], length, count_by, codes, Option, Some, is_some, Ok}
use Rattle.gcode_lines.specs.Commands.{job_of}
use Rattle.gcode_lines.specs.Job.{JobData, texts_of}
use Rattle.job_desk.specs.Scripts.{no_scripts}
use Rattle.octo_session.specs.Causes.{EndCausedAs}
use Rattle.printer_link.specs.Link.{LinkKind, Recorded}
use Rattle.printer_link.specs.Memory.{MemoryLinkData, link_kind, link_world, new_link, sends}
use Rattle.printer_model.specs.World.{is_loss}
use Rattle.printer_model.specs.Executed.{executed}
use Rattle.octo_session.specs.Plan.{plan}
use Rattle.send_window.specs.declared.session_end.SessionEnd.{SessionEnd}
use Rattle.octo_session_print.specs.Ends.{IsTooHot}
use Rattle.octo_session_print.specs.Printed.{HasPrinted}
use Rattle.octo_session_print.specs.declared.end.PrintEnd.{PrintEnd}
use Rattle.octo_session_print.specs.declared.end.PrintEnd.TheVariants as end
use Rattle.temp_rules.specs.Hot.{first_hot_of}
use Rattle.temp_rules.specs.declared.limits.Limits.{Limits}
use Rattle.octo_commands_print.specs.Fates.{demo_schedule}
use Rattle.octo_commands_print.specs.File.{demo_file}
use Rattle.octo_commands_print.specs.declared.report.DemoCounts.{DemoCounts}
use Rattle.octo_commands_print.specs.declared.run.Demo.{Demo}

-- what no call changes of a demo's link
abbrev pub demo_kind : (seed commands : ℕ) → Option (List ℕ) → LinkKind
demo_kind seed commands lost = link_kind (new_link (demo_schedule seed commands lost))

-- the greatest temperatures of a demo, in degrees Celsius
abbrev pub demo_limits : Limits
demo_limits = record { tool = 300; bed = 120 }

-- a print of this job without scripts ended so, over a link to which nothing happened before, by whether `ok`s count by their
-- numbers
pub record IsPrint (numbered : Bool) (kind : LinkKind) (job : JobData) (link : MemoryLinkData) (ended_as : PrintEnd) : Type 0 where
  pub acked : ℕ
  pub printed : Recorded (Some []) (Some link.story.past) (HasPrinted numbered kind (plan no_scripts (texts_of job)) ended_as acked)
  pub ended : (why : SessionEnd) → ended_as ≡ end.Ended why → EndCausedAs numbered kind (Some link.story.past) why
  pub same_kind : link_kind link ≡ kind
  pub down : (link_world link).linked ≡ false
  pub listed : kind.listed (codes "demo") ≡ true → ended_as ≢ end.NoPort
  pub cool : IsTooHot (first_hot_of demo_limits job.commands) ended_as
  pub used : (turns : ℕ) → ended_as ≡ end.TurnsUsed turns → turns ≡ 1000000000

-- a demo that was run: its file was printed over its link, whose port is listed and which didn't fail; `ok`s count by their
-- numbers exactly if lost replies are listed
pub record IsDemo (seed commands : ℕ) (lost : Option (List ℕ)) (demo : Demo) : Type 0 where
  pub job : JobData
  pub its_file : job_of (demo_file seed commands) ≡ Ok job
  pub print : IsPrint (is_some lost) (demo_kind seed commands lost) job demo.link demo.end
  pub listed : demo.end ≢ end.NoPort
  pub sound : demo.end ≢ end.LinkFailed

-- what happened on a link
abbrev pub counts_of : MemoryLinkData → DemoCounts
counts_of link = record {
  executed = length (executed link.story.slots link.story.oks link.story.past 1);
  sent = sends link.story.past;
  faults = count_by is_loss link.story.past;
}
