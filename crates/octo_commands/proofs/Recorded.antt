-- After a print the history of its link is recorded exactly if it was before.
use Rattle.std.proofs.Common.{◌≡◌, inl, inr, ℕ, Bool, List, Option, Result, Ok, Err, is_some, ap}
use Rattle.octo_outside.specs.Traits.{Files}
use Rattle.gcode_lines.specs.Job.{JobData}
use Rattle.printer_link.specs.Link.{LinkKind}
use Rattle.octo_settings.specs.declared.settings.Settings.{Settings}
use Rattle.octo_files.specs.declared.report.Report.{Report}
use Rattle.octo_commands_print.specs.Printing.{Asked, Seen, Follows, IsFilePrint}

-- whatever was read: a refusal adds nothing
follows_recorded : (kind : LinkKind) (asked : Asked) (h : Seen) (r : Report) (found : Result (Settings × JobData) Report) → Follows kind asked h r found →
    is_some h.now ≡ is_some h.first
follows_recorded kind asked h r (Err refusal) so = ap is_some so.unused
follows_recorded kind asked h r (Ok (s, job)) (inl none) = ap is_some none.unused
follows_recorded kind asked h r (Ok (s, job)) (inr ran) = ran.run.printed.stays

-- of a print of a file
pub print_recorded : (kind : LinkKind) (files : Option Files) (settings : Option (List ℕ)) (sure : Bool) (file : List ℕ) (asked : Asked) (h : Seen) (r : Report) →
    IsFilePrint kind files settings sure file asked h r → is_some h.now ≡ is_some h.first
print_recorded kind files settings sure file asked h r print = follows_recorded kind asked h r print.found print.follows
