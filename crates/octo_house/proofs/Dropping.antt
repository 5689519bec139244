-- Dropping a selection changes the selected file alone, so a stored upload is selected and printed as it would have been before.
use Rattle.std.proofs.Common.{◌≡◌, ℕ, Bool, true, false, ◌&&◌, ◌||◌, cond, not, is_none, List, Option, Some, None, Err, refl, ap, ◌∙◌}
use Rattle.temp_rules.specs.Hot.{first_hot_of}
use Rattle.temp_rules.specs.declared.job.HotLine.{HotLine}
use Rattle.temp_rules.specs.declared.limits.Limits.{Limits}
use Rattle.job_desk.specs.Data.{Data, File}
use Rattle.job_desk.specs.Table.{ok_answer, is_named, drop_file_step}
use Rattle.job_desk.specs.Table as table
use Rattle.job_desk.specs.declared.state.State.{State}
use Rattle.job_desk.specs.declared.state.Refusal.TheVariants as refusal
use Rattle.octo_access.specs.Rights.{has}
use Rattle.octo_access.specs.declared.permission.Permission.TheVariants as permission
use Rattle.octo_access.specs.declared.row.UserRow.{UserRow}
use Rattle.octo_asks.specs.declared.answer.PrintRefusal.{PrintRefusal}
use Rattle.octo_asks.specs.declared.answer.PrintRefusal.TheVariants as why
use Rattle.octo_house_rules.specs.Known.{Known}
use Rattle.octo_house_rules.specs.Prints.{has_room}
use Rattle.octo_house_rules.specs.States.{may_select, may_start}
use Rattle.octo_house_rules.specs.Uploads.{is_selected, is_printed, hot_or_full, refusal_of}
use Rattle.octo_house.specs.Storing.{with_stored}

abbrev dropped : Bool → Bool → Data → table.Answer
dropped named active d = cond named (cond active (Err refusal.FileBusy, d) (ok_answer (record d { file = None }))) (ok_answer d)

state-if : (named active : Bool) (d : Data) → (dropped named active d).1.state ≡ d.state
state-if true true d = refl
state-if true false d = refl
state-if false active d = refl

limits-if : (named active : Bool) (d : Data) → (dropped named active d).1.limits ≡ d.limits
limits-if true true d = refl
limits-if true false d = refl
limits-if false active d = refl

same-state : (name : List ℕ) (d : Data) → (drop_file_step name d).1.state ≡ d.state
same-state name d = state-if (is_named name d.file) d.active d

same-limits : (name : List ℕ) (d : Data) → (drop_file_step name d).1.limits ≡ d.limits
same-limits name d = limits-if (is_named name d.file) d.active d

pub same-selected : (user : UserRow) (select print : Bool) (name : List ℕ) (k : Known)
    → is_selected user select print (with_stored name k) ≡ is_selected user select print k
same-selected user select print name k =
    ap (λ (s : State). (select || print) && (has k.policy user permission.FilesSelect && may_select s)) (same-state name k.desk)

pub same-printed : (user : UserRow) (print : Bool) (file : File) (name : List ℕ) (k : Known)
    → is_printed user print file (with_stored name k) ≡ is_printed user print file k
same-printed user print file name k =
    let printed : State → Limits → Bool = λ s limits.
    (print && (has k.policy user permission.Print && may_start s)) && (is_none (first_hot_of limits file.job.commands) && has_room k) in
    ap (λ s. printed s (drop_file_step name k.desk).1.limits) (same-state name k.desk)
    ∙ ap (λ limits. printed k.desk.state limits) (same-limits name k.desk)

-- nor does it change how many records there are
same-last : (hot : Option HotLine) (name : List ℕ) (k : Known) → hot_or_full hot (with_stored name k) ≡ hot_or_full hot k
same-last None name k = refl
same-last (Some hot) name k = refl

pub same-refusal : (user : UserRow) (select print : Bool) (file : File) (name : List ℕ) (k : Known)
    → refusal_of user select print file (with_stored name k) ≡ refusal_of user select print file k
same-refusal user select print file name k =
    let held : Data = (drop_file_step name k.desk).1 in
    let refused : State → Limits → PrintRefusal → Option PrintRefusal = λ s limits last.
    cond (print && not (((select || print) && (has k.policy user permission.FilesSelect && may_select s))
    && ((print && (has k.policy user permission.Print && may_start s)) && (is_none (first_hot_of limits file.job.commands) && has_room k))))
    (Some (cond (not (has k.policy user permission.FilesSelect)) (why.Denied permission.FilesSelect)
    (cond (not (has k.policy user permission.Print)) (why.Denied permission.Print)
    (cond (not (may_start s)) (why.WrongState s) last)))) None in
    ap (refused held.state held.limits) (same-last (first_hot_of held.limits file.job.commands) name k)
    ∙ ap (λ s. refused s held.limits (hot_or_full (first_hot_of held.limits file.job.commands) k)) (same-state name k.desk)
    ∙ ap (λ limits. refused k.desk.state limits (hot_or_full (first_hot_of limits file.job.commands) k)) (same-limits name k.desk)
