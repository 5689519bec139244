-- What holds of prints in histories over contents of the shelf.
use Rattle.std.proofs.Common.{Bool, ◌≡◌, ℕ, ◌≤◌, List, [], ◌∷◌, ◌++◌, length, All, refl, sym, ◌∙◌, ap, subst}
use Rattle.temp_rules.specs.declared.limits.Limits.{Limits}
use Rattle.job_desk.specs.Data.{ScriptTexts, Data, Line, new_desk}
use Rattle.job_desk.specs.Run.{DeskCall, Fate, Run}
use Rattle.octo_keeper.specs.Tables.{AreNumbered}
use Rattle.octo_keeper.specs.declared.shelf.ShelfFile.{ShelfFile}
use Rattle.octo_keeper.proofs.Numbered.{within_count}
use Rattle.octo_asks.specs.History.{History}
use Rattle.print_queue.specs.declared.row.PrintRow.{PrintRow}
use Rattle.octo_house_laws.specs.OverContents.{with_files, LegalOver, after_over, calls_over, run_over}
use Rattle.octo_house_rules.specs.Desk.{desk_after_all, lines_pulled}
use Rattle.octo_house_rules.specs.Issued.{issued_in, lines_at}
use Rattle.octo_house_rules.specs.Legal.{Standing, after_entry}
use Rattle.octo_house_rules.specs.Outcomes.{HasOutcome}
use Rattle.octo_house_rules.specs.Scripts.{calls_at, HasScripts}
use Rattle.octo_house_rules.proofs.Fates.{Tells, ends_all, ends_append}
use Rattle.octo_house_rules.proofs.Histories.{Joined, joined_entry, new_numbered, none_told, outcomes_of, scripts_of}
use Rattle.octo_house_rules.proofs.Played.{IsNumbered}
use Rattle.octo_house_rules.proofs.Runs.{MayAll, may_append, lines_append}
use Rattle.octo_house_laws.specs.Contents.{KeepsPrintsOver, EveryHistoryKeepsPrintsOver}
use Rattle.octo_house_laws.proofs.Courses.{follows, done_records}

-- the calls may be made at the desk, and pull the lines of the history
joined_over : (contents : List (List ShelfFile)) (h : History) (s : Standing) → LegalOver contents h s → IsNumbered s.known
    → MayAll (calls_over contents h s) s.known.desk × (lines_pulled (calls_over contents h s) s.known.desk ≡ issued_in h)
joined_over [] [] s l n = (tt, refl)
joined_over [] (e ∷ es) s l n = absurd l
joined_over (files ∷ contents) [] s l n = absurd l
joined_over (files ∷ contents) (e ∷ es) s l n =
    let now : Standing = with_files files s in
    let later : Standing = after_entry e now in
    let calls : List DeskCall = calls_at e now in
    let more : List DeskCall = calls_over contents es later in
    let j : Joined calls (lines_at e) s.known later.known = joined_entry e now l.0 n in
    let rest : MayAll more later.known.desk × (lines_pulled more later.known.desk ≡ issued_in es) = joined_over contents es later l.1 j.numbered in (
      may_append calls more s.known.desk j.may (subst (λ (d : Data). MayAll more d) j.desk rest.0),
      lines_append calls more s.known.desk
          ∙ ap (λ (lines : List Line). lines ++ lines_pulled more (desk_after_all calls s.known.desk)) j.pulls
          ∙ ap (λ (d : Data). lines_at e ++ lines_pulled more d) (sym j.desk)
          ∙ ap (λ (lines : List Line). lines_at e ++ lines) rest.1,
    )

-- the records have the outcomes of the ends of the calls
told_over : (contents : List (List ShelfFile)) (h : History) (s : Standing) → LegalOver contents h s → IsNumbered s.known
    → (before : ℕ) (ends : List (ℕ × Fate)) → Tells before ends s.known.prints
    → Tells before (ends_all (calls_over contents h s) s.known.desk ends) (after_over contents h s).known.prints
told_over [] [] s l n before ends t = t
told_over [] (e ∷ es) s l n before ends t = absurd l
told_over (files ∷ contents) [] s l n before ends t = absurd l
told_over (files ∷ contents) (e ∷ es) s l n before ends t =
    let now : Standing = with_files files s in
    let later : Standing = after_entry e now in
    let calls : List DeskCall = calls_at e now in
    let more : List DeskCall = calls_over contents es later in
    let j : Joined calls (lines_at e) s.known later.known = joined_entry e now l.0 n in
    subst (λ (all : List (ℕ × Fate)). Tells before all (after_over contents es later).known.prints)
    (ap (λ (d : Data). ends_all more d (ends_all calls s.known.desk ends)) j.desk ∙ sym (ends_append calls more s.known.desk ends))
    (told_over contents es later l.1 j.numbered before (ends_all calls s.known.desk ends) (j.told before ends t))

module _ (scripts : ScriptTexts) (limits : Limits) (poll_ms : ℕ) (numbered : Bool) (contents : List (List ShelfFile)) (h : History) (s : Standing)
    (new : s.known.desk ≡ new_desk scripts limits poll_ms numbered) where
  pub keeps_prints : All (λ (row : PrintRow). row.number ≤ length s.known.prints) s.known.prints → LegalOver contents h s
      → KeepsPrintsOver scripts contents h s
  keeps_prints old l =
      let n : IsNumbered s.known = new_numbered scripts limits poll_ms numbered s.known new in
      let run : Run = run_over contents h s in
      let rows : List PrintRow = (after_over contents h s).known.prints in
      let before : ℕ = length s.known.prints in
      let j : MayAll (calls_over contents h s) s.known.desk × (lines_pulled (calls_over contents h s) s.known.desk ≡ issued_in h) = joined_over contents h s l n in
      let kept : HasScripts scripts run h = scripts_of scripts limits poll_ms numbered (calls_over contents h s) s.known.desk h new j.0 j.1 in
      let outcomes : All (HasOutcome before run.ends) rows =
      outcomes_of before (calls_over contents h s) s.known.desk rows (told_over contents h s l n before [] (none_told s.known.prints old))
      in
      record { scripts_kept = kept; courses = follows scripts run h kept; outcomes = outcomes; done = done_records scripts run h kept before rows outcomes }

  -- of a host whose prints are numbered from 1 without a gap
  pub new_host_keeps_prints : AreNumbered s.known.prints → LegalOver contents h s → KeepsPrintsOver scripts contents h s
  new_host_keeps_prints counted l = keeps_prints (within_count s.known.prints counted) l

pub every_history_over : EveryHistoryKeepsPrintsOver
every_history_over scripts limits poll_ms numbered contents h s new old l = keeps_prints scripts limits poll_ms numbered contents h s new old l
