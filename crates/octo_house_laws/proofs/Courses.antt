-- The courses of prints, from their stories.
use Rattle.std.proofs.Common.{◌≡◌, ◌⊎◌, inl, inr, ℕ, ◌<◌, List, [], ◌∷◌, All, length, get_or, refl, sym, ◌∙◌, subst, arith}
use Rattle.std.proofs.lemmas.List.{append-nil}
use Rattle.job_desk.specs.Course.{Course, End, started, still_open, Cancelled, Done, script}
use Rattle.job_desk.specs.Data.{ScriptTexts, Line}
use Rattle.job_desk.specs.Run.{Fate, Run, Stopped, of_print}
use Rattle.job_desk.specs.Story.{IsBegun, Story, never, going, finished, stopped, left, unplugged, broken}
use Rattle.job_desk.specs.declared.state.Point.TheVariants as point
use Rattle.octo_asks.specs.History.{History}
use Rattle.print_queue.specs.declared.ending.Outcome.TheVariants as outcome
use Rattle.print_queue.specs.declared.row.PrintRow.{PrintRow}
use Rattle.octo_house_rules.specs.Issued.{trace}
use Rattle.octo_house_rules.specs.Legal.{after_all}
use Rattle.octo_house_rules.specs.Outcomes.{outcome_by, HasOutcome}
use Rattle.octo_house_rules.specs.Scripts.{run_in, HasScripts}
use Rattle.octo_house_rules.proofs.Histories.{keeps_scripts, keeps_outcomes}
use Rattle.octo_house_laws.specs.Courses.{BeginsCourse, HasWholeCourse, FollowsCourses, EveryPrintFollowsACourse, HasCourseIfDone, EveryDoneRecordHasACourse}

module _ (scripts : ScriptTexts) (print : ℕ) where
  -- what a story says of the beginning of a course
  abbrev Begun : List (List (List ℕ)) → List Line → Type 0
  Begun begun lines = (commands : List (List ℕ)) × ((begun ≡ []) ⊎ (begun ≡ commands ∷ [])) × IsBegun scripts print commands lines

  -- what it says of a whole one
  abbrev Whole : End → List (List (List ℕ)) → List Line → Type 0
  Whole end begun lines = (commands : List (List ℕ)) × (begun ≡ commands ∷ []) × Course scripts print commands end lines

  whole_begun : (commands : List (List ℕ)) (end : End) (lines : List Line) → Course scripts print commands end lines
      → IsBegun scripts print commands lines
  whole_begun commands end lines course = record {
    end = end;
    rest = [];
    course = subst (λ all. Course scripts print commands end all) (sym (append-nil lines)) course;
  }

  -- no line begins the course of any file
  none_begun : (commands : List (List ℕ)) → IsBegun scripts print commands []
  none_begun commands = record {
    end = _;
    rest = script scripts print commands point.Started;
    course = still_open 0 (script scripts print commands point.Started) started;
  }

  begun_by : (begun : List (List (List ℕ))) (lines : List Line) (ends : List Fate) → Story scripts print begun lines ends → Begun begun lines
  begun_by _ _ _ never = ([], inl refl, none_begun [])
  begun_by _ _ _ (going commands lines begun) = (commands, inr refl, begun)
  begun_by _ _ _ (finished commands lines course) = (commands, inr refl, whole_begun commands _ lines course)
  begun_by _ _ _ (stopped commands lines course) = (commands, inr refl, whole_begun commands _ lines course)
  begun_by _ _ _ (left commands lines course) = (commands, inr refl, whole_begun commands _ lines course)
  begun_by _ _ _ (unplugged commands lines begun) = (commands, inr refl, begun)
  begun_by _ _ _ (broken commands lines begun) = (commands, inr refl, begun)

  -- the one story that ends as stopped
  cancelled_by : (begun : List (List (List ℕ))) (lines : List Line) (ends : List Fate) → Story scripts print begun lines ends → ends ≡ Stopped ∷ []
      → Whole Cancelled begun lines
  cancelled_by _ _ _ never is = absurd (cc is)
  cancelled_by _ _ _ (going commands lines begun) is = absurd (cc is)
  cancelled_by _ _ _ (finished commands lines course) is = absurd (cc is)
  cancelled_by _ _ _ (stopped commands lines course) is = (commands, refl, course)
  cancelled_by _ _ _ (left commands lines course) is = absurd (cc is)
  cancelled_by _ _ _ (unplugged commands lines begun) is = absurd (cc is)
  cancelled_by _ _ _ (broken commands lines begun) is = absurd (cc is)

  -- the one story whose outcome is Done
  done_by : (begun : List (List (List ℕ))) (lines : List Line) (ends : List Fate) → Story scripts print begun lines ends
      → outcome_by ends ≡ outcome.Done
      → Whole Done begun lines
  done_by _ _ _ never done = absurd (cc done)
  done_by _ _ _ (going commands lines begun) done = absurd (cc done)
  done_by _ _ _ (finished commands lines course) done = (commands, refl, course)
  done_by _ _ _ (stopped commands lines course) done = absurd (cc done)
  done_by _ _ _ (left commands lines course) done = absurd (cc done)
  done_by _ _ _ (unplugged commands lines begun) done = absurd (cc done)
  done_by _ _ _ (broken commands lines begun) done = absurd (cc done)

module _ (scripts : ScriptTexts) (run : Run) (h : History) (kept : HasScripts scripts run h) where
  begins : (print : ℕ) → 0 < print → BeginsCourse scripts run h print
  begins print positive =
      let found : Begun scripts print (of_print print run.begun) (trace print h) = begun_by scripts print _ _ _ (kept.stories print positive) in
      record { commands = found.0; file = found.1; course = found.2 }

  cancels : (print : ℕ) → 0 < print → of_print print run.ends ≡ Stopped ∷ [] → HasWholeCourse Cancelled scripts run h print
  cancels print positive is =
      let found : Whole scripts print Cancelled (of_print print run.begun) (trace print h) = cancelled_by scripts print _ _ _
      (kept.stories print positive) is in
      record { commands = found.0; file = found.1; course = found.2 }

  completes : (before : ℕ) (row : PrintRow) → HasOutcome before run.ends row → HasCourseIfDone scripts before run h row
  completes before row told = λ above done. (
      let found : Whole scripts row.number Done (of_print row.number run.begun) (trace row.number h) =
      done_by scripts row.number _ _ _ (kept.stories row.number (omega arith)) (sym (told above) ∙ done) in
      record { commands = found.0; file = found.1; course = found.2 }
      )

  -- the courses of all prints, and of the records that say Done
  pub follows : FollowsCourses scripts run h
  follows = record { each = begins; cancelled = cancels }

  pub done_records : (before : ℕ) (rows : List PrintRow) → All (HasOutcome before run.ends) rows → All (HasCourseIfDone scripts before run h) rows
  done_records before rows outcomes = λ i d within. completes before (get_or rows i d) (outcomes i d within)

pub every_print : EveryPrintFollowsACourse
every_print scripts limits poll_ms numbered h s e l = follows scripts (run_in h s) h (keeps_scripts scripts limits poll_ms numbered h s e l)

pub every_done_record : EveryDoneRecordHasACourse
every_done_record scripts limits poll_ms numbered h s e old l =
    done_records scripts (run_in h s) h (keeps_scripts scripts limits poll_ms numbered h s e l) (length s.known.prints) (after_all h s).known.prints
    (keeps_outcomes scripts limits poll_ms numbered h s e old l)
