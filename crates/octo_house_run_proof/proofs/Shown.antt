-- The prints that are shown.
use Rattle.std.proofs.Common.{◌≡◌, ◌⊎◌, inl, inr, Bool, List, ◌∷◌, ◌++◌, map, take, reverse, filter, All, Option, None, Some, sym, subst}
use Rattle.std.proofs.lemmas.List.Elements.{All-map, All-take, All-filter}
use Rattle.std.proofs.lemmas.List.Sorted.{All-permutation, IsPermutation-reverse}
use Rattle.octo_access.specs.Rights.{caller}
use Rattle.octo_access.specs.declared.permission.Permission.{Permission}
use Rattle.octo_access.specs.declared.row.UserRow.{UserRow}
use Rattle.printer_model.specs.declared.event.WorldEvent.{WorldEvent}
use Rattle.printer_link.specs.Link.{LinkKind}
use Rattle.octo_asks.specs.History.{History}
use Rattle.octo_asks.specs.Rights.{needed}
use Rattle.octo_asks.specs.Shown.{shown_print}
use Rattle.octo_asks.specs.declared.answer.Answer.TheVariants as answer
use Rattle.octo_asks.specs.declared.entry.Entry.{Entry}
use Rattle.octo_asks.specs.declared.entry.Entry.TheVariants as entry
use Rattle.octo_asks.specs.declared.request.Request.{Request}
use Rattle.octo_asks.specs.declared.shown.ShownPrint.{ShownPrint}
use Rattle.print_queue.specs.declared.row.PrintRow.{PrintRow}
use Rattle.octo_house_rules.specs.Answers.{unless_lacking, lacking, verdict_of_caller, verdict_by}
use Rattle.octo_house_rules.specs.Known.{Known, whose}
use Rattle.octo_house_rules.specs.Reads.{is_print_of, list_prints_verdict}
use Rattle.octo_house_rules.specs.Verdict.{May}
use Rattle.octo_house_rules.specs.Legal.{Standing, Legal, after_all}
use Rattle.octo_house_run_proof.specs.Laws.{IsRun}
use Rattle.octo_house_rules.specs.PrintLaws.{IsDoneRecordTrue, IsDoneShownTrue, EachDoneShownIsTrue}
use Rattle.octo_house_rules.specs.Timeline.{history_of}
use Rattle.octo_house_run_proof.proofs.Executed.{run_then, record_true}
use Rattle.octo_house_run_proof.proofs.Histories.{legal_first}

-- what holds of each record holds of each that is shown
module _ (P : ShownPrint → Type 0) (k : Known) (all : All (λ (row : PrintRow). P (shown_print row)) k.prints) (shown : List ShownPrint) where
  of_list : (user : UserRow) → answer.Prints shown ≡ answer.Prints (map shown_print (take 100 (reverse (filter (is_print_of (whose k user)) k.prints))))
      → All P shown
  of_list user is =
      let Q : PrintRow → Type 0 = λ row. P (shown_print row) in
      let own : List PrintRow = filter (is_print_of (whose k user)) k.prints in
      let same : shown ≡ map shown_print (take 100 (reverse own)) = cc is in
      subst (λ (rows : List ShownPrint). All P rows) (sym same)
      (All-map P shown_print (take 100 (reverse own))
      (All-take Q 100 (reverse own)
      (All-permutation Q own (reverse own) (IsPermutation-reverse own) (All-filter (is_print_of (whose k user)) Q k.prints all))))

  of_allowed : (o : Option Permission) (user : UserRow) → May (unless_lacking o (list_prints_verdict user k)) (answer.Prints shown) → All P shown
  of_allowed None user may = of_list user may
  of_allowed (Some lacks) user may = absurd (cc may)

  of_user : (o : Option UserRow) (ps : List Permission) → May (verdict_of_caller o ps k (λ user. list_prints_verdict user k)) (answer.Prints shown) →
      All P shown
  of_user None ps may = absurd (cc may)
  of_user (Some user) ps may = of_allowed (lacking k user ps) user may

pub shown_true : (numbered : Bool) (kind : LinkKind) (front : List WorldEvent) (s : Standing) (h : History) (past : List WorldEvent) (run : IsRun numbered kind front s h past) →
    EachDoneShownIsTrue kind front s run.tied.timeline
shown_true numbered kind front s h past run first later here is worker ask moment shown answers lists = by legal.1.0.1.may
  where
    now : History
    now = history_of first

    legal : Legal now s × Legal (entry.Call worker ask moment (answer.Prints shown) ∷ history_of later) (after_all now s)
    legal =
        legal_first now (entry.Call worker ask moment (answer.Prints shown) ∷ history_of later) s
        (subst (λ (e : Entry). Legal (now ++ e ∷ history_of later) s) answers (run_then numbered kind front s h past run first (here ∷ later) is).legal_all)

    rows : All (IsDoneRecordTrue kind front s first) (after_all now s).known.prints
    rows = record_true numbered kind front s h past run first (here ∷ later) is

    by : (answer.Prints shown ≡ answer.NoMemory) ⊎ May (verdict_by (needed ask.request) ask.key ask.request (after_all now s).files (after_all now s).known)
        (answer.Prints shown) → All (IsDoneShownTrue kind front s first) shown
    by (inl none) = absurd (cc none)
    by (inr may) =
        of_user (IsDoneShownTrue kind front s first) (after_all now s).known rows shown
        (caller (after_all now s).known.policy (after_all now s).known.users ask.key) _
        (subst (λ (r : Request). May (verdict_by (needed r) ask.key r (after_all now s).files (after_all now s).known) (answer.Prints shown)) lists may)
