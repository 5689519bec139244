-- What holds of histories over contents of the shelf.
use Rattle.std.proofs.Common.{Bool, ◌≡◌, ℕ, List, [], ◌∷◌, sym, subst}
use Rattle.std.proofs.lemmas.List.Elements.{All-from_recursion}
use Rattle.std.specs.List.{AllByRecursion}
use Rattle.temp_rules.specs.declared.limits.Limits.{Limits}
use Rattle.job_desk.specs.Data.{ScriptTexts, new_desk}
use Rattle.octo_keeper.specs.declared.shelf.ShelfFile.{ShelfFile}
use Rattle.octo_asks.specs.History.{History}
use Rattle.octo_house_laws.specs.OverContents.{with_files, LegalOver}
use Rattle.octo_house_laws.proofs.Led.{each_so}
use Rattle.octo_house_rules.specs.Issued.{lines_at, issued_in}
use Rattle.octo_house_rules.specs.Legal.{Standing, IsLegal, after_entry}
use Rattle.octo_house_laws.specs.Calls.{IsPermittedEntry, IsEntryOnce}
use Rattle.octo_house_laws.specs.Contents.{EveryHistoryKeepsLawsOver, EveryLineOverIsCool}
use Rattle.octo_house_laws.specs.Limits.{AreCoolScripts, IssuesCoolLines}
use Rattle.octo_house_laws.specs.Own.{IsEntryIsolated}
use Rattle.octo_house_laws.proofs.Calls.{by_entry, once_entry}
use Rattle.octo_house_laws.proofs.Desk.{Cool}
use Rattle.octo_house_laws.proofs.Limits.{cool_entry, new_cool}
use Rattle.octo_house_laws.proofs.Own.{isolated_entry}
use Rattle.octo_house_laws.proofs.Pulls.{IsCoolLine}
use Rattle.octo_house_laws.proofs.Texts.{each_append}

pub keeps_over : EveryHistoryKeepsLawsOver
keeps_over contents history s legal = record {
  legal = legal;
  permitted = each_so IsLegal IsPermittedEntry by_entry contents history s legal;
  once = each_so IsLegal IsEntryOnce once_entry contents history s legal;
  isolated = each_so IsLegal IsEntryIsolated isolated_entry contents history s legal;
}

cool_over : (limits : Limits) (contents : List (List ShelfFile)) (history : History) (s : Standing) → LegalOver contents history s
    → Cool limits s.known.desk → AllByRecursion (IsCoolLine limits) (issued_in history)
cool_over limits [] [] s l h = tt
cool_over limits [] (e ∷ es) s l h = absurd l
cool_over limits (files ∷ contents) [] s l h = absurd l
cool_over limits (files ∷ contents) (e ∷ es) s l h =
    let one : AllByRecursion (IsCoolLine limits) (lines_at e) × Cool limits (after_entry e (with_files files s)).known.desk =
    cool_entry limits e (with_files files s) l.0 h in
    each_append (IsCoolLine limits) (lines_at e) (issued_in es) one.0
    (cool_over limits contents es (after_entry e (with_files files s)) l.1 one.1)

-- of a host with a new desk whose scripts aren't too hot
pub every_cool_line_over : (scripts : ScriptTexts) (limits : Limits) (poll_ms : ℕ) (numbered : Bool) (contents : List (List ShelfFile)) (history : History) (s : Standing)
    → s.known.desk ≡ new_desk scripts limits poll_ms numbered → AreCoolScripts limits scripts → LegalOver contents history s → IssuesCoolLines limits history
every_cool_line_over scripts limits poll_ms numbered contents history s e cool l =
    All-from_recursion (IsCoolLine limits) (issued_in history)
    (cool_over limits contents history s l (subst (λ d. Cool limits d) (sym e) (new_cool limits scripts poll_ms numbered cool)))

pub every_line_over : EveryLineOverIsCool
every_line_over settings contents history s sound e l =
    All-from_recursion (IsCoolLine settings.limits) (issued_in history)
    (cool_over settings.limits contents history s l (subst (λ d. Cool settings.limits d) (sym e)
    (new_cool settings.limits settings.scripts settings.poll_ms settings.numbered_oks (λ at i d within. (sound.scripts at i d within).cool))))
