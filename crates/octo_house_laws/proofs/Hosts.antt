-- A host that begins on numbered prints meets what the laws ask.
use Rattle.std.proofs.Common.{Bool, ◌≡◌, ℕ, ◌≤◌, List, [], ◌∷◌, length, map, All, sym, subst}
use Rattle.std.proofs.lemmas.List.{length-map}
use Rattle.std.proofs.lemmas.List.Elements.{All-from_recursion, recursion_from_All}
use Rattle.std.specs.List.{AllByRecursion}
use Rattle.octo_asks.specs.History.{History}
use Rattle.job_desk.specs.Data.{ScriptTexts, new_desk}
use Rattle.temp_rules.specs.declared.limits.Limits.{Limits}
use Rattle.octo_keeper.specs.Tables.{AreNumbered}
use Rattle.print_queue.specs.declared.row.PrintRow.{PrintRow}
use Rattle.octo_house_rules.specs.Begins.{row_read}
use Rattle.octo_house_rules.specs.Legal.{Standing, beginning, Legal}
use Rattle.octo_keeper.proofs.Numbered.{within_count}
use Rattle.octo_house_rules.proofs.Histories.{keeps_scripts, keeps_outcomes}
use Rattle.octo_house_laws.specs.Hosts.{KeepsLaws, EveryHostKeepsTheLaws}
use Rattle.octo_house_laws.proofs.Calls.{every_call, every_put}
use Rattle.octo_house_laws.proofs.Courses.{every_print, every_done_record}
use Rattle.octo_house_laws.proofs.Limits.{every_line}
use Rattle.octo_house_laws.proofs.Own.{every_caller}

each_map : {X Y : Type 0} (P : Y → Type 0) (f : X → Y) (xs : List X) → AllByRecursion (λ x. P (f x)) xs → AllByRecursion P (map f xs)
each_map P f [] h = tt
each_map P f (x ∷ xs) h = (h.0, each_map P f xs h.1)

-- no number is above the count among the records as a new host reads them
read_within : (rows : List PrintRow) → AreNumbered rows → All (λ (row : PrintRow). row.number ≤ length (map row_read rows)) (map row_read rows)
read_within rows numbered =
    subst (λ n. All (λ (row : PrintRow). row.number ≤ n) (map row_read rows)) (sym (length-map rows row_read))
    (All-from_recursion (λ (row : PrintRow). row.number ≤ length rows) (map row_read rows)
    (each_map (λ (row : PrintRow). row.number ≤ length rows) row_read rows
    (recursion_from_All (λ (row : PrintRow). (row_read row).number ≤ length rows) rows (within_count rows numbered))))

-- a host with a new desk whose records have no number above their count
module _ (scripts : ScriptTexts) (limits : Limits) (poll_ms : ℕ) (numbered : Bool) (history : History) (s : Standing) (desk : s.known.desk ≡ new_desk scripts limits poll_ms numbered) where
  keeps_laws : All (λ (row : PrintRow). row.number ≤ length s.known.prints) s.known.prints → Legal history s → KeepsLaws scripts limits history s
  keeps_laws few legal = record {
    scripts_kept = keeps_scripts scripts limits poll_ms numbered history s desk legal;
    courses = every_print scripts limits poll_ms numbered history s desk legal;
    outcomes = keeps_outcomes scripts limits poll_ms numbered history s desk few legal;
    done = every_done_record scripts limits poll_ms numbered history s desk few legal;
    cool = λ cool. every_line scripts limits poll_ms numbered history s desk cool legal;
    permitted = every_call history s legal;
    once = every_put history s legal;
    isolated = every_caller history s legal;
  }

  -- one whose prints are numbered from 1 without a gap
  pub new_host_keeps : AreNumbered s.known.prints → Legal history s → KeepsLaws scripts limits history s
  new_host_keeps counted legal = keeps_laws (within_count s.known.prints counted) legal

pub every_host : EveryHostKeepsTheLaws
every_host scripts limits poll_ms numbered policy ports material tables files held k window limit history begins counted legal =
    keeps_laws scripts limits poll_ms numbered history (beginning window limit k held) begins.desk
    (subst (λ (rows : List PrintRow). All (λ (row : PrintRow). row.number ≤ length rows) rows) (sym begins.prints) (read_within tables.prints counted)) legal
