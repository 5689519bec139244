-- A run keeps the laws, since its history is legal.
use Rattle.std.proofs.Common.{◌≡◌, List, [], Option, Some, refl}
use Rattle.octo_outside.specs.Recorded.{Became}
use Rattle.octo_keeper.specs.declared.shelf.ShelfFile.{ShelfFile}
use Rattle.octo_asks.specs.History.{History}
use Rattle.job_desk.specs.Data.{Data}
use Rattle.octo_house.specs.State.{known_of}
use Rattle.octo_house.specs.declared.house.House.{House}
use Rattle.octo_house_laws.specs.OverContents.{LeadsOver, OnSome}
use Rattle.octo_house_laws.proofs.Contents.{keeps_over, every_cool_line_over}
use Rattle.octo_house_laws.proofs.Hosts.{new_host_keeps}
use Rattle.octo_house_laws.proofs.Prints.{new_host_keeps_prints}
use Rattle.octo_house_laws.specs.Hosts.{KeepsLaws}
use Rattle.octo_house_rules.specs.Legal.{Standing}
use Rattle.octo_house_rules.specs.PrintLaws.{IsBeginning}
use Rattle.octo_house_run.specs.Laws.{start_of, KeepsLawsOnSome, RunKeepsLaws}
use Rattle.octo_house_run.specs.Runs.{RunIsOver, HasRun, HasRunOver}

module _ (past past' : Option History) (files files' : Option (List ShelfFile)) (old new : House) where
  laws_on_some : HasRunOver past past' old new → Became past past' (λ _ added. KeepsLawsOnSome old added)
  laws_on_some over now is =
      let d : Data = (known_of old).desk in
      let start : Standing = start_of old [] in
      let walked = over now is in
      let led : LeadsOver walked.added start (OnSome (RunIsOver new)) = walked.leads start ([], refl) in (
        walked.old,
        walked.added,
        walked.past_is,
        walked.grows,
        record {
          contents = led.contents;
          calls = keeps_over led.contents walked.added start led.legal;
          prints = λ begun. new_host_keeps_prints d.scripts d.limits d.poll_ms d.numbered led.contents walked.added start begun.new begun.numbered led.legal;
          cool = λ begun cool. every_cool_line_over d.scripts d.limits d.poll_ms d.numbered led.contents walked.added start begun.new cool led.legal;
        },
      )

  all_laws : HasRun past past' files files' old new → IsBeginning (known_of old) → (held : List ShelfFile) → files ≡ Some held
      → Became past past' (λ _ added. KeepsLaws (known_of old).desk.scripts (known_of old).desk.limits added (start_of old held))
  all_laws ran begun held held_is now is =
      let d : Data = (known_of old).desk in
      let walked = (ran held held_is).2 now is in (
        walked.old,
        walked.added,
        walked.past_is,
        walked.grows,
        new_host_keeps d.scripts d.limits d.poll_ms d.numbered walked.added (start_of old held) begun.new begun.numbered (walked.legal (start_of old held) refl),
      )

  pub run_laws : HasRun past past' files files' old new → HasRunOver past past' old new → RunKeepsLaws past past' files old
  run_laws ran over = record { some = laws_on_some over; recorded = all_laws ran }
