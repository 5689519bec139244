-- How a command ended that wasn't known, or that runs a floor.
use Rattle.std.proofs.Common.{◌≡◌, ◌≢◌, ℕ, Bool, true, false, cond, List, Option, None, Some, refl, sym, ◌∙◌, ap, subst, arith}
use Rattle.std.specs.Prelude.{option_and_then}
use Rattle.std.proofs.lemmas.Option.{same_Some}
use Rattle.octo_serve.specs.Ends.{HistoryData}
use Rattle.octo_outside.specs.Recorded.{Rose}
use Rattle.octo_outside.specs.Traits.{Files}
use Rattle.octo_files.specs.Settings.{is_settings_refusal}
use Rattle.octo_files.specs.declared.report.Report.{Report}
use Rattle.octo_files.specs.declared.report.Report.TheVariants as report
use Rattle.octo_floor_command.specs.RunReports.{is_clean, why_code}
use Rattle.octo_floor.specs.Floor.{FloorData}
use Rattle.octo_floor_bay.specs.declared.end.FloorEnd.{FloorEnd}
use Rattle.octo_floor_bay.specs.declared.end.FloorFault.TheVariants as fault
use Rattle.octo_floor_bay.specs.declared.end.Why.{Why}
use Rattle.octo_floor_bay.specs.declared.end.Why.TheVariants as why
use Rattle.octo_floor_command.specs.Beginning.{Around as FloorAround}
use Rattle.octo_floor_command.specs.Reports.{floor_report_code}
use Rattle.octo_floor_command.specs.Running.{Floors, HasFloorCauses}
use Rattle.octo_floor_command.specs.declared.report.FloorReport.{FloorReport}
use Rattle.octo_floor_command.specs.declared.report.FloorReport.TheVariants as floor
use Rattle.octo_serve_command.specs.Hosting.{Around}
use Rattle.octo_serve_command.specs.Reports.{host_code}
use Rattle.octo_serve_command.specs.declared.hosting.HostEnd.{HostEnd}
use Rattle.octo_serve_command.specs.declared.report.HostReport.{HostReport}
use Rattle.octo_serve_command.specs.declared.report.HostReport.TheVariants as host
use Rattle.octo_words.specs.Words.{command_of}
use Rattle.octo_words.specs.declared.command.Command.{Command}
use Rattle.octo_words.specs.declared.command.WordsFault.{WordsFault}
use Rattle.octo_words.specs.declared.command.WordsFault.TheVariants as words
use Rattle.octo_commands.specs.Commands.{Comes, out_of_memory, no_command, HasCauses, IsWritten, words_fault_report}
use Rattle.octo_commands.specs.Floors.{FloorComes, HasAllFloorCauses, IsFloorWritten, floor_asked, floor_in_words, floored, out_of_memory as no_memory}
use Rattle.octo_commands.proofs.Refusals.{other_report}

-- arguments that are no command, or for which memory ran out
pub words_come : (given : List (List ℕ)) (files : Option Files) (old : Around) (fault : WordsFault) → (fault ≡ words.BadWords → command_of given ≡ None)
    → Comes given files old old (words_fault_report fault) None
words_come given files old words.BadWords none = no_command refl (none refl) refl refl
words_come given files old words.NoMemory none = out_of_memory refl refl refl

pub words_caused : (source : ℕ) (old : Around) (fault : WordsFault) → HasCauses source source old old (words_fault_report fault)
words_caused source old words.BadWords = record {
  source_failed = λ is. absurd (cc);
  link_failed = λ is. absurd (cc);
  turns_used = λ turns is. absurd (cc);
  hosting = record {
    keeper = λ is. absurd (cc);
    shelf = λ is. absurd (cc);
    door = λ calls is. absurd (cc);
    doors = λ calls is. absurd (cc);
    counted = record { link = omega arith; keeper = omega arith; shelf = omega arith };
  };
}
words_caused source old words.NoMemory = record {
  source_failed = λ is. absurd (cc);
  link_failed = λ is. absurd (cc);
  turns_used = λ turns is. absurd (cc);
  hosting = record {
    keeper = λ is. absurd (cc);
    shelf = λ is. absurd (cc);
    door = λ calls is. absurd (cc);
    doors = λ calls is. absurd (cc);
    counted = record { link = omega arith; keeper = omega arith; shelf = omega arith };
  };
}

pub words_written : (fault : WordsFault) → host_code (words_fault_report fault) ≢ 8
words_written words.BadWords is = let bad : 2 ≡ 8 = is in absurd (omega arith)
words_written words.NoMemory is = let bad : 11 ≡ 8 = is in absurd (omega arith)

-- arguments that ask for a floor are a command
pub is_command : (given : List (List ℕ)) (asked : List ℕ × ℕ) → floor_in_words given ≡ Some asked → command_of given ≡ None → ⊥
is_command given asked is none =
    let no : None ≡ Some asked = sym (ap (λ (c : Option Command). option_and_then floor_asked c) none) ∙ is in
    absurd (cc)

-- what runs a floor is what they ask for
pub floor_of_command : (given : List (List ℕ)) (c : Command) → command_of given ≡ Some c → floor_in_words given ≡ floor_asked c
floor_of_command given c is = ap (λ (o : Option Command). option_and_then floor_asked o) is

-- the code of a floor's report isn't that of an output that failed
clean_code : (b : Bool) → ◌≢◌ {A = ℕ} (cond b 0 13) 8
clean_code true is = let bad : ◌≡◌ {A = ℕ} 0 8 = is in absurd (omega arith)
clean_code false is = let bad : ◌≡◌ {A = ℕ} 13 8 = is in absurd (omega arith)

end_code : (w : Why) (end : FloorEnd) → why_code w end ≢ 8
end_code why.Over end is = clean_code (is_clean end) is
end_code (why.Fault fault.KeeperFailed) end is = let bad : 9 ≡ 8 = is in absurd (omega arith)
end_code (why.Fault fault.ShelfFailed) end is = let bad : 9 ≡ 8 = is in absurd (omega arith)
end_code (why.Fault fault.NoMemory) end is = let bad : 11 ≡ 8 = is in absurd (omega arith)
end_code why.TurnsUsed end is = let bad : 10 ≡ 8 = is in absurd (omega arith)

pub other_floor : (r : FloorReport) → ((why : Report) → r ≡ floor.Command why → is_settings_refusal why ≡ true) → floor_report_code r ≢ 8
other_floor (floor.Ran end turns) refusals is = end_code end.why end is
other_floor floor.KeeperFailed refusals is = let bad : 9 ≡ 8 = is in absurd (omega arith)
other_floor floor.ShelfFailed refusals is = let bad : 9 ≡ 8 = is in absurd (omega arith)
other_floor (floor.Command why) refusals is = other_report why (refusals why refl) is

module _ (given : List (List ℕ)) (c : Command) (read : command_of given ≡ Some c) where
  -- a command that runs a floor is what they ask for
  pub asked_same : (asked found : List ℕ × ℕ) → Some found ≡ floor_asked c → floor_in_words given ≡ Some asked → found ≡ asked
  asked_same asked found its is = same_Some found asked (its ∙ sym (floor_of_command given c read) ∙ is)

  pub asks_one : (found : List ℕ × ℕ) → Some found ≡ floor_asked c → floor_in_words given ≡ None → ⊥
  asks_one found its none =
      let no : Some found ≡ None = its ∙ sym (floor_of_command given c read) ∙ none in
      absurd (cc)

  pub asks_them : (found : List ℕ × ℕ) → Some found ≡ floor_asked c → floor_in_words given ≡ Some found
  asks_them found its = floor_of_command given c read ∙ sym its

  pub asks_none : (asked : List ℕ × ℕ) → None ≡ floor_asked c → floor_in_words given ≡ Some asked → ⊥
  asks_none asked its is =
      let no : None ≡ Some asked = its ∙ sym (floor_of_command given c read) ∙ is in
      absurd (cc)

-- a command that isn't known, as it is written
pub words_ended : (given : List (List ℕ)) (files : Option Files) (source : ℕ) (old : Around) (fault : WordsFault) (end : HostEnd) (known : Option HistoryData)
    (code : ℕ) (out out' : Option (List ℕ)) → end ≡ record { report = words_fault_report fault; history = None } → known ≡ end.history
    → (fault ≡ words.BadWords → command_of given ≡ None) → IsWritten end.report code out out'
    → (r : HostReport) × Comes given files old old r known × HasCauses source source old old r × IsWritten r code out out'
words_ended given files source old fault end known code out out' is history none written =
    let its : end.report ≡ words_fault_report fault = ap (λ (e : HostEnd). e.report) is in
    let unknown : known ≡ None = history ∙ ap (λ (e : HostEnd). e.history) is in (
      words_fault_report fault,
      subst (λ (k : Option HistoryData). Comes given files old old (words_fault_report fault) k) (sym unknown) (words_come given files old fault none),
      words_caused source old fault,
      subst (λ (r : HostReport). IsWritten r code out out') its written,
    )

-- the report of a command that isn't known may be written
pub words_may : (fault : WordsFault) (end : HostEnd) → end ≡ record { report = words_fault_report fault; history = None } → host_code end.report ≢ 8
words_may fault end is failed = words_written fault (sym (ap (λ (e : HostEnd). host_code e.report) is) ∙ failed)

-- out of memory before a floor is known
pub no_memory_ended : (files : Option Files) (given : List (List ℕ)) (asked : List ℕ × ℕ) (source : ℕ) (old : FloorAround) (fault : WordsFault) (end : HostEnd)
    (known : Option FloorData) (code : ℕ) (out out' : Option (List ℕ)) → floor_in_words given ≡ Some asked
    → end ≡ record { report = words_fault_report fault; history = None } → known ≡ None → (fault ≡ words.BadWords → command_of given ≡ None)
    → IsWritten end.report code out out'
    → (r : FloorReport) × FloorComes files asked old old r known × HasAllFloorCauses source source old old r × IsFloorWritten r code out out'
no_memory_ended files given asked source old words.BadWords end known code out out' is ended none bad written = absurd (is_command given asked is (bad refl))
no_memory_ended files given asked source old words.NoMemory end known code out out' is ended none bad written =
    let its : end.report ≡ host.Command report.NoMemory = ap (λ (e : HostEnd). e.report) ended in (
      floor.Command report.NoMemory,
      no_memory refl refl none,
      record {
        source_failed = λ failed. absurd (cc failed);
        flooring = record {
          keeper = λ failed. absurd (cc failed);
          shelf = λ failed. absurd (cc failed);
          keeper_counted = omega arith;
          shelf_counted = omega arith;
        };
      },
      subst (λ (r : HostReport). IsWritten r code out out') its written,
    )

-- a command that was carried out, as it is written
pub host_ended : (given : List (List ℕ)) (files : Option Files) (source source' : ℕ) (old new : Around) (r : HostReport) (history known : Option HistoryData)
    (code : ℕ) (out out' : Option (List ℕ)) → known ≡ history → Comes given files old new r history → HasCauses source source' old new r
    → IsWritten r code out out'
    → (x : HostReport) × Comes given files old new x known × HasCauses source source' old new x × IsWritten x code out out'
host_ended given files source source' old new r history known code out out' same comes caused written =
    (r, subst (λ (k : Option HistoryData). Comes given files old new r k) (sym same) comes, caused, written)

-- a floor, as it is written
pub floor_ended : (files : Option Files) (asked found : List ℕ × ℕ) (source source' : ℕ) (old new : FloorAround) (r : FloorReport)
    (known known' : Option FloorData) (code : ℕ) (out out' : Option (List ℕ)) → found ≡ asked → known' ≡ known → Floors files found.0 found.1 old new r known
    → (r ≡ floor.Command report.SourceFailed → Rose source source') → HasFloorCauses old new r → IsFloorWritten r code out out'
    → (x : FloorReport) × FloorComes files asked old new x known' × HasAllFloorCauses source source' old new x × IsFloorWritten x code out out'
floor_ended files asked found source source' old new r known known' code out out' same its floors rose caused written = (
  r,
  floored (subst (λ (k : Option FloorData). Floors files asked.0 asked.1 old new r k) (sym its)
      (subst (λ (a : List ℕ × ℕ). Floors files a.0 a.1 old new r known) same floors)),
  record { source_failed = rose; flooring = caused },
  written,
)
