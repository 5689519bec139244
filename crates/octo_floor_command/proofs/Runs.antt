-- What running a floor by settings comes to, from how it begins and what its run says.
use Rattle.std.proofs.Common.{◌≡◌, ◌≢◌, ℕ, zero, suc, List, [], ◌++◌, Option, None, Some, Err, sym, ◌∙◌, ap, subst, arith}
use Rattle.std.specs.Prelude.{All, AllPairs, IfSome, slice_get}
use Rattle.std.proofs.lemmas.Option.{same_Some, slice_get_within}
use Rattle.octo_outside.proofs.Recorded.{rose_after}
use Rattle.print_queue.specs.Lawful.{IsOrdered}
use Rattle.printer_link.specs.Suits.{SuitsAs}
use Rattle.printer_model.specs.declared.event.WorldEvent.{WorldEvent}
use Rattle.octo_keeper.specs.declared.tables.Tables.{Tables}
use Rattle.octo_settings.specs.declared.floor.FloorSettings.{FloorSettings}
use Rattle.octo_floor_bay.specs.Bay.{BayData, IsBay}
use Rattle.octo_floor_bay.specs.Prints.{IsInStep}
use Rattle.octo_floor_bay.proofs.Sound.{sound_over}
use Rattle.octo_floor_bay.specs.Events.{FloorHistory, started_rows}
use Rattle.octo_floor_bay.specs.declared.end.FloorEnd.{FloorEnd}
use Rattle.octo_floor_bay.specs.declared.end.FloorFault.{FloorFault}
use Rattle.octo_floor_bay.specs.declared.end.FloorFault.TheVariants as fault
use Rattle.octo_floor_bay.specs.declared.end.Why.{Why}
use Rattle.octo_floor_bay.specs.declared.end.Why.TheVariants as why
use Rattle.printer_link.specs.Calls.{LinkState}
use Rattle.octo_floor.specs.Links.{link_states}
use Rattle.octo_floor.specs.declared.links.Links.{Links}
use Rattle.octo_floor.specs.Floor.{FloorData, AreFresh, AreUp}
use Rattle.octo_floor.specs.Points.{GoesOn}
use Rattle.octo_floor.specs.Tables.{AreKept, AreKeptSince}
use Rattle.octo_floor.proofs.Floors.{all_at}
use Rattle.octo_floor.proofs.Places.{place}
use Rattle.octo_floor.specs.Rounds.{HasRounds}
use Rattle.octo_floor.specs.Run.{AreCalled, AreNumbersOf, EndsFor, run_begun}
use Rattle.octo_floor_command.specs.Beginning.{Around, floor_in, IsUnrun, IsBegun}
use Rattle.octo_floor_command.specs.Links.{EachLink}
use Rattle.octo_floor_command.specs.Reports.{floor_fault_report}
use Rattle.octo_floor_command.specs.Running.{AreSoundOver, EndsSo, IsFaultCaused, HasRun, RunsBy, Floors, not_begun, no_settings}
use Rattle.octo_floor_command.specs.Settings.{HaveFloorSettings}
use Rattle.octo_floor_command.specs.declared.report.FloorReport.{FloorReport}
use Rattle.octo_floor_command.specs.declared.report.FloorReport.TheVariants as floor
use Rattle.octo_floor_command.proofs.Begun.{first_at, first_open}
use Rattle.octo_files.specs.declared.report.Report.{Report}
use Rattle.octo_outside.specs.Traits.{Files}

-- what holds of each of eight links holds of the state at each place
pub each_state : {L : Type 0} (state : L → LinkState) (P : LinkState → Type 0) (links : Links L) → EachLink (λ l. P (state l)) links → (printer : ℕ)
    (link : LinkState) → slice_get (link_states state links) printer ≡ Some link → P link
each_state state P links each zero link its = subst P (same_Some (state links.a) link its) each.a
each_state state P links each (suc zero) link its = subst P (same_Some (state links.b) link its) each.b
each_state state P links each (suc (suc zero)) link its = subst P (same_Some (state links.c) link its) each.c
each_state state P links each (suc (suc (suc zero))) link its = subst P (same_Some (state links.d) link its) each.d
each_state state P links each (suc (suc (suc (suc zero)))) link its = subst P (same_Some (state links.e) link its) each.e
each_state state P links each (suc (suc (suc (suc (suc zero))))) link its = subst P (same_Some (state links.f) link its) each.f
each_state state P links each (suc (suc (suc (suc (suc (suc zero)))))) link its = subst P (same_Some (state links.g) link its) each.g
each_state state P links each (suc (suc (suc (suc (suc (suc (suc zero))))))) link its = subst P (same_Some (state links.h) link its) each.h
each_state state P links each (suc (suc (suc (suc (suc (suc (suc (suc n)))))))) link its = absurd (cc its)

module _ (f : FloorSettings) (turns : ℕ) (old between new : Around) (first last : FloorData) (end : FloorEnd) where
  module _ (b : IsBegun f old.store.tables first) (unrun : IsUnrun old between) where
    fault_none : first.ledger.fault ≡ None
    fault_none = ap (λ (x : FloorData). x.ledger.fault) b.made

    -- without former events the run's are all
    goes_all : (events : FloorHistory) × GoesOn (run_begun (floor_in between first)) (floor_in new last) events
        → GoesOn (floor_in between first) (floor_in new last) last.ledger.history
    goes_all (events, goes) =
        let From : Option FloorFault → Type 0 =
        λ o. GoesOn (floor_in between (record first { ledger = record first.ledger { fault = o } })) (floor_in new last) events
        in
        let at : GoesOn (floor_in between first) (floor_in new last) events = subst From (sym fault_none) goes in
        let was : first.ledger.history ≡ [] = ap (λ (x : FloorData). x.ledger.history) b.made in
        let all : last.ledger.history ≡ events = at.copies.history ∙ ap (λ (h : FloorHistory). h ++ events) was in
        subst (λ (h : FloorHistory). GoesOn (floor_in between first) (floor_in new last) h) (sym all) at

    -- its rounds begin at the floor as it was made
    rounds_all : (w : Why) → HasRounds turns (run_begun (floor_in between first)) (floor_in new last) w
        → HasRounds turns (floor_in between first) (floor_in new last) w
    rounds_all w rounds =
        let From : Option FloorFault → Type 0 =
        λ o. HasRounds turns (floor_in between (record first { ledger = record first.ledger { fault = o } })) (floor_in new last) w
        in
        subst From (sym fault_none) rounds

    module _ (goes : GoesOn (floor_in between first) (floor_in new last) last.ledger.history) where
      kept_first : IsOrdered b.loaded.queue → AreKept b.loaded first.ledger between.store.tables
      kept_first ordered = by old.store.tables between.store.tables unrun.tables b.same
        where
          by : (kept now : Option Tables) → now ≡ kept → IfSome kept (λ tables. b.loaded ≡ tables) → AreKept b.loaded first.ledger now
          by None now is same = subst (λ (o : Option Tables). AreKept b.loaded first.ledger o) (sym is) tt
          by (Some tables) now is same =
              subst (λ (o : Option Tables). AreKept b.loaded first.ledger o) (sym is)
              (subst (λ (t : Tables). AreKeptSince b.loaded first.ledger t) same (b.kept ordered))

      kept_last : IsOrdered b.loaded.queue → AreKept b.loaded last.ledger new.store.tables
      kept_last ordered = goes.tables b.loaded (kept_first ordered)

      sound_last : AreFresh first.bays
          → ((printer : ℕ) (link : LinkState) → slice_get old.links printer ≡ Some link → SuitsAs f.settings.numbered_oks link.past link.kind.oks)
          → All IsBay last.bays → AreSoundOver old.links new.links last.bays
      sound_last fresh suits bays printer bay link link' its linked linked' front past front_is past_is =
          let within = slice_get_within last.bays printer bay its in
          let same = goes.same.bays in
          let was = place first.bays printer (omega (arith, within, same)) in
          let suit : SuitsAs was.0.session.sender.numbered link.past link.kind.oks =
          first_at f old.store.tables first b (λ (x : BayData). SuitsAs x.session.sender.numbered link.past link.kind.oks) (suits printer link linked) printer was.0 was.1
          in
          let begun : IsInStep link.kind link.past link.past was.0 = fresh printer was.0 link.kind link.past was.1 suit in
          let between_linked : slice_get between.links printer ≡ Some link = ap (λ (ls : List LinkState). slice_get ls printer) unrun.links ∙ linked in
          let step : IsInStep link.kind link.past link'.past bay =
          (goes.each printer was.0 bay link link' was.1 its between_linked linked').tied link.past begun
          in
          let From : Option (List WorldEvent) → Type 0 = λ o. IsInStep link.kind o link'.past bay in
          let To : Option (List WorldEvent) → Type 0 = λ o. IsInStep link.kind (Some front) o bay in
          sound_over link.kind front past bay (all_at IsBay last.bays printer bay bays its) (subst To past_is (subst From front_is step))

      ends_last : (w : Why) → EndsFor first last w → EndsSo last w
      ends_last why.Over ends = (ends.0, ends.1, ends.2 (first_open f old.store.tables first b))
      ends_last (why.Fault fault) ends = ends
      ends_last why.TurnsUsed ends = tt

      caused_by : (w : FloorFault) → last.ledger.fault ≡ Some w → IsFaultCaused old new w
      caused_by fault.KeeperFailed is =
          rose_after old.store.keeper_faults between.store.keeper_faults new.store.keeper_faults unrun.keeper goes.faults.keeper_later
          (goes.faults.keepers fault_none is)
      caused_by fault.ShelfFailed is =
          rose_after old.store.shelf_faults between.store.shelf_faults new.store.shelf_faults unrun.shelf goes.faults.shelf_later
          (goes.faults.shelfs fault_none is)
      caused_by fault.NoMemory is = tt

      caused_last : (w : Why) → EndsFor first last w → (x : FloorFault) → w ≡ why.Fault x → IsFaultCaused old new x
      caused_last why.Over ends x is = absurd (cc is)
      caused_last why.TurnsUsed ends x is = absurd (cc is)
      caused_last (why.Fault y) ends x is = (let same : y ≡ x = cc is in subst (λ (z : FloorFault). IsFaultCaused old new z) same (caused_by y ends.1))

  -- the floor has run
  pub has_run : IsBegun f old.store.tables first → IsUnrun old between → AreFresh first.bays
      → ((printer : ℕ) (link : LinkState) → slice_get old.links printer ≡ Some link → SuitsAs f.settings.numbered_oks link.past link.kind.oks)
      → ((events : FloorHistory) × GoesOn (run_begun (floor_in between first)) (floor_in new last) events)
      → HasRounds turns (run_begun (floor_in between first)) (floor_in new last) end.why
      → AllPairs (λ a b. a.number ≢ b.number) (started_rows last.ledger.history) → All IsBay last.bays → AreNumbersOf last end → EndsFor first last end.why
      → (end.why ≡ why.TurnsUsed → AreCalled turns old.links new.links) → AreUp last.bays new.links → HasRun f turns old new end last
  has_run b unrun fresh suits run rounds differ bays numbers ends used up =
      let goes = goes_all b unrun run in
      record {
        between = between;
        unrun = unrun;
        first = first;
        begun = b;
        goes = goes;
        rounds = rounds_all b unrun end.why rounds;
        differ = differ;
        kept = kept_last b unrun goes;
        sound = sound_last b unrun goes fresh suits bays;
        up = up;
        numbers = numbers;
        ends = ends_last b unrun goes end.why ends;
        used = used;
        caused = caused_last b unrun goes end.why ends;
      }

-- a floor that doesn't begin, as it is reported
pub not_run : (f : FloorSettings) (turns : ℕ) (old new : Around) (w : FloorFault) (r : FloorReport) (known : Option FloorData) → r ≡ floor_fault_report w
    → known ≡ None → IsUnrun old new → RunsBy f turns old new r known
not_run f turns old new w r known is none u =
    subst (λ (k : Option FloorData). RunsBy f turns old new r k) (sym none)
    (subst (λ (x : FloorReport). RunsBy f turns old new x None) (sym is) (not_begun w u))

-- settings that can't be read, as it is reported
pub without_settings : (files : Option Files) (settings : List ℕ) (turns : ℕ) (old new : Around) (why : Report) (r : FloorReport) (known : Option FloorData)
    → r ≡ floor.Command why → known ≡ None → HaveFloorSettings files settings (Err why) → IsUnrun old new → Floors files settings turns old new r known
without_settings files settings turns old new why r known is none have u =
    subst (λ (k : Option FloorData). Floors files settings turns old new r k) (sym none)
    (subst (λ (x : FloorReport). Floors files settings turns old new x None) (sym is) (no_settings why have u))
