-- A history that is tied so far, without what its link has recorded since the last entry.
use Rattle.std.proofs.Common.{◌≡◌, Bool, true, false, ◌||◌, if◌then◌else◌, List, [], ◌∷◌, ◌++◌, pred, refl, sym, subst, append-nil}
use Rattle.std.specs.List.{list_any}
use Rattle.printer_model.specs.Executed.{open_on, till}
use Rattle.printer_model.specs.World.{is_opened, is_send}
use Rattle.printer_model.specs.declared.event.WorldEvent.{WorldEvent}
use Rattle.printer_link.specs.Link.{LinkKind}
use Rattle.octo_asks.specs.History.{History}
use Rattle.octo_house_rules.specs.Tied.{Tied, WasTied, AreTied}
use Rattle.octo_house_rules.specs.Timeline.{Timeline, events_of, past_after}
use Rattle.octo_house_run_proof.specs.InStep.{TiedSoFar}

or_none : (a b c : Bool) → (b ≡ false → c ≡ false) → (a || b) ≡ false → (a || c) ≡ false
or_none true b c fewer none = none
or_none false b c fewer none = fewer none

unsent_by : (event : WorldEvent) (events rest : List WorldEvent) →
    (list_any is_send (till 0 (events ++ rest)) ≡ false → list_any is_send (till 0 events) ≡ false) → (b : Bool) →
    list_any is_send (if b then open_on 0 (event ∷ till (pred 0) (events ++ rest)) else event ∷ till 0 (events ++ rest)) ≡ false →
    list_any is_send (if b then open_on 0 (event ∷ till (pred 0) events) else event ∷ till 0 events) ≡ false
unsent_by event events rest fewer true none = refl
unsent_by event events rest fewer false none = or_none (is_send event) (list_any is_send (till 0 (events ++ rest))) (list_any is_send (till 0 events)) fewer none

-- if no line was sent, none was sent before a part of it
unsent_before : (events rest : List WorldEvent) → list_any is_send (till 0 (events ++ rest)) ≡ false → list_any is_send (till 0 events) ≡ false
unsent_before [] rest none = refl
unsent_before (event ∷ events) rest none = unsent_by event events rest (unsent_before events rest) (is_opened event) none

-- it is tied to what the link had recorded at the last entry
pub tied_at_last : (numbered : Bool) (kind : LinkKind) (front : List WorldEvent) (h : History) (past : List WorldEvent) (t : TiedSoFar numbered kind front h past) →
    AreTied numbered kind front h (past_after front t.timeline)
tied_at_last numbered kind front h past t = record {
  now = subst (λ (x : History). Tied numbered kind front x (past_after front t.timeline)) (sym t.history_is) (t.throughout t.timeline [] (sym (append-nil t.timeline))).tied;
  timeline = t.timeline;
  history_is = t.history_is;
  past_is = refl;
  throughout = λ first later is. before first later (t.throughout first later is);
}
  where
    before : (first later : Timeline) → WasTied numbered kind front first (events_of later ++ t.rest) → WasTied numbered kind front first (events_of later)
    before first later w = record { tied = w.tied; caused = w.caused; unsent = λ shut. unsent_before (events_of later) t.rest (w.unsent shut) }
