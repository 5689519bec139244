-- A new floor: its printers.
use Rattle.std.proofs.Common.{◌≡◌, ◌≢◌, inl, ℕ, false, List, length, map, Option, refl, sym, ◌∙◌, ap, subst}
use Rattle.std.specs.Prelude.{All, Some, IfSome, IfOk, Result, Ok, Err, slice_get}
use Rattle.std.proofs.lemmas.List.Elements.{All-map, All-replicate}
use Rattle.octo_session.specs.Data.{SessionData}
use Rattle.octo_settings.specs.Session.{session_by}
use Rattle.octo_settings.specs.declared.settings.Settings.{Settings}
use Rattle.octo_settings.specs.declared.floor.FloorSettings.{FloorSettings}
use Rattle.octo_keeper.specs.Tables.{AreSound}
use Rattle.octo_keeper.specs.declared.tables.Tables.{Tables}
use Rattle.print_queue.specs.declared.entry.QueueEntry.{QueueEntry}
use Rattle.octo_floor_bay.specs.Bay.{BayData}
use Rattle.printer_link.specs.Calls.{LinkState}
use Rattle.octo_floor.specs.Phases.{offline, leaving, phase_of}
use Rattle.octo_floor.specs.Floor.{FloorData, AreUp, new_bay, new_floor}
use Rattle.octo_floor.specs.Tables.{AreKeptSince}
use Rattle.octo_floor.proofs.Floors.{all_at}
use Rattle.octo_floor.specs.Run.{IsOpen}
use Rattle.octo_floor_command.specs.Beginning.{IsBegun, IsQueueOf, floor_sessions}

-- a floor that was made on tables has begun on them
pub begun_of : {E : Type 0} (f : FloorSettings) (tables : Tables) (sessions : List SessionData) (queue : List QueueEntry) (made : Result FloorData E) → AreSound tables
    → IsQueueOf tables.queue queue → sessions ≡ floor_sessions f.settings f.ports
    → IfOk made (λ floor. floor ≡ new_floor sessions f.ports f.materials queue (length tables.prints))
    → IfOk made (λ floor. (first : Tables) → first.queue ≡ queue → first.prints ≡ tables.prints → AreKeptSince first floor.ledger first)
    → (kept : Option Tables) → IfSome kept (λ held. tables ≡ held) → IfOk made (IsBegun f kept)
begun_of f tables sessions queue (Err e) sound its are is keeps kept same = tt
begun_of f tables sessions queue (Ok floor) sound its are is keeps kept same = record {
  loaded = tables;
  same = same;
  sound = sound;
  queue = queue;
  its_queue = its;
  made = is ∙ ap (λ (xs : List SessionData). new_floor xs f.ports f.materials queue (length tables.prints)) are;
  kept = λ ordered. keeps tables (sym (its.ordered ordered)) refl;
}

-- what holds of a new session of the settings holds of each printer's
pub each_new : (P : BayData → Type 0) (s : Settings) (ports : List (List ℕ)) → P (new_bay (session_by s)) → All P (map new_bay (floor_sessions s ports))
each_new P s ports so = All-map P new_bay (floor_sessions s ports) (All-replicate (λ (x : SessionData). P (new_bay x)) (length ports) (session_by s) so)

module _ (f : FloorSettings) (kept : Option Tables) (first : FloorData) (b : IsBegun f kept first) where
  each_first : (P : BayData → Type 0) → P (new_bay (session_by f.settings)) → All P first.bays
  each_first P so = subst (λ (x : FloorData). All P x.bays) (sym b.made) (each_new P f.settings f.ports so)

  -- and so of the one at a place
  pub first_at : (P : BayData → Type 0) → P (new_bay (session_by f.settings)) → (printer : ℕ) (bay : BayData) → slice_get first.bays printer ≡ Some bay → P bay
  first_at P so printer bay its = all_at P first.bays printer bay (each_first P so) its

  -- before a run each link is up exactly if its session is
  pub up_first : (links : List LinkState) → ((printer : ℕ) (link : LinkState) → slice_get links printer ≡ Some link → link.up ≡ false) → AreUp first.bays links
  up_first links down printer bay link its linked =
      down printer link linked ∙ sym (first_at (λ (x : BayData). x.session.up ≡ false) refl printer bay its)

  pub first_open : IsOpen first
  first_open printer bay its = inl (
    ap (λ (x : FloorData). x.began) b.made,
    first_at (λ (x : BayData). phase_of x.session ≢ leaving) (λ (is : offline ≡ leaving). absurd (cc is)) printer bay its,
  )
