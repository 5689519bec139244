use Rattle.std.proofs.Common.{◌≡◌, ◌≤◌, false, None, is_some}
use Rattle.octo_outside.specs.Recorded.{Became}
use Rattle.octo_house_rules.specs.Faults.{AreCounted}
use Rattle.octo_house_rules.specs.LinkUse.{UsesLink}
use Rattle.octo_house_rules.specs.Shows.{Shows}
use Rattle.octo_house_rules.specs.Temps.{NotesTemps}
use Rattle.octo_house_run_proof.proofs.Timing.{Timed}
use Rattle.octo_house_run_proof.specs.InStep.{InStep}
use Rattle.octo_house_tables.specs.Kept.{KeepsRows}
use Rattle.octo_house_laws.specs.OverContents.{OnSome, WalksOver}
use Rattle.octo_house_rules.specs.Walks.{Walks}
use Rattle.octo_house.specs.State.{IsListed, session_of, tables_of}
use Rattle.octo_house_run.specs.Own.{AsksOfWorkers, Waits, own_moments}
use Rattle.octo_house_run.specs.Runs.{stands_with, begins}
use Rattle.octo_house_run.specs.Tallies.{tally_of}
use Rattle.octo_house_run.proofs.host_run.run.Given as goal

-- the history has led from the beginning to the host, and the tally is its tally
abbrev pub invariant-loop : goal.invariant-loop
invariant-loop g l = record {
  leads : Walks (g.C.Counter.state l.initial.counter).past (g.C.Counter.state l.counter).past (g.S.Shelf.state l.initial.shelf).files (g.S.Shelf.state l.shelf).files
      (begins l.initial.house) (stands_with l.house l.moment);
  contents : WalksOver (g.C.Counter.state l.initial.counter).past (g.C.Counter.state l.counter).past (OnSome (begins l.initial.house)) (OnSome (stands_with l.house l.moment));
  counted : Became (g.C.Counter.state l.initial.counter).past (g.C.Counter.state l.counter).past (λ _ added. tally_of added ≡ l.tally);
  kept : KeepsRows (g.K.Keeper.state l.initial.keeper).tables (g.K.Keeper.state l.keeper).tables (tables_of l.initial.house) (tables_of l.house);
  faults : Became (g.C.Counter.state l.initial.counter).past (g.C.Counter.state l.counter).past (λ _ added. AreCounted (g.K.Keeper.state l.initial.keeper).faults (g.K.Keeper.state l.keeper).faults
      (g.S.Shelf.state l.initial.shelf).faults (g.S.Shelf.state l.shelf).faults (g.L.Link.state l.initial.link).faults (g.L.Link.state l.link).faults added);
  uses : Shows (g.C.Counter.state l.initial.counter).past (g.C.Counter.state l.counter).past (g.S.Shelf.state l.initial.shelf).files (begins l.initial.house)
      (UsesLink (g.L.Link.state l.initial.link).kind.listed (g.L.Link.state l.initial.link).calls (g.L.Link.state l.link).calls);
  temps : Became (g.C.Counter.state l.initial.counter).past (g.C.Counter.state l.counter).past
      (λ _ added. NotesTemps (g.L.Link.state l.initial.link).kind (g.L.Link.state l.initial.link).past (g.L.Link.state l.link).past added);
  moments : Timed (g.T.Clock.moment l.initial.clock) (g.T.Clock.moment l.clock) l.moment (g.C.Counter.state l.initial.counter).past (g.C.Counter.state l.counter).past;
  listed : IsListed (g.S.Shelf.state l.initial.shelf).files l.initial.house → IsListed (g.S.Shelf.state l.shelf).files l.house;
  up : (g.L.Link.state l.link).up ≡ (session_of l.house).up;
  kind : (g.L.Link.state l.link).kind ≡ (g.L.Link.state l.initial.link).kind;
  recorded : is_some (g.L.Link.state l.link).past ≡ is_some (g.L.Link.state l.initial.link).past;
  given : (g.C.Counter.state l.counter).given ≡ None;
  closed : (g.C.Counter.state l.counter).closed ≡ false;
  place : (g.C.Counter.state l.counter).place ≡ (g.C.Counter.state l.initial.counter).place;
  link : (g.L.Link.state l.initial.link).faults ≤ (g.L.Link.state l.link).faults;
  keeper : (g.K.Keeper.state l.initial.keeper).faults ≤ (g.K.Keeper.state l.keeper).faults;
  shelf : (g.S.Shelf.state l.initial.shelf).faults ≤ (g.S.Shelf.state l.shelf).faults;
  steps : InStep (session_of l.initial.house).sender.numbered (g.L.Link.state l.initial.link).kind (g.C.Counter.state l.initial.counter).past (g.C.Counter.state l.counter).past (g.L.Link.state l.initial.link).past (g.L.Link.state l.link).past
      (session_of l.house);
  own : AsksOfWorkers (λ x. (g.C.Counter.state x).given) → Became (g.C.Counter.state l.initial.counter).past (g.C.Counter.state l.counter).past
      (λ _ added. Waits l.initial.connects l.reconnect l.moment (own_moments added));
}
