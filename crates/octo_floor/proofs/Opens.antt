-- Printers that are connected stay so, or are lost, until they are disconnected.
use Rattle.std.proofs.Common.{◌≡◌, ◌≢◌, ◌⊎◌, inl, inr, ℕ, zero, suc, ◌<◌, ◌≤◌, Bool, true, false, List, length, Some, refl, sym, ◌∙◌, ap, subst, arith}
use Rattle.std.specs.Prelude.{slice_get}
use Rattle.std.proofs.lemmas.Bool.{false≢true, cases_lt}
use Rattle.std.proofs.lemmas.Option.{slice_get_within}
use Rattle.job_desk.specs.Data.{Data}
use Rattle.job_desk.specs.Table.{connect_at, is_closable_at}
use Rattle.job_desk.specs.declared.link_fact.LinkFact.{LinkFact}
use Rattle.job_desk.specs.declared.link_fact.LinkFact.TheVariants as fact
use Rattle.job_desk.specs.declared.state.State.{State}
use Rattle.job_desk.specs.declared.state.State.TheVariants as state
use Rattle.octo_session.specs.Data.{SessionData, doing}
use Rattle.octo_session.specs.Found.{can_find}
use Rattle.octo_session.specs.Turn.{fact_of}
use Rattle.octo_session.specs.declared.found.Doing.{Doing}
use Rattle.octo_session.specs.declared.found.Doing.TheVariants.{Dialling, HangingUp, UsingLink, Resting}
use Rattle.octo_session.proofs.Choosing.{hangs_up_at}
use Rattle.octo_floor_bay.specs.Bay.{BayData}
use Rattle.octo_floor_bay.specs.Events.{FloorHistory}
use Rattle.octo_floor.specs.Phases.{Phase, offline, connected, leaving, lost, phase_in, phase_of, phase_after, IsAtRest}
use Rattle.octo_floor.specs.Step.{Begins, faulty, passed, started, not_free, nothing_fits, takes, IsStep}
use Rattle.octo_floor.proofs.Turning.{phased_turn}
use Rattle.octo_floor.specs.Floor.{IsFloor, Setting, AreUp}
use Rattle.octo_floor.specs.Round.{IsStepAt, Steps, IsRound, dialled}
use Rattle.octo_floor.specs.Run.{IsOpen, is_open_in, is_open}
use Rattle.octo_floor.proofs.Bays.{dial_connects}
use Rattle.octo_floor.proofs.Floors.{all_at}
use Rattle.octo_floor.proofs.Goes.{well_steps}
use Rattle.octo_floor.proofs.Places.{never, same_place}
use Rattle.octo_floor.proofs.RoundParts.{own_bay, other_bay, at_began}

-- a printer may be opened, or is open
abbrev pub MayOpen : Bool → BayData → Type 0
MayOpen began b = ((began ≡ false) × (phase_of b.session ≢ leaving)) ⊎ (is_open b ≡ true)

-- an open printer isn't leaving
open_stays : (p : Phase) → is_open_in p ≡ true → p ≢ leaving
open_stays connected is at = absurd (cc at)
open_stays lost is at = absurd (cc at)
open_stays offline is at = absurd (false≢true is)
open_stays leaving is at = absurd (false≢true is)

connects_open : (port : List ℕ) (d : Data) (at : State) → d.state ≡ at → phase_in at ≢ leaving → is_open_in (phase_in (connect_at at port d).1.state) ≡ true
connects_open port d state.Offline is not = refl
connects_open port d state.Fault is not = refl
connects_open port d state.Connecting is not = ap (λ (s : State). is_open_in (phase_in s)) is
connects_open port d state.Operational is not = ap (λ (s : State). is_open_in (phase_in s)) is
connects_open port d state.Printing is not = ap (λ (s : State). is_open_in (phase_in s)) is
connects_open port d state.Pausing is not = ap (λ (s : State). is_open_in (phase_in s)) is
connects_open port d state.Paused is not = ap (λ (s : State). is_open_in (phase_in s)) is
connects_open port d state.Cancelling is not = ap (λ (s : State). is_open_in (phase_in s)) is
connects_open port d state.Finishing is not = ap (λ (s : State). is_open_in (phase_in s)) is
connects_open port d state.Closing is not = absurd (not refl)

kept_open : (began : Bool) (port : List ℕ) (b : BayData) → is_open b ≡ true → is_open (dialled began port b) ≡ true
kept_open true port b is = is
kept_open false port b is = by b.session.desk.state refl
  where
    by : (at : State) → b.session.desk.state ≡ at → is_open_in (phase_in (connect_at at port b.session.desk).1.state) ≡ true
    by at same = connects_open port b.session.desk at same
        (λ leaves. open_stays (phase_of b.session) is (ap phase_in same ∙ leaves))

-- a printer that dials in the first round is open
dialled_open : (began : Bool) (port : List ℕ) (b new : BayData) → new ≡ dialled began port b → MayOpen began b → is_open new ≡ true
dialled_open began port b new is (inr open_already) =
    ap is_open is ∙ kept_open began port b open_already
dialled_open began port b new is (inl unopened) =
    ap is_open is ∙ ap (λ (c : Bool). is_open (dialled c port b)) unopened.0
    ∙ connects_open port b.session.desk b.session.desk.state refl unopened.1

-- a turn of an open printer leaves it open: it doesn't hang up
closes_leaving : (s : State) (d : Data) → is_closable_at s d ≡ true → phase_in s ≡ leaving
closes_leaving state.Closing d is = refl
closes_leaving state.Offline d is = absurd (false≢true is)
closes_leaving state.Connecting d is = absurd (false≢true is)
closes_leaving state.Operational d is = absurd (false≢true is)
closes_leaving state.Printing d is = absurd (false≢true is)
closes_leaving state.Pausing d is = absurd (false≢true is)
closes_leaving state.Paused d is = absurd (false≢true is)
closes_leaving state.Cancelling d is = absurd (false≢true is)
closes_leaving state.Finishing d is = absurd (false≢true is)
closes_leaving state.Fault d is = absurd (false≢true is)

turn_open : (s : SessionData) (f : LinkFact) (p : Phase) → phase_of s ≡ p → is_open_in p ≡ true → can_find (doing s) f ≡ true → is_open_in (phase_after f p) ≡ true
turn_open s fact.Quiet p at is can = is
turn_open s fact.Opened p at is can = is
turn_open s fact.Ready p at is can = is
turn_open s fact.NoPort p at is can = refl
turn_open s fact.Failed p at is can = refl
turn_open s (fact.Ended end) p at is can = refl
turn_open s fact.Closed p at is can = absurd (hangs (doing s) refl can)
  where
    hangs : (now : Doing) → doing s ≡ now → can_find now fact.Closed ≡ true → ⊥
    hangs HangingUp now found = open_stays p is (sym at ∙ closes_leaving s.desk.state s.desk (hangs_up_at s now))
    hangs Dialling now found = false≢true found
    hangs UsingLink now found = false≢true found
    hangs Resting now found = false≢true found

module _ (printer moment : ℕ) (x y : Setting) (heard : Bool) (events : FloorHistory) (at : IsStepAt printer moment x y heard events) (f : IsFloor x.floor) where
  abbrev step : IsStep printer moment at.over.material at.link at.link' x.store y.store x.floor.ledger y.floor.ledger at.over.begun at.over.after heard events
  step = at.over.step

  step_open : MayOpen x.floor.began at.over.bay → is_open at.over.after ≡ true
  step_open may = by step.begins
    where
      rested : IsAtRest at.over.bay.session
      rested = all_at (λ (b : BayData). IsAtRest b.session) x.floor.bays printer at.over.bay f.at_rest at.over.its_bay

      begun : is_open at.over.begun ≡ true
      begun = dialled_open x.floor.began at.over.port at.over.bay at.over.begun at.over.dials.bay_is may

      still : at.over.begun.session.desk.stopped ≡ false
      still = (dial_connects x.floor.began at.over.port at.over.bay at.over.begun at.over.dials.bay_is rested).ready.still

      turned : is_open step.turned_to ≡ true
      turned =
          ap is_open_in (phased_turn moment at.link.kind at.over.begun.session step.turned_to.session step.turned step.turn.by_note still).phase
          ∙ turn_open at.over.begun.session (fact_of step.turned.note) (phase_of at.over.begun.session) refl begun step.turn.by_note.finds

      by : Begins printer at.over.material x.store.files step.tables y.store.tables step.told y.floor.ledger step.turned_to at.over.after step.begun →
          is_open at.over.after ≡ true
      by (not_free busy none) = ap is_open none.bay_is ∙ turned
      by (nothing_fits free fits none) = ap is_open none.bay_is ∙ turned
      by (takes free lawful entry next (faulty is)) = ap is_open is.bay_is ∙ turned
      by (takes free lawful entry next (passed read is)) = ap is_open is.bay_is ∙ turned
      by (takes free lawful entry next (started job read is)) = ap (λ (d : Data). is_open_in (phase_in d.state)) is.printing_is

-- the printers after those whose parts are done are as they were
pub later_bay : (n moment : ℕ) (x y : Setting) (heard : Bool) (events : FloorHistory) → Steps n moment x y heard events → (j : ℕ) → n ≤ j →
    slice_get y.floor.bays j ≡ slice_get x.floor.bays j
later_bay zero moment x y heard events s j more = ap (λ (z : Setting). slice_get z.floor.bays j) s.0
later_bay (suc n) moment x y heard events (mid, before, hears, former, added, first, last, is, are) j more =
    other_bay n moment mid y hears added last j (λ same. never n j (omega (arith, more)) (omega (arith, same)))
    ∙ later_bay n moment x mid before former first j (omega (arith, more))

pub steps_began : (n moment : ℕ) (x y : Setting) (heard : Bool) (events : FloorHistory) → Steps n moment x y heard events → y.floor.began ≡ x.floor.began
steps_began zero moment x y heard events s = ap (λ (z : Setting). z.floor.began) s.0
steps_began (suc n) moment x y heard events (mid, before, hears, former, added, first, last, is, are) =
    at_began n moment mid y hears added last ∙ steps_began n moment x mid before former first

abbrev OpenFirst : ℕ → Setting → Type 0
OpenFirst n y = (j : ℕ) (b : BayData) → j < n → slice_get y.floor.bays j ≡ Some b → is_open b ≡ true

open_steps : (n moment : ℕ) (x y : Setting) (heard : Bool) (events : FloorHistory) → Steps n moment x y heard events → IsFloor x.floor →
    AreUp x.floor.bays x.links → IsOpen x.floor → OpenFirst n y
open_steps zero moment x y heard events s f up open_all j b less its = never j 0 less (omega arith)
open_steps (suc n) moment x y heard events (mid, before, hears, former, added, first, last, is, are) f up open_all j b less its =
    by (open_steps n moment x mid before former first f up open_all) (cases_lt j n)
  where
    by : OpenFirst n mid → (j < n) ⊎ (n ≤ j) → is_open b ≡ true
    by before_it (inl small) =
        before_it j b small (sym (other_bay n moment mid y hears added last j (λ same. never j n small (omega (arith, same)))) ∙ its)
    by before_it (inr more) =
        let same : j ≡ n = omega (arith, less, more) in
        let after_is : last.over.after ≡ b =
        same_place y.floor.bays n last.over.after b (own_bay n moment mid y hears added last) (ap (λ (i : ℕ). slice_get y.floor.bays i) (sym same) ∙ its)
        in
        let was : slice_get x.floor.bays n ≡ Some last.over.bay = sym (later_bay n moment x mid before former first n (omega arith)) ∙ last.over.its_bay in
        let may : MayOpen mid.floor.began last.over.bay =
        subst (λ (began : Bool). MayOpen began last.over.bay) (sym (steps_began n moment x mid before former first)) (open_all n last.over.bay was)
        in
        ap is_open (sym after_is) ∙ step_open n moment mid y hears added last (well_steps n moment x mid before former first f up).floor may

-- a round opens the printers, or leaves them open
pub open_round : (moment : ℕ) (x y : Setting) (heard : Bool) (events : FloorHistory) → IsRound moment x y heard events → IsFloor x.floor →
    AreUp x.floor.bays x.links → IsOpen x.floor → IsOpen y.floor
open_round moment x y heard events r f up open_all =
    subst (λ (z : Setting). IsOpen z.floor) (sym r.made) (λ j b its.
    inr (open_steps (length x.floor.bays) moment x r.stepped heard events r.steps f up open_all j b (within j b its) its))
  where
    within : (j : ℕ) (b : BayData) → slice_get r.stepped.floor.bays j ≡ Some b → j < length x.floor.bays
    within j b its =
        let same = (well_steps (length x.floor.bays) moment x r.stepped heard events r.steps f up).goes.same.bays in
        let so = slice_get_within r.stepped.floor.bays j b its in
        omega (arith, same, so)
