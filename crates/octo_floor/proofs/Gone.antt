-- Printers that leave start nothing more.
use Rattle.std.proofs.Common.{◌≡◌, ◌≢◌, ◌⊎◌, inl, inr, ℕ, zero, suc, ◌<◌, ◌≤◌, Bool, true, false, not, ◌&&◌, List, length, Option, None, Some, refl, sym, ◌∙◌, ap, subst, arith}
use Rattle.std.specs.Prelude.{slice_get, if◌then◌else◌}
use Rattle.std.proofs.lemmas.Bool.{false≢true, cases_lt}
use Rattle.std.proofs.lemmas.Option.{slice_get_within}
use Rattle.job_desk.specs.declared.link_fact.LinkFact.{LinkFact}
use Rattle.job_desk.specs.declared.link_fact.LinkFact.TheVariants as fact
use Rattle.job_desk.specs.declared.state.State.{State}
use Rattle.job_desk.specs.declared.state.State.TheVariants as state
use Rattle.job_desk.specs.Endings.{has_print}
use Rattle.job_desk.specs.Table.{is_closable_at}
use Rattle.job_desk.proofs.Going.{goes_rested}
use Rattle.octo_session.specs.Data.{SessionData, doing, is_connecting}
use Rattle.octo_session.specs.Found.{can_find}
use Rattle.octo_session.specs.Turn.{fact_of}
use Rattle.octo_session.specs.declared.found.Doing.{Doing}
use Rattle.octo_session.specs.declared.found.Doing.TheVariants.{Dialling, HangingUp, UsingLink, Resting}
use Rattle.print_queue.specs.declared.ending.Ending.{Ending}
use Rattle.octo_floor_bay.specs.Bay.{BayData}
use Rattle.octo_floor_bay.specs.Events.{FloorHistory}
use Rattle.octo_floor_bay.specs.Stock.{Stock, Start, after_events}
use Rattle.octo_floor_bay.specs.Written.{most_records}
use Rattle.octo_floor.specs.Ledger.{LedgerData, with_events, noted_events, ended_events}
use Rattle.octo_floor.specs.Phases.{Phase, offline, connected, leaving, lost, phase_in, phase_of, phase_after, is_up_in, IsAtRest}
use Rattle.octo_floor.specs.Step.{Begins, not_free, nothing_fits, takes, IsFree, IsStep}
use Rattle.octo_floor.proofs.Turning.{phased_turn, goes_turn}
use Rattle.octo_floor.specs.Floor.{FloorData, IsFloor, Setting, AreUp}
use Rattle.octo_floor.specs.Leaving.{IsIdle, AreIdle, IsDisconnected, AreDisconnected, disconnected_unless}
use Rattle.octo_floor.specs.Round.{IsStepAt, Steps, IsRound, dialled}
use Rattle.octo_floor.specs.Run.{IsOpen, NothingToStart, is_lost_in, is_lost, is_open_in, is_open}
use Rattle.octo_floor.proofs.Floors.{all_at}
use Rattle.octo_floor.proofs.Goes.{well_steps}
use Rattle.octo_floor.proofs.Ledgers.{ended_grows}
use Rattle.octo_floor.proofs.Opens.{steps_began}
use Rattle.octo_floor.proofs.Places.{place, same_place, same_or}
use Rattle.octo_floor.proofs.RoundParts.{own_bay, other_bay, at_bays}

-- a printer that is offline, leaves or is lost, without a print
pub record IsGone (b : BayData) : Type 0 where
  pub gone : phase_of b.session ≢ connected
  pub no_print : b.session.desk.active ≡ false

abbrev pub AllGone : FloorData → Type 0
AllGone f = (printer : ℕ) (b : BayData) → slice_get f.bays printer ≡ Some b → IsGone b

-- a lost printer does nothing
rests_at : (s : SessionData) (at : State) (up : Bool) → at ≡ state.Fault → up ≡ false →
    (if not up && is_connecting at then Dialling else (if is_closable_at at s.desk then HangingUp else (if up then UsingLink else Resting))) ≡ Resting
rests_at s state.Fault false is down = refl
rests_at s state.Fault true is down = absurd (false≢true (sym down))
rests_at s state.Offline up is down = absurd (cc is)
rests_at s state.Connecting up is down = absurd (cc is)
rests_at s state.Operational up is down = absurd (cc is)
rests_at s state.Printing up is down = absurd (cc is)
rests_at s state.Pausing up is down = absurd (cc is)
rests_at s state.Paused up is down = absurd (cc is)
rests_at s state.Cancelling up is down = absurd (cc is)
rests_at s state.Finishing up is down = absurd (cc is)
rests_at s state.Closing up is down = absurd (cc is)

lost_at : (s : State) → phase_in s ≡ lost → s ≡ state.Fault
lost_at state.Fault is = refl
lost_at state.Offline is = absurd (cc is)
lost_at state.Connecting is = absurd (cc is)
lost_at state.Operational is = absurd (cc is)
lost_at state.Printing is = absurd (cc is)
lost_at state.Pausing is = absurd (cc is)
lost_at state.Paused is = absurd (cc is)
lost_at state.Cancelling is = absurd (cc is)
lost_at state.Finishing is = absurd (cc is)
lost_at state.Closing is = absurd (cc is)

lost_is : (p : Phase) → is_lost_in p ≡ true → p ≡ lost
lost_is lost is = refl
lost_is offline is = absurd (false≢true is)
lost_is connected is = absurd (false≢true is)
lost_is leaving is = absurd (false≢true is)

lost_rests : (s : SessionData) → IsAtRest s → phase_of s ≡ lost → doing s ≡ Resting
lost_rests s rests is = rests_at s s.desk.state s.up (lost_at s.desk.state is) (rests.up ∙ ap is_up_in is)

pub resting_finds : (f : LinkFact) (p : Phase) → can_find Resting f ≡ true → phase_after f p ≡ p
resting_finds fact.Quiet p can = refl
resting_finds fact.Opened p can = refl
resting_finds fact.Ready p can = refl
resting_finds fact.Closed p can = absurd (false≢true can)
resting_finds fact.NoPort p can = absurd (false≢true can)
resting_finds fact.Failed p can = absurd (false≢true can)
resting_finds (fact.Ended end) p can = absurd (false≢true can)

gone_after : (f : LinkFact) (p : Phase) → p ≢ connected → phase_after f p ≢ connected
gone_after fact.Quiet p gone is = gone is
gone_after fact.Opened p gone is = gone is
gone_after fact.Ready p gone is = gone is
gone_after fact.Closed p gone is = absurd (cc is)
gone_after fact.NoPort p gone is = absurd (cc is)
gone_after fact.Failed p gone is = absurd (cc is)
gone_after (fact.Ended end) p gone is = absurd (cc is)

pub undialled : (began : Bool) (port : List ℕ) (b new : BayData) → began ≡ true → new ≡ dialled began port b → new ≡ b
undialled true port b new is same = same
undialled false port b new is same = absurd (false≢true is)

-- what the leaving of printers keeps
pub record StaysGone (x y : Setting) : Type 0 where
  pub gone : AllGone y.floor
  pub stock : y.floor.ledger.stock ≡ x.floor.ledger.stock
  pub lost : (printer : ℕ) (b b' : BayData) → slice_get x.floor.bays printer ≡ Some b → slice_get y.floor.bays printer ≡ Some b' → is_lost b ≡ true →
      is_lost b' ≡ true

module _ (printer moment : ℕ) (x y : Setting) (heard : Bool) (events : FloorHistory) (at : IsStepAt printer moment x y heard events) (f : IsFloor x.floor)
    (began : x.floor.began ≡ true) (all : AllGone x.floor) where
  abbrev step : IsStep printer moment at.over.material at.link at.link' x.store y.store x.floor.ledger y.floor.ledger at.over.begun at.over.after heard events
  step = at.over.step

  same : at.over.begun ≡ at.over.bay
  same = undialled x.floor.began at.over.port at.over.bay at.over.begun began at.over.dials.bay_is

  rested : IsAtRest at.over.begun.session
  rested =
      subst (λ (b : BayData). IsAtRest b.session) (sym same)
      (all_at (λ (b : BayData). IsAtRest b.session) x.floor.bays printer at.over.bay f.at_rest at.over.its_bay)

  was : IsGone at.over.begun
  was = subst (λ (b : BayData). IsGone b) (sym same) (all printer at.over.bay at.over.its_bay)

  phase : phase_of step.turned_to.session ≡ phase_after (fact_of step.turned.note) (phase_of at.over.begun.session)
  phase = (phased_turn moment at.link.kind at.over.begun.session step.turned_to.session step.turned step.turn.by_note rested.not_stopped).phase

  turned : IsGone step.turned_to
  turned = record {
    gone = λ is. gone_after (fact_of step.turned.note) (phase_of at.over.begun.session) was.gone (sym phase ∙ is);
    no_print =
        goes_rested at.over.begun.session.desk step.turned_to.session.desk
        (goes_turn moment at.link.kind at.over.begun.session step.turned_to.session step.turned step.turn.by_note) was.no_print;
  }

  turned_lost : is_lost at.over.bay ≡ true → is_lost step.turned_to ≡ true
  turned_lost is =
      let lost_now : phase_of at.over.begun.session ≡ lost = ap (λ (b : BayData). phase_of b.session) same ∙ lost_is (phase_of at.over.bay.session) is in
      let rests : doing at.over.begun.session ≡ Resting = lost_rests at.over.begun.session rested lost_now in
      let can : can_find Resting (fact_of step.turned.note) ≡ true =
      subst (λ (now : Doing). can_find now (fact_of step.turned.note) ≡ true) rests step.turn.by_note.finds
      in
      ap is_lost_in (phase ∙ resting_finds (fact_of step.turned.note) (phase_of at.over.begun.session) can ∙ lost_now)

  told_stock : step.told.stock ≡ x.floor.ledger.stock
  told_stock =
      let noted : LedgerData = with_events (noted_events printer step.turned.note) x.floor.ledger in
      (ended_grows x.floor.materials printer step.turned.ending x.store.tables step.tables noted step.told step.ending).stock
      ∙ by step.turned.ending
    where
      by : (o : Option Ending) → after_events (ended_events printer o) x.floor.ledger.stock ≡ x.floor.ledger.stock
      by None = refl
      by (Some ending) = refl

  -- it begins nothing
  begins_nothing : (at.over.after ≡ step.turned_to) × (y.floor.ledger.stock ≡ step.told.stock)
  begins_nothing = by step.begins
    where
      busy : IsFree step.told step.turned_to → ⊥
      busy free = turned.gone (ap phase_in free.operational)

      by : Begins printer at.over.material x.store.files step.tables y.store.tables step.told y.floor.ledger step.turned_to at.over.after step.begun →
          (at.over.after ≡ step.turned_to) × (y.floor.ledger.stock ≡ step.told.stock)
      by (not_free none nothing) = (nothing.bay_is, ap (λ (l : LedgerData). l.stock) nothing.ledger_is)
      by (nothing_fits free fits none) = absurd (busy free)
      by (takes free lawful entry next took) = absurd (busy free)

  gone_step : StaysGone x y
  gone_step = record {
    gone = λ j b its. gone_at j b its (same_or j printer);
    stock = begins_nothing.1 ∙ told_stock;
    lost = λ j b b' its its' is. lost_then j b b' its its' is (same_or j printer);
  }
    where
      after : (b : BayData) (j : ℕ) → j ≡ printer → slice_get y.floor.bays j ≡ Some b → step.turned_to ≡ b
      after b j here its =
          sym begins_nothing.0
          ∙ same_place y.floor.bays printer at.over.after b (own_bay printer moment x y heard events at)
          (ap (λ (i : ℕ). slice_get y.floor.bays i) (sym here) ∙ its)

      gone_at : (j : ℕ) (b : BayData) → slice_get y.floor.bays j ≡ Some b → (j ≡ printer) ⊎ (j ≢ printer) → IsGone b
      gone_at j b its (inl here) = subst (λ (c : BayData). IsGone c) (after b j here its) turned
      gone_at j b its (inr other) = all j b (sym (other_bay printer moment x y heard events at j other) ∙ its)

      lost_then : (j : ℕ) (b b' : BayData) → slice_get x.floor.bays j ≡ Some b → slice_get y.floor.bays j ≡ Some b' → is_lost b ≡ true →
          (j ≡ printer) ⊎ (j ≢ printer) → is_lost b' ≡ true
      lost_then j b b' its its' is (inl here) =
          let b_is : at.over.bay ≡ b =
          same_place x.floor.bays printer at.over.bay b at.over.its_bay (ap (λ (i : ℕ). slice_get x.floor.bays i) (sym here) ∙ its)
          in
          sym (ap is_lost (after b' j here its')) ∙ turned_lost (ap is_lost b_is ∙ is)
      lost_then j b b' its its' is (inr other) =
          sym (ap is_lost (same_place x.floor.bays j b b' its (sym (other_bay printer moment x y heard events at j other) ∙ its'))) ∙ is

gone_same : (x : Setting) → AllGone x.floor → StaysGone x x
gone_same x all = record {
  gone = all;
  stock = refl;
  lost = λ j b b' its its' is. ap is_lost (same_place x.floor.bays j b' b its' its) ∙ is;
}

gone_then : (x y z : Setting) → length y.floor.bays ≡ length x.floor.bays → length z.floor.bays ≡ length y.floor.bays → StaysGone x y → StaysGone y z →
    StaysGone x z
gone_then x y z one other first second = record {
  gone = second.gone;
  stock = second.stock ∙ first.stock;
  lost = λ j b b' its its' is.
      (let within = slice_get_within x.floor.bays j b its in
      let mid = place y.floor.bays j (omega (arith, within, one)) in
      second.lost j mid.0 b' mid.1 its' (first.lost j b mid.0 its mid.1 is));
}

pub gone_steps : (n moment : ℕ) (x y : Setting) (heard : Bool) (events : FloorHistory) → Steps n moment x y heard events → IsFloor x.floor →
    AreUp x.floor.bays x.links → x.floor.began ≡ true → AllGone x.floor → StaysGone x y
gone_steps zero moment x y heard events s f up began all = subst (λ (z : Setting). StaysGone x z) (sym s.0) (gone_same x all)
gone_steps (suc n) moment x y heard events (mid, before, hears, former, added, first, last, is, are) f up began all =
    let well = well_steps n moment x mid before former first f up in
    let one = gone_steps n moment x mid before former first f up began all in
    gone_then x mid y well.goes.same.bays (at_bays n moment mid y hears added last) one
    (gone_step n moment mid y hears added last well.floor (steps_began n moment x mid before former first ∙ began) one.gone)

pub gone_round : (moment : ℕ) (x y : Setting) (heard : Bool) (events : FloorHistory) → IsRound moment x y heard events → IsFloor x.floor →
    AreUp x.floor.bays x.links → x.floor.began ≡ true → AllGone x.floor → StaysGone x y
gone_round moment x y heard events r f up began all =
    let so = gone_steps (length x.floor.bays) moment x r.stepped heard events r.steps f up began all in
    subst (λ (z : Setting). StaysGone x z) (sym r.made) (record { gone = so.gone; stock = so.stock; lost = so.lost })

-- what isn't lost later wasn't before
unlost : (l : Bool) {b : Bool} → b ≡ l → (b ≡ true → false ≡ true) → b ≡ false
unlost false is never_lost = is
unlost true is never_lost = absurd (false≢true (never_lost is))

-- an open printer that isn't lost, doesn't connect and doesn't print is operational
settled : (s : State) → is_open_in (phase_in s) ≡ true → is_lost_in (phase_in s) ≡ false → s ≢ state.Connecting → has_print s ≡ false → s ≡ state.Operational
settled state.Operational is here other quiet = refl
settled state.Connecting is here other quiet = absurd (other refl)
settled state.Offline is here other quiet = absurd (false≢true is)
settled state.Closing is here other quiet = absurd (false≢true is)
settled state.Fault is here other quiet = absurd (false≢true (sym here))
settled state.Printing is here other quiet = absurd (false≢true (sym quiet))
settled state.Pausing is here other quiet = absurd (false≢true (sym quiet))
settled state.Paused is here other quiet = absurd (false≢true (sym quiet))
settled state.Cancelling is here other quiet = absurd (false≢true (sym quiet))
settled state.Finishing is here other quiet = absurd (false≢true (sym quiet))

unprinting : (s : State) {t : SessionData} → t.desk.state ≡ s → IsAtRest t → t.desk.active ≡ false → has_print s ≡ false
unprinting s is rests idle = by (has_print s) refl
  where
    by : (b : Bool) → has_print s ≡ b → has_print s ≡ false
    by false quiet = quiet
    by true prints = absurd (false≢true (sym idle ∙ rests.going (ap has_print is ∙ prints)))

-- so nothing is left to start if it was so before
pub nothing_stays : (x y : Setting) → length y.floor.bays ≡ length x.floor.bays → y.floor.materials ≡ x.floor.materials → StaysGone x y →
    NothingToStart x.floor → NothingToStart y.floor
nothing_stays x y bays materials stays none printer b material its own here =
    let within = slice_get_within y.floor.bays printer b its in
    let was = place x.floor.bays printer (omega (arith, within, bays)) in
    let before : is_lost was.0 ≡ false = unlost (is_lost was.0) refl (λ is. sym here ∙ stays.lost printer was.0 b was.1 its is) in
    subst (λ (s : Stock). Start s material None ⊎ (most_records ≤ s.records)) (sym stays.stock)
    (none printer was.0 material was.1 (ap (λ (ms : List (List ℕ)). slice_get ms printer) (sym materials) ∙ own) before)

-- when the run is over, printers that were open have nothing to start
pub over_nothing : (f g : FloorData) → IsFloor f → AreIdle f → AreDisconnected (length f.bays) f g → f.began ≡ true → IsOpen f → f.ledger.fault ≡ None →
    NothingToStart g
over_nothing f g floor idle left began open_all no_fault printer b' material its' own here' =
    let within = slice_get_within g.bays printer b' its' in
    let bays = left.bays in
    let was = place f.bays printer (omega (arith, within, bays)) in
    let own_f : slice_get f.materials printer ≡ Some material =
    ap (λ (h : FloorData). slice_get h.materials printer) (sym left.same) ∙ own
    in
    let is_idle = idle printer was.0 material was.1 own_f in
    let rests = all_at (λ (b : BayData). IsAtRest b.session) f.bays printer was.0 floor.at_rest was.1 in
    let d : IsDisconnected was.0 b' = left.first printer was.0 b' (omega (arith, within, bays)) was.1 its' in
    let here : is_lost was.0 ≡ false = unlost (is_lost was.0) refl
    (λ is. sym here' ∙ ap is_lost d.bay_is ∙ ap (λ (l : Bool). is_lost (disconnected_unless l was.0)) is ∙ is)
    in
    let operational : was.0.session.desk.state ≡ state.Operational =
    settled was.0.session.desk.state (opened was.0 (open_all printer was.0 was.1)) here is_idle.connected (unprinting was.0.session.desk.state refl rests is_idle.no_print)
    in
    let none = by was.0 (cases_lt f.ledger.stock.records most_records) is_idle operational in
    subst (λ (l : LedgerData). Start l.stock material None ⊎ (most_records ≤ l.stock.records)) (sym (ap (λ (h : FloorData). h.ledger) left.same)) none
  where
    opened : (b : BayData) → ((f.began ≡ false) × (phase_of b.session ≢ leaving)) ⊎ (is_open b ≡ true) → is_open b ≡ true
    opened b (inl unopened) = absurd (false≢true (sym unopened.0 ∙ began))
    opened b (inr is) = is

    by : (b : BayData) → (f.ledger.stock.records < most_records) ⊎ (most_records ≤ f.ledger.stock.records) → IsIdle f.ledger material b →
        b.session.desk.state ≡ state.Operational → Start f.ledger.stock material None ⊎ (most_records ≤ f.ledger.stock.records)
    by b (inr many) is_idle operational = inr many
    by b (inl room) is_idle operational =
        inl (is_idle.nothing (record { operational = operational; no_print = is_idle.no_print; no_fault = no_fault; room = room }))
