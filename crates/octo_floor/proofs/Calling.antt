-- What one printer's part of a round adds to the calls of its link, or to the printers that have left.
use Rattle.std.proofs.Common.{◌≡◌, ◌⊎◌, inl, inr, ℕ, ◌+◌, ◌≤◌, Bool, true, false, cond, not, ◌&&◌, List, Option, refl, sym, ◌∙◌, ap, subst, arith}
use Rattle.std.specs.Prelude.{slice_set, get_or, count_by, if◌then◌else◌}
use Rattle.std.proofs.lemmas.Bool.{false≢true}
use Rattle.std.proofs.lemmas.List.Sums.{sum_by-set}
use Rattle.std.proofs.lemmas.Option.{slice_get_within, get_or_from_slice_get}
use Rattle.job_desk.specs.Data.{Data}
use Rattle.job_desk.specs.Table.{connect_at, is_closable_at}
use Rattle.job_desk.specs.declared.link_fact.LinkFact.{LinkFact}
use Rattle.job_desk.specs.declared.link_fact.LinkFact.TheVariants as fact
use Rattle.job_desk.specs.declared.state.State.{State}
use Rattle.job_desk.specs.declared.state.State.TheVariants as state
use Rattle.printer_link.specs.Link.{RoseBy}
use Rattle.octo_session.specs.Data.{SessionData, doing, is_calling, is_connecting}
use Rattle.octo_session.specs.Found.{can_find}
use Rattle.octo_session.specs.Steps.{turn_steps}
use Rattle.octo_session.specs.Turn.{fact_of, texts_in}
use Rattle.octo_session.specs.declared.found.Doing.{Doing}
use Rattle.octo_session.specs.declared.found.Doing.TheVariants.{Dialling, HangingUp, UsingLink, Resting}
use Rattle.octo_floor_bay.specs.Bay.{BayData}
use Rattle.octo_floor_bay.specs.Events.{FloorHistory}
use Rattle.octo_floor.specs.Counted.{one_if}
use Rattle.printer_link.specs.Calls.{LinkState}
use Rattle.octo_floor.specs.Phases.{Phase, offline, connected, leaving, lost, phase_in, phase_of, phase_after, is_up_in, IsAtRest}
use Rattle.octo_floor.specs.Step.{Begins, faulty, passed, started, not_free, nothing_fits, takes, IsStep}
use Rattle.octo_floor.proofs.Turning.{phased_turn}
use Rattle.octo_floor.specs.Floor.{FloorData, IsFloor, Setting}
use Rattle.octo_floor.specs.Round.{IsStepAt, dialled}
use Rattle.octo_floor.specs.Run.{has_left_in, has_left}
use Rattle.octo_floor.proofs.Bays.{IsReady, dial_connects}
use Rattle.octo_floor.proofs.Floors.{all_at, as_one}
use Rattle.octo_floor.proofs.Gone.{resting_finds, undialled}
use Rattle.octo_floor.proofs.Rising.{Rises, rises_set, never_falls}

-- what a printer does by its phase and its link
left_rests : (s : SessionData) (at : State) (up : Bool) → has_left_in (phase_in at) ≡ true → up ≡ is_up_in (phase_in at) →
    (if not up && is_connecting at then Dialling else (if is_closable_at at s.desk then HangingUp else (if up then UsingLink else Resting))) ≡ Resting
left_rests s state.Offline false left up = refl
left_rests s state.Fault false left up = refl
left_rests s state.Offline true left up = absurd (false≢true (sym up))
left_rests s state.Fault true left up = absurd (false≢true (sym up))
left_rests s state.Connecting up left is = absurd (false≢true left)
left_rests s state.Operational up left is = absurd (false≢true left)
left_rests s state.Printing up left is = absurd (false≢true left)
left_rests s state.Pausing up left is = absurd (false≢true left)
left_rests s state.Paused up left is = absurd (false≢true left)
left_rests s state.Cancelling up left is = absurd (false≢true left)
left_rests s state.Finishing up left is = absurd (false≢true left)
left_rests s state.Closing up left is = absurd (false≢true left)

-- with its link up it uses the link, or hangs up
busy_by : (a b : Bool) → (cond (false && a) Dialling (cond b HangingUp UsingLink) ≡ UsingLink) ⊎ (cond (false && a) Dialling (cond b HangingUp UsingLink) ≡ HangingUp)
busy_by a true = inr refl
busy_by a false = inl refl

up_busy : (s : SessionData) → s.up ≡ true → (doing s ≡ UsingLink) ⊎ (doing s ≡ HangingUp)
up_busy s up =
    subst (λ (u : Bool). (doing (record s { up = u }) ≡ UsingLink) ⊎ (doing (record s { up = u }) ≡ HangingUp)) (sym up)
    (busy_by (is_connecting s.desk.state) (is_closable_at s.desk.state s.desk))

unleft_up : (p : Phase) → has_left_in p ≡ false → is_up_in p ≡ true
unleft_up connected is = refl
unleft_up leaving is = refl
unleft_up offline is = absurd (false≢true (sym is))
unleft_up lost is = absurd (false≢true (sym is))

hung_left : (f : LinkFact) (p : Phase) → can_find HangingUp f ≡ true → has_left_in (phase_after f p) ≡ true
hung_left fact.Closed p can = refl
hung_left fact.Quiet p can = absurd (false≢true can)
hung_left fact.Opened p can = absurd (false≢true can)
hung_left fact.Ready p can = absurd (false≢true can)
hung_left fact.NoPort p can = absurd (false≢true can)
hung_left fact.Failed p can = absurd (false≢true can)
hung_left (fact.Ended end) p can = absurd (false≢true can)

-- a connect leaves no printer without a link to come
connected_up : (port : List ℕ) (d : Data) (at : State) → d.state ≡ at → is_up_in (phase_in (connect_at at port d).1.state) ≡ true
connected_up port d state.Offline is = refl
connected_up port d state.Fault is = refl
connected_up port d state.Connecting is = ap (λ (s : State). is_up_in (phase_in s)) is
connected_up port d state.Operational is = ap (λ (s : State). is_up_in (phase_in s)) is
connected_up port d state.Printing is = ap (λ (s : State). is_up_in (phase_in s)) is
connected_up port d state.Pausing is = ap (λ (s : State). is_up_in (phase_in s)) is
connected_up port d state.Paused is = ap (λ (s : State). is_up_in (phase_in s)) is
connected_up port d state.Cancelling is = ap (λ (s : State). is_up_in (phase_in s)) is
connected_up port d state.Finishing is = ap (λ (s : State). is_up_in (phase_in s)) is
connected_up port d state.Closing is = ap (λ (s : State). is_up_in (phase_in s)) is

dialled_up : (began : Bool) (port : List ℕ) (b new : BayData) → began ≡ false → new ≡ dialled began port b → is_up_in (phase_of new.session) ≡ true
dialled_up true port b new began is = absurd (false≢true (sym began))
dialled_up false port b new began is =
    ap (λ (c : BayData). is_up_in (phase_of c.session)) is ∙ connected_up port b.session.desk b.session.desk.state refl

abbrev pub left_count : FloorData → ℕ
left_count f = count_by has_left f.bays

module _ (printer moment : ℕ) (x y : Setting) (heard : Bool) (events : FloorHistory) (at : IsStepAt printer moment x y heard events) (f : IsFloor x.floor) where
  abbrev step : IsStep printer moment at.over.material at.link at.link' x.store y.store x.floor.ledger y.floor.ledger at.over.begun at.over.after heard events
  step = at.over.step

  abbrev pub calling : Bool
  calling = is_calling (doing at.over.begun.session)

  rested : IsAtRest at.over.bay.session
  rested = all_at (λ (b : BayData). IsAtRest b.session) x.floor.bays printer at.over.bay f.at_rest at.over.its_bay

  ready : IsReady at.over.begun.session
  ready = (dial_connects x.floor.began at.over.port at.over.bay at.over.begun at.over.dials.bay_is rested).ready

  phase : phase_of step.turned_to.session ≡ phase_after (fact_of step.turned.note) (phase_of at.over.begun.session)
  phase = (phased_turn moment at.link.kind at.over.begun.session step.turned_to.session step.turned step.turn.by_note ready.still).phase

  -- the calls of its link
  rose : RoseBy (one_if calling) at.link.calls at.link'.calls
  rose = by calling refl
    where
      by : (b : Bool) → calling ≡ b → RoseBy (one_if b) at.link.calls at.link'.calls
      by true is = step.turn.calls is
      by false is =
          let t = step.turn.turn in
          subst (λ (o : Option ℕ). RoseBy 0 at.link.calls o) (sym t.steps.takes.calls)
          (never_falls (turn_steps (doing at.over.begun.session) at.over.begun.session.up t.got t.found (texts_in t.lines) t.steps.count) at.link.calls)

  pub step_rises : Rises (one_if calling) x.links y.links
  step_rises = subst (λ (ls : List LinkState). Rises (one_if calling) x.links ls) (sym at.links_are) (rises_set (one_if calling) x.links printer at.link at.link' at.its_link rose)

  -- a printer that has left after its turn begins nothing
  left_after : has_left step.turned_to ≡ true → has_left at.over.after ≡ true
  left_after is = by step.begins
    where
      by : Begins printer at.over.material x.store.files step.tables y.store.tables step.told y.floor.ledger step.turned_to at.over.after step.begun →
          has_left at.over.after ≡ true
      by (not_free busy none) = ap has_left none.bay_is ∙ is
      by (nothing_fits free fits none) = ap has_left none.bay_is ∙ is
      by (takes free lawful entry next (faulty none)) = ap has_left none.bay_is ∙ is
      by (takes free lawful entry next (passed read none)) = ap has_left none.bay_is ∙ is
      by (takes free lawful entry next (started job read begins)) =
          absurd (false≢true (sym (ap (λ (s : State). has_left_in (phase_in s)) free.operational) ∙ is))

  -- one that has left stays so, and one that hasn't is called or leaves
  stays_left : x.floor.began ≡ true → has_left at.over.bay ≡ true → has_left at.over.after ≡ true
  stays_left began is =
      let same : at.over.begun ≡ at.over.bay = undialled x.floor.began at.over.port at.over.bay at.over.begun began at.over.dials.bay_is in
      let left : has_left at.over.begun ≡ true = ap has_left same ∙ is in
      let up : at.over.begun.session.up ≡ is_up_in (phase_of at.over.begun.session) = (subst (λ (b : BayData). IsAtRest b.session) (sym same) rested).up in
      let rests : doing at.over.begun.session ≡ Resting = left_rests at.over.begun.session at.over.begun.session.desk.state at.over.begun.session.up left up in
      let can : can_find Resting (fact_of step.turned.note) ≡ true =
      subst (λ (now : Doing). can_find now (fact_of step.turned.note) ≡ true) rests step.turn.by_note.finds
      in
      left_after (ap has_left_in (phase ∙ resting_finds (fact_of step.turned.note) (phase_of at.over.begun.session) can) ∙ left)

  busy : (at.over.begun.session.up ≡ true) ⊎ (doing at.over.begun.session ≡ Dialling) → (calling ≡ true) ⊎ (has_left at.over.after ≡ true)
  busy (inr dials) = inl (ap is_calling dials)
  busy (inl up) = by (up_busy at.over.begun.session up)
    where
      by : (doing at.over.begun.session ≡ UsingLink) ⊎ (doing at.over.begun.session ≡ HangingUp) → (calling ≡ true) ⊎ (has_left at.over.after ≡ true)
      by (inl uses) = inl (ap is_calling uses)
      by (inr hangs) =
          let can : can_find HangingUp (fact_of step.turned.note) ≡ true =
          subst (λ (now : Doing). can_find now (fact_of step.turned.note) ≡ true) hangs step.turn.by_note.finds
          in
          inr (left_after (ap has_left_in phase ∙ hung_left (fact_of step.turned.note) (phase_of at.over.begun.session) can))

  -- the printers that have left, and the calls
  one_more : (one_if calling ≡ 1) ⊎ (has_left at.over.after ≡ true) → 1 ≤ one_if calling + one_if (has_left at.over.after)
  one_more (inl called) = omega (arith, called)
  one_more (inr left) = let is : one_if (has_left at.over.after) ≡ 1 = ap one_if left in omega (arith, is)

  count : left_count y.floor + one_if (has_left at.over.bay) ≡ left_count x.floor + one_if (has_left at.over.after)
  count =
      let one : BayData → ℕ = λ b. cond (has_left b) 1 0 in
      let bays : y.floor.bays ≡ slice_set x.floor.bays printer at.over.after = ap (λ (g : FloorData). g.bays) at.over.floor_is in
      let place_is : get_or x.floor.bays printer at.over.bay ≡ at.over.bay = get_or_from_slice_get x.floor.bays printer at.over.bay at.over.bay at.over.its_bay in
      let sum = sum_by-set one x.floor.bays printer at.over.after at.over.bay (slice_get_within x.floor.bays printer at.over.bay at.over.its_bay) in
      let was : one (get_or x.floor.bays printer at.over.bay) ≡ one_if (has_left at.over.bay) = ap one place_is ∙ as_one (has_left at.over.bay) in
      let is : one at.over.after ≡ one_if (has_left at.over.after) = as_one (has_left at.over.after) in
      let all : left_count y.floor ≡ count_by has_left (slice_set x.floor.bays printer at.over.after) = ap (λ (bs : List BayData). count_by has_left bs) bays in
      omega (arith, sum, was, is, all)

  -- in a later round: what has left stays, and one that hasn't is called or leaves
  pub later_gain : x.floor.began ≡ true → (left_count x.floor ≤ left_count y.floor + one_if calling)
      × (has_left at.over.bay ≡ false → left_count x.floor + 1 ≤ left_count y.floor + one_if calling)
  later_gain began = by (has_left at.over.bay) refl
    where
      called : (calling ≡ true) ⊎ (has_left at.over.after ≡ true) → (one_if calling ≡ 1) ⊎ (has_left at.over.after ≡ true)
      called (inl yes_called) = inl (ap one_if yes_called)
      called (inr left) = inr left

      by : (b : Bool) → has_left at.over.bay ≡ b → (left_count x.floor ≤ left_count y.floor + one_if calling)
          × (has_left at.over.bay ≡ false → left_count x.floor + 1 ≤ left_count y.floor + one_if calling)
      by true is =
          let all = count in
          let was : one_if (has_left at.over.bay) ≡ 1 = ap one_if is in
          let now : one_if (has_left at.over.after) ≡ 1 = ap one_if (stays_left began is) in
          (omega (arith, all, was, now), λ other. absurd (false≢true (sym other ∙ is)))
      by false is =
          let all = count in
          let was : one_if (has_left at.over.bay) ≡ 0 = ap one_if is in
          let up : at.over.begun.session.up ≡ true =
          ap (λ (b : BayData). b.session.up) (undialled x.floor.began at.over.port at.over.bay at.over.begun began at.over.dials.bay_is) ∙ rested.up
          ∙ unleft_up (phase_of at.over.bay.session) is
          in
          let more = one_more (called (busy (inl up))) in
          (omega (arith, all, was, more), λ other. omega (arith, all, was, more))

  -- in the first round each printer is called or leaves
  pub first_gain : x.floor.began ≡ false → 1 ≤ one_if calling + one_if (has_left at.over.after)
  first_gain began = one_more (called (by ready.at))
    where
      called : (calling ≡ true) ⊎ (has_left at.over.after ≡ true) → (one_if calling ≡ 1) ⊎ (has_left at.over.after ≡ true)
      called (inl is) = inl (ap one_if is)
      called (inr left) = inr left

      by : (at.over.begun.session.up ≡ is_up_in (phase_of at.over.begun.session)) ⊎ (doing at.over.begun.session ≡ Dialling) →
          (calling ≡ true) ⊎ (has_left at.over.after ≡ true)
      by (inr dials) = busy (inr dials)
      by (inl rests) = busy (inl (rests ∙ dialled_up x.floor.began at.over.port at.over.bay at.over.begun began at.over.dials.bay_is))
