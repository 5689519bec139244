-- What a disconnect leaves of a printer, and of a floor.
use Rattle.std.proofs.Common.{◌≡◌, ◌≢◌, ◌⊎◌, inl, inr, ℕ, ◌+◌, ◌<◌, ◌≤◌, Bool, true, false, List, length, Some, refl, sym, ◌∙◌, ap, subst, arith}
use Rattle.std.specs.Prelude.{slice_get, slice_set, get_or, cond, count_by}
use Rattle.std.proofs.lemmas.Bool.{false≢true, cases_lt}
use Rattle.std.proofs.lemmas.List.{length-set}
use Rattle.std.proofs.lemmas.List.Elements.{All-set}
use Rattle.std.proofs.lemmas.List.Sums.{sum_by-set}
use Rattle.std.proofs.lemmas.Option.{slice_get_within, get_or_from_slice_get}
use Rattle.job_desk.specs.Endings.{has_print}
use Rattle.job_desk.specs.Table.{disconnect_at}
use Rattle.job_desk.specs.declared.state.State.{State}
use Rattle.job_desk.specs.declared.state.State.TheVariants as state
use Rattle.octo_session.specs.Data.{SessionData}
use Rattle.octo_floor_bay.specs.Bay.{BayData}
use Rattle.octo_floor_bay.specs.Events.{started_rows}
use Rattle.octo_floor.specs.Ledger.{LedgerData}
use Rattle.octo_floor.specs.Phases.{Phase, offline, connected, leaving, lost, phase_in, phase_of, is_up_in, IsAtRest}
use Rattle.octo_floor.specs.Floor.{FloorData, IsFloor, is_active}
use Rattle.octo_floor.specs.Leaving.{IsIdle, IsDisconnected, IsDisconnectedAt, AreDisconnected, disconnected_unless}
use Rattle.octo_floor.specs.Run.{is_lost_in, is_lost, has_left_in, has_left}
use Rattle.octo_floor.proofs.Floors.{all_at}
use Rattle.octo_floor.proofs.Places.{never, get_same, get_other, same_place, same_or}

down_left : (p : Phase) → has_left_in p ≡ true → is_up_in p ≡ false
down_left offline left = refl
down_left lost left = refl
down_left connected left = absurd (false≢true left)
down_left leaving left = absurd (false≢true left)

-- a printer that has left is idle
pub left_idle : (l : LedgerData) (material : List ℕ) (b : BayData) → IsAtRest b.session → has_left b ≡ true → IsIdle l material b
left_idle l material b rests left = record {
  connected = λ is. absurd (false≢true (sym (ap (λ (s : State). has_left_in (phase_in s)) is) ∙ left));
  no_print = rests.no_print (down_left (phase_of b.session) left);
  nothing = λ free. absurd (false≢true (sym (ap (λ (s : State). has_left_in (phase_in s)) free.operational) ∙ left));
}

-- what a disconnect keeps of a session: it is offline, leaving or lost after it
pub record IsLeft (s t : SessionData) : Type 0 where
  pub rests : IsAtRest t
  pub active : t.desk.active ≡ s.desk.active
  pub greatest : t.desk.greatest ≡ s.desk.greatest
  pub limits : t.desk.limits ≡ s.desk.limits
  pub up : t.up ≡ s.up
  pub gone : phase_of t ≢ connected
  pub lost : t.desk.state ≡ state.Fault → s.desk.state ≡ state.Fault

-- a desk that is being disconnected prints nothing
printless : (s : State) → phase_in s ≡ leaving → has_print s ≡ false
printless state.Closing is = refl
printless state.Offline is = refl
printless state.Connecting is = refl
printless state.Operational is = refl
printless state.Fault is = refl
printless state.Printing is = absurd (cc is)
printless state.Pausing is = absurd (cc is)
printless state.Paused is = absurd (cc is)
printless state.Cancelling is = absurd (cc is)
printless state.Finishing is = absurd (cc is)

closes : (s t : SessionData) → IsAtRest s → is_up_in (phase_of s) ≡ true → t.up ≡ s.up → t.desk.stopped ≡ s.desk.stopped → phase_of t ≡ leaving →
    t.desk.active ≡ s.desk.active → t.desk.greatest ≡ s.desk.greatest → t.desk.limits ≡ s.desk.limits → IsLeft s t
closes s t rests linked up stopped phase active greatest limits = record {
  rests = record {
    up = up ∙ rests.up ∙ linked ∙ sym (ap is_up_in phase);
    not_stopped = stopped ∙ rests.not_stopped;
    no_print = λ down. absurd (false≢true (sym down ∙ ap is_up_in phase));
    going = λ has. absurd (false≢true (sym (printless t.desk.state phase) ∙ has));
  };
  active = active;
  greatest = greatest;
  limits = limits;
  up = up;
  gone = λ is. absurd (cc (sym is ∙ phase));
  lost = λ is. absurd (cc (sym phase ∙ ap phase_in is));
}

linked_in : (s : SessionData) (at : State) → s.desk.state ≡ at → is_up_in (phase_in at) ≡ true → is_up_in (phase_of s) ≡ true
linked_in s at is up = ap (λ (t : State). is_up_in (phase_in t)) is ∙ up

disconnects : (s : SessionData) → IsAtRest s → is_lost_in (phase_of s) ≡ false → (at : State) → s.desk.state ≡ at →
    IsLeft s (record s { desk = disconnect_at at s.desk })
disconnects s rests here state.Offline is = record {
  rests = rests;
  active = refl;
  greatest = refl;
  limits = refl;
  up = refl;
  gone = λ other. absurd (cc (sym (ap phase_in is) ∙ other));
  lost = λ other. other;
}
disconnects s rests here state.Fault is = absurd (false≢true (sym here ∙ ap (λ (t : State). is_lost_in (phase_in t)) is))
disconnects s rests here state.Connecting is = closes s _ rests (linked_in s state.Connecting is refl) refl refl refl refl refl refl
disconnects s rests here state.Operational is = closes s _ rests (linked_in s state.Operational is refl) refl refl refl refl refl refl
disconnects s rests here state.Printing is = closes s _ rests (linked_in s state.Printing is refl) refl refl refl refl refl refl
disconnects s rests here state.Pausing is = closes s _ rests (linked_in s state.Pausing is refl) refl refl refl refl refl refl
disconnects s rests here state.Paused is = closes s _ rests (linked_in s state.Paused is refl) refl refl refl refl refl refl
disconnects s rests here state.Cancelling is = closes s _ rests (linked_in s state.Cancelling is refl) refl refl refl refl refl refl
disconnects s rests here state.Finishing is = closes s _ rests (linked_in s state.Finishing is refl) refl refl refl refl refl refl
disconnects s rests here state.Closing is =
    closes s _ rests (linked_in s state.Closing is refl) refl refl (ap phase_in is) refl refl refl

stays_lost : (s : SessionData) → IsAtRest s → is_lost_in (phase_of s) ≡ true → IsLeft s s
stays_lost s rests is = record {
  rests = rests;
  active = refl;
  greatest = refl;
  limits = refl;
  up = refl;
  gone = λ other. absurd (false≢true (ap is_lost_in (sym other) ∙ is));
  lost = λ same. same;
}

-- a bay after a disconnect
pub bay_left : (b new : BayData) → IsAtRest b.session → IsDisconnected b new → IsLeft b.session new.session
bay_left b new rests is = subst (λ (n : BayData). IsLeft b.session n.session) (sym is.bay_is) (by (is_lost b) refl)
  where
    by : (l : Bool) → is_lost b ≡ l → IsLeft b.session (disconnected_unless l b).session
    by true lost_is = stays_lost b.session rests lost_is
    by false here = disconnects b.session rests here b.session.desk.state refl

module _ (printer : ℕ) (x y : FloorData) (s : IsDisconnectedAt printer x y) (f : IsFloor x) where
  left_bay : IsLeft s.bay.session s.after.session
  left_bay = bay_left s.bay s.after (all_at (λ (b : BayData). IsAtRest b.session) x.bays printer s.bay f.at_rest s.its_bay) s.left

  count : count_by is_active (slice_set x.bays printer s.after) ≡ count_by is_active x.bays
  count =
      let one : BayData → ℕ = λ b. cond (is_active b) 1 0 in
      let at : get_or x.bays printer s.bay ≡ s.bay = get_or_from_slice_get x.bays printer s.bay s.bay s.its_bay in
      let sum = sum_by-set one x.bays printer s.after s.bay (slice_get_within x.bays printer s.bay s.its_bay) in
      let same : one (get_or x.bays printer s.bay) ≡ one s.after = ap one at ∙ ap (λ (b : Bool). cond b 1 0) (sym left_bay.active) in
      omega (arith, sum, same)

  pub floor_left : IsFloor y
  floor_left = subst (λ (g : FloorData). IsFloor g) (sym s.floor_is) (record {
    some = let same = bays_same in let some = f.some in omega (arith, same, some);
    few = let same = bays_same in let few = f.few in omega (arith, same, few);
    ports = f.ports ∙ sym bays_same;
    materials = f.materials ∙ sym bays_same;
    at_rest = All-set (λ (b : BayData). IsAtRest b.session) x.bays printer s.after left_bay.rests f.at_rest;
    recorded = All-set (λ (b : BayData). b.session.desk.greatest ≤ x.ledger.stock.records) x.bays printer s.after few f.recorded;
    own = All-set Own x.bays printer s.after own f.own;
    ended = let same = count in let few = f.ended in omega (arith, same, few);
    came = f.came;
  })
    where
      Own : BayData → Type 0
      Own b = is_active b ≡ true → x.ledger.stock.records < b.session.desk.greatest + length (started_rows x.ledger.history)

      bays_same : length (slice_set x.bays printer s.after) ≡ length x.bays
      bays_same = length-set x.bays printer s.after

      few : s.after.session.desk.greatest ≤ x.ledger.stock.records
      few =
          let was = all_at (λ (b : BayData). b.session.desk.greatest ≤ x.ledger.stock.records) x.bays printer s.bay f.recorded s.its_bay in
          let same = left_bay.greatest in
          omega (arith, was, same)

      own : Own s.after
      own active =
          let was = all_at Own x.bays printer s.bay f.own s.its_bay (sym left_bay.active ∙ active) in
          let same = left_bay.greatest in
          omega (arith, was, same)

omega_less : (i n : ℕ) → i < n + 1 → i ≢ n → i < n
omega_less i n before not = by (cases_lt i n)
  where
    by : (i < n) ⊎ (n ≤ i) → i < n
    by (inl less) = less
    by (inr more) = absurd (not (omega (arith, before, more)))

-- one more printer is disconnected
pub disconnected_more : (n : ℕ) (x y z : FloorData) → AreDisconnected n x y → IsDisconnectedAt n y z → AreDisconnected (n + 1) x z
disconnected_more n x y z all s = record {
  same = s.floor_is ∙ ap (λ (f : FloorData). record f { bays = slice_set y.bays n s.after }) all.same ∙ rest;
  bays = length_is ∙ all.bays;
  first = λ printer b b' before at at'. first printer b b' before at at' (same_or printer n);
  others = λ printer b b' after at at'. all.others printer b b' (omega (arith, after)) at (sym (other printer (above printer after)) ∙ at');
}
  where
    above : (j : ℕ) → n + 1 ≤ j → j ≢ n
    above j after is = never n (n + 1) (omega arith) (omega (arith, after, is))

    bays_are : z.bays ≡ slice_set y.bays n s.after
    bays_are = ap (λ (f : FloorData). f.bays) s.floor_is

    rest : record x { bays = slice_set y.bays n s.after } ≡ record x { bays = z.bays }
    rest = ap (λ (bs : List BayData). record x { bays = bs }) (sym bays_are)

    length_is : length z.bays ≡ length y.bays
    length_is = ap (λ (bs : List BayData). length bs) bays_are ∙ length-set y.bays n s.after

    other : (j : ℕ) → j ≢ n → slice_get z.bays j ≡ slice_get y.bays j
    other j not = ap (λ (bs : List BayData). slice_get bs j) bays_are ∙ get_other y.bays n j s.after not

    first : (printer : ℕ) (b b' : BayData) → printer < n + 1 → slice_get x.bays printer ≡ Some b → slice_get z.bays printer ≡ Some b' →
        (printer ≡ n) ⊎ (printer ≢ n) → IsDisconnected b b'
    first printer b b' before at at' (inr not) =
        let less : printer < n = omega_less printer n before not in
        all.first printer b b' less at (sym (other printer not) ∙ at')
    first printer b b' before at at' (inl is) =
        let own : slice_get z.bays n ≡ Some s.after = ap (λ (bs : List BayData). slice_get bs n) bays_are ∙ get_same y.bays n s.after s.bay s.its_bay in
        let after_is : s.after ≡ b' = same_place z.bays n s.after b' own (ap (λ (j : ℕ). slice_get z.bays j) (sym is) ∙ at') in
        let was : s.bay ≡ b = all.others n b s.bay (omega arith) (ap (λ (j : ℕ). slice_get x.bays j) (sym is) ∙ at) s.its_bay in
        subst (λ (c : BayData). IsDisconnected c b') was (subst (λ (c : BayData). IsDisconnected s.bay c) after_is s.left)

-- none is yet
pub disconnected_none : (x : FloorData) → AreDisconnected 0 x x
disconnected_none x = record {
  same = refl;
  bays = refl;
  first = λ printer b b' before at at'. never printer 0 before (omega arith);
  others = λ printer b b' after at at'. same_place x.bays printer b' b at' at;
}
