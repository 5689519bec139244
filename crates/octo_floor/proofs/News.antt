-- A floor of new sessions.
use Rattle.std.proofs.Common.{◌≡◌, ℕ, ◌+◌, ◌≤◌, ◌<◌, Bool, true, false, List, [], ◌∷◌, length, map, refl, sym, ◌∙◌, ap, arith}
use Rattle.std.specs.Prelude.{All, cond, count_by}
use Rattle.std.proofs.lemmas.Bool.{false≢true}
use Rattle.std.proofs.lemmas.List.{length-map}
use Rattle.std.proofs.lemmas.List.Elements.{All-head, All-tail, All-map, All-weaker}
use Rattle.std.proofs.lemmas.List.Sums.{sum_by-cons}
use Rattle.job_desk.specs.Data.{Data}
use Rattle.job_desk.specs.Endings.{has_print}
use Rattle.octo_session.specs.Data.{SessionData}
use Rattle.print_queue.specs.declared.entry.QueueEntry.{QueueEntry}
use Rattle.octo_floor_bay.specs.Bay.{BayData, IsNewSession}
use Rattle.octo_floor_bay.specs.Stock.{Stock}
use Rattle.octo_floor.specs.Phases.{phase_in, is_up_in, IsAtRest}
use Rattle.octo_floor.specs.Floor.{IsFloor, is_active, new_bay, new_floor}

rests : (s : SessionData) → IsNewSession s → IsAtRest s
rests s new = record {
  up = new.down ∙ sym (ap (λ (d : Data). is_up_in (phase_in d.state)) new.desk);
  not_stopped = ap (λ (d : Data). d.stopped) new.desk;
  no_print = λ down. ap (λ (d : Data). d.active) new.desk;
  going = λ has. absurd (false≢true (sym (ap (λ (d : Data). has_print d.state) new.desk) ∙ has));
}

none_active : (bs : List BayData) → All (λ (b : BayData). is_active b ≡ false) bs → count_by is_active bs ≡ 0
none_active [] all = refl
none_active (b ∷ bs) all =
    let count : Bool → ℕ = λ a. cond a 1 0 in
    let one : count (is_active b) ≡ 0 = ap count (All-head (λ (c : BayData). is_active c ≡ false) b bs all) in
    let others = none_active bs (All-tail (λ (c : BayData). is_active c ≡ false) b bs all) in
    let sum = sum_by-cons (λ (c : BayData). cond (is_active c) 1 0) b bs in
    omega (arith, one, others, sum)

pub new_is_floor : (sessions : List SessionData) (ports materials : List (List ℕ)) (queue : List QueueEntry) (records : ℕ) → 2 ≤ length sessions →
    length sessions ≤ 8 → length ports ≡ length sessions → length materials ≡ length sessions → All IsNewSession sessions →
    IsFloor (new_floor sessions ports materials queue records)
new_is_floor sessions ports materials queue records some few ports_are materials_are new =
    let count : length (map new_bay sessions) ≡ length sessions = length-map sessions new_bay in
    let each : (P : BayData → Type 0) → ((s : SessionData) → IsNewSession s → P (new_bay s)) → All P (map new_bay sessions) =
    λ P so. All-map P new_bay sessions (All-weaker IsNewSession (λ (s : SessionData). P (new_bay s)) so sessions new)
    in
    let first : Stock = record { queue = queue; passed = []; records = records } in
    record {
      some = omega (arith, count, some);
      few = omega (arith, count, few);
      ports = ports_are ∙ sym count;
      materials = materials_are ∙ sym count;
      at_rest = each (λ b. IsAtRest b.session) rests;
      recorded = each (λ b. b.session.desk.greatest ≤ records) (λ s is. (let none = ap (λ (d : Data). d.greatest) is.desk in omega (arith, none)));
      own = each (λ b. is_active b ≡ true → records < b.session.desk.greatest + 0)
          (λ s is active. absurd (false≢true (sym (ap (λ (d : Data). d.active) is.desk) ∙ active)));
      ended =
          let none = none_active (map new_bay sessions) (each (λ b. is_active b ≡ false) (λ s is. ap (λ (d : Data). d.active) is.desk)) in
          omega (arith, none);
      came = record { first = first; came = tt; stock_is = refl };
    }
