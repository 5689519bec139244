-- A floor after one printer's part of a round.
use Rattle.std.proofs.Common.{◌≡◌, ◌⊎◌, inl, inr, ℕ, ◌+◌, ◌≤◌, ◌<◌, Bool, true, false, List, length, Some, refl, sym, ◌∙◌, ap, subst, arith}
use Rattle.std.specs.Prelude.{All, slice_get, slice_set, get_or, cond, count_by}
use Rattle.std.proofs.lemmas.List.{length-set}
use Rattle.std.proofs.lemmas.List.Elements.{All-set, All-get_or, All-weaker}
use Rattle.std.proofs.lemmas.List.Sums.{sum_by-set}
use Rattle.std.proofs.lemmas.Option.{slice_get_within, get_or_from_slice_get}
use Rattle.octo_floor_bay.specs.Bay.{BayData}
use Rattle.octo_floor_bay.specs.Events.{FloorHistory, started_rows}
use Rattle.octo_floor.specs.Counted.{one_if}
use Rattle.printer_link.specs.Calls.{LinkState}
use Rattle.octo_floor.specs.Objects.{StoreState}
use Rattle.octo_floor.specs.Phases.{IsAtRest}
use Rattle.octo_floor.specs.Floor.{FloorData, IsFloor, is_active}
use Rattle.octo_floor.specs.Round.{IsStepOver}
use Rattle.octo_floor.proofs.Bays.{IsConnected, IsCounted, dial_connects, step_rests, step_counts}
use Rattle.octo_floor.proofs.Ledgers.{Grows, step_grows, come_on}

-- what holds of all holds of one
pub all_at : {X : Type 0} (P : X → Type 0) (xs : List X) (i : ℕ) (x : X) → All P xs → slice_get xs i ≡ Some x → P x
all_at P xs i x all is = subst P (get_or_from_slice_get xs i x x is) (All-get_or P xs i x (slice_get_within xs i x is) all)

pub as_one : (b : Bool) → cond b 1 0 ≡ one_if b
as_one true = refl
as_one false = refl

module _ (printer moment : ℕ) (link link' : LinkState) (store store' : StoreState) (x y : FloorData) (heard : Bool) (events : FloorHistory)
    (s : IsStepOver printer moment link link' store store' x y heard events) (f : IsFloor x) where
  rested : IsAtRest s.bay.session
  rested = all_at (λ (b : BayData). IsAtRest b.session) x.bays printer s.bay f.at_rest s.its_bay

  connected : IsConnected s.bay.session s.begun.session
  connected = dial_connects x.began s.port s.bay s.begun s.dials.bay_is rested

  counted : IsCounted x.ledger y.ledger s.begun s.after
  counted = step_counts printer moment s.material link link' store store' x.ledger y.ledger s.begun s.after heard events s.step

  pub grown : Grows x.materials x.ledger y.ledger events
  grown = step_grows printer moment s.material link link' store store' x.ledger y.ledger s.begun s.after heard events x.materials s.its_material s.step

  others : (P Q : BayData → Type 0) → ((b : BayData) → P b → Q b) → Q s.after → All P x.bays → All Q (slice_set x.bays printer s.after)
  others P Q so own all = All-set Q x.bays printer s.after own (All-weaker P Q so x.bays all)

  count : count_by is_active (slice_set x.bays printer s.after) + one_if (is_active s.bay) ≡ count_by is_active x.bays + one_if (is_active s.after)
  count =
      let f : BayData → ℕ = λ b. cond (is_active b) 1 0 in
      let at : get_or x.bays printer s.bay ≡ s.bay = get_or_from_slice_get x.bays printer s.bay s.bay s.its_bay in
      let sum = sum_by-set f x.bays printer s.after s.bay (slice_get_within x.bays printer s.bay s.its_bay) in
      let was : f (get_or x.bays printer s.bay) ≡ one_if (is_active s.bay) = ap f at ∙ as_one (is_active s.bay) in
      let is : f s.after ≡ one_if (is_active s.after) = as_one (is_active s.after) in
      omega (arith, sum, was, is)

  moved : FloorData
  moved = record x { bays = slice_set x.bays printer s.after; ledger = y.ledger }

  pub floor_after : IsFloor y
  floor_after = subst (λ (g : FloorData). IsFloor g) (sym s.floor_is) (record {
    some = let same = bays_same in let some = f.some in omega (arith, same, some);
    few = let same = bays_same in let few = f.few in omega (arith, same, few);
    ports = f.ports ∙ sym bays_same;
    materials = f.materials ∙ sym bays_same;
    at_rest = others (λ b. IsAtRest b.session) (λ b. IsAtRest b.session) (λ b rests. rests)
        (step_rests printer moment s.material link link' store store' x.ledger y.ledger s.begun s.after heard events s.step connected.ready) f.at_rest;
    recorded = others (λ b. b.session.desk.greatest ≤ x.ledger.stock.records) (λ b. b.session.desk.greatest ≤ y.ledger.stock.records)
        (λ b few. let more = counted.fewer in omega (arith, few, more)) (recorded_own counted.print) f.recorded;
    own = others (λ b. is_active b ≡ true → x.ledger.stock.records < b.session.desk.greatest + length (started_rows x.ledger.history))
        (λ b. is_active b ≡ true → y.ledger.stock.records < b.session.desk.greatest + length (started_rows y.ledger.history))
        (λ b few active. let so = few active in let gap = counted.gap in omega (arith, so, gap)) (own_print counted.print) f.own;
    ended =
        let flow = counted.flow in
        let all = count in
        let was : one_if s.begun.session.desk.active ≡ one_if (is_active s.bay) = ap one_if connected.active in
        let few = f.ended in
        omega (arith, flow, all, was, few);
    came = come_on x.materials x.ledger y.ledger events grown f.came;
  })
    where
      bays_same : length (slice_set x.bays printer s.after) ≡ length x.bays
      bays_same = length-set x.bays printer s.after

      greatest_was : s.begun.session.desk.greatest ≡ s.bay.session.desk.greatest
      greatest_was = connected.greatest

      before : s.bay.session.desk.greatest ≤ x.ledger.stock.records
      before = all_at (λ (b : BayData). b.session.desk.greatest ≤ x.ledger.stock.records) x.bays printer s.bay f.recorded s.its_bay

      recorded_own : ((s.after.session.desk.greatest ≡ s.begun.session.desk.greatest) × (s.after.session.desk.active ≡ true → s.begun.session.desk.active ≡ true))
          ⊎ ((s.after.session.desk.greatest ≡ y.ledger.stock.records) × (x.ledger.stock.records < y.ledger.stock.records)) →
          s.after.session.desk.greatest ≤ y.ledger.stock.records
      recorded_own (inl same) = let is = same.0 in let was = greatest_was in let few = before in let more = counted.fewer in omega (arith, is, was, few, more)
      recorded_own (inr begins) = let is = begins.0 in omega (arith, is)

      own_print : ((s.after.session.desk.greatest ≡ s.begun.session.desk.greatest) × (s.after.session.desk.active ≡ true → s.begun.session.desk.active ≡ true))
          ⊎ ((s.after.session.desk.greatest ≡ y.ledger.stock.records) × (x.ledger.stock.records < y.ledger.stock.records)) →
          is_active s.after ≡ true → y.ledger.stock.records < s.after.session.desk.greatest + length (started_rows y.ledger.history)
      own_print (inl same) active =
          let was_active : is_active s.bay ≡ true = sym connected.active ∙ same.1 active in
          let few = all_at (λ (b : BayData). is_active b ≡ true → x.ledger.stock.records < b.session.desk.greatest + length (started_rows x.ledger.history)) x.bays
          printer s.bay f.own s.its_bay was_active
          in
          let is = same.0 in
          let was = greatest_was in
          let gap = counted.gap in
          omega (arith, few, is, was, gap)
      own_print (inr begins) active = let is = begins.0 in let more = begins.1 in let gap = counted.gap in omega (arith, is, more, gap)
