-- The parts of the printers in a round, one after the other.
use Rattle.std.proofs.Common.{◌≡◌, ◌≢◌, ◌⊎◌, inl, inr, ℕ, zero, suc, ◌+◌, Bool, ◌||◌, List, ◌++◌, length, Some, sym, ◌∙◌, ap, subst, arith}
use Rattle.std.specs.Prelude.{slice_get, slice_set}
use Rattle.std.proofs.lemmas.List.{length-set}
use Rattle.octo_floor_bay.specs.Bay.{BayData}
use Rattle.octo_floor_bay.specs.Events.{FloorHistory}
use Rattle.octo_floor.specs.Ledger.{LedgerData}
use Rattle.printer_link.specs.Calls.{LinkState}
use Rattle.octo_floor.specs.Objects.{StoreState}
use Rattle.octo_floor.specs.Step.{Begins, faulty, passed, started, not_free, nothing_fits, takes, IsStep}
use Rattle.octo_floor.specs.Floor.{FloorData, IsFloor, Setting, AreUp}
use Rattle.octo_floor.specs.Round.{IsStepAt, Steps}
use Rattle.octo_floor.proofs.Floors.{floor_after}
use Rattle.octo_floor.proofs.Places.{get_same, get_other, same_place, same_or}

-- a printer's link is up exactly if its session says so, after its part
pub step_up : (printer moment : ℕ) (material : List ℕ) (link link' : LinkState) (store store' : StoreState) (old new : LedgerData) (bay bay' : BayData)
    (heard : Bool) (events : FloorHistory) → IsStep printer moment material link link' store store' old new bay bay' heard events → link'.up ≡ bay'.session.up
step_up printer moment material link link' store store' old new bay bay' heard events s = s.turn.up ∙ sym (by s.begins)
  where
    by : Begins printer material store.files s.tables store'.tables s.told new s.turned_to bay' s.begun → bay'.session.up ≡ s.turned_to.session.up
    by (not_free busy none) = ap (λ (b : BayData). b.session.up) none.bay_is
    by (nothing_fits free fits none) = ap (λ (b : BayData). b.session.up) none.bay_is
    by (takes free lawful entry next (faulty is)) = ap (λ (b : BayData). b.session.up) is.bay_is
    by (takes free lawful entry next (passed read is)) = ap (λ (b : BayData). b.session.up) is.bay_is
    by (takes free lawful entry next (started job read is)) = ap (λ (b : BayData). b.session.up) is.bay_is

module _ (printer moment : ℕ) (x y : Setting) (heard : Bool) (events : FloorHistory) (s : IsStepAt printer moment x y heard events) where
  bays_are : y.floor.bays ≡ slice_set x.floor.bays printer s.over.after
  bays_are = ap (λ (f : FloorData). f.bays) s.over.floor_is

  pub at_bays : length y.floor.bays ≡ length x.floor.bays
  at_bays = ap (λ (bs : List BayData). length bs) bays_are ∙ length-set x.floor.bays printer s.over.after

  pub at_began : y.floor.began ≡ x.floor.began
  at_began = ap (λ (f : FloorData). f.began) s.over.floor_is

  pub at_ports : y.floor.ports ≡ x.floor.ports
  at_ports = ap (λ (f : FloorData). f.ports) s.over.floor_is

  pub at_materials : y.floor.materials ≡ x.floor.materials
  at_materials = ap (λ (f : FloorData). f.materials) s.over.floor_is

  pub at_floor : IsFloor x.floor → IsFloor y.floor
  at_floor f = floor_after printer moment s.link s.link' x.store y.store x.floor y.floor heard events s.over f

  -- the printer itself, and the others
  pub own_bay : slice_get y.floor.bays printer ≡ Some s.over.after
  own_bay = ap (λ (bs : List BayData). slice_get bs printer) bays_are ∙ get_same x.floor.bays printer s.over.after s.over.bay s.over.its_bay

  pub own_link : slice_get y.links printer ≡ Some s.link'
  own_link = ap (λ (ls : List LinkState). slice_get ls printer) s.links_are ∙ get_same x.links printer s.link' s.link s.its_link

  pub other_bay : (j : ℕ) → j ≢ printer → slice_get y.floor.bays j ≡ slice_get x.floor.bays j
  other_bay j not = ap (λ (bs : List BayData). slice_get bs j) bays_are ∙ get_other x.floor.bays printer j s.over.after not

  pub other_link : (j : ℕ) → j ≢ printer → slice_get y.links j ≡ slice_get x.links j
  other_link j not = ap (λ (ls : List LinkState). slice_get ls j) s.links_are ∙ get_other x.links printer j s.link' not

  pub at_up : AreUp x.floor.bays x.links → AreUp y.floor.bays y.links
  at_up up j b link at linked = by (same_or j printer)
    where
      by : (j ≡ printer) ⊎ (j ≢ printer) → link.up ≡ b.session.up
      by (inr not) = up j b link (sym (other_bay j not) ∙ at) (sym (other_link j not) ∙ linked)
      by (inl same) =
          let bay_is : s.over.after ≡ b = same_place y.floor.bays printer s.over.after b own_bay (ap (λ (n : ℕ). slice_get y.floor.bays n) (sym same) ∙ at) in
          let link_is : s.link' ≡ link = same_place y.links printer s.link' link own_link (ap (λ (n : ℕ). slice_get y.links n) (sym same) ∙ linked) in
          sym (ap (λ (l : LinkState). l.up) link_is)
          ∙ step_up printer moment s.over.material s.link s.link' x.store y.store x.floor.ledger y.floor.ledger s.over.begun s.over.after heard events s.over.step
          ∙ ap (λ (c : BayData). c.session.up) bay_is

-- the first printers' parts keep how many there are
pub steps_bays : (n moment : ℕ) (x y : Setting) (heard : Bool) (events : FloorHistory) → Steps n moment x y heard events → length y.floor.bays ≡ length x.floor.bays
steps_bays zero moment x y heard events s = ap (λ (z : Setting). length z.floor.bays) s.0
steps_bays (suc n) moment x y heard events (mid, before, hears, former, added, first, last, is, are) =
    at_bays n moment mid y hears added last ∙ steps_bays n moment x mid before former first

-- one more
pub steps_more : (n moment : ℕ) (x mid y : Setting) (before hears heard : Bool) (former added events : FloorHistory) → Steps n moment x mid before former →
    IsStepAt n moment mid y hears added → heard ≡ (before || hears) → events ≡ former ++ added → Steps (n + 1) moment x y heard events
steps_more n moment x mid y before hears heard former added events first last is are =
    let next : suc n ≡ n + 1 = omega arith in
    subst (λ (m : ℕ). Steps m moment x y heard events) next (mid, before, hears, former, added, first, last, is, are)
