-- A floor that goes on by events goes on by more of them.
use Rattle.std.proofs.Common.{◌≡◌, ℕ, List, [], ◌∷◌, ◌++◌, length, Option, None, Some, refl, sym, ◌∙◌, ap, subst, append-nil, arith}
use Rattle.std.specs.Prelude.{slice_get}
use Rattle.std.proofs.lemmas.Option.{slice_get_within}
use Rattle.octo_keeper.specs.declared.shelf.ShelfFile.{ShelfFile}
use Rattle.temp_rules.specs.declared.limits.Limits.{Limits}
use Rattle.octo_floor_bay.specs.Bay.{BayData}
use Rattle.octo_floor_bay.specs.Events.{FloorHistory}
use Rattle.octo_floor_bay.specs.declared.event.FloorEvent.TheVariants.{Noted, Ended, Started, Passed}
use Rattle.octo_floor_bay.specs.Files.{printable}
use Rattle.printer_link.specs.Calls.{LinkState}
use Rattle.octo_floor.proofs.Faults.{none_came, came_then}
use Rattle.octo_floor.specs.Floor.{Setting, AreUp}
use Rattle.octo_floor.specs.Points.{TakesCopies, Does, PassesRightly, GoesOn}
use Rattle.octo_floor.proofs.Does.{does_then, does_nothing}
use Rattle.octo_floor.proofs.Ledgers.{Grows, grows_then}
use Rattle.octo_floor.proofs.Places.{place, same_place}
use Rattle.octo_floor.proofs.Tells.{others_none}

-- copies are taken as a ledger grows
pub as_copies : (x y : Setting) (events : FloorHistory) → Grows x.floor.materials x.floor.ledger y.floor.ledger events → TakesCopies x y events
as_copies x y events grows = record { history = grows.history; came = grows.came; stock = grows.stock; copies = grows.copies }

pub as_grows : (x y : Setting) (events : FloorHistory) → TakesCopies x y events → Grows x.floor.materials x.floor.ledger y.floor.ledger events
as_grows x y events takes_them = record { history = takes_them.history; came = takes_them.came; stock = takes_them.stock; copies = takes_them.copies }

-- entries that are passed over later are passed over rightly from the beginning
passes_back : (x y : Setting) (events : FloorHistory) → y.store.files ≡ x.store.files →
    ((printer : ℕ) (b' : BayData) → slice_get y.floor.bays printer ≡ Some b' →
    (b : BayData) × (slice_get x.floor.bays printer ≡ Some b) × (b'.session.desk.limits ≡ b.session.desk.limits)) → PassesRightly y events → PassesRightly x events
passes_back x y [] files limits so = tt
passes_back x y (Passed entry ∷ events) files limits so =
    let bay = limits so.0.printer so.0.bay so.0.its_bay in (
      record {
        printer = so.0.printer;
        bay = bay.0;
        its_bay = bay.1;
        not_printable = λ held is. subst (λ (l : Limits). printable l entry.file held ≡ None) bay.2 (so.0.not_printable held (files ∙ is));
      },
      passes_back x y events files limits so.1,
    )
passes_back x y (Noted printer note ∷ events) files limits so = passes_back x y events files limits so
passes_back x y (Ended printer ending ∷ events) files limits so = passes_back x y events files limits so
passes_back x y (Started printer row entry ∷ events) files limits so = passes_back x y events files limits so

pub passes_append : (x : Setting) (es fs : FloorHistory) → PassesRightly x es → PassesRightly x fs → PassesRightly x (es ++ fs)
passes_append x [] fs one other = other
passes_append x (Passed entry ∷ es) fs one other = (one.0, passes_append x es fs one.1 other)
passes_append x (Noted printer note ∷ es) fs one other = passes_append x es fs one other
passes_append x (Ended printer ending ∷ es) fs one other = passes_append x es fs one other
passes_append x (Started printer row entry ∷ es) fs one other = passes_append x es fs one other

-- what there is at a place later was there before
was_bay : (x y : Setting) (printer : ℕ) (b : BayData) → length y.floor.bays ≡ length x.floor.bays → slice_get y.floor.bays printer ≡ Some b →
    (a : BayData) × (slice_get x.floor.bays printer ≡ Some a)
was_bay x y printer b same at =
    let within = slice_get_within y.floor.bays printer b at in
    place x.floor.bays printer (omega (arith, within, same))

was_link : (x y : Setting) (printer : ℕ) (l : LinkState) → length y.links ≡ length x.links → slice_get y.links printer ≡ Some l →
    (k : LinkState) × (slice_get x.links printer ≡ Some k)
was_link x y printer l same at =
    let within = slice_get_within y.links printer l at in
    place x.links printer (omega (arith, within, same))

-- nothing happens
pub goes_same : (x : Setting) → AreUp x.floor.bays x.links → GoesOn x x []
goes_same x up = record {
  copies = record { history = sym (append-nil x.floor.ledger.history); came = tt; stock = refl; copies = omega arith };
  tables = λ first kept. kept;
  each = λ printer b b' link link' at at' linked linked'. (
      let bay_is : b ≡ b' = same_place x.floor.bays printer b b' at at' in
      let link_is : link ≡ link' = same_place x.links printer link link' linked linked' in
      let Of : BayData → Type 0 = λ c. Does x.store.files [] printer b c link link' in
      let By : LinkState → Type 0 = λ l. Does x.store.files [] printer b b link l in
      subst Of bay_is (subst By link_is (does_nothing x.store.files printer [] b link (others_none printer) (up printer b link at linked))));
  passes = tt;
  same = record { ports = refl; materials = refl; bays = refl; links = refl; files = refl; limits = still };
  faults =
      none_came x.floor.ledger.fault x.store.keeper_faults x.store.keeper_faults x.store.shelf_faults x.store.shelf_faults (omega arith) (omega arith);
}
  where
    still : (printer : ℕ) (b b' : BayData) → slice_get x.floor.bays printer ≡ Some b → slice_get x.floor.bays printer ≡ Some b' →
        b'.session.desk.limits ≡ b.session.desk.limits
    still printer b b' at at' = sym (ap (λ (c : BayData). c.session.desk.limits) (same_place x.floor.bays printer b b' at at'))

-- first these events, and then those
pub goes_then : (x y z : Setting) (es fs : FloorHistory) → GoesOn x y es → GoesOn y z fs → GoesOn x z (es ++ fs)
goes_then x y z es fs first second = record {
  copies = as_copies x z (es ++ fs)
      (grows_then x.floor.materials x.floor.ledger y.floor.ledger z.floor.ledger es fs (as_grows x y es first.copies)
      (subst (λ (ms : List (List ℕ)). Grows ms y.floor.ledger z.floor.ledger fs) first.same.materials (as_grows y z fs second.copies)));
  tables = λ tables kept. second.tables tables (first.tables tables kept);
  each = λ printer a c k m at at' linked linked'. (
      let bay = was_bay y z printer c second.same.bays at' in
      let link = was_link y z printer m second.same.links linked' in
      let Of : Option (List ShelfFile) → Type 0 = λ files. Does files fs printer bay.0 c link.0 m in
      does_then x.store.files printer es fs a bay.0 c k link.0 m (first.each printer a bay.0 k link.0 at bay.1 linked link.1)
      (subst Of first.same.files (second.each printer bay.0 c link.0 m bay.1 at' link.1 linked')));
  passes = passes_append x es fs first.passes (passes_back x y fs first.same.files before second.passes);
  same = record {
    ports = second.same.ports ∙ first.same.ports;
    materials = second.same.materials ∙ first.same.materials;
    bays = second.same.bays ∙ first.same.bays;
    links = second.same.links ∙ first.same.links;
    files = second.same.files ∙ first.same.files;
    limits = λ printer a c at at'. (let bay = was_bay y z printer c second.same.bays at' in
        second.same.limits printer bay.0 c bay.1 at' ∙ first.same.limits printer a bay.0 at bay.1);
  };
  faults =
      came_then x.floor.ledger.fault y.floor.ledger.fault z.floor.ledger.fault x.store.keeper_faults y.store.keeper_faults z.store.keeper_faults
      x.store.shelf_faults y.store.shelf_faults z.store.shelf_faults first.faults second.faults;
}
  where
    before : (printer : ℕ) (b' : BayData) → slice_get y.floor.bays printer ≡ Some b' →
        (b : BayData) × (slice_get x.floor.bays printer ≡ Some b) × (b'.session.desk.limits ≡ b.session.desk.limits)
    before printer b' at' =
        let bay = was_bay x y printer b' first.same.bays at' in
        (bay.0, bay.1, first.same.limits printer bay.0 b' bay.1 at')
