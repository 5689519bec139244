use Rattle.std.proofs.Common.{◌≡◌, ◌<◌, ℕ, List, length, get_or, Some, refl, sym, subst, arith}
use Rattle.std.specs.Prelude.{slice_get, slice_set}
use Rattle.std.proofs.lemmas.Option.{slice_get_read}
use Rattle.octo_floor.specs.Objects.{store_state}
use Rattle.octo_floor.specs.Fields.{floor_of}
use Rattle.octo_floor.specs.Floor.{FloorData}
use Rattle.octo_floor.specs.Round.{IsStepOver}
use Rattle.octo_floor.proofs.Floors.{floor_after}
use Rattle.octo_floor.proofs.floor.Floor.step_over.Given as given
use Rattle.octo_floor.proofs.floor.Floor.step_over.Goals as goal

read : {X : Type 0} (xs : List X) (i : ℕ) (x : X) → i < length xs → x ≡ get_or xs i x → slice_get xs i ≡ Some x
read xs i x within is = slice_get_read xs (length xs) i x refl within is

-- the step, from the floor's data
over : (g : given.Over) (c : goal.After-self-1 g) → IsStepOver c.args.printer c.args.moment
    (g.L.Link.state c.args.link.now)
    (g.L.Link.state c.step.new.link)
    (store_state (g.K.Keeper.state c.args.keeper.now) (g.S.Shelf.state c.args.shelf.now))
    (store_state (g.K.Keeper.state c.step.new.keeper) (g.S.Shelf.state c.step.new.shelf)) (floor_of c.self.inside)
    (record (floor_of c.self.inside) { bays = slice_set c.self.inside.bays.items c.args.printer c.step.new.bay; ledger = c.step.new.self }) c.step.result
    c.step.ensures.step.0
over g c =
    let within : c.args.printer < length c.self.inside.bays.items =
    subst (λ (f : FloorData). c.args.printer < length f.bays) (sym c.self.view_is) c.requires.within
    in
    let ports = c.self.invariant.ports in
    let materials = c.self.invariant.materials in
    record {
      bay = c.index_mut-bay.result.now;
      port = c.index.result.now;
      material = c.index-2.result.now;
      its_bay = read c.self.inside.bays.items c.args.printer c.index_mut-bay.result.now within c.index_mut-bay.ensures.value;
      its_port = read c.self.inside.ports.items c.args.printer c.index.result.now (omega (arith, within, ports)) c.index.ensures;
      its_material = read c.self.inside.materials.items c.args.printer c.index-2.result.now (omega (arith, within, materials)) c.index-2.ensures;
      begun = c.dial.new.bay;
      dials = c.dial.ensures;
      after = c.step.new.bay;
      step = c.step.ensures.step.2;
      floor_is = refl;
    }

pub invariant_of-self : goal.invariant_of-self
invariant_of-self g c =
    floor_after c.args.printer c.args.moment (g.L.Link.state c.args.link.now)
    (g.L.Link.state c.step.new.link)
    (store_state (g.K.Keeper.state c.args.keeper.now) (g.S.Shelf.state c.args.shelf.now))
    (store_state (g.K.Keeper.state c.step.new.keeper) (g.S.Shelf.state c.step.new.shelf)) (floor_of c.self.inside)
    (record (floor_of c.self.inside) { bays = slice_set c.self.inside.bays.items c.args.printer c.step.new.bay; ledger = c.step.new.self }) c.step.result
    c.step.ensures.step.0 (over g c) c.self.invariant

pub returns-clause-step : goal.returns-clause-step
returns-clause-step g c =
    let Over : FloorData → Type 0 = λ f. IsStepOver c.args.printer c.args.moment
    (g.L.Link.state c.args.link.now)
    (g.L.Link.state c.step.new.link)
    (store_state (g.K.Keeper.state c.args.keeper.now) (g.S.Shelf.state c.args.shelf.now))
    (store_state (g.K.Keeper.state c.step.new.keeper) (g.S.Shelf.state c.step.new.shelf)) f
    (record (floor_of c.self.inside) { bays = slice_set c.self.inside.bays.items c.args.printer c.step.new.bay; ledger = c.step.new.self }) c.step.result
    c.step.ensures.step.0
    in
    (c.step.ensures.step.0, c.step.ensures.step.1, subst Over c.self.view_is (over g c))
