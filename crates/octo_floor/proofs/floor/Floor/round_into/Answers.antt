use Rattle.std.proofs.Common.{◌≡◌, ◌||◌, ℕ, length, true, refl, ap, subst, arith}
use Rattle.printer_link.specs.Calls.{LinkState}
use Rattle.octo_floor.specs.Objects.{store_state, StoreState}
use Rattle.octo_floor.specs.Floor.{FloorData, Setting, setting}
use Rattle.octo_floor.specs.Links.{link_states}
use Rattle.octo_floor.specs.Round.{Steps}
use Rattle.octo_floor.proofs.RoundParts.{at_up, steps_bays, steps_more}
use Rattle.octo_floor.proofs.floor.Floor.round_into.Goals as goal

pub step_at-heard-requires-clause-within : goal.step_at-heard-requires-clause-within
step_at-heard-requires-clause-within g c =
    let same : length c.loop-printer.self.bays ≡ length c.args.self.now.bays =
    steps_bays c.loop-printer.printer c.args.moment _ _ c.loop-printer.heard c.loop-printer.events.items c.loop-printer.invariant.steps
    in
    let end = c.loop-printer.invariant.end in
    let before = c.loop-printer-test.true in
    omega (arith, same, end, before)

pub loop-printer-preserved : goal.loop-printer-preserved
loop-printer-preserved g c =
    let state : _ → LinkState = g.L.Link.state in
    let i = c.loop-printer.invariant in
    let did = c.step_at-heard.ensures.step in
    let x : Setting = setting c.args.self.now (link_states state c.args.links.now)
    (store_state (g.K.Keeper.state c.args.keeper.now) (g.S.Shelf.state c.args.shelf.now))
    in
    let mid : Setting = setting c.loop-printer.self (link_states g.L.Link.state c.loop-printer.links)
    (store_state (g.K.Keeper.state c.loop-printer.keeper) (g.S.Shelf.state c.loop-printer.shelf))
    in
    let y : Setting = setting c.step_at-heard.new.self (link_states state c.step_at-heard.new.links)
    (store_state (g.K.Keeper.state c.step_at-heard.new.keeper) (g.S.Shelf.state c.step_at-heard.new.shelf))
    in
    record {
      steps =
          steps_more c.loop-printer.printer c.args.moment x mid y c.loop-printer.heard c.step_at-heard.result (c.loop-printer.heard || c.step_at-heard.result) c.loop-printer.events.items did.0
          c.step_at-heard.new.events.items i.steps did.2 refl did.1;
      end = i.end;
      moment = refl;
      few = let was = i.few in let more = c.step_at-heard.ensures.few in omega (arith, was, more);
      up = at_up c.loop-printer.printer c.args.moment mid y c.step_at-heard.result did.0 did.2 i.up;
      floor = i.floor;
    }

pub returns : goal.returns
returns g c =
    let state : _ → LinkState = g.L.Link.state in
    let store : StoreState = store_state (g.K.Keeper.state c.loop-printer.keeper) (g.S.Shelf.state c.loop-printer.shelf) in
    let x : Setting = setting c.args.self.now (link_states g.L.Link.state c.args.links.now)
    (store_state (g.K.Keeper.state c.args.keeper.now) (g.S.Shelf.state c.args.shelf.now))
    in
    let stepped : Setting = setting c.loop-printer.self (link_states g.L.Link.state c.loop-printer.links) store in
    let end = c.loop-printer.invariant.end in
    let out = c.loop-printer-test.false in
    let within = c.loop-printer.auto.printer-end in
    let done : c.loop-printer.printer ≡ length c.args.self.now.bays = omega (arith, end, out, within) in
    let Made : FloorData → Setting = λ f. setting (record f { began = true }) (link_states g.L.Link.state c.loop-printer.links) store in
    record {
      round = record {
        stepped = stepped;
        steps = subst (λ (n : ℕ). Steps n c.args.moment x stepped c.loop-printer.heard c.loop-printer.events.items) done c.loop-printer.invariant.steps;
        made = ap Made c.self-2.view_is;
      };
    }
