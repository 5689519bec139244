use Rattle.std.proofs.Common.{rules, ◌≡◌, ◌≤◌, ℕ, List, length, sym, ap, subst}
use Rattle.std.specs.Prelude.{slice_get, slice_set}
use Rattle.printer_link.specs.Calls.{LinkState}
use Rattle.octo_floor.specs.Floor.{FloorData}
use Rattle.octo_floor.specs.Links.{link_states}
use Rattle.octo_floor.proofs.floor.Floor.step_at.Given as given
use Rattle.octo_floor.proofs.floor.Floor.step_at.Goals as goal

pub step_over-requires-clause-up : goal.step_over-requires-clause-up
step_over-requires-clause-up g c lifetimes live b is =
    let state : _ → LinkState = g.L.Link.state in
    c.requires.up c.args.printer b (state c.args.links.now.a) is (ap (λ (n : ℕ). slice_get (link_states g.L.Link.state c.args.links.now) n) c.in-0.is)

pub step_over-requires-in-1-clause-up : goal.step_over-requires-in-1-clause-up
step_over-requires-in-1-clause-up g c lifetimes live b is =
    let state : _ → LinkState = g.L.Link.state in
    c.requires.up c.args.printer b (state c.args.links.now.b) is (ap (λ (n : ℕ). slice_get (link_states g.L.Link.state c.args.links.now) n) c.in-1.is)

pub step_over-requires-in-2-clause-up : goal.step_over-requires-in-2-clause-up
step_over-requires-in-2-clause-up g c lifetimes live b is =
    let state : _ → LinkState = g.L.Link.state in
    c.requires.up c.args.printer b (state c.args.links.now.c) is (ap (λ (n : ℕ). slice_get (link_states g.L.Link.state c.args.links.now) n) c.in-2.is)

pub step_over-requires-in-3-clause-up : goal.step_over-requires-in-3-clause-up
step_over-requires-in-3-clause-up g c lifetimes live b is =
    let state : _ → LinkState = g.L.Link.state in
    c.requires.up c.args.printer b (state c.args.links.now.d) is (ap (λ (n : ℕ). slice_get (link_states g.L.Link.state c.args.links.now) n) c.in-3.is)

pub step_over-requires-in-4-clause-up : goal.step_over-requires-in-4-clause-up
step_over-requires-in-4-clause-up g c lifetimes live b is =
    let state : _ → LinkState = g.L.Link.state in
    c.requires.up c.args.printer b (state c.args.links.now.e) is (ap (λ (n : ℕ). slice_get (link_states g.L.Link.state c.args.links.now) n) c.in-4.is)

pub step_over-requires-in-5-clause-up : goal.step_over-requires-in-5-clause-up
step_over-requires-in-5-clause-up g c lifetimes live b is =
    let state : _ → LinkState = g.L.Link.state in
    c.requires.up c.args.printer b (state c.args.links.now.f) is (ap (λ (n : ℕ). slice_get (link_states g.L.Link.state c.args.links.now) n) c.in-5.is)

pub step_over-requires-in-6-clause-up : goal.step_over-requires-in-6-clause-up
step_over-requires-in-6-clause-up g c lifetimes live b is =
    let state : _ → LinkState = g.L.Link.state in
    c.requires.up c.args.printer b (state c.args.links.now.g) is (ap (λ (n : ℕ). slice_get (link_states g.L.Link.state c.args.links.now) n) c.in-6.is)

seven : (g : given.Over) (c : goal.After-step_over-arg-in_default-5-1 g) → c.args.printer ≡ 7
seven g c =
    let few : length c.args.self.now.bays ≤ 8 = subst (λ (f : FloorData). length f.bays ≤ 8) c.self.view_is c.self.invariant.few in
    let within = c.requires.within in
    search rules

pub step_over-requires-in_default-clause-up : goal.step_over-requires-in_default-clause-up
step_over-requires-in_default-clause-up g c lifetimes live b is =
    let state : _ → LinkState = g.L.Link.state in
    c.requires.up c.args.printer b (state c.args.links.now.h) is (ap (λ (n : ℕ). slice_get (link_states g.L.Link.state c.args.links.now) n) (seven g c))

seven_after : (g : given.Over) (c : goal.After-step_over-in_default g) → c.args.printer ≡ 7
seven_after g c =
    let few : length c.args.self.now.bays ≤ 8 = subst (λ (f : FloorData). length f.bays ≤ 8) c.self.view_is c.self.invariant.few in
    let within = c.requires.within in
    search rules

pub returns-in_default-clause-step : goal.returns-in_default-clause-step
returns-in_default-clause-step g c =
    let state : _ → LinkState = g.L.Link.state in
    let did = c.step_over-in_default.ensures.step in
    let at : c.args.printer ≡ 7 = seven_after g c in
    let After : ℕ → List LinkState = λ n. slice_set (link_states g.L.Link.state c.args.links.now) n (state c.step_over-in_default.new.link) in (
      did.0,
      did.1,
      record {
        link = state c.args.links.now.h;
        link' = state c.step_over-in_default.new.link;
        its_link = ap (λ (n : ℕ). slice_get (link_states g.L.Link.state c.args.links.now) n) at;
        over = did.2;
        links_are = sym (ap After at);
      },
    )
