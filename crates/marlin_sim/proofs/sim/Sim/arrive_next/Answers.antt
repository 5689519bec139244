use Rattle.std.proofs.Common.{ℕ, List, refl, subst, ap, ◌∙◌}
use Rattle.printer_model.specs.Printer.{take_line}
use Rattle.marlin_sim.specs.Signed.{signed_replies}
use Rattle.marlin_sim.specs.Sim.{SimData, Arrived, with_replies}
use Rattle.marlin_sim.proofs.Lost.{after_err}
use Rattle.marlin_sim.proofs.Steps.{arrived_of, sim_of}
use Rattle.marlin_sim.proofs.sim.Sim.arrive_next.Goals as goal

pub returns-in_ok-put_replies-in_default-taken-clause-ok : goal.returns-in_ok-put_replies-in_default-taken-clause-ok
returns-in_ok-put_replies-in_default-taken-clause-ok c =
    let before = c.self.inside in
    let is = c.arrive-taken.ensures.taken ∙ ap (λ (l : List ℕ). (take_line before.printer l).0) c.given.ensures.value in
    let after = c.arrive-taken.ensures.after ∙ ap (λ (l : List ℕ). (take_line before.printer l).1) c.given.ensures.value in
    let After : SimData → Type 0 = λ s. Arrived s (sim_of c.arrive-taken.new.self c.below_after-below.result c.drop_next.new.self c.put_replies.new.replies before.text) in
    subst After c.self.view_is
    (arrived_of before.printer c.arrive-taken.new.self before.below c.below_after-below.result before.lines c.drop_next.new.self before.replies c.put_replies.new.replies before.text c.in-Some.line.now c.arrive-taken.result c.in-Some.ensures.0 is after c.in_default-taken.not-Full c.below_after-below.ensures c.drop_next.ensures c.in_ok-put_replies-in_default-taken.ensures.ok)

pub returns-in_err-put_replies-in_default-taken-clause-err : goal.returns-in_err-put_replies-in_default-taken-clause-err
returns-in_err-put_replies-in_default-taken-clause-err c =
    let before = c.self.inside in
    let is = c.arrive-taken.ensures.taken ∙ ap (λ (l : List ℕ). (take_line before.printer l).0) c.given.ensures.value in
    let after = c.arrive-taken.ensures.after ∙ ap (λ (l : List ℕ). (take_line before.printer l).1) c.given.ensures.value in
    let all = with_replies before.replies (signed_replies before.below c.arrive-taken.result) in
    let After : SimData → Type 0 = λ s. Arrived s (sim_of c.arrive-taken.new.self c.below_after-below.result c.drop_next.new.self all before.text) in
    after_err c.from_residual.result (
      all,
      subst After c.self.view_is
          (arrived_of before.printer c.arrive-taken.new.self before.below c.below_after-below.result before.lines c.drop_next.new.self before.replies all before.text c.in-Some.line.now c.arrive-taken.result c.in-Some.ensures.0 is after c.in_default-taken.not-Full c.below_after-below.ensures c.drop_next.ensures refl),
    )
