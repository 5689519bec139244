use Rattle.std.proofs.Common.{◌∙◌, ◌<◌, ◌+◌, ◌-◌, ◌++◌, ◌∷◌, [], ℕ, List, ap, sym, arith}
use Rattle.std.proofs.lemmas.List.{append_assoc}
use Rattle.printer_link.specs.declared.schedule.Fate.{Fate}
use Rattle.octo_commands_print.specs.Draws.{draws, upper_bits}
use Rattle.octo_commands_print.specs.Fates.{fate_after, fates_after, harmed_after}
use Rattle.octo_commands_print.proofs.DrawLaws.{draws-more}
use Rattle.octo_commands_print.proofs.schedule.append_fates.Goals as goal

pub loop-preserved : goal.loop-preserved
loop-preserved c =
    let within : c.loop.counter < c.args.count = omega arith in
    let next = c.append_fate.new.numbers in
    let left = draws next (c.args.count - (c.loop.counter + 1)) in
    let told = c.in_ok-harmed.ensures in
    let fate = fate_after c.loop.harmed (upper_bits next) in
    let drawn_next = draws-more c.loop.numbers c.args.count c.loop.counter within
    ∙ ap (λ (number : ℕ). upper_bits number ∷ draws number (c.args.count - (c.loop.counter + 1))) (sym told.number) in
    record {
      fates = c.loop.invariant.fates
          ∙ ap (λ (all : List ℕ). c.loop.fates ++ fates_after c.loop.harmed all) drawn_next
          ∙ sym (append_assoc c.loop.fates (fate ∷ []) (fates_after (harmed_after c.loop.harmed fate) left))
          ∙ ap (λ (fates : List Fate). fates ++ fates_after (harmed_after c.loop.harmed fate) left) (sym told.fate)
          ∙ ap (λ (harmed : ℕ). c.append_fate.new.fates ++ fates_after harmed left) (sym told.harmed);
      few = told.few;
    }
