use Rattle.std.proofs.Common.{◌∙◌, ◌<◌, ◌+◌, ◌-◌, ◌++◌, ◌∷◌, ℕ, List, ap, sym, codes, arith}
use Rattle.std.proofs.lemmas.List.{append_assoc}
use Rattle.octo_commands_print.specs.Draws.{draws, upper_bits, number_after}
use Rattle.octo_commands_print.specs.File.{command_of, draw_lines}
use Rattle.octo_commands_print.proofs.DrawLaws.{after-more, draws-more}
use Rattle.octo_commands_print.proofs.file.append_lines.Goals as goal

pub loop-preserved : goal.loop-preserved
loop-preserved c =
    let within : c.loop.counter < c.args.commands = omega arith in
    let left = c.args.commands - (c.loop.counter + 1) in
    let next = c.draw.new.self in
    let drawn_next = draws-more c.loop.numbers c.args.commands c.loop.counter within
    ∙ ap (λ (number : ℕ). upper_bits number ∷ draws number left) (sym c.draw.ensures.number)
    ∙ ap (λ (draw : ℕ). draw ∷ draws next left) (sym c.draw.ensures.value) in
    record {
      lines = c.loop.invariant.lines
          ∙ ap (λ (all : List ℕ). c.loop.file ++ draw_lines all) drawn_next
          ∙ sym (append_assoc c.loop.file (command_of c.draw.result ++ codes "\n") (draw_lines (draws next left)))
          ∙ ap (λ (file : List ℕ). file ++ draw_lines (draws next left)) (sym (c.in_ok-append_line.ensures ∙ append_assoc c.loop.file (command_of c.draw.result) (codes "\n")));
      number = c.loop.invariant.number ∙ after-more c.loop.numbers c.args.commands c.loop.counter within
          ∙ ap (λ (number : ℕ). number_after number left) (sym c.draw.ensures.number);
    }
