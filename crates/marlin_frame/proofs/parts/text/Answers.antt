use Rattle.std.proofs.Common.{length, drop, ap, ◌∙◌, arith}
use Rattle.marlin_frame.specs.Frame.{checked_part, after_first_digits, after_space, text_of}
use Rattle.marlin_frame.proofs.PartLaws.{length-text_of}
use Rattle.marlin_frame.proofs.parts.text.Goals as goal

pub returns-clause-value : goal.returns-clause-value
unfolding text_of checked_part
returns-clause-value c =
    c.after_space.ensures
    ∙ ap after_space (c.after_first_digits.ensures ∙ ap after_first_digits (c.after.ensures ∙ ap (drop 1) c.around_last_star.ensures.before))

pub returns-clause-within : goal.returns-clause-within
returns-clause-within c = omega (arith, ap length (returns-clause-value c), length-text_of c.args.line.now)
