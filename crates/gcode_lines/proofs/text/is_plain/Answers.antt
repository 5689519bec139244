use Rattle.gcode_lines.proofs.Plain.{kept_plain, short_plain, sound_plain}
use Rattle.gcode_lines.proofs.text.is_plain.Goals as goal

pub returns-then-has_fit_length-clause-kept : goal.returns-then-has_fit_length-clause-kept
returns-then-has_fit_length-clause-kept c =
    kept_plain c.args.text.now c.has_odd.result c.if-has_fit_length.ensures.some c.has_odd.ensures

pub returns-then-has_fit_length-clause-short : goal.returns-then-has_fit_length-clause-short
returns-then-has_fit_length-clause-short c =
    short_plain c.args.text.now c.has_odd.result c.if-has_fit_length.ensures.short

pub returns-then-has_fit_length-clause-sound : goal.returns-then-has_fit_length-clause-sound
returns-then-has_fit_length-clause-sound c =
    sound_plain c.args.text.now c.has_odd.result c.has_odd.ensures
