use Rattle.std.proofs.Common.{◌≡◌}
use Rattle.gcode_words.specs.Left.{words_left}
use Rattle.gcode_words.specs.Words.{words_of}
use Rattle.gcode_measure.specs.Values.{is_named}
use Rattle.gcode_measure.proofs.values.names.Given as goal

abbrev pub invariant-loop-word : goal.invariant-loop-word
invariant-loop-word l = is_named l.letter (words_of l.text) ≡ is_named l.letter (words_left l.word-iterator)
