use Rattle.std.proofs.Common.{◌≡◌}
use Rattle.gcode_words.specs.Left.{words_left}
use Rattle.gcode_words.specs.Words.{words_of}
use Rattle.gcode_measure.specs.Values.{numbers_of, with_numbers}
use Rattle.gcode_measure.proofs.values.read_numbers.Given as goal

abbrev pub invariant-loop-word : goal.invariant-loop-word
invariant-loop-word l = numbers_of (words_of l.text) ≡ with_numbers l.values (words_left l.word-iterator)
