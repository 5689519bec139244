use Rattle.std.proofs.Common.{◌≡◌}
use Rattle.std.specs.List.{find, filter_map}
use Rattle.gcode_words.specs.Left.{words_left}
use Rattle.gcode_words.specs.Words.{words_of}
use Rattle.temp_rules.specs.Asked.{value_asked}
use Rattle.temp_rules.specs.Hot.{is_above}
use Rattle.temp_rules.proofs.limits.check_heater.Given as goal

abbrev pub invariant-loop-word : goal.invariant-loop-word
invariant-loop-word l =
    find (is_above l.limit) (filter_map (value_asked l.asking) (words_of l.text))
    ≡ find (is_above l.limit) (filter_map (value_asked l.asking) (words_left l.word-iterator))
