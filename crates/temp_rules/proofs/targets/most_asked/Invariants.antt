use Rattle.std.proofs.Common.{◌≡◌, fold, map, max}
use Rattle.std.specs.List.{filter_map}
use Rattle.gcode_words.specs.Left.{words_left}
use Rattle.gcode_words.specs.Words.{words_of}
use Rattle.temp_rules.specs.Asked.{value_asked, degrees_up}
use Rattle.temp_rules.proofs.targets.most_asked.Given as goal

abbrev pub invariant-loop-word : goal.invariant-loop-word
invariant-loop-word l =
    fold max 0 (map degrees_up (filter_map (value_asked l.asking) (words_of l.text)))
    ≡ fold max l.most (map degrees_up (filter_map (value_asked l.asking) (words_left l.word-iterator)))
