-- The words that are still to be read.
use Rattle.std.specs.Prelude.{List}
use Rattle.gcode_words.specs.Words.{words_of}
use Rattle.gcode_words.specs.declared.word.CodeWord.{CodeWord}
use Rattle.gcode_words.specs.declared.word.Words.{Words}

-- the words that an iterator has left
abbrev pub words_left : Words → List CodeWord
words_left w = words_of w.rest.now
