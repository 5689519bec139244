use Rattle.std.proofs.Common.{◌≡◌, length}
use Rattle.gcode_words.specs.Words.{words_of}
use Rattle.gcode_words.proofs.word.WordsIterator.next.Given as goal

abbrev pub invariant-loop-self : goal.invariant-loop-self
invariant-loop-self l = words_of l.initial.self.rest.now ≡ words_of l.self.rest.now

abbrev pub decreases-loop-self : goal.decreases-loop-self
decreases-loop-self l = length l.self.rest.now
