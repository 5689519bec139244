use Rattle.std.proofs.Common.{◌≡◌, ◌≤◌, ◌++◌, take, replicate}
use Rattle.byte_text.specs.Number.{decimal_value}
use Rattle.gcode_words.proofs.Digits.{at_most_decimals}
use Rattle.gcode_words.proofs.number.first_decimals.Given as goal

abbrev pub invariant-loop-place : goal.invariant-loop-place
invariant-loop-place l = record {
  value : l.value ≡ decimal_value (take l.place (l.decimals ++ replicate 6 48));
  small : l.value ≤ at_most_decimals l.place;
}
