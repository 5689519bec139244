use Rattle.byte_text.proofs.NumberLaws.{leading_digits-decimal, number_of-decimal, has_byte-decimal}
use Rattle.byte_text.proofs.laws.number_law.Goals as goal

pub returns : goal.returns
returns c = record { digits = leading_digits-decimal; value = number_of-decimal; only_digits = has_byte-decimal }
