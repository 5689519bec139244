use Rattle.byte_text.proofs.XorLaws.{xor_of-append, xor_of-lt}
use Rattle.byte_text.proofs.laws.xor_law.Goals as goal

pub returns : goal.returns
returns c = record { pieces = xor_of-append; byte = xor_of-lt }
