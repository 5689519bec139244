-- The lines that set a target may be sent.
use Rattle.std.proofs.Common.{◌≡◌, ℕ, ◌+◌, ◌<◌, ◌≤◌, ◌^◌, false, List, ◌++◌, length, codes, decimal, refl, ◌∙◌, arith, length-append}
use Rattle.std.proofs.lemmas.Bool.{or_from}
use Rattle.std.proofs.lemmas.Fmt.{length-decimal-le}
use Rattle.byte_text.specs.Marks.{has_byte, has_m110}
use Rattle.byte_text.specs.Sendable.{IsSendable}
use Rattle.byte_text.proofs.MarkLaws.{has_byte-append, has_m110-around, has_m110-no_m}
use Rattle.byte_text.proofs.NumberLaws.{has_byte-decimal}

-- a target's number is short
pub short-number : (degrees : ℕ) → degrees < 2 ^ 16 → length (decimal degrees) ≤ 5
short-number degrees small = length-decimal-le 5 degrees (omega arith) (omega arith) (omega arith)

-- a byte that is no digit isn't in a line of a text without it and a number
without : (byte degrees : ℕ) (text : List ℕ) → degrees < 2 ^ 16 → has_byte byte text ≡ false → has_byte byte (decimal degrees) ≡ false
    → has_byte byte (text ++ decimal degrees) ≡ false
without byte degrees text small front back = has_byte-append byte text (decimal degrees) ∙ or_from _ _ front back

star-in_tool : has_byte 42 (codes "M104 S") ≡ false
unfolding has_byte
star-in_tool = refl

star-in_bed : has_byte 42 (codes "M140 S") ≡ false
unfolding has_byte
star-in_bed = refl

end-in_tool : has_byte 10 (codes "M104 S") ≡ false
unfolding has_byte
end-in_tool = refl

end-in_bed : has_byte 10 (codes "M140 S") ≡ false
unfolding has_byte
end-in_bed = refl

m-in_s : has_byte 77 (codes "S") ≡ false
unfolding has_byte
m-in_s = refl

space-in_m110 : has_byte 32 (codes "M110") ≡ false
unfolding has_byte
space-in_m110 = refl

m110-in_tool : has_m110 (codes "M104") ≡ false
unfolding has_m110
m110-in_tool = refl

m110-in_bed : has_m110 (codes "M140") ≡ false
unfolding has_m110
m110-in_bed = refl

m110-after : (degrees : ℕ) → degrees < 2 ^ 16 → has_m110 (codes "S" ++ decimal degrees) ≡ false
m110-after degrees small =
    has_m110-no_m (codes "S" ++ decimal degrees) (without 77 degrees (codes "S") small m-in_s (has_byte-decimal 77 degrees (omega arith) refl))

pub sendable-tool : (degrees : ℕ) → degrees < 2 ^ 16 → IsSendable (codes "M104 S" ++ decimal degrees)
sendable-tool degrees small =
    let long : length (codes "M104 S" ++ decimal degrees) ≡ 6 + length (decimal degrees) = length-append (codes "M104 S") (decimal degrees) in
    let short : length (decimal degrees) ≤ 5 = short-number degrees small in
    record {
      some = omega arith;
      short = omega arith;
      no_star = without 42 degrees (codes "M104 S") small star-in_tool (has_byte-decimal 42 degrees (omega arith) refl);
      no_line_feed = without 10 degrees (codes "M104 S") small end-in_tool (has_byte-decimal 10 degrees (omega arith) refl);
      no_m110 = has_m110-around 32 (codes "M104") (codes "S" ++ decimal degrees) space-in_m110 ∙ or_from _ _ m110-in_tool (m110-after degrees small);
    }

pub sendable-bed : (degrees : ℕ) → degrees < 2 ^ 16 → IsSendable (codes "M140 S" ++ decimal degrees)
sendable-bed degrees small =
    let long : length (codes "M140 S" ++ decimal degrees) ≡ 6 + length (decimal degrees) = length-append (codes "M140 S") (decimal degrees) in
    let short : length (decimal degrees) ≤ 5 = short-number degrees small in
    record {
      some = omega arith;
      short = omega arith;
      no_star = without 42 degrees (codes "M140 S") small star-in_bed (has_byte-decimal 42 degrees (omega arith) refl);
      no_line_feed = without 10 degrees (codes "M140 S") small end-in_bed (has_byte-decimal 10 degrees (omega arith) refl);
      no_m110 = has_m110-around 32 (codes "M140") (codes "S" ++ decimal degrees) space-in_m110 ∙ or_from _ _ m110-in_bed (m110-after degrees small);
    }

pub ruleset heated_lines = (short-number, sendable-tool, sendable-bed)
