-- The line with which a session begins, computed.
use Rattle.std.proofs.Common.{◌≡◌, ◌<◌, ◌^◌, true, codes, ap, ◌∙◌, refl, arith}
use Rattle.std.specs.Fmt.{digits}
use Rattle.byte_text.specs.Marks.{has_byte, has_m110}
use Rattle.byte_text.specs.Number.{leading_digits, decimal_value, number_of}
use Rattle.byte_text.specs.Xor.{xor_of}
use Rattle.marlin_frame.specs.Frame.{head_of, frame_of, n_parameter_of, has_second_n, line_number_of, IsNumberedLine}
use Rattle.marlin_frame.specs.Numbering.{hello_number, hello_text, hello_frame}
use Rattle.marlin_frame.proofs.FrameLaws.{sum_of, begins_with_n-frame, fails-frame, n_parameter_of-frame, text_of-frame}

pub hello_bytes : hello_frame ≡ codes "N0 M110 N1*124"
unfolding frame_of head_of xor_of digits
hello_bytes = refl

hello_sum : sum_of 0 hello_text ≡ 124
unfolding head_of xor_of digits
hello_sum = refl

hello_fits : sum_of 0 hello_text < 2 ^ 8
hello_fits = omega (arith, hello_sum)

pub hello_n_parameter : n_parameter_of hello_frame ≡ 0
hello_n_parameter = n_parameter_of-frame 0 hello_text (omega arith)

pub hello_sets_number : has_m110 hello_frame ≡ true
unfolding has_m110
hello_sets_number = ap has_m110 hello_bytes

its_number : line_number_of (codes "N0 M110 N1*124") ≡ hello_number
unfolding line_number_of has_second_n has_m110 has_byte number_of leading_digits decimal_value
its_number = refl

pub hello_line : IsNumberedLine hello_number hello_text hello_frame
hello_line = record {
  numbered = begins_with_n-frame 0 hello_text;
  whole = fails-frame 0 hello_text hello_fits;
  number = ap line_number_of hello_bytes ∙ its_number;
  command = text_of-frame 0 hello_text (omega arith) hello_fits;
}
