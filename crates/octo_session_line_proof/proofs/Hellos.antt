-- How the printer reads a hello under a number of its own.
use Rattle.std.proofs.Common.{◌≡◌, ℕ, zero, suc, ◌<◌, ◌^◌, true, refl, arith}
use Rattle.std.specs.Fmt.{digits}
use Rattle.std.specs.Prelude.{All}
use Rattle.byte_text.specs.Marks.{has_byte, has_m110}
use Rattle.byte_text.specs.Number.{leading_digits, decimal_value, number_of}
use Rattle.byte_text.specs.Xor.{xor_of}
use Rattle.marlin_frame.specs.Frame.{head_of, frame_of, n_parameter_of, has_second_n, line_number_of, IsNumberedLine}
use Rattle.marlin_frame.specs.Numbering.{hello_number, hello_text}
use Rattle.marlin_frame.proofs.FrameLaws.{sum_of, sum_of-lt, begins_with_n-frame, fails-frame, n_parameter_of-frame, text_of-frame}
use Rattle.send_window.specs.Data.{most_hellos}
use Rattle.send_window.specs.Sending.{hello_with}

small_lead : (number : ℕ) → number < most_hellos → number < 2 ^ 32
small_lead number small = omega (arith, small)

hello_bytes : All (λ b. b < 2 ^ 8) hello_text
hello_bytes zero d within = let byte : 77 < 2 ^ 8 = omega arith in byte
hello_bytes (suc zero) d within = let byte : 49 < 2 ^ 8 = omega arith in byte
hello_bytes (suc (suc zero)) d within = let byte : 49 < 2 ^ 8 = omega arith in byte
hello_bytes (suc (suc (suc zero))) d within = let byte : 48 < 2 ^ 8 = omega arith in byte
hello_bytes (suc (suc (suc (suc zero)))) d within = let byte : 32 < 2 ^ 8 = omega arith in byte
hello_bytes (suc (suc (suc (suc (suc zero))))) d within = let byte : 78 < 2 ^ 8 = omega arith in byte
hello_bytes (suc (suc (suc (suc (suc (suc zero)))))) d within = let byte : 49 < 2 ^ 8 = omega arith in byte
hello_bytes (suc (suc (suc (suc (suc (suc (suc k))))))) d within = absurd (omega (arith, within))

hello_sum : (number : ℕ) → number < most_hellos → sum_of number hello_text < 2 ^ 8
hello_sum number small = sum_of-lt number hello_text (small_lead number small) hello_bytes

pub hello_n_parameter : (number : ℕ) → number < most_hellos → n_parameter_of (hello_with number) ≡ number
hello_n_parameter number small = n_parameter_of-frame number hello_text (small_lead number small)

pub hello_sets_number : (number : ℕ) → number < most_hellos → has_m110 (hello_with number) ≡ true
unfolding frame_of head_of xor_of digits has_m110
hello_sets_number zero small = refl
hello_sets_number (suc zero) small = refl
hello_sets_number (suc (suc zero)) small = refl
hello_sets_number (suc (suc (suc zero))) small = refl
hello_sets_number (suc (suc (suc (suc zero)))) small = refl
hello_sets_number (suc (suc (suc (suc (suc zero))))) small = refl
hello_sets_number (suc (suc (suc (suc (suc (suc zero)))))) small = refl
hello_sets_number (suc (suc (suc (suc (suc (suc (suc zero))))))) small = refl
hello_sets_number (suc (suc (suc (suc (suc (suc (suc (suc zero)))))))) small = refl
hello_sets_number (suc (suc (suc (suc (suc (suc (suc (suc (suc zero))))))))) small = refl
hello_sets_number (suc (suc (suc (suc (suc (suc (suc (suc (suc (suc number)))))))))) small = absurd (omega (arith, small))

its_number : (number : ℕ) → number < most_hellos → line_number_of (hello_with number) ≡ hello_number
unfolding frame_of head_of xor_of digits line_number_of has_second_n has_m110 has_byte number_of leading_digits decimal_value
its_number zero small = refl
its_number (suc zero) small = refl
its_number (suc (suc zero)) small = refl
its_number (suc (suc (suc zero))) small = refl
its_number (suc (suc (suc (suc zero)))) small = refl
its_number (suc (suc (suc (suc (suc zero))))) small = refl
its_number (suc (suc (suc (suc (suc (suc zero)))))) small = refl
its_number (suc (suc (suc (suc (suc (suc (suc zero))))))) small = refl
its_number (suc (suc (suc (suc (suc (suc (suc (suc zero)))))))) small = refl
its_number (suc (suc (suc (suc (suc (suc (suc (suc (suc zero))))))))) small = refl
its_number (suc (suc (suc (suc (suc (suc (suc (suc (suc (suc number)))))))))) small = absurd (omega (arith, small))

pub hello_line : (number : ℕ) → number < most_hellos → IsNumberedLine hello_number hello_text (hello_with number)
hello_line number small = record {
  numbered = begins_with_n-frame number hello_text;
  whole = fails-frame number hello_text (hello_sum number small);
  number = its_number number small;
  command = text_of-frame number hello_text (small_lead number small) (hello_sum number small);
}
