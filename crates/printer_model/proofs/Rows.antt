-- Worked cases of the printer and of the world, computed.
use Rattle.std.proofs.Common.{◌≡◌, ℕ, false, [], ◌∷◌, refl}
use Rattle.std.specs.Prelude.{Some, None, codes}
use Rattle.byte_text.specs.Marks.{has_m110, has_byte}
use Rattle.byte_text.specs.Number.{number_of, decimal_value, leading_digits}
use Rattle.byte_text.specs.Xor.{xor_of}
use Rattle.marlin_frame.specs.Frame.{begins_with_n, checked_part, has_checksum, checksum_matches, fails, n_parameter_of, has_second_n, line_number_of, after_first_digits, after_space, text_of}
use Rattle.printer_model.specs.Printer.{PrinterData, judged, is_out_of_turn, take_line, printer_after_restart}
use Rattle.printer_model.specs.declared.printer.Reason.TheVariants.{WrongNumber, NoChecksum, Mismatch}
use Rattle.printer_model.specs.declared.printer.Taken.TheVariants.{Accepted, Refused}

-- a printer whose last line was this one
abbrev at : ℕ → PrinterData
at last = record { last = last; slots = 4; oks = record { numbered = false; lost = false }; queue = [] }

-- a wrong number
wrong_number : (take_line (at 4) (codes "N7 G28*20")).0 ≡ Refused WrongNumber 4
unfolding judged is_out_of_turn begins_with_n has_checksum fails line_number_of n_parameter_of has_second_n has_m110 has_byte number_of leading_digits decimal_value
wrong_number = refl

-- the hello of any printer
hello : (take_line (at 4) (codes "N0 M110 N1*124")) ≡ (Accepted, record { last = 1; slots = 4; oks = record { numbered = false; lost = false }; queue = record { number = Some 1; n_parameter = Some 0; text = codes "M110 N1" } ∷ [] })
unfolding judged is_out_of_turn begins_with_n checked_part has_checksum checksum_matches fails line_number_of n_parameter_of has_second_n has_m110 has_byte number_of leading_digits decimal_value xor_of text_of after_first_digits after_space
hello = refl

-- a corrupted hello
corrupted : (take_line (at 4) (codes "N0 M110 N1*125")) ≡ (Refused Mismatch 4, at 4)
unfolding judged is_out_of_turn begins_with_n checked_part has_checksum checksum_matches fails line_number_of n_parameter_of has_second_n has_m110 has_byte number_of leading_digits decimal_value xor_of text_of after_first_digits after_space
corrupted = refl

-- a printer that restarted takes none of the lines of a session, whose numbers are 2 and more
after_restart : (take_line (printer_after_restart (at 1)) (codes "N2 G28*17")) ≡ (Refused WrongNumber 0, at 0)
unfolding judged is_out_of_turn begins_with_n has_checksum fails line_number_of n_parameter_of has_second_n has_m110 has_byte number_of leading_digits decimal_value
after_restart = refl

-- no checksum at all, for a line in turn
bare : (take_line (at 4) (codes "N5 G28")) ≡ (Refused NoChecksum 4, at 4)
unfolding judged is_out_of_turn begins_with_n checked_part has_checksum checksum_matches fails line_number_of n_parameter_of has_second_n has_m110 has_byte number_of leading_digits decimal_value xor_of text_of after_first_digits after_space
bare = refl

-- a line without a number
plain : (take_line (at 4) (codes "M105")) ≡ (Accepted, record { last = 4; slots = 4; oks = record { numbered = false; lost = false }; queue = record { number = None; n_parameter = None; text = codes "M105" } ∷ [] })
unfolding judged begins_with_n
plain = refl

-- a second N has the number, the first one is the N parameter
second : (take_line (at 4) (codes "N7 M110 N9*115")).1.queue ≡ record { number = Some 9; n_parameter = Some 7; text = codes "M110 N9" } ∷ []
unfolding judged is_out_of_turn begins_with_n checked_part has_checksum checksum_matches fails line_number_of n_parameter_of has_second_n has_m110 has_byte number_of leading_digits decimal_value xor_of text_of after_first_digits after_space
second = refl
