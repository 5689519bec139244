-- The three commands that set modes and positions.
use Rattle.std.proofs.Common.{◌≡◌, ℕ, ◌+◌, ◌≤◌, Bool, true, false, cond, nat_le, ◌==◌, ◌||◌, ◌&&◌, not, List, [], ◌∷◌, ◌++◌, length, map, decimal, ◌/◌, ◌%◌, ℤ, pos, unsigned_abs, codes, Some, None, unwrap_or, refl, sym, ap, ◌∙◌, arith}
use Rattle.std.specs.List.{list_all, prefix_len, suffix_len}
use Rattle.std.specs.Char.{is_ascii_alphabetic, to_ascii_uppercase}
use Rattle.std.proofs.lemmas.Bool.{or_parts, or_from, and_parts}
use Rattle.std.proofs.lemmas.Bool.Decides.{nat_tests}
use Rattle.std.proofs.lemmas.List.{append_assoc, append-nil, length-append}
use Rattle.std.proofs.lemmas.List.Folds.{list_all-append}
use Rattle.byte_text.specs.Marks.{has_byte, has_m110}
use Rattle.byte_text.specs.Number.{leading_digits, decimal_value, begins_with_digit}
use Rattle.byte_text.proofs.MarkLaws.{has_m110-no_m}
use Rattle.gcode_lines.specs.Text.{is_mark, is_blank, is_control, has_order_mark, is_numbered, is_skipped, is_too_long, has_control}
use Rattle.gcode_words.specs.Value.{millionths, micro_of, after_digits, decimals_at, after_decimals, magnitude_at, number_at}
use Rattle.gcode_words.specs.Words.{value_at, words_of}
use Rattle.gcode_words.specs.declared.word.CodeWord.{CodeWord}
use Rattle.gcode_measure.specs.declared.head.Head.{Head}
use Rattle.gcode_measure.specs.declared.kind.Kind.TheVariants.{SetPosition}
use Rattle.gcode_measure.specs.declared.kind.Mode.{Mode}
use Rattle.gcode_measure.specs.declared.kind.Mode.TheVariants.{Absolute, Relative}
use Rattle.gcode_measure.specs.declared.values.Axis.{Axis}
use Rattle.gcode_measure.specs.declared.values.Axis.TheVariants.{X, Y, Z, E}
use Rattle.gcode_measure.specs.Decimal.{six_digits, micro_text, sign_text}
use Rattle.gcode_measure.specs.Head.{head_of, is_far, has_far, moved}
use Rattle.gcode_measure.specs.Kind.{kind_by, kind_of}
use Rattle.gcode_measure.specs.Position.{mode_by, mode_set, mode_of, is_move_kind, is_relative, position_of}
use Rattle.gcode_measure.specs.Rest.{axes_command, extruder_command, axis_text, position_command, line_of}
use Rattle.gcode_measure.specs.Values.{value_by, value_of}
use Rattle.gcode_measure.proofs.LineLaws.{Each, IsCommand}
use Rattle.gcode_measure.proofs.PlainLaws.{list_any-excluded, suffix_len-longer}
use Rattle.gcode_measure.proofs.PositionLaws.{mode_of-push, position_of-push}
use Rattle.gcode_measure.proofs.ReadBackLaws.{value_at-micro_text, is_numeral, micro_text-numerals, micro_text-short, words_of-passed}

-- the sizes of positions that are not too far from 0
pub record IsNear (head : Head) : Type 0 where
  pub x : unsigned_abs head.x ≤ 1000000000000
  pub y : unsigned_abs head.y ≤ 1000000000000
  pub z : unsigned_abs head.z ≤ 1000000000000
  pub e : unsigned_abs head.e ≤ 1000000000000

near_by : (at : ℤ) → is_far at ≡ false → unsigned_abs at ≤ 1000000000000
near_by at h = grind (arith, nat_tests)

pub near-head : (head : Head) → has_far head ≡ false → IsNear head
near-head head h =
    let last = or_parts (is_far head.x || is_far head.y || is_far head.z) (is_far head.e) h in
    let third = or_parts (is_far head.x || is_far head.y) (is_far head.z) last.0 in
    let both = or_parts (is_far head.x) (is_far head.y) third.0 in
    record { x = near_by head.x both.0; y = near_by head.y both.1; z = near_by head.z third.1; e = near_by head.e last.1 }

-- the same bytes, joined from the right
abbrev joined : Head → List ℕ
joined head =
    codes "G92 X" ++ (micro_text head.x ++ (codes " Y" ++ (micro_text head.y ++ (codes " Z" ++ (micro_text head.z ++ (codes " E" ++ micro_text head.e))))))

regrouped : (a w b x c y d z : List ℕ) → (a ++ w) ++ (b ++ x) ++ (c ++ y) ++ (d ++ z) ≡ a ++ (w ++ (b ++ (x ++ (c ++ (y ++ (d ++ z))))))
regrouped a w b x c y d z = simp append_assoc

position_command-joined : (head : Head) → position_command head ≡ joined head
unfolding position_command
position_command-joined head =
    regrouped (codes "G92 X") (micro_text head.x) (codes " Y") (micro_text head.y) (codes " Z") (micro_text head.z) (codes " E") (micro_text head.e)

no_letter : (byte : ℕ) → is_numeral byte ≡ true → is_ascii_alphabetic byte ≡ false
no_letter byte h = grind (arith, nat_tests)

words-letter : (letter : ℕ) (at : ℤ) (rest : List ℕ) → is_ascii_alphabetic letter ≡ true → to_ascii_uppercase letter ≡ letter →
    unsigned_abs at ≤ 1000000000000 → begins_with_digit rest ≡ false → words_of (letter ∷ (micro_text at ++ rest)) ≡ record { letter = letter; micro = Some at }
    ∷ words_of rest
words-letter letter at rest is upper near other =
    ap (λ t. cond t (record { letter = to_ascii_uppercase letter; micro = value_at (micro_text at ++ rest) } ∷ words_of (micro_text at ++ rest))
    (words_of (micro_text at ++ rest))) is
    ∙ ap (λ l. record { letter = l; micro = value_at (micro_text at ++ rest) } ∷ words_of (micro_text at ++ rest)) upper
    ∙ ap (λ v. record { letter = letter; micro = v } ∷ words_of (micro_text at ++ rest)) (value_at-micro_text at rest near other)
    ∙ ap (λ words. record { letter = letter; micro = Some at } ∷ words) (words_of-passed (micro_text at) rest
    (list_any-excluded is_numeral is_ascii_alphabetic no_letter (micro_text at) (micro_text-numerals at near)))

begins-space : (rest : List ℕ) → begins_with_digit (32 ∷ rest) ≡ false
unfolding begins_with_digit
begins-space rest = refl

begins-none : begins_with_digit [] ≡ false
unfolding begins_with_digit
begins-none = refl

value-92 : (rest : List ℕ) → value_at (57 ∷ 50 ∷ 32 ∷ rest) ≡ Some (pos 92000000)
unfolding value_at number_at magnitude_at micro_of millionths leading_digits decimal_value after_digits decimals_at after_decimals
value-92 rest = refl

-- the arguments of the command that sets positions
abbrev position_words : Head → List CodeWord
position_words head =
    record { letter = 71; micro = Some (pos 92000000) } ∷ record { letter = 88; micro = Some head.x } ∷ record { letter = 89; micro = Some head.y } ∷
    record { letter = 90; micro = Some head.z } ∷ record { letter = 69; micro = Some head.e } ∷ []

words-position : (head : Head) → IsNear head → words_of (position_command head) ≡ position_words head
words-position head near =
    let after_z : List ℕ = 32 ∷ 69 ∷ micro_text head.e in
    let after_y : List ℕ = 32 ∷ 90 ∷ (micro_text head.z ++ after_z) in
    let after_x : List ℕ = 32 ∷ 89 ∷ (micro_text head.y ++ after_y) in
    let last : words_of (69 ∷ micro_text head.e) ≡ record { letter = 69; micro = Some head.e } ∷ [] =
    ap (λ m. words_of (69 ∷ m)) (sym (append-nil (micro_text head.e))) ∙ words-letter 69 head.e [] refl refl near.e begins-none in
    ap words_of (position_command-joined head)
    ∙ ap (λ v. record { letter = 71; micro = v } ∷ words_of (88 ∷ (micro_text head.x ++ after_x))) (value-92 (88 ∷ (micro_text head.x ++ after_x)))
    ∙ ap (λ ws. record { letter = 71; micro = Some (pos 92000000) } ∷ ws)
    (words-letter 88 head.x after_x refl refl near.x (begins-space (89 ∷ (micro_text head.y ++ after_y)))
    ∙ ap (λ ws. record { letter = 88; micro = Some head.x } ∷ ws) (words-letter 89 head.y after_y refl refl near.y
    (begins-space (90 ∷ (micro_text head.z ++ after_z)))
    ∙ ap (λ ws. record { letter = 89; micro = Some head.y } ∷ ws) (words-letter 90 head.z after_z refl refl near.z (begins-space (69 ∷ micro_text head.e))
    ∙ ap (λ ws. record { letter = 90; micro = Some head.z } ∷ ws) last)))

kind-position : (head : Head) → IsNear head → kind_of (position_command head) ≡ SetPosition
unfolding kind_of
kind-position head near = ap kind_by (words-position head near)

value-position : (head : Head) (axis : Axis) → IsNear head → value_of axis (position_command head) ≡ value_by SetPosition axis (position_words head)
unfolding value_of
value-position head axis near =
    ap (λ k. value_by k axis (words_of (position_command head))) (kind-position head near)
    ∙ ap (value_by SetPosition axis) (words-position head near)

axes-mode : (mode : Mode) → mode_set X (axes_command mode) ≡ Some mode
unfolding kind_of value_at number_at magnitude_at micro_of millionths leading_digits decimal_value after_digits decimals_at after_decimals
axes-mode Absolute = refl
axes-mode Relative = refl

extruder-mode : (mode : Mode) → mode_set E (extruder_command mode) ≡ Some mode
unfolding kind_of value_at number_at magnitude_at micro_of millionths leading_digits decimal_value after_digits decimals_at after_decimals
extruder-mode Absolute = refl
extruder-mode Relative = refl

extruder-axes : (mode : Mode) → mode_set X (extruder_command mode) ≡ None
unfolding kind_of value_at number_at magnitude_at micro_of millionths leading_digits decimal_value after_digits decimals_at after_decimals
extruder-axes Absolute = refl
extruder-axes Relative = refl

-- the commands that set a head's modes and positions
abbrev pub header_of : Head → List (List ℕ)
header_of head = axes_command head.axes ∷ extruder_command head.extruder ∷ position_command head ∷ []

header-axes : (head : Head) → IsNear head → mode_of X (header_of head) ≡ head.axes
header-axes head near =
    let axes = axes_command head.axes in
    let extruder = extruder_command head.extruder in
    let position = kind-position head near in
    mode_of-push X (axes ∷ extruder ∷ []) (position_command head)
    ∙ ap (λ k. unwrap_or (mode_by X k) (mode_of X (axes ∷ extruder ∷ []))) position
    ∙ mode_of-push X (axes ∷ []) extruder
    ∙ ap (λ m. unwrap_or m (mode_of X (axes ∷ []))) (extruder-axes head.extruder)
    ∙ mode_of-push X [] axes
    ∙ ap (λ m. unwrap_or m (mode_of X [])) (axes-mode head.axes)

header-extruder : (head : Head) → IsNear head → mode_of E (header_of head) ≡ head.extruder
header-extruder head near =
    let axes = axes_command head.axes in
    let extruder = extruder_command head.extruder in
    let position = kind-position head near in
    mode_of-push E (axes ∷ extruder ∷ []) (position_command head)
    ∙ ap (λ k. unwrap_or (mode_by E k) (mode_of E (axes ∷ extruder ∷ []))) position
    ∙ mode_of-push E (axes ∷ []) extruder
    ∙ ap (λ m. unwrap_or m (mode_of E (axes ∷ []))) (extruder-mode head.extruder)

header-position : (head : Head) (axis : Axis) → IsNear head → position_of axis (header_of head) ≡ moved false (value_by SetPosition axis (position_words head))
    (position_of axis (axes_command head.axes ∷ extruder_command head.extruder ∷ []))
header-position head axis near =
    let before = axes_command head.axes ∷ extruder_command head.extruder ∷ [] in
    position_of-push axis before (position_command head)
    ∙ ap (λ k. moved (is_move_kind k && is_relative (mode_of axis before)) (value_of axis (position_command head)) (position_of axis before))
    (kind-position head near)
    ∙ ap (λ v. moved false v (position_of axis before)) (value-position head axis near)

-- after them modes and positions are the head's
pub header-head : (head : Head) → IsNear head → head_of (header_of head) ≡ head
header-head head near =
    let axes = header-axes head near in
    let extruder = header-extruder head near in
    let x = header-position head X near in
    let y = header-position head Y near in
    let z = header-position head Z near in
    let e = header-position head E near in
    rw (axes, extruder, x, y, z, e) refl

command-axes : (mode : Mode) → IsCommand (axes_command mode)
unfolding is_skipped has_m110 is_too_long has_control
command-axes Absolute = record { plain = record { mark = refl; front = refl; back = refl }; kept = refl; short = refl; clean = refl }
command-axes Relative = record { plain = record { mark = refl; front = refl; back = refl }; kept = refl; short = refl; clean = refl }

command-extruder : (mode : Mode) → IsCommand (extruder_command mode)
unfolding is_skipped has_m110 is_too_long has_control
command-extruder Absolute = record { plain = record { mark = refl; front = refl; back = refl }; kept = refl; short = refl; clean = refl }
command-extruder Relative = record { plain = record { mark = refl; front = refl; back = refl }; kept = refl; short = refl; clean = refl }

-- whether a byte may be in the command that sets positions
abbrev is_safe : ℕ → Bool
is_safe byte = nat_le 32 byte && nat_le byte 90 && not (byte == 42) && not (byte == 59) && not (byte == 77)

safe_numeral : (byte : ℕ) → is_numeral byte ≡ true → is_safe byte ≡ true
safe_numeral byte h = grind (arith, nat_tests)

safe-numerals : (bytes : List ℕ) → list_all is_numeral bytes ≡ true → list_all is_safe bytes ≡ true
safe-numerals [] each = refl
safe-numerals (byte ∷ bytes) each =
    let parts = and_parts (is_numeral byte) (list_all is_numeral bytes) each in
    ap (λ t. t && list_all is_safe bytes) (safe_numeral byte parts.0) ∙ safe-numerals bytes parts.1

safe-joined : (head : Head) → IsNear head → list_all is_safe (joined head) ≡ true
safe-joined head near =
    let after_z : List ℕ = 32 ∷ 69 ∷ micro_text head.e in
    let after_y : List ℕ = 32 ∷ 90 ∷ (micro_text head.z ++ after_z) in
    let after_x : List ℕ = 32 ∷ 89 ∷ (micro_text head.y ++ after_y) in
    list_all-append is_safe (micro_text head.x) after_x
    ∙ ap (λ t. t && list_all is_safe after_x) (safe-numerals (micro_text head.x) (micro_text-numerals head.x near.x))
    ∙ list_all-append is_safe (micro_text head.y) after_y
    ∙ ap (λ t. t && list_all is_safe after_y) (safe-numerals (micro_text head.y) (micro_text-numerals head.y near.y))
    ∙ list_all-append is_safe (micro_text head.z) after_z
    ∙ ap (λ t. t && list_all is_safe after_z) (safe-numerals (micro_text head.z) (micro_text-numerals head.z near.z))
    ∙ safe-numerals (micro_text head.e) (micro_text-numerals head.e near.e)

safe_no_mark : (byte : ℕ) → is_safe byte ≡ true → is_mark byte ≡ false
safe_no_mark byte h = grind (arith, nat_tests)

safe_no_control : (byte : ℕ) → is_safe byte ≡ true → is_control byte ≡ false
safe_no_control byte h = grind (arith, nat_tests)

safe_no_m : (byte : ℕ) → is_safe byte ≡ true → (byte == 77) ≡ false
safe_no_m byte h = grind (arith, nat_tests)

digit_no_blank : (n : ℕ) → is_blank (48 + n % 10) ≡ false
digit_no_blank n = grind (arith, nat_tests)

six_digits-back : (n : ℕ) → suffix_len is_blank (six_digits n) ≡ 0
six_digits-back n = let last = digit_no_blank n in rw last refl

micro_text-back : (front : List ℕ) (micro : ℤ) → suffix_len is_blank (front ++ micro_text micro) ≡ 0
unfolding micro_text
micro_text-back front micro =
    let part = six_digits (unsigned_abs micro % 1000000) in
    suffix_len-longer is_blank front (sign_text micro ++ decimal (unsigned_abs micro / 1000000) ++ (46 ∷ part))
    (omega (arith, length-append (sign_text micro ++ decimal (unsigned_abs micro / 1000000)) (46 ∷ six_digits (unsigned_abs micro % 1000000))))
    (suffix_len-longer is_blank (sign_text micro ++ decimal (unsigned_abs micro / 1000000)) (46 ∷ part) (omega arith)
    (suffix_len-longer is_blank (46 ∷ []) part (omega arith) (six_digits-back (unsigned_abs micro % 1000000))))

position_command-back : (head : Head) → suffix_len is_blank (position_command head) ≡ 0
unfolding position_command
position_command-back head =
    let front = axis_text (codes "G92 X") head.x ++ axis_text (codes " Y") head.y ++ axis_text (codes " Z") head.z in
    ap (suffix_len is_blank) (sym (append_assoc front (codes " E") (micro_text head.e))) ∙ micro_text-back (front ++ codes " E") head.e

position_command-front : (head : Head) → prefix_len is_blank (position_command head) ≡ 0
unfolding position_command
position_command-front head = refl

joined-short : (head : Head) → IsNear head → length (joined head) ≤ 79
joined-short head near =
    let after_z : List ℕ = 32 ∷ 69 ∷ micro_text head.e in
    let after_y : List ℕ = 32 ∷ 90 ∷ (micro_text head.z ++ after_z) in
    let after_x : List ℕ = 32 ∷ 89 ∷ (micro_text head.y ++ after_y) in
    let x = micro_text-short head.x near.x in
    let y = micro_text-short head.y near.y in
    let z = micro_text-short head.z near.z in
    let e = micro_text-short head.e near.e in
    omega (arith, length-append (micro_text head.x) after_x, length-append (micro_text head.y) after_y, length-append (micro_text head.z) after_z)

short_test : (text : List ℕ) → length text ≤ 79 → is_too_long text ≡ false
unfolding is_too_long
short_test text short = grind (arith, nat_tests)

kept_test : (text : List ℕ) → 1 ≤ length text → has_m110 text ≡ false → is_skipped text ≡ false
unfolding is_skipped
kept_test text some other = or_from (length text == 0) (has_m110 text) (grind (arith, nat_tests)) other

no_m : (text : List ℕ) → list_all is_safe text ≡ true → has_byte 77 text ≡ false
unfolding has_byte
no_m text safe = list_any-excluded is_safe (λ b. b == 77) safe_no_m text safe

clean_test : (text : List ℕ) → list_all is_safe text ≡ true → has_control text ≡ false
unfolding has_control
clean_test text safe = list_any-excluded is_safe is_control safe_no_control text safe

command-position : (head : Head) → IsNear head → IsCommand (position_command head)
command-position head near =
    let same = position_command-joined head in
    let safe : list_all is_safe (position_command head) ≡ true = ap (list_all is_safe) same ∙ safe-joined head near in
    let short : length (position_command head) ≤ 79 = omega (arith, joined-short head near, ap length same) in
    let some : 1 ≤ length (position_command head) = omega (arith, ap length same) in
    record {
      plain = record {
        mark = list_any-excluded is_safe is_mark safe_no_mark (position_command head) safe;
        front = position_command-front head;
        back = position_command-back head;
      };
      kept = kept_test (position_command head) some (has_m110-no_m (position_command head) (no_m (position_command head) safe));
      short = short_test (position_command head) short;
      clean = clean_test (position_command head) safe;
    }

-- each of them is a command that a file may have
pub header-commands : (head : Head) → IsNear head → Each IsCommand (header_of head)
header-commands head near =
    (command-axes head.axes, (command-extruder head.extruder, (command-position head near, tt)))

line-axes : (mode : Mode) → line_of (axes_command mode) ≡ axes_command mode
unfolding is_numbered has_order_mark
line-axes Absolute = refl
line-axes Relative = refl

line-extruder : (mode : Mode) → line_of (extruder_command mode) ≡ extruder_command mode
unfolding is_numbered has_order_mark
line-extruder Absolute = refl
line-extruder Relative = refl

line-position : (head : Head) → line_of (position_command head) ≡ position_command head
unfolding is_numbered has_order_mark position_command
line-position head = refl

-- each of them is written as it is
pub header-lines : (head : Head) → map line_of (header_of head) ≡ header_of head
header-lines head =
    ap (λ l. l ∷ line_of (extruder_command head.extruder) ∷ line_of (position_command head) ∷ []) (line-axes head.axes)
    ∙ ap (λ l. axes_command head.axes ∷ l ∷ line_of (position_command head) ∷ []) (line-extruder head.extruder)
    ∙ ap (λ l. axes_command head.axes ∷ extruder_command head.extruder ∷ l ∷ []) (line-position head)
