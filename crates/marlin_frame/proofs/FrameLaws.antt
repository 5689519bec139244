-- A numbered line as its pieces, and what each reading makes of it.
use Rattle.std.proofs.Common.{◌≡◌, ℕ, ◌<◌, ◌≤◌, ◌^◌, true, false, not, ◌&&◌, ◌==◌, cond, List, [], ◌∷◌, ◌++◌, length, drop, decimal, sym, ap, subst, ◌∙◌, refl, arith}
use Rattle.std.specs.List.{list_any, All, before_last, after_last, after_first}
use Rattle.std.proofs.lemmas.Bool.{and_left, or_from, or_right, eq-eqb, true≢false}
use Rattle.std.proofs.lemmas.List.{append_assoc, append-nil, length-append, drop_at}
use Rattle.std.proofs.lemmas.List.Elements.{All-append, All-cons}
use Rattle.std.proofs.lemmas.Fmt.{IsAscii-decimal, length-decimal-le}
use Rattle.std.proofs.lemmas.Str.Ascii.{All-from_ascii}
use Rattle.byte_text.specs.Marks.{has_byte, has_m110}
use Rattle.byte_text.specs.Number.{number_of, begins_with_digit}
use Rattle.byte_text.specs.Xor.{xor_of}
use Rattle.byte_text.proofs.MarkLaws.{has_byte-append, has_m110-around, has_m110-no_m, before_last-append, after_last-append}
use Rattle.byte_text.proofs.NumberLaws.{leading_digits-decimal, number_of-decimal, has_byte-decimal}
use Rattle.byte_text.proofs.XorLaws.{xor_of-lt}
use Rattle.marlin_frame.specs.declared.read.Read.{Read}
use Rattle.marlin_frame.specs.declared.read.Read.TheVariants.{Numbered, BadSum, NoSum, Plain}
use Rattle.marlin_frame.specs.Reading.{IsReading, IsNumbered}
use Rattle.marlin_frame.specs.Frame.{head_of, frame_of, begins_with_n, checked_part, has_checksum, checksum_matches, fails, n_parameter_of, has_second_n, line_number_of, after_first_digits, after_space, text_of, IsNumberedLine}

-- the checksum of a command under a number
abbrev pub sum_of : ℕ → List ℕ → ℕ
sum_of n text = xor_of (head_of n text)

pub head_pieces : (n : ℕ) (text : List ℕ) → head_of n text ≡ 78 ∷ (decimal n ++ 32 ∷ text)
unfolding head_of
head_pieces n text = ap (λ rest. 78 ∷ rest) (append_assoc (decimal n) (32 ∷ []) text)

pub frame_around_star : (n : ℕ) (text : List ℕ) → frame_of n text ≡ head_of n text ++ 42 ∷ decimal (sum_of n text)
unfolding frame_of
frame_around_star n text = append_assoc (head_of n text) (42 ∷ []) (decimal (sum_of n text))

pub frame_pieces : (n : ℕ) (text : List ℕ) → frame_of n text ≡ 78 ∷ (decimal n ++ 32 ∷ (text ++ 42 ∷ decimal (sum_of n text)))
frame_pieces n text =
    frame_around_star n text
    ∙ ap (λ head. head ++ 42 ∷ decimal (sum_of n text)) (head_pieces n text)
    ∙ ap (λ rest. 78 ∷ rest) (append_assoc (decimal n) (32 ∷ text) (42 ∷ decimal (sum_of n text)))

pub begins_with_n-frame : (n : ℕ) (text : List ℕ) → begins_with_n (frame_of n text) ≡ true
unfolding begins_with_n
begins_with_n-frame n text = ap begins_with_n (frame_pieces n text)

pub checked_part-frame : (n : ℕ) (text : List ℕ) → sum_of n text < 2 ^ 8 → checked_part (frame_of n text) ≡ head_of n text
unfolding checked_part
checked_part-frame n text small =
    ap (before_last (λ byte. byte == 42)) (frame_around_star n text)
    ∙ before_last-append 42 (head_of n text) (decimal (sum_of n text)) (has_byte-decimal 42 (sum_of n text) (omega arith) refl)

behind_star-frame : (n : ℕ) (text : List ℕ) → sum_of n text < 2 ^ 8 → after_last (λ byte. byte == 42) (frame_of n text) ≡ decimal (sum_of n text)
behind_star-frame n text small =
    ap (after_last (λ byte. byte == 42)) (frame_around_star n text)
    ∙ after_last-append 42 (head_of n text) (decimal (sum_of n text)) (has_byte-decimal 42 (sum_of n text) (omega arith) refl)

star_first : (rest : List ℕ) → has_byte 42 (42 ∷ rest) ≡ true
unfolding has_byte
star_first rest = refl

m110_in_nothing : has_m110 [] ≡ false
unfolding has_m110
m110_in_nothing = refl

pub has_checksum-frame : (n : ℕ) (text : List ℕ) → has_checksum (frame_of n text) ≡ true
unfolding has_checksum
has_checksum-frame n text =
    ap (has_byte 42) (frame_around_star n text)
    ∙ has_byte-append 42 (head_of n text) (42 ∷ decimal (sum_of n text))
    ∙ or_right (has_byte 42 (head_of n text)) (has_byte 42 (42 ∷ decimal (sum_of n text))) (star_first (decimal (sum_of n text)))

whole_number : (n : ℕ) → n < 2 ^ 32 → number_of (decimal n) ≡ n
unfolding begins_with_digit
whole_number n small = ap number_of (sym (append-nil (decimal n))) ∙ number_of-decimal n [] small refl

pub checksum_matches-frame : (n : ℕ) (text : List ℕ) → sum_of n text < 2 ^ 8 → checksum_matches (frame_of n text) ≡ true
unfolding checksum_matches
checksum_matches-frame n text small =
    eq-eqb (number_of (after_last (λ byte. byte == 42) (frame_of n text))) (xor_of (checked_part (frame_of n text)))
    (ap number_of (behind_star-frame n text small) ∙ whole_number (sum_of n text) (omega arith) ∙ ap xor_of (sym (checked_part-frame n text small)))

pub fails-frame : (n : ℕ) (text : List ℕ) → sum_of n text < 2 ^ 8 → fails (frame_of n text) ≡ false
unfolding fails
fails-frame n text small =
    ap (λ b. b && not (has_checksum (frame_of n text) && checksum_matches (frame_of n text))) (begins_with_n-frame n text)
    ∙ ap (λ b. not (b && checksum_matches (frame_of n text))) (has_checksum-frame n text)
    ∙ ap not (checksum_matches-frame n text small)

pub n_parameter_of-frame : (n : ℕ) (text : List ℕ) → n < 2 ^ 32 → n_parameter_of (frame_of n text) ≡ n
unfolding n_parameter_of begins_with_digit
n_parameter_of-frame n text small =
    ap (λ line. number_of (drop 1 line)) (frame_pieces n text)
    ∙ number_of-decimal n (32 ∷ (text ++ 42 ∷ decimal (sum_of n text))) small refl

after_first_digits-decimal : (n : ℕ) (rest : List ℕ) → n < 2 ^ 32 → begins_with_digit rest ≡ false → after_first_digits (decimal n ++ rest) ≡ rest
unfolding after_first_digits
after_first_digits-decimal n rest small other =
    ap (λ digits. drop (length digits) (decimal n ++ rest)) (leading_digits-decimal n rest (omega arith) other)
    ∙ drop_at (decimal n) rest (length (decimal n)) refl

pub text_of-frame : (n : ℕ) (text : List ℕ) → n < 2 ^ 32 → sum_of n text < 2 ^ 8 → text_of (frame_of n text) ≡ text
unfolding text_of after_space begins_with_digit
text_of-frame n text small fits =
    ap (λ checked. after_space (after_first_digits (drop 1 checked))) (checked_part-frame n text fits ∙ head_pieces n text)
    ∙ ap after_space (after_first_digits-decimal n (32 ∷ text) small refl)

m110_in_decimal : (n : ℕ) → n < 2 ^ 32 → has_m110 (decimal n) ≡ false
m110_in_decimal n small = has_m110-no_m (decimal n) (has_byte-decimal 77 n (omega arith) refl)

pub has_m110-frame : (n : ℕ) (text : List ℕ) → n < 2 ^ 32 → sum_of n text < 2 ^ 8 → has_m110 text ≡ false → has_m110 (frame_of n text) ≡ false
unfolding has_byte
has_m110-frame n text small fits none =
    let sum = decimal (sum_of n text) in
    let inner : has_m110 (text ++ 42 ∷ sum) ≡ false = has_m110-around 42 text sum refl ∙ or_from _ _ none (m110_in_decimal (sum_of n text) (omega arith)) in
    let middle : has_m110 (decimal n ++ 32 ∷ (text ++ 42 ∷ sum)) ≡ false = has_m110-around 32 (decimal n) (text ++ 42 ∷ sum) refl ∙ or_from _ _ (m110_in_decimal n small) inner in
    ap has_m110 (frame_pieces n text)
    ∙ has_m110-around 78 [] (decimal n ++ 32 ∷ (text ++ 42 ∷ sum)) refl
    ∙ or_from _ _ m110_in_nothing middle

pub line_number_of-frame : (n : ℕ) (text : List ℕ) → n < 2 ^ 32 → sum_of n text < 2 ^ 8 → has_m110 text ≡ false → line_number_of (frame_of n text) ≡ n
unfolding line_number_of has_second_n
line_number_of-frame n text small fits none =
    ap (λ b. cond b (number_of (after_first (λ byte. byte == 78) (drop 4 (frame_of n text)))) (n_parameter_of (frame_of n text)))
    (and_left _ _ (has_m110-frame n text small fits none))
    ∙ n_parameter_of-frame n text small

pub length-frame : (n : ℕ) (text : List ℕ) → n < 10 ^ 10 → sum_of n text < 2 ^ 8 → length text ≤ 79 → length (frame_of n text) ≤ 95
length-frame n text small fits short =
    let sum = decimal (sum_of n text) in
    omega (
      arith,
      ap length (frame_pieces n text),
      length-append (decimal n) (32 ∷ (text ++ 42 ∷ sum)),
      length-append text (42 ∷ sum),
      length-decimal-le 10 n (omega arith) small (omega arith),
      length-decimal-le 3 (sum_of n text) (omega arith) (omega arith) (omega arith),
    )

-- a byte is put before bytes that lack another one
still_none : (byte other : ℕ) (bytes : List ℕ) → (other == byte) ≡ false → has_byte byte bytes ≡ false → has_byte byte (other ∷ bytes) ≡ false
unfolding has_byte
still_none byte other bytes apart none = or_from (other == byte) (list_any (λ b. b == byte) bytes) apart none

pub no_line_feed-frame : (n : ℕ) (text : List ℕ) → n < 2 ^ 32 → sum_of n text < 2 ^ 8 → has_byte 10 text ≡ false → has_byte 10 (frame_of n text) ≡ false
no_line_feed-frame n text small fits none =
    let sum = decimal (sum_of n text) in
    let tail : has_byte 10 (42 ∷ sum) ≡ false = still_none 10 42 sum refl (has_byte-decimal 10 (sum_of n text) (omega arith) refl) in
    let rest : has_byte 10 (text ++ 42 ∷ sum) ≡ false = has_byte-append 10 text (42 ∷ sum) ∙ or_from _ _ none tail in
    let whole : has_byte 10 (decimal n ++ 32 ∷ (text ++ 42 ∷ sum)) ≡ false =
    has_byte-append 10 (decimal n) (32 ∷ (text ++ 42 ∷ sum)) ∙ or_from _ _ (has_byte-decimal 10 n (omega arith) refl) (still_none 10 32 (text ++ 42 ∷ sum) refl rest) in
    ap (has_byte 10) (frame_pieces n text) ∙ still_none 10 78 (decimal n ++ 32 ∷ (text ++ 42 ∷ sum)) refl whole

decimal_bytes : (n : ℕ) → n < 2 ^ 32 → All (λ b. b < 2 ^ 8) (decimal n)
decimal_bytes n small k d within =
    let low = All-from_ascii (decimal n) (IsAscii-decimal n (omega arith)) k d within in omega arith

pub sum_of-lt : (n : ℕ) (text : List ℕ) → n < 2 ^ 32 → All (λ b. b < 2 ^ 8) text → sum_of n text < 2 ^ 8
sum_of-lt n text small bytes =
    let IsByte : ℕ → Type 0 = λ b. b < 2 ^ 8 in
    let AreBytes : List ℕ → Type 0 = λ line. All IsByte line in
    xor_of-lt (head_of n text)
    (subst AreBytes (sym (head_pieces n text))
    (All-cons IsByte 78 (decimal n ++ 32 ∷ text) (omega arith)
    (All-append IsByte (decimal n) (32 ∷ text) (decimal_bytes n small) (All-cons IsByte 32 text (omega arith) bytes))))

pub numbered_line : (n : ℕ) (text : List ℕ) → n < 2 ^ 32 → sum_of n text < 2 ^ 8 → has_m110 text ≡ false → IsNumberedLine n text (frame_of n text)
numbered_line n text small fits none = record {
  numbered = begins_with_n-frame n text;
  whole = fails-frame n text fits;
  number = line_number_of-frame n text small fits none;
  command = text_of-frame n text small fits;
}

-- nothing else is read of such a line
pub only_numbered : (n : ℕ) (text : List ℕ) (reading : Read) → n < 2 ^ 32 → sum_of n text < 2 ^ 8 → has_m110 text ≡ false → IsReading reading (frame_of n text) → IsNumbered n text reading
only_numbered n text (Numbered m command) small fits none read =
    (sym read.number ∙ line_number_of-frame n text small fits none, sym read.command ∙ text_of-frame n text small fits)
only_numbered n text BadSum small fits none read = absurd (true≢false (sym (checksum_matches-frame n text fits) ∙ read.2))
only_numbered n text NoSum small fits none read = absurd (true≢false (sym (has_checksum-frame n text) ∙ read.1))
only_numbered n text Plain small fits none read = absurd (true≢false (sym (begins_with_n-frame n text) ∙ read))
