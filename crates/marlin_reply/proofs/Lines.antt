-- What the printer's own lines are.
use Rattle.std.proofs.Common.{◌≡◌, ℕ, zero, suc, ◌+◌, ◌-◌, ◌<◌, ◌≤◌, ◌^◌, Bool, true, false, ◌&&◌, ◌==◌, not, cond, List, [], ◌∷◌, ◌++◌, length, take, drop, get_or, reverse, pos, refl, sym, ap, ◌∙◌, arith, Some, None, codes, length-append}
use Rattle.std.proofs.lemmas.Bool.{and_parts}
use Rattle.std.proofs.lemmas.Bool.Decides.{nat_tests}
use Rattle.std.proofs.lemmas.Fmt.{decimal_nonempty, length-decimal-le}
use Rattle.std.proofs.lemmas.List.{get_or-append_right, take_all, append-nil, append_assoc, reverse-append, length-reverse}
use Rattle.std.proofs.lemmas.List.Sums.{suffix_len-take_no}
use Rattle.std.specs.Char.{is_ascii_digit}
use Rattle.std.specs.Fmt.{decimal}
use Rattle.std.specs.Prelude.{nat_le}
use Rattle.std.specs.List.{list_all, prefix_len, suffix_len, find}
use Rattle.std.specs.Option.{option_or, option_and_then}
use Rattle.byte_text.specs.Number.{leading_digits, decimal_value, begins_with_digit}
use Rattle.byte_text.proofs.NumberLaws.{all_digits-decimal, decimal_value-decimal, leading_digits-decimal}
use Rattle.gcode_words.specs.Value.{millionths, micro_of, after_digits, decimals_at, after_decimals, magnitude_at, number_at}
use Rattle.byte_text.specs.Chars.{is_space}
use Rattle.marlin_reply.specs.Pieces.{is_line_end, without_front, without_end, trimmed, begins, after_spaces, starts_after, piece_starts, front_piece, small_number, whole_number, field_at, field_of, first_some}
use Rattle.marlin_reply.specs.Temperatures.{target_at, heat_at, heat_of, temps_of, temps_of_heats}
use Rattle.marlin_reply.specs.Kind.{ok_of, request_of, resend_of, other_reply_of, kind_of_text, kind_of}
use Rattle.marlin_reply.specs.declared.reply.Reply.TheVariants as reply

-- a text of digits alone, one at least
record IsDigits (text : List ℕ) : Type 0 where
  some : 0 < length text
  each : list_all is_ascii_digit text ≡ true

decimal-digits : (n : ℕ) → n < 2 ^ 32 → IsDigits (decimal n)
decimal-digits n small = record { some = decimal_nonempty n (omega arith); each = all_digits-decimal n (omega arith) }

no_line_end : (byte : ℕ) → is_ascii_digit byte ≡ true → is_line_end byte ≡ false
no_line_end byte digit = grind (arith, nat_tests)

no_space : (byte : ℕ) → is_ascii_digit byte ≡ true → (byte == 32) ≡ false
no_space byte digit = grind (arith, nat_tests)

no_colon : (byte : ℕ) → is_ascii_digit byte ≡ true → (58 == byte) ≡ false
no_colon byte digit = grind (arith, nat_tests)

digit_at : (text : List ℕ) (i d : ℕ) → i < length text → list_all is_ascii_digit text ≡ true → is_ascii_digit (get_or text i d) ≡ true
digit_at [] i d h each = absurd (omega arith)
digit_at (byte ∷ bytes) zero d h each = (and_parts (is_ascii_digit byte) (list_all is_ascii_digit bytes) each).0
digit_at (byte ∷ bytes) (suc i) d h each = digit_at bytes i d (omega arith) (and_parts (is_ascii_digit byte) (list_all is_ascii_digit bytes) each).1

-- a text that ends with digits keeps its end
without_end-digits : (front digits : List ℕ) → IsDigits digits → without_end (front ++ digits) ≡ front ++ digits
unfolding without_end
without_end-digits front digits are =
    let long : length (front ++ digits) ≡ length front + length digits = length-append front digits in
    let some : 0 < length digits = are.some in
    let last : get_or (front ++ digits) (length (front ++ digits) - 1) 0 ≡ get_or digits (length (front ++ digits) - 1 - length front) 0 =
    get_or-append_right front digits (length front) (length (front ++ digits) - 1) 0 refl (omega arith) in
    let stays : is_line_end (get_or (front ++ digits) (length (front ++ digits) - 1) 0) ≡ false =
    ap is_line_end last ∙ no_line_end (get_or digits (length (front ++ digits) - 1 - length front) 0) (digit_at digits (length (front ++ digits) - 1 - length front) 0 (omega arith) are.each) in
    let whole : take (length (front ++ digits)) (front ++ digits) ≡ front ++ digits = take_all (length (front ++ digits)) (front ++ digits) (omega arith) in
    let none : suffix_len is_line_end (front ++ digits) ≡ 0 =
    ap (suffix_len is_line_end) (sym whole) ∙ suffix_len-take_no is_line_end (front ++ digits) (length (front ++ digits)) 0 (omega arith) (omega arith) stays in
    take_all (length (front ++ digits) - suffix_len is_line_end (front ++ digits)) (front ++ digits) (omega arith)

take-one-more : (byte n : ℕ) (bytes : List ℕ) → take (1 + n) (byte ∷ bytes) ≡ byte ∷ take n bytes
take-one-more byte n bytes = let e : 1 + n ≡ suc n = omega arith in ap (λ k. take k (byte ∷ bytes)) e

-- a piece of digits, before a space and at the end
front_piece-digits : (digits rest : List ℕ) → list_all is_ascii_digit digits ≡ true → front_piece (digits ++ 32 ∷ rest) ≡ digits
unfolding front_piece
front_piece-digits [] rest each = refl
front_piece-digits (byte ∷ bytes) rest each =
    let both = and_parts (is_ascii_digit byte) (list_all is_ascii_digit bytes) each in
    let later : take (prefix_len (λ b. not (b == 32)) (bytes ++ 32 ∷ rest)) (bytes ++ 32 ∷ rest) ≡ bytes = front_piece-digits bytes rest both.1 in
    ap (λ (v : Bool). take (cond (not v) (1 + prefix_len (λ b. not (b == 32)) (bytes ++ 32 ∷ rest)) 0) (byte ∷ (bytes ++ 32 ∷ rest))) (no_space byte both.0)
    ∙ take-one-more byte (prefix_len (λ b. not (b == 32)) (bytes ++ 32 ∷ rest)) (bytes ++ 32 ∷ rest)
    ∙ ap (λ l. byte ∷ l) later

front_piece-all : (digits : List ℕ) → list_all is_ascii_digit digits ≡ true → front_piece digits ≡ digits
unfolding front_piece
front_piece-all [] each = refl
front_piece-all (byte ∷ bytes) each =
    let both = and_parts (is_ascii_digit byte) (list_all is_ascii_digit bytes) each in
    let later : take (prefix_len (λ b. not (b == 32)) bytes) bytes ≡ bytes = front_piece-all bytes both.1 in
    ap (λ (v : Bool). take (cond (not v) (1 + prefix_len (λ b. not (b == 32)) bytes) 0) (byte ∷ bytes)) (no_space byte both.0)
    ∙ take-one-more byte (prefix_len (λ b. not (b == 32)) bytes) bytes
    ∙ ap (λ l. byte ∷ l) later

-- no piece begins after a digit
starts_after-digits : (digits rest : List ℕ) → list_all is_ascii_digit digits ≡ true → starts_after (digits ++ rest) ≡ starts_after rest
starts_after-digits [] rest each = refl
starts_after-digits (byte ∷ bytes) rest each =
    let both = and_parts (is_ascii_digit byte) (list_all is_ascii_digit bytes) each in
    ap (λ v. cond v ((bytes ++ rest) ∷ starts_after (bytes ++ rest)) (starts_after (bytes ++ rest))) (no_space byte both.0)
    ∙ starts_after-digits bytes rest both.1

starts_after-all : (digits : List ℕ) → list_all is_ascii_digit digits ≡ true → starts_after digits ≡ []
starts_after-all [] each = refl
starts_after-all (byte ∷ bytes) each =
    let both = and_parts (is_ascii_digit byte) (list_all is_ascii_digit bytes) each in
    ap (λ v. cond v (bytes ∷ starts_after bytes) (starts_after bytes)) (no_space byte both.0)
    ∙ starts_after-all bytes both.1

small_number-decimal : (n : ℕ) → n < 2 ^ 32 → small_number (decimal n) ≡ Some n
unfolding small_number
small_number-decimal n small =
    ap (λ v. cond (nat_le v 4294967295) (Some v) None) (decimal_value-decimal n (omega arith)) ∙ grind (arith, nat_tests)

whole_number-decimal : (n : ℕ) → n < 2 ^ 32 → whole_number (decimal n) ≡ Some n
unfolding whole_number
whole_number-decimal n small =
    let are : IsDigits (decimal n) = decimal-digits n small in
    let some : nat_le 1 (length (decimal n)) ≡ true = let h = are.some in grind (arith, nat_tests) in
    ap (λ v. cond (v && list_all is_ascii_digit (decimal n)) (small_number (decimal n)) None) some
    ∙ ap (λ v. cond v (small_number (decimal n)) None) are.each
    ∙ small_number-decimal n small

-- a letter and digits are no mark of a heater
no_mark : (digits : List ℕ) → IsDigits digits → begins (66 ∷ digits) (codes "B:") ≡ false
no_mark [] are = absurd (let h = are.some in omega arith)
no_mark (byte ∷ bytes) are =
    ap (λ v. v && true) (no_colon byte ((and_parts (is_ascii_digit byte) (list_all is_ascii_digit bytes) are.each).0))

-- the free buffer slots of an `ok`, and the whole lines with them
abbrev places_of : List ℕ → List ℕ
places_of block = 80 ∷ 49 ∷ 53 ∷ 32 ∷ 66 ∷ block

abbrev plain_ok : List ℕ → List ℕ
plain_ok block = 111 ∷ 107 ∷ 32 ∷ places_of block

abbrev numbered_ok : List ℕ → List ℕ → List ℕ
numbered_ok number block = 111 ∷ 107 ∷ 32 ∷ 78 ∷ (number ++ 32 ∷ places_of block)

plain_ok-starts : (block : List ℕ) → list_all is_ascii_digit block ≡ true → piece_starts (plain_ok block) ≡ plain_ok block ∷ places_of block ∷ (66 ∷ block) ∷ []
plain_ok-starts block each = ap (λ l. plain_ok block ∷ places_of block ∷ (66 ∷ block) ∷ l) (starts_after-all block each)

numbered_ok-starts : (number block : List ℕ) → list_all is_ascii_digit number ≡ true → list_all is_ascii_digit block ≡ true → piece_starts (numbered_ok number block) ≡ numbered_ok number block ∷ (78 ∷ (number ++ 32 ∷ places_of block)) ∷ places_of block ∷ (66 ∷ block) ∷ []
numbered_ok-starts number block n_each b_each =
    ap (λ l. numbered_ok number block ∷ (78 ∷ (number ++ 32 ∷ places_of block)) ∷ l)
    (starts_after-digits number (32 ∷ places_of block) n_each
    ∙ ap (λ l. places_of block ∷ (66 ∷ block) ∷ l) (starts_after-all block b_each))

-- the free buffer slots of the planner are 15
planner-places : (block : List ℕ) → whole_number (front_piece (49 ∷ 53 ∷ 32 ∷ 66 ∷ block)) ≡ Some 15
unfolding whole_number small_number decimal_value front_piece
planner-places block = refl

block-places : (n : ℕ) → n < 2 ^ 32 → whole_number (front_piece (decimal n)) ≡ Some n
block-places n small =
    let are = decimal-digits n small in
    ap whole_number (front_piece-all (decimal n) are.each) ∙ whole_number-decimal n small

number-places : (n : ℕ) (rest : List ℕ) → n < 2 ^ 32 → whole_number (front_piece (decimal n ++ 32 ∷ rest)) ≡ Some n
number-places n rest small =
    let are = decimal-digits n small in
    ap whole_number (front_piece-digits (decimal n) rest are.each) ∙ whole_number-decimal n small

-- a heater's temperatures if the pieces are known
heat_of-starts : (mark text : List ℕ) (starts : List (List ℕ)) → piece_starts text ≡ starts → find (λ start. begins start mark) starts ≡ None → heat_of mark text ≡ None
unfolding heat_of
heat_of-starts mark text starts are none =
    ap (λ found. option_and_then (λ start. heat_at (drop (length mark) start)) (find (λ start. begins start mark) found)) are
    ∙ ap (option_and_then (λ start. heat_at (drop (length mark) start))) none

temps_of-none : (text : List ℕ) → heat_of (codes "T:") text ≡ None → heat_of (codes "B:") text ≡ None → temps_of text ≡ None
unfolding temps_of
temps_of-none text tool bed = ap (λ h. temps_of_heats h (heat_of (codes "B:") text)) tool ∙ ap (temps_of_heats None) bed

no_temps-last : (block : List ℕ) → IsDigits block → find (λ start. begins start (codes "B:")) ((66 ∷ block) ∷ []) ≡ None
no_temps-last block are = ap (λ v. cond v (Some (66 ∷ block)) None) (no_mark block are)

numbered_ok-is : (n b : ℕ) → n < 2 ^ 32 → b < 2 ^ 32 → ok_of (numbered_ok (decimal n) (decimal b)) ≡ reply.Ok (Some n) (Some 15) (Some b) None
unfolding ok_of field_of field_at
numbered_ok-is n b n_small b_small =
    let n_are = decimal-digits n n_small in
    let b_are = decimal-digits b b_small in
    let text : List ℕ = numbered_ok (decimal n) (decimal b) in
    let starts = numbered_ok-starts (decimal n) (decimal b) n_are.each b_are.each in
    let number : field_of 78 text ≡ Some n =
    ap (first_some (field_at 78)) starts ∙ ap (λ o. option_or o (first_some (field_at 78) (places_of (decimal b) ∷ (66 ∷ decimal b) ∷ []))) (number-places n (places_of (decimal b)) n_small) in
    let planner : field_of 80 text ≡ Some 15 =
    ap (first_some (field_at 80)) starts ∙ ap (λ o. option_or o (first_some (field_at 80) ((66 ∷ decimal b) ∷ []))) (planner-places (decimal b)) in
    let block : field_of 66 text ≡ Some b =
    ap (first_some (field_at 66)) starts ∙ ap (λ o. option_or o None) (block-places b b_small) in
    let temps : temps_of text ≡ None =
    temps_of-none text (heat_of-starts (codes "T:") text _ starts refl) (heat_of-starts (codes "B:") text _ starts (no_temps-last (decimal b) b_are)) in
    ap (λ o. reply.Ok o (field_of 80 text) (field_of 66 text) (temps_of text)) number
    ∙ ap (λ o. reply.Ok (Some n) o (field_of 66 text) (temps_of text)) planner
    ∙ ap (λ o. reply.Ok (Some n) (Some 15) o (temps_of text)) block
    ∙ ap (λ o. reply.Ok (Some n) (Some 15) (Some b) o) temps

plain_ok-is : (b : ℕ) → b < 2 ^ 32 → ok_of (plain_ok (decimal b)) ≡ reply.Ok None (Some 15) (Some b) None
unfolding ok_of field_of field_at
plain_ok-is b b_small =
    let b_are = decimal-digits b b_small in
    let text : List ℕ = plain_ok (decimal b) in
    let starts = plain_ok-starts (decimal b) b_are.each in
    let number : field_of 78 text ≡ None = ap (first_some (field_at 78)) starts in
    let planner : field_of 80 text ≡ Some 15 =
    ap (first_some (field_at 80)) starts ∙ ap (λ o. option_or o (first_some (field_at 80) ((66 ∷ decimal b) ∷ []))) (planner-places (decimal b)) in
    let block : field_of 66 text ≡ Some b =
    ap (first_some (field_at 66)) starts ∙ ap (λ o. option_or o None) (block-places b b_small) in
    let temps : temps_of text ≡ None =
    temps_of-none text (heat_of-starts (codes "T:") text _ starts refl) (heat_of-starts (codes "B:") text _ starts (no_temps-last (decimal b) b_are)) in
    ap (λ o. reply.Ok o (field_of 80 text) (field_of 66 text) (temps_of text)) number
    ∙ ap (λ o. reply.Ok None o (field_of 66 text) (temps_of text)) planner
    ∙ ap (λ o. reply.Ok None (Some 15) o (temps_of text)) block
    ∙ ap (λ o. reply.Ok None (Some 15) (Some b) o) temps

-- a line that begins `ok ` or `Resend:` and ends with digits has nothing to trim
trimmed-digits : (byte : ℕ) (front digits : List ℕ) → is_space byte ≡ false → IsDigits digits → trimmed (byte ∷ front ++ digits) ≡ byte ∷ front ++ digits
unfolding trimmed without_front
trimmed-digits byte front digits solid are =
    ap (λ v. without_end (drop (cond v (1 + prefix_len is_space (front ++ digits)) 0) (byte ∷ front ++ digits))) solid
    ∙ without_end-digits (byte ∷ front) digits are

ok_of-text : (rest : List ℕ) → kind_of_text (111 ∷ 107 ∷ 32 ∷ rest) ≡ ok_of (111 ∷ 107 ∷ 32 ∷ rest)
unfolding kind_of_text
ok_of-text rest = refl

pub kind_of-numbered_ok : (n b : ℕ) → n < 2 ^ 32 → b < 2 ^ 32 → kind_of (codes "ok N" ++ decimal n ++ codes " P15 B" ++ decimal b) ≡ reply.Ok (Some n) (Some 15) (Some b) None
unfolding kind_of
kind_of-numbered_ok n b n_small b_small =
    let front : List ℕ = 107 ∷ 32 ∷ 78 ∷ (decimal n ++ 32 ∷ 80 ∷ 49 ∷ 53 ∷ 32 ∷ 66 ∷ []) in
    ap kind_of_text (trimmed-digits 111 front (decimal b) refl (decimal-digits b b_small))
    ∙ ap (λ l. kind_of_text (111 ∷ 107 ∷ 32 ∷ 78 ∷ l)) (append_assoc (decimal n) (32 ∷ 80 ∷ 49 ∷ 53 ∷ 32 ∷ 66 ∷ []) (decimal b))
    ∙ ok_of-text (78 ∷ (decimal n ++ 32 ∷ places_of (decimal b)))
    ∙ numbered_ok-is n b n_small b_small

pub kind_of-plain_ok : (b : ℕ) → b < 2 ^ 32 → kind_of (codes "ok P15 B" ++ decimal b) ≡ reply.Ok None (Some 15) (Some b) None
unfolding kind_of
kind_of-plain_ok b b_small =
    ap kind_of_text (trimmed-digits 111 (107 ∷ 32 ∷ 80 ∷ 49 ∷ 53 ∷ 32 ∷ 66 ∷ []) (decimal b) refl (decimal-digits b b_small))
    ∙ ok_of-text (places_of (decimal b))
    ∙ plain_ok-is b b_small

pub kind_of-ok : kind_of (codes "ok") ≡ reply.Ok None None None None
unfolding trimmed without_front without_end field_of field_at heat_of temps_of ok_of kind_of_text kind_of
kind_of-ok = refl

pub kind_of-start : kind_of (codes "start") ≡ reply.Start
unfolding trimmed without_front without_end kind_of_text kind_of
kind_of-start = refl

pub kind_of-temps_ok : kind_of (codes "ok T:21.30 /0.00 B:21.22 /0.00 @:0 B@:0") ≡ reply.Ok None None None (Some (record { tool = Some (record { actual = pos 21300000; target = pos 0 }); bed = Some (record { actual = pos 21220000; target = pos 0 }) }))
unfolding leading_digits decimal_value millionths micro_of after_digits decimals_at after_decimals magnitude_at number_at without_front without_end trimmed after_spaces front_piece small_number whole_number field_at field_of target_at heat_at heat_of temps_of ok_of kind_of_text kind_of
kind_of-temps_ok = refl

-- a request
after_spaces-digits : (digits : List ℕ) → IsDigits digits → after_spaces (32 ∷ digits) ≡ digits
unfolding after_spaces
after_spaces-digits [] are = absurd (let h = are.some in omega arith)
after_spaces-digits (byte ∷ bytes) are =
    ap (λ v. drop (1 + cond v (1 + prefix_len (λ b. b == 32) bytes) 0) (32 ∷ byte ∷ bytes)) (no_space byte ((and_parts (is_ascii_digit byte) (list_all is_ascii_digit bytes) are.each).0))

resend_of-decimal : (n : ℕ) → n < 2 ^ 32 → resend_of (decimal n) ≡ reply.Resend n
unfolding resend_of
resend_of-decimal n small =
    let are = decimal-digits n small in
    let some : nat_le 1 (length (decimal n)) ≡ true = let h = are.some in grind (arith, nat_tests) in
    let few : nat_le (length (decimal n)) 10 ≡ true = let h = length-decimal-le 10 n (omega arith) (omega arith) (omega arith) in grind (arith, nat_tests) in
    ap (λ v. cond (v && nat_le (length (decimal n)) 10) (request_of (small_number (decimal n))) reply.Other) some
    ∙ ap (λ v. cond v (request_of (small_number (decimal n))) reply.Other) few
    ∙ ap request_of (small_number-decimal n small)

resend_of-text : (rest : List ℕ) → kind_of_text (codes "Resend:" ++ rest) ≡ resend_of (leading_digits (after_spaces rest))
unfolding kind_of_text
resend_of-text rest = refl

no_digit-none : begins_with_digit [] ≡ false
unfolding begins_with_digit
no_digit-none = refl

leading_digits-whole : (n : ℕ) → n < 2 ^ 32 → leading_digits (decimal n) ≡ decimal n
leading_digits-whole n small = ap leading_digits (sym (append-nil (decimal n))) ∙ leading_digits-decimal n [] (omega arith) (no_digit-none)

pub kind_of-resend : (n : ℕ) → n < 2 ^ 32 → kind_of (codes "Resend: " ++ decimal n) ≡ reply.Resend n
unfolding kind_of
kind_of-resend n small =
    let are = decimal-digits n small in
    ap kind_of_text (trimmed-digits 82 (101 ∷ 115 ∷ 101 ∷ 110 ∷ 100 ∷ 58 ∷ 32 ∷ []) (decimal n) refl are)
    ∙ resend_of-text (32 ∷ decimal n)
    ∙ ap (λ l. resend_of (leading_digits l)) (after_spaces-digits (decimal n) are)
    ∙ ap resend_of (leading_digits-whole n small)
    ∙ resend_of-decimal n small

-- an error, whatever its text
prefix_len-stops : (test : ℕ → Bool) (front back : List ℕ) (byte : ℕ) → test byte ≡ false → prefix_len test (front ++ byte ∷ back) ≤ length front
prefix_len-stops test [] back byte stops = let e : prefix_len test (byte ∷ back) ≡ 0 = ap (λ v. cond v (1 + prefix_len test back) 0) stops in omega arith
prefix_len-stops test (first ∷ front) back byte stops =
    let later = prefix_len-stops test front back byte stops in
    elim (test first) as (λ v. cond v (1 + prefix_len test (front ++ byte ∷ back)) 0 ≤ length (first ∷ front)) [ true ↦ omega arith | false ↦ omega arith ]

error-ends : (rest : List ℕ) → suffix_len is_line_end (codes "Error:" ++ rest) ≤ length rest
error-ends rest =
    let turned : reverse (codes "Error:" ++ rest) ≡ reverse rest ++ 58 ∷ 114 ∷ 111 ∷ 114 ∷ 114 ∷ 69 ∷ [] = reverse-append (codes "Error:") rest in
    let stops = prefix_len-stops is_line_end (reverse rest) (114 ∷ 111 ∷ 114 ∷ 114 ∷ 69 ∷ []) 58 refl in
    let e : prefix_len is_line_end (reverse (codes "Error:" ++ rest)) ≡ prefix_len is_line_end (reverse rest ++ 58 ∷ 114 ∷ 111 ∷ 114 ∷ 114 ∷ 69 ∷ []) = ap (prefix_len is_line_end) turned in
    let same : length (reverse rest) ≡ length rest = length-reverse rest in
    omega arith

error-front : (kept : ℕ) (rest : List ℕ) → 6 ≤ kept → kind_of_text (take kept (codes "Error:" ++ rest)) ≡ reply.Error
unfolding kind_of_text other_reply_of
error-front zero rest h = absurd (omega arith)
error-front (suc zero) rest h = absurd (omega arith)
error-front (suc (suc zero)) rest h = absurd (omega arith)
error-front (suc (suc (suc zero))) rest h = absurd (omega arith)
error-front (suc (suc (suc (suc zero)))) rest h = absurd (omega arith)
error-front (suc (suc (suc (suc (suc zero))))) rest h = absurd (omega arith)
error-front (suc (suc (suc (suc (suc (suc kept)))))) rest h = refl

pub kind_of-error : (rest : List ℕ) → kind_of (codes "Error:" ++ rest) ≡ reply.Error
unfolding kind_of trimmed without_front without_end
kind_of-error rest =
    let ends = error-ends rest in
    error-front (length (codes "Error:" ++ rest) - suffix_len is_line_end (codes "Error:" ++ rest)) rest (omega arith)
