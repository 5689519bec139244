-- Why a text that is neither skipped nor refused may be sent.
use Rattle.std.proofs.Common.{◌≡◌, ℕ, ◌-◌, zero, suc, ◌<◌, ◌≤◌, Bool, true, false, ◌==◌, cond, List, [], ◌∷◌, length, take, drop, refl, arith}
use Rattle.std.specs.List.{list_any, before_first, position_or_len, prefix_len, suffix_len}
use Rattle.std.proofs.lemmas.Bool.{or_parts, or_from}
use Rattle.std.proofs.lemmas.Bool.Decides.{nat_tests}
use Rattle.std.proofs.lemmas.List.Folds.{list_any_none}
use Rattle.std.proofs.lemmas.List.Sums.{fails_before_first}
use Rattle.std.proofs.lemmas.List.{get_or-take, length-take}
use Rattle.std.specs.Char.{is_ascii_digit}
use Rattle.byte_text.specs.Marks.{has_byte, has_m110}
use Rattle.byte_text.specs.Sendable.{IsSendable}
use Rattle.byte_text.specs.Chars.{is_space}
use Rattle.gcode_lines.specs.Text.{is_mark, is_blank, is_control, without_front, without_end, trimmed, is_numbered, without_number, order_mark_len, without_order_mark, command_part, command_text, is_skipped, is_too_long, has_control}

pub list_any-take : (test : ℕ → Bool) (n : ℕ) (xs : List ℕ) → list_any test xs ≡ false → list_any test (take n xs) ≡ false
list_any-take test zero xs h = refl
list_any-take test (suc n) [] h = refl
list_any-take test (suc n) (x ∷ xs) h =
    let parts = or_parts (test x) (list_any test xs) h in
    or_from _ _ parts.0 (list_any-take test n xs parts.1)

pub list_any-drop : (test : ℕ → Bool) (n : ℕ) (xs : List ℕ) → list_any test xs ≡ false → list_any test (drop n xs) ≡ false
list_any-drop test zero xs h = h
list_any-drop test (suc n) [] h = refl
list_any-drop test (suc n) (x ∷ xs) h =
    list_any-drop test n xs (or_parts (test x) (list_any test xs) h).1

pub list_any-weaker : (p q : ℕ → Bool) → ((x : ℕ) → p x ≡ false → q x ≡ false) → (xs : List ℕ) → list_any p xs ≡ false → list_any q xs ≡ false
list_any-weaker p q weaker [] h = refl
list_any-weaker p q weaker (x ∷ xs) h =
    let parts = or_parts (p x) (list_any p xs) h in
    or_from _ _ (weaker x parts.0) (list_any-weaker p q weaker xs parts.1)

no_star_in_front : (line : List ℕ) → list_any (λ b. b == 42) (before_first is_mark line) ≡ false
no_star_in_front line =
    list_any_none (λ b. b == 42) (before_first is_mark line)
    (λ k d h. let lt : k < position_or_len is_mark line = omega (arith, length-take (position_or_len is_mark line) line) in
    rw get_or-take ((or_parts _ _ (fails_before_first is_mark line k d lt)).1))

no_star-front : (test : ℕ → Bool) (bytes : List ℕ) → list_any (λ b. b == 42) bytes ≡ false → list_any (λ b. b == 42) (without_front test bytes) ≡ false
unfolding without_front
no_star-front test bytes h = list_any-drop _ (prefix_len test bytes) bytes h

no_star-end : (test : ℕ → Bool) (bytes : List ℕ) → list_any (λ b. b == 42) bytes ≡ false → list_any (λ b. b == 42) (without_end test bytes) ≡ false
unfolding without_end
no_star-end test bytes h = list_any-take _ (length bytes - suffix_len test bytes) bytes h

no_star-trimmed : (bytes : List ℕ) → list_any (λ b. b == 42) bytes ≡ false → list_any (λ b. b == 42) (trimmed bytes) ≡ false
unfolding trimmed
no_star-trimmed bytes h = no_star-end is_blank _ (no_star-front is_blank bytes h)

no_star-number : (text : List ℕ) → list_any (λ b. b == 42) text ≡ false → list_any (λ b. b == 42) (without_number text) ≡ false
unfolding without_number
no_star-number text h =
    elim (is_numbered text) as (λ v. list_any (λ b. b == 42) (cond v (without_front is_space (without_front is_ascii_digit (drop 1 text))) text) ≡ false) [
      | true ↦ no_star-front is_space _ (no_star-front is_ascii_digit _ (list_any-drop _ 1 text h))
      | false ↦ h
    ]

-- no text of a line has a star
pub no_star-command_text : (line : List ℕ) → has_byte 42 (command_text line) ≡ false
unfolding has_byte command_text command_part without_order_mark
no_star-command_text line =
    no_star-number _ (no_star-trimmed _ (list_any-drop _ (order_mark_len (before_first is_mark line)) (before_first is_mark line) (no_star_in_front line)))

pub line_feed_is_control : (x : ℕ) → is_control x ≡ false → (x == 10) ≡ false
line_feed_is_control x h = grind (arith, nat_tests)

no_line_feed : (text : List ℕ) → has_control text ≡ false → has_byte 10 text ≡ false
unfolding has_control has_byte
no_line_feed text h = list_any-weaker is_control (λ b. b == 10) line_feed_is_control text h

pub some_from_kept : (text : List ℕ) → is_skipped text ≡ false → 1 ≤ length text
unfolding is_skipped
some_from_kept text h = let e = (or_parts (length text == 0) (has_m110 text) h).0 in grind (arith, nat_tests)

no_m110_from_kept : (text : List ℕ) → is_skipped text ≡ false → has_m110 text ≡ false
unfolding is_skipped
no_m110_from_kept text h = (or_parts (length text == 0) (has_m110 text) h).1

pub short_from_test : (text : List ℕ) → is_too_long text ≡ false → length text ≤ 79
unfolding is_too_long
short_from_test text h = grind (arith, nat_tests)

pub kept_from_parts : (text : List ℕ) → (length text == 0) ≡ false → has_m110 text ≡ false → is_skipped text ≡ false
unfolding is_skipped
kept_from_parts text some other = or_from (length text == 0) (has_m110 text) some other

-- what a line says may be sent if it is neither skipped nor refused
pub sendable_text : (line : List ℕ) → is_skipped (command_text line) ≡ false → is_too_long (command_text line) ≡ false → has_control (command_text line) ≡ false → IsSendable (command_text line)
sendable_text line kept short clean =
    record {
      some = some_from_kept _ kept;
      short = short_from_test _ short;
      no_star = no_star-command_text line;
      no_line_feed = no_line_feed _ clean;
      no_m110 = no_m110_from_kept _ kept;
    }

-- the same if both reasons to skip it were tested apart
pub sendable_one : (line : List ℕ) → (length (command_text line) == 0) ≡ false → has_m110 (command_text line) ≡ false → is_too_long (command_text line) ≡ false → has_control (command_text line) ≡ false → IsSendable (command_text line)
sendable_one line some other short clean = sendable_text line (kept_from_parts (command_text line) some other) short clean
