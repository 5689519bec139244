-- The first line of a file, and its command, found together.
use Rattle.std.proofs.Common.{◌≡◌, ℕ, suc, ◌+◌, ◌-◌, Bool, true, false, not, cond, ◌==◌, ◌||◌, List, [], ◌∷◌, length, take, drop, refl, sym, ap, ◌∙◌, arith}
use Rattle.std.specs.List.{before_first, position_or_len}
use Rattle.std.proofs.lemmas.List.{take_rest}
use Rattle.std.proofs.lemmas.List.Sums.{take_while-cons}
use Rattle.gcode_lines.specs.Text.{is_mark, ends_command}

abbrev is_feed : ℕ → Bool
is_feed byte = byte == 10

-- a line feed is as far as the command and what is left of the line
feed_by : (byte : ℕ) (bytes : List ℕ) (f m : Bool) → is_feed byte ≡ f → is_mark byte ≡ m → position_or_len is_feed bytes ≡ position_or_len ends_command bytes + position_or_len is_feed (drop (position_or_len ends_command bytes) bytes) → position_or_len is_feed (byte ∷ bytes) ≡ position_or_len ends_command (byte ∷ bytes) + position_or_len is_feed (drop (position_or_len ends_command (byte ∷ bytes)) (byte ∷ bytes))
feed_by byte bytes true m e e' rest =
    let none : position_or_len ends_command (byte ∷ bytes) ≡ 0 = ap (λ t. cond (not (t || is_mark byte)) (1 + position_or_len ends_command bytes) 0) e in
    rw none (omega arith)
feed_by byte bytes false true e e' rest =
    let none : position_or_len ends_command (byte ∷ bytes) ≡ 0 =
    ap (λ t. cond (not (t || is_mark byte)) (1 + position_or_len ends_command bytes) 0) e ∙ ap (λ t. cond (not t) (1 + position_or_len ends_command bytes) 0) e' in
    rw none (omega arith)
feed_by byte bytes false false e e' rest =
    let command = position_or_len ends_command bytes in
    let step : 1 + command ≡ suc command = omega arith in
    let others : position_or_len is_feed (drop (1 + command) (byte ∷ bytes)) ≡ position_or_len is_feed (drop command bytes) = ap (λ n. position_or_len is_feed (drop n (byte ∷ bytes))) step in
    rw (e, e') (omega (arith, rest, others))

pub feed-command : (bytes : List ℕ) → position_or_len is_feed bytes ≡ position_or_len ends_command bytes + position_or_len is_feed (drop (position_or_len ends_command bytes) bytes)
feed-command [] = refl
feed-command (byte ∷ bytes) = feed_by byte bytes (is_feed byte) (is_mark byte) refl refl (feed-command bytes)

command_by : (byte : ℕ) (bytes : List ℕ) (f : Bool) → is_feed byte ≡ f → before_first ends_command bytes ≡ before_first is_mark (before_first is_feed bytes) → before_first ends_command (byte ∷ bytes) ≡ before_first is_mark (before_first is_feed (byte ∷ bytes))
command_by byte bytes true e rest =
    take_while-cons (λ b. not (ends_command b)) byte bytes
    ∙ ap (λ t. cond (not (t || is_mark byte)) (byte ∷ before_first ends_command bytes) []) e
    ∙ sym (ap (before_first is_mark) (take_while-cons (λ b. not (is_feed b)) byte bytes ∙ ap (λ t. cond (not t) (byte ∷ before_first is_feed bytes) []) e))
command_by byte bytes false e rest =
    take_while-cons (λ b. not (ends_command b)) byte bytes
    ∙ ap (λ t. cond (not (t || is_mark byte)) (byte ∷ before_first ends_command bytes) []) e
    ∙ ap (λ l. cond (not (is_mark byte)) (byte ∷ l) []) rest
    ∙ sym (take_while-cons (λ b. not (is_mark b)) byte (before_first is_feed bytes))
    ∙ sym (ap (before_first is_mark) (take_while-cons (λ b. not (is_feed b)) byte bytes ∙ ap (λ t. cond (not t) (byte ∷ before_first is_feed bytes) []) e))

-- what is before the end of the command is the first line's command
pub command-line : (bytes : List ℕ) → before_first ends_command bytes ≡ before_first is_mark (before_first is_feed bytes)
command-line [] = refl
command-line (byte ∷ bytes) = command_by byte bytes (is_feed byte) refl (command-line bytes)

-- the same of numbers that were counted so
pub feed_after-command : (bytes : List ℕ) (command others : ℕ) → command ≡ position_or_len ends_command bytes → others ≡ position_or_len is_feed (take (length bytes - command) (drop command bytes)) → command + others ≡ position_or_len is_feed bytes
feed_after-command bytes command others e e' =
    let rest : others ≡ position_or_len is_feed (drop (position_or_len ends_command bytes) bytes) =
    e' ∙ ap (position_or_len is_feed) (take_rest bytes command) ∙ ap (λ n. position_or_len is_feed (drop n bytes)) e in
    omega (arith, e, rest, feed-command bytes)
