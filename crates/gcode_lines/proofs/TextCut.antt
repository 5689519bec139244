-- The text of a line is what the line holds from the text's place on.
use Rattle.std.proofs.Common.{◌≡◌, ℕ, ◌+◌, ◌-◌, ◌≤◌, Bool, true, false, cond, List, [], ◌∷◌, ◌++◌, length, take, drop, nat_eq, refl, sym, ap, ◌∙◌, arith}
use Rattle.std.proofs.lemmas.List.{take-append-drop, append-nil, append_assoc, length-append, length-take-le}
use Rattle.std.proofs.lemmas.List.Sums.{prefix_len-le-length}
use Rattle.std.proofs.Math.Seq.{take-append_seam, drop-append_seam}
use Rattle.std.specs.Char.{is_ascii_digit}
use Rattle.std.specs.List.{before_first, position_or_len, prefix_len, suffix_len, starts_with}
use Rattle.std.proofs.lemmas.Bool.{and_parts}
use Rattle.byte_text.specs.Chars.{is_space}
use Rattle.gcode_lines.specs.Text.{is_mark, is_blank, without_front, without_end, trimmed, is_numbered, without_number, number_len, has_order_mark, order_mark_len, without_order_mark, command_part, command_text, begin_of}

-- a part of a list from a place on
pub record IsPart (whole : List ℕ) (place : ℕ) (part : List ℕ) : Type 0 where
  pub front : List ℕ
  pub back : List ℕ
  pub joined : whole ≡ front ++ (part ++ back)
  pub far : length front ≡ place

pub IsPart-cut : (whole : List ℕ) (place : ℕ) (part : List ℕ) → IsPart whole place part → take (length part) (drop place whole) ≡ part
IsPart-cut whole place part p =
    ap (λ n. take (length part) (drop n whole)) (sym p.far)
    ∙ ap (λ l. take (length part) (drop (length p.front) l)) p.joined
    ∙ ap (λ l. take (length part) l) (drop-append_seam p.front (part ++ p.back))
    ∙ take-append_seam part p.back

pub IsPart-ends : (whole : List ℕ) (place : ℕ) (part : List ℕ) → IsPart whole place part → place + length part ≤ length whole
IsPart-ends whole place part p =
    omega (arith, p.far, ap length p.joined, length-append p.front (part ++ p.back), length-append part p.back)

-- a part of a part
pub IsPart-part : (whole : List ℕ) (m : ℕ) (middle : List ℕ) (n : ℕ) (part : List ℕ) → IsPart whole m middle → IsPart middle n part → IsPart whole (m + n) part
IsPart-part whole m middle n part outer inner =
    record {
      front = outer.front ++ inner.front;
      back = inner.back ++ outer.back;
      joined = outer.joined ∙ ap (λ l. outer.front ++ (l ++ outer.back)) inner.joined ∙ simp append_assoc;
      far = omega (arith, length-append outer.front inner.front, outer.far, inner.far);
    }

pub IsPart-take : (n : ℕ) (whole : List ℕ) → IsPart whole 0 (take n whole)
IsPart-take n whole = record { front = []; back = drop n whole; joined = sym (take-append-drop n whole); far = refl }

pub IsPart-drop : (n : ℕ) (whole : List ℕ) → n ≤ length whole → IsPart whole n (drop n whole)
IsPart-drop n whole inside =
    record {
      front = take n whole;
      back = [];
      joined = sym (take-append-drop n whole) ∙ ap (λ l. take n whole ++ l) (sym (append-nil (drop n whole)));
      far = length-take-le n whole inside;
    }

-- what is left of a list without some of its front
pub record IsEnd (whole rest : List ℕ) : Type 0 where
  pub front : List ℕ
  pub joined : whole ≡ front ++ rest

IsEnd-part : (whole rest : List ℕ) → IsEnd whole rest → IsPart whole (length whole - length rest) rest
IsEnd-part whole rest e =
    record {
      front = e.front;
      back = [];
      joined = e.joined ∙ ap (λ l. e.front ++ l) (sym (append-nil rest));
      far = omega (arith, ap length e.joined, length-append e.front rest);
    }

IsEnd-drop : (n : ℕ) (whole : List ℕ) → IsEnd whole (drop n whole)
IsEnd-drop n whole = record { front = take n whole; joined = sym (take-append-drop n whole) }

IsEnd-end : (whole middle rest : List ℕ) → IsEnd whole middle → IsEnd middle rest → IsEnd whole rest
IsEnd-end whole middle rest outer inner =
    record {
      front = outer.front ++ inner.front;
      joined = outer.joined ∙ ap (λ l. outer.front ++ l) inner.joined ∙ sym (append_assoc outer.front inner.front rest);
    }

IsEnd-front : (test : ℕ → Bool) (bytes : List ℕ) → IsEnd bytes (without_front test bytes)
unfolding without_front
IsEnd-front test bytes = IsEnd-drop (prefix_len test bytes) bytes

IsEnd-number : (text : List ℕ) → IsEnd text (without_number text)
unfolding without_number
IsEnd-number text =
    let digits = without_front is_ascii_digit (drop 1 text) in
    elim (is_numbered text) as (λ v. IsEnd text (cond v (without_front is_space digits) text)) [
      | true ↦ IsEnd-end text digits (without_front is_space digits) (IsEnd-end text (drop 1 text) digits (IsEnd-drop 1 text) (IsEnd-front is_ascii_digit (drop 1 text))) (IsEnd-front is_space digits)
      | false ↦ record { front = []; joined = refl }
    ]

IsPart-number : (text : List ℕ) → IsPart text (number_len text) (without_number text)
unfolding number_len
IsPart-number text = IsEnd-part text (without_number text) (IsEnd-number text)

IsPart-trimmed : (bytes : List ℕ) → IsPart bytes (prefix_len is_blank bytes) (trimmed bytes)
unfolding trimmed without_front without_end
IsPart-trimmed bytes =
    let rest = drop (prefix_len is_blank bytes) bytes in
    let none : prefix_len is_blank bytes + 0 ≡ prefix_len is_blank bytes = omega arith in
    rw none at (IsPart-part bytes (prefix_len is_blank bytes) rest 0 (trimmed bytes) (IsPart-drop (prefix_len is_blank bytes) bytes (prefix_len-le-length is_blank bytes)) (IsPart-take (length rest - suffix_len is_blank rest) rest))

order_mark_by : (line : List ℕ) (t : Bool) → starts_with nat_eq line (239 ∷ 187 ∷ 191 ∷ []) ≡ t → cond t 3 0 ≤ length line
order_mark_by line false e = omega arith
order_mark_by [] true e = absurd (let bad : false ≡ true = e in cc)
order_mark_by (a ∷ []) true e = absurd (let bad : false ≡ true = (and_parts _ _ e).1 in cc)
order_mark_by (a ∷ (b ∷ [])) true e = absurd (let bad : false ≡ true = (and_parts _ _ (and_parts _ _ e).1).1 in cc)
order_mark_by (a ∷ (b ∷ (c ∷ rest))) true e = omega arith

-- a line with a byte order mark has its three bytes
pub order_mark_long : (line : List ℕ) → has_order_mark line ≡ true → 3 ≤ length line
unfolding has_order_mark
order_mark_long line e = order_mark_by line true e

-- a byte order mark ends in its line
pub order_mark_fits : (line : List ℕ) → order_mark_len line ≤ length line
unfolding order_mark_len has_order_mark
order_mark_fits line = order_mark_by line (starts_with nat_eq line (239 ∷ 187 ∷ 191 ∷ [])) refl

IsPart-command_part : (line : List ℕ) → IsPart line (order_mark_len (before_first is_mark line)) (command_part line)
unfolding command_part without_order_mark
IsPart-command_part line =
    let command = before_first is_mark line in
    let begin = order_mark_len command in
    let none : 0 + begin ≡ begin = omega arith in
    rw none at (IsPart-part line 0 command begin (drop begin command) (IsPart-take (position_or_len is_mark line) line) (IsPart-drop begin command (order_mark_fits command)))

-- the text of a line in the line
pub IsPart-command_text : (line : List ℕ) → IsPart line (begin_of line) (command_text line)
unfolding command_text begin_of
IsPart-command_text line =
    let part = command_part line in
    IsPart-part line (order_mark_len (before_first is_mark line)) part (prefix_len is_blank part + number_len (trimmed part)) (without_number (trimmed part)) (IsPart-command_part line)
    (IsPart-part part (prefix_len is_blank part) (trimmed part) (number_len (trimmed part)) (without_number (trimmed part)) (IsPart-trimmed part) (IsPart-number (trimmed part)))
