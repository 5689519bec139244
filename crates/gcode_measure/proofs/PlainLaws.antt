-- The text that a line says, and that a line of just that text says it again.
use Rattle.std.proofs.Common.{◌≡◌, ℕ, zero, suc, ◌+◌, ◌-◌, ◌<◌, ◌≤◌, Bool, true, false, not, cond, ◌==◌, List, [], ◌∷◌, ◌++◌, length, take, drop, reverse, codes, refl, sym, ap, ◌∙◌, arith}
use Rattle.std.specs.List.{list_any, list_all, before_first, position_or_len, prefix_len, suffix_len}
use Rattle.std.specs.Char.{is_ascii_digit}
use Rattle.std.proofs.lemmas.Bool.{or_parts, or_from, and_parts}
use Rattle.std.proofs.lemmas.Bool.Decides.{nat_tests}
use Rattle.std.proofs.lemmas.List.{reverse-append, length-reverse, length-drop, length-take, take-append-drop, get_or-take}
use Rattle.std.proofs.lemmas.List.Folds.{list_any_none}
use Rattle.std.proofs.lemmas.List.Sums.{fails_before_first, suffix_len-le-length}
use Rattle.std.proofs.Math.Seq.{take-append_seam, drop-append_seam, take-length}
use Rattle.byte_text.specs.Chars.{is_space}
use Rattle.gcode_lines.specs.Text.{is_mark, is_blank, is_control, without_front, without_end, trimmed, is_numbered, without_number, has_order_mark, order_mark_len, without_order_mark, command_part, command_text, has_control}
use Rattle.gcode_lines.proofs.Sendable.{list_any-take, list_any-drop}

-- if all pass one test, none passes another that excludes it
pub list_any-excluded : (all any : ℕ → Bool) → ((x : ℕ) → all x ≡ true → any x ≡ false) → (xs : List ℕ) → list_all all xs ≡ true → list_any any xs ≡ false
list_any-excluded all any excludes [] h = refl
list_any-excluded all any excludes (x ∷ xs) h =
    let parts = and_parts (all x) (list_all all xs) h in
    or_from _ _ (excludes x parts.0) (list_any-excluded all any excludes xs parts.1)

no_front : (t : Bool) (n : ℕ) → cond t (1 + n) 0 ≡ 0 → t ≡ false
no_front true n h = absurd (omega arith)
no_front false n h = refl

prefix_len-cons_zero : (test : ℕ → Bool) (x : ℕ) (xs : List ℕ) → test x ≡ false → prefix_len test (x ∷ xs) ≡ 0
prefix_len-cons_zero test x xs h = ap (λ t. cond t (1 + prefix_len test xs) 0) h

prefix_len-by : (test : ℕ → Bool) (x : ℕ) (xs : List ℕ) (t : Bool) → test x ≡ t → prefix_len test (drop (prefix_len test xs) xs) ≡ 0 →
    prefix_len test (drop (cond t (1 + prefix_len test xs) 0) (x ∷ xs)) ≡ 0
prefix_len-by test x xs true e rest =
    let next : 1 + prefix_len test xs ≡ suc (prefix_len test xs) = omega arith in
    ap (λ n. prefix_len test (drop n (x ∷ xs))) next ∙ rest
prefix_len-by test x xs false e rest = prefix_len-cons_zero test x xs e

-- without its front that passes, nothing in front passes
prefix_len-drop_own : (test : ℕ → Bool) (xs : List ℕ) → prefix_len test (drop (prefix_len test xs) xs) ≡ 0
prefix_len-drop_own test [] = refl
prefix_len-drop_own test (x ∷ xs) = prefix_len-by test x xs (test x) refl (prefix_len-drop_own test xs)

prefix_len-take_zero : (test : ℕ → Bool) (n : ℕ) (xs : List ℕ) → prefix_len test xs ≡ 0 → prefix_len test (take n xs) ≡ 0
prefix_len-take_zero test zero xs h = refl
prefix_len-take_zero test (suc n) [] h = refl
prefix_len-take_zero test (suc n) (x ∷ xs) h =
    prefix_len-cons_zero test x (take n xs) (no_front (test x) (prefix_len test xs) h)

reverse-take : (n : ℕ) (xs : List ℕ) → reverse (take n xs) ≡ drop (length (drop n xs)) (reverse xs)
reverse-take n xs =
    sym (ap (λ all. drop (length (drop n xs)) (reverse all)) (sym (take-append-drop n xs))
    ∙ ap (drop (length (drop n xs))) (reverse-append (take n xs) (drop n xs))
    ∙ ap (λ k. drop k (reverse (drop n xs) ++ reverse (take n xs))) (sym (length-reverse (drop n xs)))
    ∙ drop-append_seam (reverse (drop n xs)) (reverse (take n xs)))

reverse-drop : (n : ℕ) (xs : List ℕ) → reverse (drop n xs) ≡ take (length (drop n xs)) (reverse xs)
reverse-drop n xs =
    sym (ap (λ all. take (length (drop n xs)) (reverse all)) (sym (take-append-drop n xs))
    ∙ ap (take (length (drop n xs))) (reverse-append (take n xs) (drop n xs))
    ∙ ap (λ k. take k (reverse (drop n xs) ++ reverse (take n xs))) (sym (length-reverse (drop n xs)))
    ∙ take-append_seam (reverse (drop n xs)) (reverse (take n xs)))

-- without its end that passes, nothing at the end passes
suffix_len-take_own : (test : ℕ → Bool) (xs : List ℕ) → suffix_len test (take (length xs - suffix_len test xs) xs) ≡ 0
suffix_len-take_own test xs =
    let le = suffix_len-le-length test xs in
    let long : length (drop (length xs - suffix_len test xs) xs) ≡ suffix_len test xs = omega (arith, length-drop (length xs - suffix_len test xs) xs) in
    ap (prefix_len test) (reverse-take (length xs - suffix_len test xs) xs)
    ∙ ap (λ n. prefix_len test (drop n (reverse xs))) long
    ∙ prefix_len-drop_own test (reverse xs)

suffix_len-drop_zero : (test : ℕ → Bool) (n : ℕ) (xs : List ℕ) → suffix_len test xs ≡ 0 → suffix_len test (drop n xs) ≡ 0
suffix_len-drop_zero test n xs h =
    ap (prefix_len test) (reverse-drop n xs) ∙ prefix_len-take_zero test (length (drop n xs)) (reverse xs) h

prefix_len-longer : (test : ℕ → Bool) (xs ys : List ℕ) → 1 ≤ length xs → prefix_len test xs ≡ 0 → prefix_len test (xs ++ ys) ≡ 0
prefix_len-longer test [] ys some h = absurd (omega arith)
prefix_len-longer test (x ∷ xs) ys some h =
    prefix_len-cons_zero test x (xs ++ ys) (no_front (test x) (prefix_len test xs) h)

-- elements before a list change nothing at its end
pub suffix_len-longer : (test : ℕ → Bool) (xs ys : List ℕ) → 1 ≤ length ys → suffix_len test ys ≡ 0 → suffix_len test (xs ++ ys) ≡ 0
suffix_len-longer test xs ys some h =
    ap (prefix_len test) (reverse-append xs ys)
    ∙ prefix_len-longer test (reverse ys) (reverse xs) (omega (arith, length-reverse ys)) h

-- a text without comment or checksum, and without blanks at both ends
pub record IsPlain (text : List ℕ) : Type 0 where
  pub mark : list_any is_mark text ≡ false
  pub front : prefix_len is_blank text ≡ 0
  pub back : suffix_len is_blank text ≡ 0

no_mark_in_front : (line : List ℕ) → list_any is_mark (before_first is_mark line) ≡ false
no_mark_in_front line =
    list_any_none is_mark (before_first is_mark line)
    (λ k d h. let lt : k < position_or_len is_mark line = omega (arith, length-take (position_or_len is_mark line) line) in
    rw get_or-take (fails_before_first is_mark line k d lt))

plain-trimmed : (bytes : List ℕ) → list_any is_mark bytes ≡ false → IsPlain (trimmed bytes)
unfolding trimmed without_front without_end
plain-trimmed bytes h =
    let inner : List ℕ = drop (prefix_len is_blank bytes) bytes in
    record {
      mark = list_any-take is_mark (length inner - suffix_len is_blank inner) inner (list_any-drop is_mark (prefix_len is_blank bytes) bytes h);
      front = prefix_len-take_zero is_blank (length inner - suffix_len is_blank inner) inner (prefix_len-drop_own is_blank bytes);
      back = suffix_len-take_own is_blank inner;
    }

blank_by : (x : ℕ) → is_space x ≡ false → is_control x ≡ false → is_blank x ≡ false
blank_by x space control = grind (arith, nat_tests)

front_by : (text : List ℕ) → prefix_len is_space text ≡ 0 → list_any is_control text ≡ false → prefix_len is_blank text ≡ 0
front_by [] space control = refl
front_by (x ∷ xs) space control =
    prefix_len-cons_zero is_blank x xs (blank_by x (no_front (is_space x) (prefix_len is_space xs) space)
    (or_parts (is_control x) (list_any is_control xs) control).0)

plain-number : (text : List ℕ) (t : Bool) → IsPlain text → list_any is_control
    (cond t (without_front is_space (without_front is_ascii_digit (drop 1 text))) text) ≡ false →
    IsPlain (cond t (without_front is_space (without_front is_ascii_digit (drop 1 text))) text)
unfolding without_front
plain-number text true plain control =
    let digits : List ℕ = drop 1 text in
    let spaces : List ℕ = drop (prefix_len is_ascii_digit digits) digits in
    record {
      mark = list_any-drop is_mark (prefix_len is_space spaces) spaces (list_any-drop is_mark (prefix_len is_ascii_digit digits) digits
          (list_any-drop is_mark 1 text plain.mark));
      front = front_by (drop (prefix_len is_space spaces) spaces) (prefix_len-drop_own is_space spaces) control;
      back = suffix_len-drop_zero is_blank (prefix_len is_space spaces) spaces
          (suffix_len-drop_zero is_blank (prefix_len is_ascii_digit digits) digits (suffix_len-drop_zero is_blank 1 text plain.back));
    }
plain-number text false plain control = plain

no_mark_in_part : (line : List ℕ) → list_any is_mark (command_part line) ≡ false
unfolding command_part without_order_mark
no_mark_in_part line =
    list_any-drop is_mark (order_mark_len (before_first is_mark line)) (before_first is_mark line) (no_mark_in_front line)

-- what a line says without a control byte is plain
pub plain-command_text : (line : List ℕ) → has_control (command_text line) ≡ false → IsPlain (command_text line)
unfolding command_text without_number has_control
plain-command_text line control =
    plain-number (trimmed (command_part line)) (is_numbered (trimmed (command_part line)))
    (plain-trimmed (command_part line) (no_mark_in_part line)) control

before_first-all : (text : List ℕ) → list_any is_mark text ≡ false → position_or_len is_mark text ≡ length text
before_first-all [] h = refl
before_first-all (x ∷ xs) h =
    let parts = or_parts (is_mark x) (list_any is_mark xs) h in
    let rest = before_first-all xs parts.1 in
    ap (λ t. cond (not t) (1 + position_or_len is_mark xs) 0) parts.0 ∙ omega arith

trimmed-plain : (text : List ℕ) → IsPlain text → trimmed text ≡ text
unfolding trimmed without_front without_end
trimmed-plain text plain =
    ap (λ n. take (length (drop n text) - suffix_len is_blank (drop n text)) (drop n text)) plain.front
    ∙ ap (λ n. take (length text - n) text) plain.back
    ∙ (let whole : length text - 0 ≡ length text = omega arith in ap (λ n. take n text) whole)
    ∙ take-length text

-- a line of a plain text says it, but for its line number, unless a byte order mark is at its front
pub command_text-plain : (text : List ℕ) → IsPlain text → has_order_mark text ≡ false → command_text text ≡ without_number text
unfolding command_text command_part without_order_mark order_mark_len
command_text-plain text plain none =
    ap (λ n. without_number (trimmed (drop (cond (has_order_mark (take n text)) 3 0) (take n text)))) (before_first-all text plain.mark)
    ∙ ap (λ t. without_number (trimmed (drop (cond (has_order_mark t) 3 0) t))) (take-length text)
    ∙ ap (λ t. without_number (trimmed (drop (cond t 3 0) text))) none
    ∙ ap without_number (trimmed-plain text plain)

pub without_number-bare : (text : List ℕ) → is_numbered text ≡ false → without_number text ≡ text
unfolding without_number
without_number-bare text bare = ap (λ t. cond t (without_front is_space (without_front is_ascii_digit (drop 1 text))) text) bare

plain-after : (text : List ℕ) → 1 ≤ length text → IsPlain text → IsPlain (codes "N0 " ++ text)
plain-after text some plain =
    record { mark = plain.mark; front = refl; back = suffix_len-longer is_blank (codes "N0 ") text some plain.back }

space_front : (text : List ℕ) → prefix_len is_blank text ≡ 0 → prefix_len is_space text ≡ 0
space_front [] h = refl
space_front (x ∷ xs) h =
    prefix_len-cons_zero is_space x xs (or_parts (is_space x) (x == 13) (no_front (is_blank x) (prefix_len is_blank xs) h)).0

no_mark_after : (text : List ℕ) → has_order_mark (codes "N0 " ++ text) ≡ false
unfolding has_order_mark
no_mark_after text = refl

without_number-after : (text : List ℕ) → prefix_len is_space text ≡ 0 → without_number (codes "N0 " ++ text) ≡ text
unfolding without_number without_front is_numbered
without_number-after text h =
    ap (λ n. drop (1 + n) (32 ∷ text)) h

-- a command after a line number of its own is that command
pub command_text-after : (text : List ℕ) → 1 ≤ length text → IsPlain text → command_text (codes "N0 " ++ text) ≡ text
command_text-after text some plain =
    command_text-plain (codes "N0 " ++ text) (plain-after text some plain) (no_mark_after text) ∙ without_number-after text (space_front text plain.front)
