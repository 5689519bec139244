-- Lines of a buffer, and what is added to a line that is cut.
use Rattle.std.proofs.Common.{◌≡◌, subst, ℕ, suc, Bool, true, false, cond, ◌||◌, ◌+◌, ◌-◌, ◌<◌, ◌≤◌, List, [], ◌∷◌, ◌++◌, length, min, take, drop, ap, sym, refl, arith, ◌∙◌}
use Rattle.std.specs.Prelude.{Option, Some, None, not}
use Rattle.std.proofs.Math.Seq.{take-append-add}
use Rattle.std.specs.Io.KnownBytes.{Appends}
use Rattle.std.proofs.lemmas.List.{append-nil, take_rest, take_min, drop-take, drop-drop, length-take}
use Rattle.octo_outside_sockets.proofs.Written.{appends_more}
use Rattle.std.specs.List.{list_any, position_or_len}
use Rattle.printer_link_socket.specs.Lines.{cut}

-- as many bytes as there is room for fit
pub fits_cut : (line bytes : List ℕ) (room count : ℕ) → room + length line ≡ 256 → count ≡ min (length bytes) room → length line + length (take count bytes) ≤ 256
fits_cut line bytes room count full is =
    let taken : length (take count bytes) ≡ min count (length bytes) = length-take count bytes in
    omega arith

-- as many bytes as there is room for are what the cut leaves of all of them
pub adds_cut : (line bytes : List ℕ) (room count : ℕ) → room + length line ≡ 256 → count ≡ min (length bytes) room → line ++ take count bytes ≡ cut (line ++ bytes)
adds_cut line bytes room count full is =
    let shorter : count ≡ min room (length bytes) = omega arith in
    let whole : length line + room ≡ 256 = omega arith in
    ap (λ n. line ++ take n bytes) shorter
    ∙ ap (λ xs. line ++ xs) (take_min room bytes)
    ∙ sym (take-append-add line bytes room)
    ∙ ap (λ n. take n (line ++ bytes)) whole

-- a place before the end is one where the test passes
pub any_at : (p : ℕ → Bool) (xs : List ℕ) → position_or_len p xs < length xs → list_any p xs ≡ true
any_at p [] low = absurd (omega arith)
any_at p (x ∷ xs) low =
    elim (p x) as (λ b. cond (not b) (1 + position_or_len p xs) 0 < suc (length xs) → (b || list_any p xs) ≡ true) [
      | true ↦ (λ _. refl)
      | false ↦ (λ less. any_at p xs (omega arith))
    ] low

-- no place is before the end where the test passes nowhere
pub any_nowhere : (p : ℕ → Bool) (xs : List ℕ) → length xs ≤ position_or_len p xs → list_any p xs ≡ false
any_nowhere p [] high = refl
any_nowhere p (x ∷ xs) high =
    elim (p x) as (λ b. suc (length xs) ≤ cond (not b) (1 + position_or_len p xs) 0 → (b || list_any p xs) ≡ false) [
      | true ↦ (λ more. absurd (omega arith))
      | false ↦ (λ more. any_nowhere p xs (omega arith))
    ] high

-- what is left of a window after its first elements
pub window_after : (xs : List ℕ) (start end n : ℕ) → start ≤ end → n ≤ length (take (end - start) (drop start xs)) → take (end - (start + n)) (drop (start + n) xs) ≡ drop n (take (end - start) (drop start xs))
window_after xs start end n ordered short =
    let taken : length (take (end - start) (drop start xs)) ≡ min (end - start) (length (drop start xs)) = length-take (end - start) (drop start xs) in
    let whole : end - start ≡ n + (end - (start + n)) = omega arith in
    ap (λ ys. take (end - (start + n)) ys) (sym (drop-drop n start xs))
    ∙ sym (drop-take n (end - (start + n)) (drop start xs))
    ∙ ap (λ k. drop n (take k (drop start xs))) (sym whole)

-- of no bytes nothing was written
pub appends_start : (a : Option (List ℕ)) (bytes : List ℕ) → Appends a a (take 0 bytes)
appends_start None bytes = tt
appends_start (Some xs) bytes = sym (append-nil xs)

-- a part of what is left of a list is within the list
pub next_fits : (bytes : List ℕ) (i n : ℕ) → i ≤ length bytes → n ≤ length (take (length bytes - i) (drop i bytes)) → i + n ≤ length bytes
next_fits bytes i n within part =
    let taken : length (take (length bytes - i) (drop i bytes)) ≡ min (length bytes - i) (length (drop i bytes)) = length-take (length bytes - i) (drop i bytes) in
    omega arith

-- the first bytes of a list were written, and then the next of what is left of it
pub appends_next : (a b c : Option (List ℕ)) (bytes : List ℕ) (i n : ℕ) → Appends a b (take i bytes) → Appends b c (take n (take (length bytes - i) (drop i bytes))) → Appends a c (take (i + n) bytes)
appends_next a b c bytes i n first next =
    appends_more a b c bytes i n first (subst (λ rest. Appends b c (take n rest)) (take_rest bytes i) next)
