-- The name of a stored file is ASCII.
use Rattle.std.proofs.Common.{◌≡◌, ℕ, zero, suc, ◌<◌, ◌/◌, ◌%◌, ◌-◌, Bool, true, false, ◌==◌, if◌then◌else◌, List, [], ◌∷◌, ◌++◌, map, take, drop, min, refl, ap, ◌∙◌, arith}
use Rattle.std.specs.Prelude.{codes, slice_index}
use Rattle.std.specs.Str.{IsAscii}
use Rattle.std.proofs.lemmas.Bool.Decides.{nat_tests}
use Rattle.hex.specs.Hex.{lower_digits, encode_with}
use Rattle.sha2.specs.Sha256.{sha256}
use Rattle.std.specs.List.{list_all}
use Rattle.std.proofs.lemmas.Bool.{and_parts, and_from}
use Rattle.octo_access.specs.Names.{is_name_byte}
use Rattle.octo_api_routes.specs.Ascii.{is_ascii_byte}
use Rattle.octo_api_routes.proofs.Texts.{name_byte, ascii_at}
use Rattle.octo_api_requests.specs.Marked.{mark_of, ending_len, stem_len, marked}
use Rattle.octo_api_requests.specs.Uploads.{clean_byte, start_byte, clean_start, cleaned}

clean_case : (byte : ℕ) (may : Bool) → (may ≡ true → is_ascii_byte byte ≡ true) → is_ascii_byte (if may then byte else 95) ≡ true
clean_case byte true h = h refl
clean_case byte false h = refl

clean_is_ascii : (byte : ℕ) → is_ascii_byte (clean_byte byte) ≡ true
clean_is_ascii byte = clean_case byte (is_name_byte byte) (name_byte byte)

start_case : (byte : ℕ) (stop : Bool) → is_ascii_byte byte ≡ true → is_ascii_byte (if stop then 95 else byte) ≡ true
start_case byte true h = refl
start_case byte false h = h

all_clean : (bytes : List ℕ) → list_all is_ascii_byte (map clean_byte bytes) ≡ true
all_clean [] = refl
all_clean (byte ∷ bytes) = and_from _ _ (clean_is_ascii byte) (all_clean bytes)

start_is_ascii : (bytes : List ℕ) → list_all is_ascii_byte bytes ≡ true → list_all is_ascii_byte (clean_start bytes) ≡ true
start_is_ascii [] e = refl
start_is_ascii (byte ∷ bytes) e = and_from _ _ (start_case byte (byte == 46) (and_parts _ _ e).0) (and_parts _ _ e).1

-- a cleaned name is ASCII
pub stored_is_ascii : (bytes : List ℕ) → list_all is_ascii_byte (cleaned bytes) ≡ true
stored_is_ascii bytes = start_is_ascii (map clean_byte bytes) (all_clean bytes)

-- the same bytes
pub same_ascii : (text other : List ℕ) → text ≡ other → list_all is_ascii_byte other ≡ true → list_all is_ascii_byte text ≡ true
same_ascii text other is e = ap (λ b. list_all is_ascii_byte b) is ∙ e

-- what is of ASCII in front, in the middle and at the end
ascii_append : (xs ys : List ℕ) → list_all is_ascii_byte xs ≡ true → list_all is_ascii_byte ys ≡ true → list_all is_ascii_byte (xs ++ ys) ≡ true
ascii_append [] ys e f = f
ascii_append (x ∷ xs) ys e f = and_from _ _ (and_parts _ _ e).0 (ascii_append xs ys (and_parts _ _ e).1 f)

ascii_take : (n : ℕ) (xs : List ℕ) → list_all is_ascii_byte xs ≡ true → list_all is_ascii_byte (take n xs) ≡ true
ascii_take zero xs e = refl
ascii_take (suc n) [] e = refl
ascii_take (suc n) (x ∷ xs) e = and_from _ _ (and_parts _ _ e).0 (ascii_take n xs (and_parts _ _ e).1)

-- the front of such a name
pub front_is_ascii : (name : List ℕ) (n : ℕ) → list_all is_ascii_byte name ≡ true → list_all is_ascii_byte (take n name) ≡ true
front_is_ascii name n e = ascii_take n name e

ascii_drop : (n : ℕ) (xs : List ℕ) → list_all is_ascii_byte xs ≡ true → list_all is_ascii_byte (drop n xs) ≡ true
ascii_drop zero xs e = e
ascii_drop (suc n) [] e = refl
ascii_drop (suc n) (x ∷ xs) e = ascii_drop n xs (and_parts _ _ e).1

-- the digits of a mark are ASCII
digit_is_ascii : (k : ℕ) → is_ascii_byte (slice_index lower_digits k) ≡ true
digit_is_ascii k = let small = ascii_at lower_digits refl k in grind (arith, nat_tests, small)

mark_is_ascii : (bytes : List ℕ) → list_all is_ascii_byte (encode_with lower_digits bytes) ≡ true
unfolding encode_with
mark_is_ascii [] = refl
mark_is_ascii (byte ∷ bytes) = and_from _ _ (digit_is_ascii (byte / 16)) (and_from _ _ (digit_is_ascii (byte % 16)) (mark_is_ascii bytes))

-- a name with its mark is ASCII
pub marked_is_ascii : (sent name : List ℕ) → list_all is_ascii_byte name ≡ true → list_all is_ascii_byte (marked sent name) ≡ true
marked_is_ascii sent name e =
    let stem : List ℕ = take (min (stem_len name) (91 - ending_len name)) name in
    let front = ascii_append stem (codes "-") (ascii_take (min (stem_len name) (91 - ending_len name)) name e) refl in
    let middle = ascii_append (stem ++ codes "-") (mark_of sent) front (mark_is_ascii (take 4 (sha256 sent))) in
    ascii_append (stem ++ codes "-" ++ mark_of sent) (drop (stem_len name) name) middle (ascii_drop (stem_len name) name e)
