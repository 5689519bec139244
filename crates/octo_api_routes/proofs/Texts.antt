-- Bytes of names and of paths are ASCII.
use Rattle.std.proofs.Common.{◌≡◌, ℕ, Bool, true, false, List, [], ◌∷◌, refl, sym, ◌∙◌, zero, suc, arith}
use Rattle.std.specs.List.{list_all}
use Rattle.std.specs.Str.{IsAscii, IsUtf8}
use Rattle.std.proofs.lemmas.Bool.{and_parts, and_from}
use Rattle.std.proofs.lemmas.Bool.Decides.{nat_tests}
use Rattle.std.proofs.lemmas.Str.{IsUtf8-from_ascii}
use Rattle.octo_access.specs.Names.{is_name_byte, is_name}
use Rattle.octo_api_routes.specs.Ascii.{is_ascii_byte}

-- each byte of such bytes
pub ascii_at : (bytes : List ℕ) → list_all is_ascii_byte bytes ≡ true → IsAscii bytes
ascii_at [] e i = omega arith
ascii_at (byte ∷ bytes) e zero =
    let small : is_ascii_byte byte ≡ true = (and_parts _ _ e).0 in grind (arith, nat_tests, small)
ascii_at (byte ∷ bytes) e (suc i) = ascii_at bytes (and_parts _ _ e).1 i

-- bytes of ASCII are text
pub ascii_is_text : (bytes : List ℕ) → list_all is_ascii_byte bytes ≡ true → IsUtf8 bytes
ascii_is_text bytes e = IsUtf8-from_ascii bytes (ascii_at bytes e)

-- a byte of a name is ASCII
pub name_byte : (byte : ℕ) → is_name_byte byte ≡ true → is_ascii_byte byte ≡ true
name_byte byte e = grind (arith, nat_tests, e)

-- the bytes of a name are ASCII
pub name_bytes : (bytes : List ℕ) → list_all is_name_byte bytes ≡ true → list_all is_ascii_byte bytes ≡ true
name_bytes [] e = refl
name_bytes (byte ∷ bytes) e = and_from _ _ (name_byte byte (and_parts _ _ e).0) (name_bytes bytes (and_parts _ _ e).1)

not_name_bytes : (bytes : List ℕ) (are_names are_ascii : Bool) → (are_names ≡ true → are_ascii ≡ true) → are_ascii ≡ false → are_names ≡ false
not_name_bytes bytes false are_ascii h e = refl
not_name_bytes bytes true are_ascii h e = sym (h refl) ∙ e

-- bytes that aren't all ASCII are no name
pub not_a_name : (bytes : List ℕ) → list_all is_ascii_byte bytes ≡ false → is_name bytes ≡ false
not_a_name bytes e = grind (arith, nat_tests, not_name_bytes bytes (list_all is_name_byte bytes) (list_all is_ascii_byte bytes) (name_bytes bytes) e)
