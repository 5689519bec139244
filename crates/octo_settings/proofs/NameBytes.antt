-- Names are ASCII.
use Rattle.std.proofs.Common.{◌≡◌, ℕ, ◌<◌, suc, zero, true, List, [], ◌∷◌, ◌++◌, length, take, codes, refl, arith, min, ap}
use Rattle.std.proofs.lemmas.Bool.{and_parts}
use Rattle.std.proofs.lemmas.Bool.Decides.{nat_tests}
use Rattle.std.specs.List.{list_all}
use Rattle.std.specs.Str.{IsAscii}
use Rattle.octo_access.specs.Names.{is_name_byte}

ascii-byte : (byte : ℕ) → is_name_byte byte ≡ true → byte < 128
ascii-byte byte h = grind (arith, nat_tests)

ascii-name : (bytes : List ℕ) → list_all is_name_byte bytes ≡ true → IsAscii bytes
ascii-name [] h i = omega arith
ascii-name (byte ∷ bytes) h zero = ascii-byte byte ((and_parts (is_name_byte byte) (list_all is_name_byte bytes) h).0)
ascii-name (byte ∷ bytes) h (suc i) = ascii-name bytes ((and_parts (is_name_byte byte) (list_all is_name_byte bytes) h).1) i

ascii-take : (n : ℕ) (bytes : List ℕ) → IsAscii bytes → IsAscii (take n bytes)
ascii-take zero bytes h i = omega arith
ascii-take (suc n) [] h i = omega arith
ascii-take (suc n) (byte ∷ bytes) h zero = h 0
ascii-take (suc n) (byte ∷ bytes) h (suc i) = ascii-take n bytes (λ j. h (suc j)) i

ascii-append : (front back : List ℕ) → IsAscii front → IsAscii back → IsAscii (front ++ back)
ascii-append [] back f b i = b i
ascii-append (byte ∷ front) back f b zero = f 0
ascii-append (byte ∷ front) back f b (suc i) = ascii-append front back (λ j. f (suc j)) b i

-- the key of a group whose name is one
pub ascii-key : (n : ℕ) (name : List ℕ) → list_all is_name_byte name ≡ true → IsAscii (codes "groups." ++ take n name)
ascii-key n name h = ascii-append (codes "groups.") (take n name) (ascii-name (codes "groups.") refl) (ascii-take n name (ascii-name name h))

-- a front of a list that is cut by its length
pub take-min : (n : ℕ) (bytes : List ℕ) → take (min (length bytes) n) bytes ≡ take n bytes
take-min zero bytes = let e : min (length bytes) 0 ≡ 0 = omega arith in rw e refl
take-min (suc n) [] = let e : min 0 (suc n) ≡ 0 = omega arith in rw e refl
take-min (suc n) (byte ∷ bytes) = let e : min (suc (length bytes)) (suc n) ≡ suc (min (length bytes) n) = omega arith in rw e (ap (λ t. byte ∷ t) (take-min n bytes))
