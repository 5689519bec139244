-- Millionths written in decimal, with six decimals.
use Rattle.std.specs.Prelude.{ℕ, ◌+◌, ◌/◌, ◌%◌, ℤ, pos, negsuc, List, [], ◌∷◌, ◌++◌, codes, decimal, unsigned_abs}

-- `-` before a number below 0
abbrev pub sign_text : ℤ → List ℕ
sign_text (pos n) = []
sign_text (negsuc n) = codes "-"

-- the last six digits of a number
abbrev pub six_digits : ℕ → List ℕ
six_digits n =
    (48 + n / 100000 % 10) ∷ (48 + n / 10000 % 10) ∷ (48 + n / 1000 % 10) ∷ (48 + n / 100 % 10) ∷ (48 + n / 10 % 10) ∷ (48 + n % 10) ∷ []

-- a number of millionths with six decimals
unfoldable pub micro_text : ℤ → List ℕ
micro_text micro =
    sign_text micro ++ decimal (unsigned_abs micro / 1000000) ++ (codes "." ++ six_digits (unsigned_abs micro % 1000000))
