-- A row is its columns.
use Rattle.std.proofs.Common.{◌≡◌, List, [], ◌∷◌, length, refl, arith}
use Rattle.sqlite_value.specs.declared.value.Value.{Value}
use Rattle.sqlite_value.specs.Order.{column}

pub five_columns : (row : List Value) → length row ≡ 5 → row ≡ column row 0 ∷ column row 1 ∷ column row 2 ∷ column row 3 ∷ column row 4 ∷ []
five_columns [] n = absurd (omega arith)
five_columns (a ∷ []) n = absurd (omega arith)
five_columns (a ∷ b ∷ []) n = absurd (omega arith)
five_columns (a ∷ b ∷ c ∷ []) n = absurd (omega arith)
five_columns (a ∷ b ∷ c ∷ d ∷ []) n = absurd (omega arith)
five_columns (a ∷ b ∷ c ∷ d ∷ e ∷ []) n = refl
five_columns (a ∷ b ∷ c ∷ d ∷ e ∷ f ∷ rest) n = absurd (omega arith)

pub four_columns : (row : List Value) → length row ≡ 4 → row ≡ column row 0 ∷ column row 1 ∷ column row 2 ∷ column row 3 ∷ []
four_columns [] n = absurd (omega arith)
four_columns (a ∷ []) n = absurd (omega arith)
four_columns (a ∷ b ∷ []) n = absurd (omega arith)
four_columns (a ∷ b ∷ c ∷ []) n = absurd (omega arith)
four_columns (a ∷ b ∷ c ∷ d ∷ []) n = refl
four_columns (a ∷ b ∷ c ∷ d ∷ e ∷ rest) n = absurd (omega arith)

pub eight_columns : (row : List Value) → length row ≡ 8
    → row ≡ column row 0 ∷ column row 1 ∷ column row 2 ∷ column row 3 ∷ column row 4 ∷ column row 5 ∷ column row 6 ∷ column row 7 ∷ []
eight_columns [] n = absurd (omega arith)
eight_columns (a ∷ []) n = absurd (omega arith)
eight_columns (a ∷ b ∷ []) n = absurd (omega arith)
eight_columns (a ∷ b ∷ c ∷ []) n = absurd (omega arith)
eight_columns (a ∷ b ∷ c ∷ d ∷ []) n = absurd (omega arith)
eight_columns (a ∷ b ∷ c ∷ d ∷ e ∷ []) n = absurd (omega arith)
eight_columns (a ∷ b ∷ c ∷ d ∷ e ∷ f ∷ []) n = absurd (omega arith)
eight_columns (a ∷ b ∷ c ∷ d ∷ e ∷ f ∷ g ∷ []) n = absurd (omega arith)
eight_columns (a ∷ b ∷ c ∷ d ∷ e ∷ f ∷ g ∷ h ∷ []) n = refl
eight_columns (a ∷ b ∷ c ∷ d ∷ e ∷ f ∷ g ∷ h ∷ i ∷ rest) n = absurd (omega arith)
