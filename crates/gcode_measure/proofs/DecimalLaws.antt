-- Numbers with six decimals, written and read back.
use Rattle.std.proofs.Common.{◌≡◌, ℕ, ◌/◌, ◌%◌, List, ◌++◌, ℤ, unsigned_abs, codes, decimal, ap, ◌∙◌}
use Rattle.std.proofs.lemmas.List.{append_assoc}
use Rattle.gcode_measure.specs.Decimal.{sign_text, six_digits, micro_text}

-- the parts of a number, written one after another
pub micro_text-joined : (start signed whole text : List ℕ) (micro : ℤ) (size : ℕ) → size ≡ unsigned_abs micro → signed ≡ start ++ sign_text micro →
    whole ≡ signed ++ decimal (size / 1000000) → text ≡ whole ++ (codes "." ++ six_digits (size % 1000000)) → text ≡ start ++ micro_text micro
unfolding micro_text
micro_text-joined start signed whole text micro size n s w t =
    t ∙ ap (λ before. before ++ (codes "." ++ six_digits (size % 1000000))) (w ∙ ap (λ before. before ++ decimal (size / 1000000)) s)
    ∙ ap (λ m. start ++ sign_text micro ++ decimal (m / 1000000) ++ (codes "." ++ six_digits (m % 1000000))) n
    ∙ ap (λ before. before ++ (codes "." ++ six_digits (unsigned_abs micro % 1000000)))
    (append_assoc start (sign_text micro) (decimal (unsigned_abs micro / 1000000)))
    ∙ append_assoc start (sign_text micro ++ decimal (unsigned_abs micro / 1000000)) (codes "." ++ six_digits (unsigned_abs micro % 1000000))
