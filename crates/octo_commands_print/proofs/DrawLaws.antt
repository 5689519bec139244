-- The draws that are left after some of them.
use Rattle.std.proofs.Common.{◌≡◌, ◌<◌, ◌≤◌, ◌+◌, ◌-◌, ℕ, suc, arith, refl, [], ◌∷◌}
use Rattle.octo_commands_print.specs.Draws.{draws, upper_bits, next_draw, number_after}

one_less : (most made : ℕ) → made < most → most - made ≡ suc (most - (made + 1))
one_less most made lt = omega arith

-- the next draw is the first of those left
pub draws-more : (number most made : ℕ) → made < most → draws number (most - made) ≡ upper_bits (next_draw number) ∷ draws (next_draw number) (most - (made + 1))
draws-more number most made lt = rw (one_less most made lt) refl

-- none are left at the end
pub draws-end : (number most made : ℕ) → most ≤ made → draws number (most - made) ≡ []
draws-end number most made past = let none : most - made ≡ 0 = omega arith in rw none refl

-- a draw goes on to the next number
pub after-more : (number most made : ℕ) → made < most → number_after number (most - made) ≡ number_after (next_draw number) (most - (made + 1))
after-more number most made lt = rw (one_less most made lt) refl

pub after-end : (number most made : ℕ) → most ≤ made → number_after number (most - made) ≡ number
after-end number most made past = let none : most - made ≡ 0 = omega arith in rw none refl
