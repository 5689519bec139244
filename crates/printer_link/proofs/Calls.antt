-- How many calls were made.
use Rattle.std.proofs.Common.{◌≡◌, ℕ, ◌+◌, Option, Some, None, sym, subst, arith}
use Rattle.printer_link.specs.Link.{RoseBy, counted_one}

-- without a call
pub rose_none : (calls : Option ℕ) → RoseBy 0 calls calls
rose_none None = tt
rose_none (Some n) = λ small. omega arith

-- with one call
pub rose_next : (calls : Option ℕ) → RoseBy 1 calls (counted_one calls)
rose_next None = tt
rose_next (Some n) = λ small. omega arith

-- by one call
pub rose_one : (before now : Option ℕ) → now ≡ counted_one before → RoseBy 1 before now
rose_one before now is = subst (RoseBy 1 before) (sym is) (rose_next before)

-- by some calls, and then by more
pub rose_then : (m n : ℕ) (first mid last : Option ℕ) → RoseBy m first mid → RoseBy n mid last → RoseBy (m + n) first last
rose_then m n None None None p q = tt
rose_then m n (Some a) (Some b) (Some c) p q = λ small. omega (arith, q small, p (omega (arith, q small, small)), small)
rose_then m n None None (Some c) p q = absurd q
rose_then m n None (Some b) last p q = absurd p
rose_then m n (Some a) None last p q = absurd p
rose_then m n (Some a) (Some b) None p q = absurd q
