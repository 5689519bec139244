-- How lines that wait to be written leave.
use Rattle.std.proofs.Common.{◌≡◌, ◌≤◌, ◌==◌, ℕ, suc, List, [], ◌∷◌, length, min, take, drop, Option, Some, None, ap, sym, subst, refl, arith, ◌∙◌}
use Rattle.std.specs.Prelude.{IfSome}
use Rattle.std.specs.Io.KnownBytes.{Appends, Keeps}
use Rattle.std.proofs.lemmas.List.{append-nil, drop_all}
use Rattle.printer_link_socket.specs.Sent.{Fits, HasRoom, Took, TookFirst, Wrote}
use Rattle.printer_link_socket.specs.Stuck.{stuck_after, stuck_before}

-- a write that failed wrote nothing
pub keeps_writes : (a b : Option (List ℕ)) (bytes : List ℕ) → Keeps a b → Appends a b (take 0 bytes)
keeps_writes None b bytes k = tt
keeps_writes (Some xs) None bytes k = absurd k
keeps_writes (Some xs) (Some ys) bytes k = k ∙ sym (append-nil xs)

-- a stream that took bytes is the one that took them first
pub took_first : {S : Type 0} (contents : S → Option (List ℕ)) (room : S → Option ℕ) (before after : Option S) (unsent left : List ℕ) (count : ℕ)
    → Wrote contents before after (take count unsent) → Fits room before count unsent → left ≡ drop count unsent
    → TookFirst contents room before unsent left
took_first contents room None after unsent left count w f l = absurd w
took_first contents room (Some x) None unsent left count w f l = absurd w
took_first contents room (Some x) (Some y) unsent left count w f l = (y, record { count = count; wrote = w; fits = f; leaves = l })

-- of bytes that fit nothing is left
pub all_taken : {S : Type 0} (room : S → Option ℕ) (stream : Option S) (unsent left : List ℕ) (count : ℕ)
    → Fits room stream count unsent → left ≡ drop count unsent → HasRoom room stream unsent → left ≡ []
all_taken room None unsent left count f l h = absurd f
all_taken room (Some s) unsent left count f l h =
    let P : Option ℕ → Type 0 = λ r. IfSome r (λ n. count ≡ min n (length unsent)) in
    let taken : count ≡ min h.0 (length unsent) = subst P h.1 f in
    let fits : length unsent ≤ h.0 = h.2 in
    let all : length unsent ≤ count = omega arith in
    l ∙ drop_all count unsent all
