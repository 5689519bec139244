-- An item of a list all of whose items are such.
use Rattle.std.proofs.Common.{◌≡◌, ℕ, zero, suc, ◌<◌, List, [], ◌∷◌, map, length, get_or, slice_get, Option, Some, None, IfSome, All, Bor, codes, drop, refl, lit≤, sym, subst, arith}
use Rattle.std.specs.Slice.{IsItemAt}
use Rattle.std.proofs.lemmas.List.Elements.{All-head, All-tail}
use Rattle.arrayvec.specs.ArrayVec.{ArrayVec}
use Rattle.byte_text.specs.Marks.{has_byte, has_m110}
use Rattle.byte_text.specs.Sendable.{IsSendable}

pub got : {X : Type 0} (P : X → Type 0) (xs : List X) (i : ℕ) (x : X) → All P xs → slice_get xs i ≡ Some x → P x
got P [] i x all e = absurd (cc e)
got P (y ∷ xs) zero x all e = let same : y ≡ x = cc e in subst P same (All-head P y xs all)
got P (y ∷ xs) (suc i) x all e = got P xs i x (All-tail P y xs all) e

-- a text at a place among texts that may be sent
got_at : (texts : List (ArrayVec ℕ)) (i : ℕ) (t : ArrayVec ℕ) → All IsSendable (map (λ t. t.items) texts) → i < length texts → t ≡ get_or texts i t →
    IsSendable t.items
got_at [] i t all h e = absurd (omega arith)
got_at (x ∷ texts) zero t all h e = subst (λ u. IsSendable u.items) (sym e) (All-head IsSendable x.items (map (λ t. t.items) texts) all)
got_at (x ∷ texts) (suc i) t all h e = got_at texts i t (All-tail IsSendable x.items (map (λ t. t.items) texts) all) (omega arith) e

pub got_item : (texts : List (ArrayVec ℕ)) (i : ℕ) (r : Option (Bor (ArrayVec ℕ))) → All IsSendable (map (λ t. t.items) texts) → IsItemAt texts i r →
    IfSome r (λ t. IsSendable t.now.items)
got_item texts i None all h = tt
got_item texts i (Some t) all h = got_at texts i t.now all h.3.0 h.1

-- Marlin's question for temperatures may be sent
pub poll_sendable : IsSendable (codes "M105")
unfolding has_byte has_m110
poll_sendable = record { some = lit≤ tt; short = lit≤ tt; no_star = refl; no_line_feed = refl; no_m110 = refl }

-- and so may the probe
pub probe_sendable : IsSendable (codes "M400")
unfolding has_byte has_m110
probe_sendable = record { some = lit≤ tt; short = lit≤ tt; no_star = refl; no_line_feed = refl; no_m110 = refl }

pub drop_sendable : (texts : List (ArrayVec ℕ)) → All IsSendable (map (λ t. t.items) texts) → All IsSendable (map (λ t. t.items) (drop 1 texts))
drop_sendable [] all = all
drop_sendable (t ∷ texts) all = All-tail IsSendable t.items (map (λ t. t.items) texts) all
