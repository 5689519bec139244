-- Verdicts by their tests, over plain variables.
use Rattle.std.proofs.Common.{◌≡◌, ℕ, Bool, true, false, cond, nat_le, ◌==◌, ◌+◌, List, [], ◌∷◌, length, Option, Some, None, Result, Ok, Err, refl, ◌∙◌, ap, sym}
use Rattle.std.proofs.lemmas.List.Sums.{length-filter}
use Rattle.std.specs.List.{find, filter, count_by}
use Rattle.std.specs.Str.{bytes_eq}
use Rattle.print_queue.specs.Calls.{again_answer, put_answer}
use Rattle.print_queue.specs.Rows.{users_entry, is_key, is_of, last_arrival}
use Rattle.print_queue.specs.declared.entry.QueueEntry.{QueueEntry}
use Rattle.print_queue.specs.declared.refusal.Put.{Put}
use Rattle.print_queue.specs.declared.refusal.QueueRefusal.{QueueRefusal}
use Rattle.print_queue.specs.declared.refusal.QueueRefusal.TheVariants as refusal

-- the answer to a put by what is held, whether the user has 64, and whether the arrivals are used up
abbrev pub put_from : Option QueueEntry → Bool → Bool → ℕ → QueueEntry → Result Put QueueRefusal
put_from (Some kept) full used last asked = again_answer kept asked
put_from None full used last asked = cond full (Err (refusal.Full 64)) (cond used (Err refusal.ArrivalsUsed) (Ok (record { entry = record asked { arrival = last + 1 }; fresh = true })))

pub put_is : (rows : List QueueEntry) (asked : QueueEntry) (o : Option QueueEntry) → users_entry asked.user asked.name rows ≡ o → put_answer rows asked ≡ put_from o (nat_le 64 (count_by (is_of (Some asked.user)) rows)) (last_arrival rows == 4294967295) (last_arrival rows) asked
put_is rows asked (Some kept) e = rw e refl
put_is rows asked None e = rw e refl

found-own-more : (user name : List ℕ) (row : QueueEntry) (rows : List QueueEntry) (b c : Bool) → bytes_eq row.user user ≡ b → bytes_eq row.name name ≡ c → find (is_key user name) rows ≡ find (is_key user name) (filter (is_of (Some user)) rows) → find (is_key user name) (row ∷ rows) ≡ find (is_key user name) (filter (is_of (Some user)) (row ∷ rows))
found-own-more user name row rows true true e f h = rw (e, f, e) refl
found-own-more user name row rows true false e f h = rw (e, f, e) h
found-own-more user name row rows false c e f h = rw e h

-- an entry of a user is found among the user's own
pub found-own : (user name : List ℕ) (rows : List QueueEntry) → users_entry user name rows ≡ users_entry user name (filter (is_of (Some user)) rows)
found-own user name [] = refl
found-own user name (row ∷ rows) = found-own-more user name row rows (bytes_eq row.user user) (bytes_eq row.name name) refl refl (found-own user name rows)

-- two queues with the same entries of a user
module _ (user : List ℕ) (rows other : List QueueEntry) (same : filter (is_of (Some user)) rows ≡ filter (is_of (Some user)) other) where
  pub found-same : (name : List ℕ) → users_entry user name rows ≡ users_entry user name other
  found-same name = found-own user name rows ∙ ap (λ own. users_entry user name own) same ∙ sym (found-own user name other)

  pub count-same : count_by (is_of (Some user)) rows ≡ count_by (is_of (Some user)) other
  count-same = sym (length-filter (is_of (Some user)) rows) ∙ ap (λ (own : List QueueEntry). length own) same ∙ length-filter (is_of (Some user)) other
