-- An entry that is added and taken out again.
use Rattle.std.proofs.Common.{◌≡◌, ℕ, ◌+◌, Bool, true, false, cond, not, nat_le, ◌==◌, List, [], ◌∷◌, count_by, Option, None, Some, Result, Ok, Err, OnOk, OnErr, ok_or, refl, ap, ◌∙◌, sym}
use Rattle.std.specs.Cmp.Lexicographic.{bytes_decides}
use Rattle.std.specs.List.{find, filter, insert, prefix_len}
use Rattle.print_queue.specs.Calls.{QueueData, put_answer, again_answer, new_answer, is_same}
use Rattle.print_queue.specs.Rows.{is_before, is_key, is_of, users_entry, insert_row, without, without_copy, last_arrival}
use Rattle.print_queue.specs.declared.entry.QueueEntry.{QueueEntry}
use Rattle.print_queue.specs.declared.refusal.Put.{Put}
use Rattle.print_queue.specs.declared.refusal.QueueRefusal.{QueueRefusal}
use Rattle.print_queue.specs.declared.refusal.QueueRefusal.TheVariants.{NoEntry}
use Rattle.octo_access.proofs.Undone.{filter-unheld, undone}
use Rattle.print_queue.proofs.Comparisons.{key_own}
use Rattle.byte_text.proofs.BoolLaws.{off_on}

pub without-insert_row : (entry : QueueEntry) (rows : List QueueEntry) → users_entry entry.user entry.name rows ≡ None
    → without entry.user entry.name (insert_row entry rows) ≡ rows
without-insert_row entry rows free = undone (is_key entry.user entry.name) (λ other. is_before other entry) entry (key_own entry) rows free

-- a put that adds an entry adds one of a free name
abbrev is_added : Result Put QueueRefusal → Bool
is_added (Ok put) = put.fresh
is_added (Err refused) = false

abbrev entry_in : QueueEntry → Result Put QueueRefusal → QueueEntry
entry_in other (Ok put) = put.entry
entry_in other (Err refused) = other

again-held : (other asked : QueueEntry) (b : Bool) → is_same other asked ≡ b → is_added (again_answer other asked) ≡ false
again-held other asked true is = rw is refl
again-held other asked false is = rw is refl

new-name : (rows : List QueueEntry) (asked entry : QueueEntry) (b e : Bool) → nat_le 64 (count_by (is_of (Some asked.user)) rows) ≡ b
    → (last_arrival rows == 4294967295) ≡ e
    → new_answer rows asked ≡ Ok (record { entry = entry; fresh = true }) → (entry.user ≡ asked.user) × (entry.name ≡ asked.name)
new-name rows asked entry true e full used h =
    let r : is_added (new_answer rows asked) ≡ false = rw full refl in
    absurd (off_on (is_added (new_answer rows asked)) r (ap is_added h))
new-name rows asked entry false true full used h =
    let r : is_added (new_answer rows asked) ≡ false = rw (full, used) refl in
    absurd (off_on (is_added (new_answer rows asked)) r (ap is_added h))
new-name rows asked entry false false full used h =
    let r : new_answer rows asked ≡ Ok (record { entry = record asked { arrival = last_arrival rows + 1 }; fresh = true }) = rw (full, used) refl in
    let e : entry ≡ record asked { arrival = last_arrival rows + 1 } = ap (entry_in entry) (sym h ∙ r) in
    (ap (λ (q : QueueEntry). q.user) e, ap (λ (q : QueueEntry). q.name) e)

-- an entry that a put added is the one of its name
pub record IsFresh (rows : List QueueEntry) (entry : QueueEntry) : Type 0 where
  pub free : users_entry entry.user entry.name rows ≡ None
  pub undone : without entry.user entry.name (insert_row entry rows) ≡ rows

fresh-by : (rows : List QueueEntry) (asked entry : QueueEntry) (o : Option QueueEntry) → users_entry asked.user asked.name rows ≡ o
    → put_answer rows asked ≡ Ok (record { entry = entry; fresh = true }) → IsFresh rows entry
fresh-by rows asked entry (Some other) is h =
    let again : again_answer other asked ≡ Ok (record { entry = entry; fresh = true }) = rw is at h in
    absurd (off_on (is_added (again_answer other asked)) (again-held other asked (is_same other asked) refl) (ap is_added again))
fresh-by rows asked entry None is h =
    let (user, name) = new-name rows asked entry
    (nat_le 64 (count_by (is_of (Some asked.user)) rows)) (last_arrival rows == 4294967295) refl refl (rw is at h) in
    let free : users_entry entry.user entry.name rows ≡ None = rw (user, name) is in
    record { free = free; undone = without-insert_row entry rows free }

pub fresh-put : (rows : List QueueEntry) (asked entry : QueueEntry) → put_answer rows asked ≡ Ok (record { entry = entry; fresh = true }) → IsFresh rows entry
fresh-put rows asked entry h = fresh-by rows asked entry (users_entry asked.user asked.name rows) refl h

-- an entry of which a copy is started isn't held: then nothing is taken
untaken-more : (user name : List ℕ) (x : QueueEntry) (xs : List QueueEntry) (b : Bool) → is_key user name x ≡ b → cond b (Some x) (users_entry user name xs) ≡ None
    → (users_entry user name xs ≡ None → without_copy user name xs ≡ xs) → without_copy user name (x ∷ xs) ≡ x ∷ xs
untaken-more user name x xs true is h rest = absurd (cc)
untaken-more user name x xs false is h rest = rw is (ap (λ ys. x ∷ ys) (rest h))

untaken : (user name : List ℕ) (rows : List QueueEntry) → users_entry user name rows ≡ None → without_copy user name rows ≡ rows
untaken user name [] h = refl
untaken user name (x ∷ xs) h = untaken-more user name x xs (is_key user name x) refl h (untaken user name xs)

taken-by : (user name : List ℕ) (rows new : List QueueEntry) (o : Option QueueEntry) (r : Result QueueEntry QueueRefusal) → users_entry user name rows ≡ o
    → r ≡ ok_or o NoEntry
    → OnOk r (new ≡ without_copy user name rows) → OnErr r (new ≡ rows) → new ≡ without_copy user name rows
taken-by user name rows new o (Ok entry) at is some none = some
taken-by user name rows new (Some entry) (Err refused) at is some none = absurd (cc is)
taken-by user name rows new None (Err refused) at is some none = none ∙ sym (untaken user name rows at)

dropped-by : (user name : List ℕ) (rows new : List QueueEntry) (o : Option QueueEntry) (r : Result QueueEntry QueueRefusal) → users_entry user name rows ≡ o
    → r ≡ ok_or o NoEntry
    → OnOk r (new ≡ without user name rows) → OnErr r (new ≡ rows) → new ≡ without user name rows
dropped-by user name rows new o (Ok entry) at is some none = some
dropped-by user name rows new (Some entry) (Err refused) at is some none = absurd (cc is)
dropped-by user name rows new None (Err refused) at is some none = none ∙ sym (filter-unheld (is_key user name) rows at)

rows-same : (old new : QueueData) (r : Result QueueEntry QueueRefusal) → OnErr r (new ≡ old) → OnErr r (new.rows ≡ old.rows)
rows-same old new (Ok entry) h = tt
rows-same old new (Err refused) h = ap (λ (q : QueueData). q.rows) h

-- the rows after an entry was taken out, or a copy of it started, held or not
module _ (user name : List ℕ) (old new : QueueData) (r : Result QueueEntry QueueRefusal) (answer : r ≡ ok_or (users_entry user name old.rows) NoEntry) where
  pub dropped-rows : OnOk r (new.rows ≡ without user name old.rows) → OnErr r (new ≡ old) → new.rows ≡ without user name old.rows
  dropped-rows some none = dropped-by user name old.rows new.rows (users_entry user name old.rows) r refl answer some (rows-same old new r none)

  pub taken-rows : OnOk r (new.rows ≡ without_copy user name old.rows) → OnErr r (new ≡ old) → new.rows ≡ without_copy user name old.rows
  taken-rows some none = taken-by user name old.rows new.rows (users_entry user name old.rows) r refl answer some (rows-same old new r none)
