-- What was taken out can be put back, and the queue is then as before.
use Rattle.std.proofs.Common.{◌≡◌, ℕ, ◌+◌, ◌-◌, ◌<◌, ◌≤◌, max, inl, inr, Bool, true, false, cond, List, [], ◌∷◌, length, get_or, set, Some, None, refl, sym, ap, ◌∙◌, subst, arith}
use Rattle.std.specs.List.{AllByRecursion, find, fold, count_by, position_or_len, slice_get}
use Rattle.std.proofs.lemmas.Bool.{cases_Bool}
use Rattle.std.proofs.lemmas.List.{set-set, set-get_or}
use Rattle.std.proofs.lemmas.List.Elements.{All-from_recursion, recursion_from_All}
use Rattle.std.proofs.lemmas.List.Folds.{find_at, find-set, position_or_len-set}
use Rattle.std.proofs.lemmas.List.Sums.{passes_at_first}
use Rattle.std.proofs.lemmas.Option.{slice_get_read, slice_get_past}
use Rattle.print_queue.specs.declared.entry.QueueEntry.{QueueEntry}
use Rattle.print_queue.specs.Rows.{is_key, is_of, users_entry, insert_row, without, without_copy, last_arrival}
use Rattle.print_queue.specs.Lawful.{IsApart, IsWholeRow, IsLawful, HasPlace}
use Rattle.print_queue.specs.Calls.{QueueData, restored, CanRestore, put_answer, new_answer}
use Rattle.print_queue.proofs.Pairs.{Pairs, each_both}
use Rattle.print_queue.proofs.Comparisons.{key_user, key_name, bytes_same, apart_turned}
use Rattle.print_queue.proofs.Edits.{with_left, held_first, held_without, free_after, without_free, each_held, insert_restores, copy_lowers}
use Rattle.print_queue.proofs.Kept.{above_from, apart_from, count_cons, lawful_set}
use Rattle.byte_text.proofs.ListLaws.{count-filter}

-- a row at the first place of a key
pub record IsAt (user name : List ℕ) (rows : List QueueEntry) (place : ℕ) (row : QueueEntry) : Type 0 where
  pub first : place ≡ position_or_len (is_key user name) rows
  pub within : place < length rows
  pub there : row ≡ get_or rows place row

pub at_held : (user name : List ℕ) (rows : List QueueEntry) (place : ℕ) (row : QueueEntry) → IsAt user name rows place row → users_entry user name rows ≡ Some row
at_held user name rows place row at' = find_at (is_key user name) rows ∙ ap (slice_get rows) (sym at'.first) ∙ slice_get_read rows (length rows) place row refl at'.within at'.there

pub at_key : (user name : List ℕ) (rows : List QueueEntry) (place : ℕ) (row : QueueEntry) → IsAt user name rows place row → is_key user name row ≡ true
at_key user name rows place row at' =
    ap (is_key user name) (at'.there ∙ ap (λ (k : ℕ). get_or rows k row) at'.first)
    ∙ passes_at_first (is_key user name) rows row (subst (λ (k : ℕ). k < length rows) at'.first at'.within)

-- what holds of a key holds of the user and the name of a row that has it
own_key : (P : List ℕ → List ℕ → Type 0) (user name : List ℕ) (row : QueueEntry) → is_key user name row ≡ true → P user name → P row.user row.name
own_key P user name row key holds =
    subst (λ (u : List ℕ). P u row.name) (sym (key_user user name row key)) (subst (λ (n : List ℕ). P user n) (sym (key_name user name row key)) holds)

apart_without : (user name : List ℕ) (xs : List QueueEntry) (row : QueueEntry) → Pairs IsApart xs → users_entry user name xs ≡ Some row → AllByRecursion (IsApart row) (without user name xs)
apart_without user name [] row pairs there = tt
apart_without user name (x ∷ xs) row pairs there =
    elim (cases_Bool (is_key user name x)) [
      | inl key ↦
          let rest : AllByRecursion (IsApart x) (without user name xs) = subst (AllByRecursion (IsApart x)) (sym (without_free user name xs (free_after user name x xs key pairs.0))) pairs.0 in
          rw key (subst (λ (r : QueueEntry). AllByRecursion (IsApart r) (without user name xs)) (held_first user name x row xs there key) rest)
      | inr other ↦
          let h : users_entry user name xs ≡ Some row = rw other at there in
          rw other (apart_turned x row (each_held (IsApart x) user name xs row pairs.0 h), apart_without user name xs row pairs.1 h)
    ]

count_without : (p : QueueEntry → Bool) (user name : List ℕ) (xs : List QueueEntry) (row : QueueEntry) → users_entry user name xs ≡ Some row → p row ≡ true → count_by p (without user name xs) < count_by p xs
count_without p user name [] row there own = absurd (let h : None ≡ Some row = there in cc)
count_without p user name (x ∷ xs) row there own =
    let all = count_cons p x xs in
    elim (cases_Bool (is_key user name x)) [
      | inl key ↦
          let out : without user name (x ∷ xs) ≡ without user name xs = rw key refl in
          let fewer : count_by p (without user name xs) ≤ count_by p xs = count-filter p _ xs in
          let own_too : p x ≡ true = ap p (held_first user name x row xs there key) ∙ own in
          let one : cond {A = ℕ} (p x) 1 0 ≡ 1 = ap (λ (b : Bool). cond {A = ℕ} b 1 0) own_too in
          rw out (omega arith)
      | inr other ↦
          let h : users_entry user name xs ≡ Some row = rw other at there in
          let out : without user name (x ∷ xs) ≡ x ∷ without user name xs = rw other refl in
          let some = count_cons p x (without user name xs) in
          let fewer = count_without p user name xs row h own in
          rw out (omega arith)
    ]

-- a row that was taken out has a place among the rest
pub place_without : (user name : List ℕ) (rows : List QueueEntry) (row : QueueEntry) → IsLawful rows → users_entry user name rows ≡ Some row → HasPlace row (without user name rows)
place_without user name rows row lawful there = record {
  whole = each_held IsWholeRow user name rows row (recursion_from_All IsWholeRow rows lawful.sound.whole) there;
  apart = All-from_recursion (IsApart row) _ (apart_without user name rows row (apart_from rows lawful) there);
  few =
      (
      let fewer = count_without (is_of (Some row.user)) user name rows row there (bytes_same row.user) in
      let few = lawful.sound.few row.user in
      omega arith
      );
}

-- one copy of a row was started, and others are left
pub copy_at : (user name : List ℕ) (rows : List QueueEntry) (place : ℕ) (row : QueueEntry) → IsLawful rows → IsAt user name rows place row → 1 < row.left → without_copy user name rows ≡ set rows place (with_left (row.left - 1) row)
copy_at user name rows place row lawful at' more =
    copy_lowers user name rows (apart_from rows lawful) row (at_held user name rows place row at') more
    ∙ ap (λ (k : ℕ). set rows k (with_left (row.left - 1) row)) (sym at'.first)

held_copy : (user name : List ℕ) (rows : List QueueEntry) (place : ℕ) (row : QueueEntry) → IsLawful rows → IsAt user name rows place row → 1 < row.left → users_entry user name (without_copy user name rows) ≡ Some (with_left (row.left - 1) row)
held_copy user name rows place row lawful at' more =
    ap (users_entry user name) (copy_at user name rows place row lawful at' more)
    ∙ find-set (is_key user name) rows place (with_left (row.left - 1) row) at'.first at'.within (at_key user name rows place row at')

set_back : (user name : List ℕ) (rows : List QueueEntry) (place : ℕ) (row : QueueEntry) → IsLawful rows → IsAt user name rows place row → 1 < row.left → set (without_copy user name rows) (position_or_len (is_key user name) (without_copy user name rows)) row ≡ rows
set_back user name rows place row lawful at' more =
    let low = with_left (row.left - 1) row in
    let key : is_key user name low ≡ is_key user name (get_or rows place row) = ap (is_key user name) at'.there in
    let same : position_or_len (is_key user name) (set rows place low) ≡ place = position_or_len-set (is_key user name) rows place low row key ∙ sym at'.first in
    ap (λ (ys : List QueueEntry). set ys (position_or_len (is_key user name) ys) row) (copy_at user name rows place row lawful at' more)
    ∙ ap (λ (k : ℕ). set (set rows place low) k row) same
    ∙ set-set rows place low row
    ∙ ap (set rows place) at'.there
    ∙ set-get_or rows place row

-- the queue without a row, and with room for it
abbrev pub out : List QueueEntry → ℕ → QueueData
out rows spare = record { rows = rows; spare = spare }

pub can_restore_out : (user name : List ℕ) (rows : List QueueEntry) (place : ℕ) (row : QueueEntry) (spare : ℕ) → IsLawful rows → IsAt user name rows place row → CanRestore row (out (without user name rows) (spare + 1))
can_restore_out user name rows place row spare lawful at' =
    let free : users_entry row.user row.name (without user name rows) ≡ None = own_key (λ u n. users_entry u n (without user name rows) ≡ None) user name row (at_key user name rows place row at') (held_without user name rows) in
    rw free (place_without user name rows row lawful (at_held user name rows place row at'), omega arith)

pub restored_out : (user name : List ℕ) (rows : List QueueEntry) (place : ℕ) (row : QueueEntry) (spare : ℕ) → IsLawful rows → IsAt user name rows place row → restored row (out (without user name rows) (spare + 1)) ≡ out rows spare
restored_out user name rows place row spare lawful at' =
    let free : users_entry row.user row.name (without user name rows) ≡ None = own_key (λ u n. users_entry u n (without user name rows) ≡ None) user name row (at_key user name rows place row at') (held_without user name rows) in
    let back = insert_restores user name rows (above_from rows lawful) row (at_held user name rows place row at') in
    let e : spare + 1 - 1 ≡ spare = omega arith in
    rw free (rw (back, e) refl)

-- the same of a row of which one copy was started
pub can_restore_copy : (user name : List ℕ) (rows : List QueueEntry) (place : ℕ) (row : QueueEntry) (spare : ℕ) → IsLawful rows → IsAt user name rows place row → 1 < row.left → CanRestore row (out (without_copy user name rows) spare)
can_restore_copy user name rows place row spare lawful at' more =
    let there = at_held user name rows place row at' in
    let key = at_key user name rows place row at' in
    let kept : users_entry user name (without_copy user name rows) ≡ Some (with_left (row.left - 1) row) = held_copy user name rows place row lawful at' more in
    let own : users_entry row.user row.name (without_copy user name rows) ≡ Some (with_left (row.left - 1) row) = own_key (λ u n. users_entry u n (without_copy user name rows) ≡ Some (with_left (row.left - 1) row)) user name row key kept in
    let e : row.left - 1 + 1 ≡ row.left = omega arith in
    rw own (ap (λ (left : ℕ). with_left left row) e, each_held IsWholeRow user name rows row (recursion_from_All IsWholeRow rows lawful.sound.whole) there)

pub restored_copy : (user name : List ℕ) (rows : List QueueEntry) (place : ℕ) (row : QueueEntry) (spare : ℕ) → IsLawful rows → IsAt user name rows place row → 1 < row.left → restored row (out (without_copy user name rows) spare) ≡ out rows spare
restored_copy user name rows place row spare lawful at' more =
    let key = at_key user name rows place row at' in
    let kept = held_copy user name rows place row lawful at' more in
    let own : users_entry row.user row.name (without_copy user name rows) ≡ Some (with_left (row.left - 1) row) = own_key (λ u n. users_entry u n (without_copy user name rows) ≡ Some (with_left (row.left - 1) row)) user name row key kept in
    let where' = own_key (λ u n. set (without_copy user name rows) (position_or_len (is_key u n) (without_copy user name rows)) row ≡ rows) user name row key (set_back user name rows place row lawful at' more) in
    rw own (rw where' refl)

pub lawful_copy : (user name : List ℕ) (rows : List QueueEntry) (place : ℕ) (row : QueueEntry) → IsLawful rows → IsAt user name rows place row → 1 < row.left → IsLawful (without_copy user name rows)
lawful_copy user name rows place row lawful at' more =
    let whole = each_held IsWholeRow user name rows row (recursion_from_All IsWholeRow rows lawful.sound.whole) (at_held user name rows place row at') in
    subst IsLawful (sym (copy_at user name rows place row lawful at' more))
    (lawful_set rows place (row.left - 1) row lawful at'.within at'.there (record { some = omega arith; left = omega (arith, whole.left); most = whole.most }))

-- nothing passes a test whose first place is past the end, and what is read at the first place is found
pub none_past : (p : QueueEntry → Bool) (rows : List QueueEntry) (place : ℕ) → place ≡ position_or_len p rows → length rows ≤ place → find p rows ≡ None
none_past p rows place first past = find_at p rows ∙ ap (slice_get rows) (sym first) ∙ slice_get_past rows place past

pub some_read : (p : QueueEntry → Bool) (rows : List QueueEntry) (place : ℕ) (row : QueueEntry) → place ≡ position_or_len p rows → place < length rows → row ≡ get_or rows place row → find p rows ≡ Some row
some_read p rows place row first within there = find_at p rows ∙ ap (slice_get rows) (sym first) ∙ slice_get_read rows (length rows) place row refl within there

-- an entry goes back to the place of what is left of it
pub restore_there : (rows : List QueueEntry) (spare place : ℕ) (kept entry : QueueEntry) → IsLawful rows → IsAt entry.user entry.name rows place kept → CanRestore entry (out rows spare) → IsLawful (set rows place entry) × (restored entry (out rows spare) ≡ out (set rows place entry) spare)
restore_there rows spare place kept entry lawful at' can =
    let there = at_held entry.user entry.name rows place kept at' in
    let back : (with_left (kept.left + 1) kept ≡ entry) × IsWholeRow entry = rw there at can in
    let lawful' = lawful_set rows place (kept.left + 1) kept lawful at'.within at'.there (subst IsWholeRow (sym back.0) back.1) in (
      subst (λ (e : QueueEntry). IsLawful (set rows place e)) back.0 lawful',
      (rw there (ap (λ (k : ℕ). out (set rows k entry) spare) (sym at'.first))),
    )

-- an entry of a key that isn't held has its place, and there is room for it
pub restore_free : (rows : List QueueEntry) (spare place : ℕ) (entry : QueueEntry) → place ≡ position_or_len (is_key entry.user entry.name) rows → length rows ≤ place → CanRestore entry (out rows spare) → HasPlace entry rows × (0 < spare) × (restored entry (out rows spare) ≡ out (insert_row entry rows) (spare - 1))
restore_free rows spare place entry first past can =
    let none = none_past (is_key entry.user entry.name) rows place first past in
    let can' : HasPlace entry rows × (0 < spare) = rw none at can in
    (can'.0, can'.1, rw none refl)

-- no arrival is above the last
last_above : (a : ℕ) (rows : List QueueEntry) → a ≤ fold (λ last row. max last row.arrival) a rows
last_above a [] = omega arith
last_above a (x ∷ xs) = (let h = last_above (max a x.arrival) xs in omega arith)

each_last : (a : ℕ) (rows : List QueueEntry) → AllByRecursion (λ row. row.arrival ≤ fold (λ last r. max last r.arrival) a rows) rows
each_last a [] = tt
each_last a (x ∷ xs) = ((let h = last_above (max a x.arrival) xs in omega arith), each_last (max a x.arrival) xs)

free_none : (user name : List ℕ) (rows : List QueueEntry) → users_entry user name rows ≡ None → AllByRecursion (λ row. is_key user name row ≡ false) rows
free_none user name [] none = tt
free_none user name (x ∷ xs) none =
    elim (cases_Bool (is_key user name x)) [
      | inl key ↦ absurd (let h = rw key at none in cc)
      | inr other ↦ (other, free_none user name xs (rw other at none))
    ]

-- a new entry of a free name has a place after the last arrival
pub place_new : (rows : List QueueEntry) (asked : QueueEntry) → users_entry asked.user asked.name rows ≡ None → IsWholeRow asked → count_by (is_of (Some asked.user)) rows < 64 → HasPlace (record asked { arrival = last_arrival rows + 1 }) rows
place_new rows asked none whole few = record {
  whole = record { some = whole.some; left = whole.left; most = whole.most };
  apart = All-from_recursion (IsApart (record asked { arrival = last_arrival rows + 1 })) rows
      (each_both (λ row. row.arrival ≤ last_arrival rows) (λ row. is_key asked.user asked.name row ≡ false) (IsApart (record asked { arrival = last_arrival rows + 1 }))
      (λ row below free. record { arrival = λ same. omega arith; key = free }) rows (each_last 0 rows) (free_none asked.user asked.name rows none));
  few = few;
}

-- data with the same rows and room are the same
pub data_same : (a b : QueueData) → a.rows ≡ b.rows → a.spare ≡ b.spare → a ≡ b
data_same a b rows spare = ap (λ (r : List QueueEntry). out r a.spare) rows ∙ ap (out b.rows) spare

-- the answer to a put of a free name
pub put_free : (rows : List QueueEntry) (asked : QueueEntry) → users_entry asked.user asked.name rows ≡ None → put_answer rows asked ≡ new_answer rows asked
put_free rows asked none = rw none refl
