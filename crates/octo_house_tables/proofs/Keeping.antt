-- What the keeper keeps stays the host's.
use Rattle.std.proofs.Common.{◌≡◌, ◌≢◌, ℕ, Option, None, Some, option_map, List, [], ◌∷◌, ◌++◌, refl, sym, ap, ◌∙◌, subst}
use Rattle.std.specs.Option.{option_or}
use Rattle.octo_access.specs.Rows.{with_row, replaced, IsUserTable}
use Rattle.octo_access.specs.declared.row.UserRow.{UserRow}
use Rattle.octo_keeper.specs.Tables.{changed, with_user, with_end, with_due_end, with_taken}
use Rattle.octo_keeper.specs.declared.tables.Tables.{Tables}
use Rattle.octo_keeper.specs.declared.tables.Change.{Change}
use Rattle.octo_keeper.specs.declared.tables.Change.TheVariants as change
use Rattle.print_queue.specs.Rows.{insert_row, without}
use Rattle.print_queue.specs.declared.entry.QueueEntry.{QueueEntry}
use Rattle.print_queue.specs.declared.ending.Ending.{Ending}
use Rattle.print_queue.specs.declared.row.PrintRow.{PrintRow}
use Rattle.octo_house_tables.specs.Data.{TablesData, due_of, with_begun, with_ended}
use Rattle.octo_house_tables.specs.declared.tables.Unwritten.{Unwritten}
use Rattle.octo_house_tables.specs.Kept.{AreRows, Kept, KeepsRows}
use Rattle.octo_house_tables.proofs.Records.{rows-begun, rows-end}
use Rattle.octo_house_tables.proofs.Replaced.{with_user-replaced}

-- nothing has changed
pub keeps-same : (was now : Option Tables) (old new : TablesData) → now ≡ was → new ≡ old → KeepsRows was now old new
keeps-same was now old new tables host = rw (tables, host) (λ begun kept. kept)

-- the keeper wrote a change
keeps-some : (one : Change) (t : Tables) (now : Option Tables) (old new : TablesData) → now ≡ Some (changed one t)
    → ((begun : ℕ) → Kept begun t old → Kept begun (changed one t) new) → KeepsRows (Some t) now old new
keeps-some one t now old new is step begun kept later at =
    let same : changed one t ≡ later = cc in
    subst (λ (u : Tables). Kept begun u new) same (step begun (kept t refl))

keeps-none : (now : Option Tables) (old new : TablesData) → now ≡ None → KeepsRows None now old new
keeps-none now old new is begun kept later at = absurd (cc)

pub keeps-changed : (one : Change) (was now : Option Tables) (old new : TablesData) → now ≡ option_map (changed one) was
    → ((t : Tables) (begun : ℕ) → Kept begun t old → Kept begun (changed one t) new) → KeepsRows was now old new
keeps-changed one None now old new is step = keeps-none now old new is
keeps-changed one (Some t) now old new is step = keeps-some one t now old new is (step t)

-- each change, at the keeper and at the host
pub kept-user : (row : UserRow) (old new : TablesData) → new ≡ record old { users = with_row row old.users } → (t : Tables) (begun : ℕ)
    → Kept begun t old → Kept begun (changed (change.PutUser row) t) new
kept-user row old new is t begun k = subst (λ n. Kept begun (changed (change.PutUser row) t) n) (sym is)
    (record { users = ap (with_row row) k.users; queue = k.queue; prints = k.prints })

pub kept-set : (row : UserRow) (old new : TablesData) → IsUserTable old.users → new ≡ record old { users = replaced row old.users }
    → (t : Tables) (begun : ℕ) → Kept begun t old → Kept begun (changed (change.SetUser row) t) new
kept-set row old new table is t begun k = subst (λ n. Kept begun (changed (change.SetUser row) t) n) (sym is) (record {
  users = ap (with_user row) k.users ∙ with_user-replaced row old.users table;
  queue = k.queue;
  prints = k.prints;
})

pub kept-entry : (entry : QueueEntry) (old new : TablesData) → new ≡ record old { queue = insert_row entry old.queue } → (t : Tables) (begun : ℕ)
    → Kept begun t old → Kept begun (changed (change.PutEntry entry) t) new
kept-entry entry old new is t begun k = subst (λ n. Kept begun (changed (change.PutEntry entry) t) n) (sym is)
    (record { users = k.users; queue = ap (insert_row entry) k.queue; prints = k.prints })

pub kept-drop : (user name : List ℕ) (old new : TablesData) → new ≡ record old { queue = without user name old.queue } → (t : Tables) (begun : ℕ)
    → Kept begun t old → Kept begun (changed (change.DropEntry user name) t) new
kept-drop user name old new is t begun k = subst (λ n. Kept begun (changed (change.DropEntry user name) t) n) (sym is)
    (record { users = k.users; queue = ap (without user name) k.queue; prints = k.prints })

no-due : (old : TablesData) → old.unwritten ≡ None → due_of old ≡ None
no-due old none = ap (option_map (λ (u : Unwritten). u.ending)) none

pub kept-begin : (ended due : Option Ending) (row : PrintRow) (taken : Option QueueEntry) (old new : TablesData) → (ended ≢ None → old.unwritten ≡ None)
    → due ≡ option_or ended (due_of old) → new ≡ with_begun ended row taken old
    → (t : Tables) (begun : ℕ) → Kept begun t old → Kept begun (changed (change.Begin due row taken) t) new
kept-begin ended due row taken old new alone both is t begun k =
    subst (λ n. Kept begun (changed (change.Begin due row taken) t) n) (sym is)
    (subst (λ d. Kept begun (changed (change.Begin d row taken) t) (with_begun ended row taken old)) (sym both) (record {
      users = k.users;
      queue = ap (with_taken taken) k.queue;
      prints = rows-begun begun ended (due_of old) row t.prints old.prints (λ some. no-due old (alone some)) k.prints;
    }))

-- an end that was due is written
pub kept-end : (ending : Ending) (old new : TablesData) → due_of old ≡ Some ending → new ≡ record old { unwritten = None }
    → (t : Tables) (begun : ℕ) → Kept begun t old → Kept begun (changed (change.End ending) t) new
kept-end ending old new due is t begun k =
    subst (λ n. Kept begun (changed (change.End ending) t) n) (sym is) (record {
      users = k.users;
      queue = k.queue;
      prints = subst (λ d. AreRows begun (with_due_end d t.prints) old.prints) due k.prints;
    })

-- an end becomes due
pub keeps-ended : (ending : Ending) (held : Option Tables) (old new : TablesData) → old.unwritten ≡ None → due_of new ≡ Some ending
    → new ≡ record old { prints = with_ended ending old; unwritten = new.unwritten } → KeepsRows held held old new
keeps-ended ending held old new none due is begun kept t at =
    let k : Kept begun t old = kept t at in
    let before : AreRows begun t.prints old.prints = subst (λ d. AreRows begun (with_due_end d t.prints) old.prints) (no-due old none) k.prints in
    record {
      users = k.users ∙ ap (λ (u : TablesData). u.users) (sym is);
      queue = k.queue ∙ ap (λ (u : TablesData). u.queue) (sym is);
      prints = subst (λ d. AreRows begun (with_due_end d t.prints) new.prints) (sym due)
          (subst (λ rows. AreRows begun (with_end ending t.prints) rows) (ap (λ (u : TablesData). u.prints) (sym is))
          (rows-end begun ending t.prints old.prints before));
    }

-- an end stays due
pub keeps-due : (was now : Option Tables) (old new : TablesData) → now ≡ was → due_of new ≡ due_of old → new.users ≡ old.users → new.queue ≡ old.queue
    → new.prints ≡ old.prints
    → KeepsRows was now old new
keeps-due was now old new same due users queue prints begun kept t at =
    let k : Kept begun t old = kept t (sym same ∙ at) in
    record {
      users = k.users ∙ sym users;
      queue = k.queue ∙ sym queue;
      prints = subst (λ d. AreRows begun (with_due_end d t.prints) new.prints) (sym due)
          (subst (λ rows. AreRows begun (with_due_end (due_of old) t.prints) rows) (sym prints) k.prints);
    }

-- a host's tables with other users, or another queue
pub users-same : (view old : TablesData) (users : List UserRow) → view ≡ old → users ≡ view.users → record view { users = users } ≡ old
users-same view old users is at = ap (λ us. record view { users = us }) at ∙ is

pub users-over : (view old : TablesData) (users : List UserRow) (f : List UserRow → List UserRow) → view ≡ old → users ≡ f view.users
    → record view { users = users } ≡ record old { users = f old.users }
users-over view old users f is at = ap (λ us. record view { users = us }) at ∙ ap (λ (t : TablesData). record t { users = f t.users }) is

pub queue-same : (view old : TablesData) (rows : List QueueEntry) → view ≡ old → rows ≡ view.queue → record view { queue = rows } ≡ old
queue-same view old rows is at = ap (λ qs. record view { queue = qs }) at ∙ is

pub queue-over : (view old : TablesData) (rows : List QueueEntry) (f : List QueueEntry → List QueueEntry) → view ≡ old → rows ≡ f view.queue
    → record view { queue = rows } ≡ record old { queue = f old.queue }
queue-over view old rows f is at = ap (λ qs. record view { queue = qs }) at ∙ ap (λ (t : TablesData). record t { queue = f t.queue }) is

pub prints-same : (view old : TablesData) (rows : List PrintRow) → view ≡ old → rows ≡ view.prints → record view { prints = rows } ≡ old
prints-same view old rows is at = ap (λ ps. record view { prints = ps }) at ∙ is

pub prints-ended : (view old : TablesData) (rows : List PrintRow) (ending : Ending) (unwritten : Option Unwritten) → view ≡ old
    → rows ≡ with_end ending view.prints
    → record view { prints = rows; unwritten = unwritten } ≡ record old { prints = with_ended ending old; unwritten = unwritten }
prints-ended view old rows ending unwritten is at =
    ap (λ ps. record view { prints = ps; unwritten = unwritten }) at
    ∙ ap (λ (t : TablesData). record t { prints = with_end ending t.prints; unwritten = unwritten }) is

pub begun-over : (view old new : TablesData) (prints : List PrintRow) (ended : Option Ending) (row : PrintRow) (taken : Option QueueEntry) → view ≡ old
    → prints ≡ with_due_end ended view.prints ++ row ∷ [] → new ≡ record view { queue = with_taken taken view.queue; prints = prints }
    → record new { unwritten = None } ≡ with_begun ended row taken old
begun-over view old new prints ended row taken is at made =
    ap (λ (t : TablesData). record t { unwritten = None }) made
    ∙ ap (λ ps. record view { queue = with_taken taken view.queue; prints = ps; unwritten = None }) at
    ∙ ap (λ (t : TablesData). with_begun ended row taken t) is
