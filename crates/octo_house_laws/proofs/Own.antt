-- Each answer to a request for rows of one's own is determined by these rows.
use Rattle.std.proofs.Common.{◌≡◌, ◌⊎◌, inl, inr, ℕ, Bool, true, false, cond, not, List, [], ◌∷◌, length, ◌==◌, Option, Some, None, Result, Ok, Err, refl, ap, subst}
use Rattle.std.proofs.lemmas.Option.{same_Some}
use Rattle.std.specs.List.{find, filter}
use Rattle.std.specs.Option.{option_or, option_map}
use Rattle.sha2.specs.Sha256.{sha256}
use Rattle.octo_access.specs.Rights.{caller, is_caller, admin_row, admin_with_key}
use Rattle.octo_access.specs.declared.permission.Permission.{Permission}
use Rattle.octo_access.specs.declared.policy.Policy.{Policy}
use Rattle.octo_access.specs.declared.row.UserRow.{UserRow}
use Rattle.octo_keeper.specs.declared.shelf.ShelfFile.{ShelfFile}
use Rattle.print_queue.specs.Calls.{put_answer}
use Rattle.print_queue.specs.Rows.{is_of, users_entry, without, insert_row}
use Rattle.print_queue.specs.declared.entry.QueueEntry.{QueueEntry}
use Rattle.print_queue.specs.declared.refusal.Put.{Put}
use Rattle.print_queue.specs.declared.refusal.QueueRefusal.{QueueRefusal}
use Rattle.octo_asks.specs.Rights.{needed}
use Rattle.octo_asks.specs.Shown.{shown_entry}
use Rattle.octo_asks.specs.declared.answer.Answer.{Answer}
use Rattle.octo_asks.specs.declared.answer.Answer.TheVariants as answer
use Rattle.octo_asks.specs.declared.entry.Entry.{Entry}
use Rattle.octo_asks.specs.declared.entry.Entry.TheVariants as entry
use Rattle.octo_asks.specs.declared.request.Ask.{Ask}
use Rattle.octo_asks.specs.declared.request.Request.{Request}
use Rattle.octo_asks.specs.declared.request.Request.TheVariants as request
use Rattle.octo_house_rules.specs.Answers.{verdict, verdict_by, verdict_of_caller, unless_lacking, lacking, request_verdict, free_verdict}
use Rattle.octo_house_rules.specs.Isolation.{is_private, SameFor}
use Rattle.octo_house_rules.specs.Known.{Known, is_held}
use Rattle.octo_house_rules.specs.Legal.{Standing, after_entry, IsLegal}
use Rattle.octo_house_rules.specs.Reads.{is_print_of}
use Rattle.octo_house_rules.specs.Refusals.{refused_if, found_or}
use Rattle.octo_house_rules.specs.Rows.{put_by, asked_entry, with_queue}
use Rattle.octo_house_rules.specs.Verdict.{Verdict, Deed, May, gives, makes, writes, reads, removes, stores, begins, answer_in}
use Rattle.octo_house_rules.proofs.Isolated.{isolation}
use Rattle.octo_house_laws.specs.Own.{view_of, host_of, IsIsolated, IsEntryIsolated, EveryCallerIsIsolated}

-- a filter twice is that filter
again-more : {X : Type 0} (p : X → Bool) (x : X) (xs : List X) (b : Bool) → p x ≡ b → filter p xs ≡ filter p (filter p xs)
    → filter p (x ∷ xs) ≡ filter p (filter p (x ∷ xs))
again-more p x xs true e h = rw (e, e) (ap (λ zs. x ∷ zs) h)
again-more p x xs false e h = rw e h

filter-again : {X : Type 0} (p : X → Bool) (xs : List X) → filter p xs ≡ filter p (filter p xs)
filter-again p [] = refl
filter-again p (x ∷ xs) = again-more p x xs (p x) refl (filter-again p xs)

-- what a search finds, it finds alone too
found-more : {X : Type 0} (p : X → Bool) (x : X) (xs : List X) (y : X) (b : Bool) → p x ≡ b → (find p xs ≡ Some y → find p (y ∷ []) ≡ Some y)
    → cond b (Some x) (find p xs) ≡ Some y → find p (y ∷ []) ≡ Some y
found-more p x xs y true is h e = subst (λ z. find p (z ∷ []) ≡ Some z) (same_Some x y e) (rw is refl)
found-more p x xs y false is h e = h e

found-alone : {X : Type 0} (p : X → Bool) (xs : List X) (y : X) → find p xs ≡ Some y → find p (y ∷ []) ≡ Some y
found-alone p [] y e = absurd (cc)
found-alone p (x ∷ xs) y e = found-more p x xs y (p x) refl (found-alone p xs y) e

-- whom a key names, it names among no others too
module _ (test : UserRow → Bool) (rows : List UserRow) (user : UserRow) where
  by-admin : (admin : Option UserRow) → option_or admin (find test rows) ≡ Some user → option_or admin (find test (user ∷ [])) ≡ Some user
  by-admin (Some row) e = e
  by-admin None e = found-alone test rows user e

  by-key : (empty : Bool) (admin : Option UserRow) → cond empty None (option_or admin (find test rows)) ≡ Some user
      → cond empty None (option_or admin (find test (user ∷ []))) ≡ Some user
  by-key true admin e = e
  by-key false admin e = by-admin admin e

named-alone : (policy : Policy) (rows : List UserRow) (key : List ℕ) (user : UserRow) → caller policy rows key ≡ Some user → caller policy (user ∷ []) key ≡ Some user
named-alone policy rows key user e =
    by-key (is_caller (sha256 key)) rows user (length key == 0) (option_map admin_row (admin_with_key (sha256 key) policy.admin)) e

-- a host that knows a user's view alone is the same for that user
same-view : (key : List ℕ) (user : UserRow) (k : Known) → caller k.policy k.users key ≡ Some user → SameFor key user k (host_of (view_of user k))
same-view key user k e = record {
  policy = refl;
  here = e;
  there = named-alone k.policy k.users key user e;
  queue = filter-again (is_of (Some user.name)) k.queue;
  prints = filter-again (is_print_of (Some user.name)) k.prints;
  names = refl;
}

-- a verdict whose only fault is the keeper's
abbrev IsPlain : Verdict → Type 0
IsPlain (gives a) = Unit {0}
IsPlain (writes a deed) = Unit {0}
IsPlain _ = ⊥

plain-answers : (v : Verdict) (x : Answer) → IsPlain v → May v x → (x ≡ answer.KeeperFault) ⊎ (x ≡ answer_in v)
plain-answers (gives a) x p may = inr may
plain-answers (writes a deed) x p (inl is) = inr is
plain-answers (writes a deed) x p (inr fault) = inl fault
plain-answers (makes a deed) x p may = absurd p
plain-answers (reads v) x p may = absurd p
plain-answers (removes name a deed) x p may = absurd p
plain-answers (stores name bytes deed v) x p may = absurd p
plain-answers (begins a deed name) x p may = absurd p

plain-fresh : (fresh : Bool) (x : Answer) (deed : Deed) → IsPlain (cond fresh (writes x deed) (gives x))
plain-fresh true x deed = tt
plain-fresh false x deed = tt

plain-put : (r : Result Put QueueRefusal) (k : Known) → IsPlain (put_by r k)
plain-put (Ok put) k = plain-fresh put.fresh (answer.OneEntry (shown_entry put.entry)) (with_queue (insert_row put.entry k.queue) k)
plain-put (Err refused) k = tt

plain-refused : (is : Bool) (x : Answer) (v : Verdict) → IsPlain v → IsPlain (refused_if is x v)
plain-refused true x v p = tt
plain-refused false x v p = p

plain-drop : (o : Option QueueEntry) (x y : Answer) (deed : QueueEntry → Deed) → IsPlain (found_or o x (λ row. writes y (deed row)))
plain-drop None x y deed = tt
plain-drop (Some row) x y deed = tt

plain-request : (asked : Request) (user : UserRow) (files : List ShelfFile) (k : Known) → is_private asked ≡ true → IsPlain (request_verdict asked user files k)
plain-request request.ListQueue user files k p = tt
plain-request request.ListPrints user files k p = tt
plain-request (request.DropOwn name) user files k p =
    plain-drop (users_entry user.name name k.queue) answer.NoEntry answer.Accepted (λ row. with_queue (without user.name name k.queue) k)
plain-request (request.PutEntry name file priority copies material) user files k p =
    let asked : QueueEntry = asked_entry user.name name file priority copies material in
    plain-refused (not (is_held asked.file k)) answer.NoFile (put_by (put_answer k.queue asked) k) (plain-put (put_answer k.queue asked) k)
plain-request _ user files k p = absurd (cc)

plain-allowed : (o : Option Permission) (v : Verdict) → IsPlain v → IsPlain (unless_lacking o v)
plain-allowed None v p = p
plain-allowed (Some permission) v p = tt

plain-caller : (o : Option UserRow) (permissions : List Permission) (k : Known) (next : UserRow → Verdict) → ((user : UserRow) → IsPlain (next user))
    → IsPlain (verdict_of_caller o permissions k next)
plain-caller None permissions k next p = tt
plain-caller (Some user) permissions k next p = plain-allowed (lacking k user permissions) (next user) (p user)

plain-free : (key : List ℕ) (asked : Request) (k : Known) → is_private asked ≡ true → IsPlain (free_verdict key asked k)
plain-free key request.AutoConnect k p = absurd (cc)
plain-free key _ k p = tt

plain-by : (permissions : List Permission) (key : List ℕ) (asked : Request) (files : List ShelfFile) (k : Known) → is_private asked ≡ true
    → IsPlain (verdict_by permissions key asked files k)
plain-by [] key asked files k p = plain-free key asked k p
plain-by (permission ∷ permissions) key asked files k p =
    plain-caller (caller k.policy k.users key) (permission ∷ permissions) k (λ user. request_verdict asked user files k) (λ user. plain-request asked user files k p)

by-answer : (ask : Ask) (x : Answer) (s : Standing) → (x ≡ answer.NoMemory) ⊎ May (verdict ask s.files s.known) x → IsIsolated ask x s
by-answer ask x s (inl none) = λ user names plain asks. inl none
by-answer ask x s (inr may) = λ user names plain asks.
    elim (plain-answers (verdict ask s.files s.known) x (plain-by (needed ask.request) ask.key ask.request s.files s.known asks) may) [
      | inl fault ↦ inr (inl fault)
      | inr is ↦ inr (inr (rw is (isolation ask user s.files [] s.known (host_of (view_of user s.known)) asks plain (same-view ask.key user s.known names))))
    ]

pub isolated_entry : (e : Entry) (s : Standing) → IsLegal e s → IsEntryIsolated e s
isolated_entry (entry.Call worker ask moment x) s l = by-answer ask x s l.1.may
isolated_entry (entry.Note note) s l = tt
isolated_entry entry.Close s l = tt

pub every_caller : EveryCallerIsIsolated
every_caller [] s l = tt
every_caller (e ∷ es) s l = (isolated_entry e s l.0, every_caller es (after_entry e s) l.1)
