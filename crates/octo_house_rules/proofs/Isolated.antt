-- The answers to a caller depend on the caller's own rows alone.
use Rattle.std.proofs.Common.{◌≡◌, inl, inr, ℕ, Bool, true, false, cond, not, nat_le, ◌==◌, List, [], ◌∷◌, map, reverse, take, Option, Some, None, Result, Ok, Err, refl, ◌∙◌, ap, sym}
use Rattle.std.specs.List.{find, filter, list_any, count_by}
use Rattle.std.specs.Str.{bytes_eq}
use Rattle.octo_access.specs.Rights.{has, caller}
use Rattle.octo_access.specs.declared.permission.Permission.{Permission}
use Rattle.octo_access.specs.declared.permission.Permission.TheVariants as permission
use Rattle.octo_access.specs.declared.row.UserRow.{UserRow}
use Rattle.octo_keeper.specs.declared.shelf.ShelfFile.{ShelfFile}
use Rattle.print_queue.specs.Calls.{put_answer}
use Rattle.print_queue.specs.Rows.{users_entry, is_of, last_arrival, without}
use Rattle.print_queue.specs.declared.entry.QueueEntry.{QueueEntry}
use Rattle.print_queue.specs.declared.refusal.Put.{Put}
use Rattle.print_queue.specs.declared.refusal.QueueRefusal.{QueueRefusal}
use Rattle.octo_asks.specs.Shown.{shown_entry, shown_print}
use Rattle.octo_asks.specs.declared.answer.Answer.{Answer}
use Rattle.octo_asks.specs.declared.answer.Answer.TheVariants as answer
use Rattle.octo_asks.specs.declared.request.Request.{Request}
use Rattle.octo_asks.specs.declared.request.Request.TheVariants as request
use Rattle.octo_asks.specs.Rights.{needed}
use Rattle.octo_house_rules.specs.Known.{Known, is_held, whose}
use Rattle.octo_house_rules.specs.Reads.{is_print_of}
use Rattle.octo_house_rules.specs.Rows.{asked_entry, put_by, put_entry_verdict}
use Rattle.octo_house_rules.specs.Refusals.{refused_if, found_or}
use Rattle.octo_house_rules.specs.Verdict.{Verdict, Deed, gives, writes, answer_in}
use Rattle.octo_house_rules.specs.Answers.{request_verdict, verdict_of_caller, unless_lacking, lacking, verdict_by}
use Rattle.octo_house_rules.specs.Isolation.{is_private, SameFor, IsSame, Isolation}
use Rattle.octo_house_rules.proofs.Verdicts.{put_from, put_is, found-same, count-same}

-- equal answers in the place of others
same-by : {x y z w : Answer} → x ≡ z → y ≡ w → IsSame z w → IsSame x y
same-by e f h = rw (e, f) h

same-allowed : (o : Option Permission) (v w : Verdict) → IsSame (answer_in v) (answer_in w) → IsSame (answer_in (unless_lacking o v)) (answer_in (unless_lacking o w))
same-allowed None v w h = h
same-allowed (Some p) v w h = inl refl

-- a caller who lacks a permission in one state lacks it in the other
module _ (key : List ℕ) (asked : Request) (user : UserRow) (files others : List ShelfFile) (a b : Known) (same : SameFor key user a b) where
  same-permitted : (ps : List Permission) → IsSame (answer_in (request_verdict asked user files a)) (answer_in (request_verdict asked user others b)) → IsSame (answer_in (verdict_of_caller (caller a.policy a.users key) ps a (λ u. request_verdict asked u files a))) (answer_in (verdict_of_caller (caller b.policy b.users key) ps b (λ u. request_verdict asked u others b)))
  same-permitted ps h =
      same-by (ap (λ c. answer_in (verdict_of_caller c ps a (λ u. request_verdict asked u files a))) same.here)
      (ap (λ c. answer_in (verdict_of_caller c ps b (λ u. request_verdict asked u others b))) same.there
      ∙ ap (λ p. answer_in (unless_lacking (find (λ q. not (has p user q)) ps) (request_verdict asked user others b))) (sym same.policy))
      (same-allowed (lacking a user ps) (request_verdict asked user files a) (request_verdict asked user others b) h)

-- the rows that a user without the permission ADMIN is shown are the user's own
whose-own : (k : Known) (user : UserRow) → has k.policy user permission.Admin ≡ false → whose k user ≡ Some user.name
whose-own k user e = ap (λ (is : Bool). cond is None (Some user.name)) e

module _ (key : List ℕ) (user : UserRow) (a b : Known) (same : SameFor key user a b) (plain : has a.policy user permission.Admin ≡ false) where
  plain-there : has b.policy user permission.Admin ≡ false
  plain-there = ap (λ p. has p user permission.Admin) (sym same.policy) ∙ plain

  same-queue : filter (is_of (whose a user)) a.queue ≡ filter (is_of (whose b user)) b.queue
  same-queue = ap (λ w. filter (is_of w) a.queue) (whose-own a user plain) ∙ same.queue ∙ sym (ap (λ w. filter (is_of w) b.queue) (whose-own b user plain-there))

  same-prints : filter (is_print_of (whose a user)) a.prints ≡ filter (is_print_of (whose b user)) b.prints
  same-prints = ap (λ w. filter (is_print_of w) a.prints) (whose-own a user plain) ∙ same.prints ∙ sym (ap (λ w. filter (is_print_of w) b.prints) (whose-own b user plain-there))

-- whether an entry is found decides the answer to a drop
same-drop : (o : Option QueueEntry) (d e : QueueEntry → Deed) → answer_in (found_or o answer.NoEntry (λ row. writes answer.Accepted (d row))) ≡ answer_in (found_or o answer.NoEntry (λ row. writes answer.Accepted (e row)))
same-drop None d e = refl
same-drop (Some row) d e = refl

same-fresh : (fresh : Bool) (x : Answer) (d e : Deed) → answer_in (cond fresh (writes x d) (gives x)) ≡ answer_in (cond fresh (writes x e) (gives x))
same-fresh true x d e = refl
same-fresh false x d e = refl

-- the queue answers a put in the same way
same-put : (r : Result Put QueueRefusal) (a b : Known) → answer_in (put_by r a) ≡ answer_in (put_by r b)
same-put (Ok put) a b = same-fresh put.fresh _ _ _
same-put (Err refused) a b = refl

same-new : (full used other : Bool) (last last_other : ℕ) (asked : QueueEntry) (a b : Known) → IsSame (answer_in (put_by (put_from None full used last asked) a)) (answer_in (put_by (put_from None full other last_other asked) b))
same-new true used other last last_other asked a b = inl refl
same-new false true other last last_other asked a b = inr (inl refl)
same-new false false true last last_other asked a b = inr (inr refl)
same-new false false false last last_other asked a b = inl refl

same-from : (o : Option QueueEntry) (full used other : Bool) (last last_other : ℕ) (asked : QueueEntry) (a b : Known) → IsSame (answer_in (put_by (put_from o full used last asked) a)) (answer_in (put_by (put_from o full other last_other asked) b))
same-from (Some kept) full used other last last_other asked a b = inl (same-put _ a b)
same-from None full used other last last_other asked a b = same-new full used other last last_other asked a b

same-refused : (is : Bool) (x : Answer) (v w : Verdict) → IsSame (answer_in v) (answer_in w) → IsSame (answer_in (refused_if is x v)) (answer_in (refused_if is x w))
same-refused true x v w h = inl refl
same-refused false x v w h = h

module _ (asked : QueueEntry) (a b : Known) (same : filter (is_of (Some asked.user)) a.queue ≡ filter (is_of (Some asked.user)) b.queue) where
  put-there : put_answer b.queue asked ≡ put_from (users_entry asked.user asked.name a.queue) (nat_le 64 (count_by (is_of (Some asked.user)) a.queue)) (last_arrival b.queue == 4294967295) (last_arrival b.queue) asked
  put-there =
      put_is b.queue asked _ refl
      ∙ ap (λ o. put_from o (nat_le 64 (count_by (is_of (Some asked.user)) b.queue)) (last_arrival b.queue == 4294967295) (last_arrival b.queue) asked) (sym (found-same asked.user a.queue b.queue same asked.name))
      ∙ ap (λ n. put_from (users_entry asked.user asked.name a.queue) (nat_le 64 n) (last_arrival b.queue == 4294967295) (last_arrival b.queue) asked) (sym (count-same asked.user a.queue b.queue same))

  same-puts : IsSame (answer_in (put_by (put_answer a.queue asked) a)) (answer_in (put_by (put_answer b.queue asked) b))
  same-puts =
      same-by (ap (λ r. answer_in (put_by r a)) (put_is a.queue asked _ refl)) (ap (λ r. answer_in (put_by r b)) put-there)
      (same-from (users_entry asked.user asked.name a.queue) (nat_le 64 (count_by (is_of (Some asked.user)) a.queue)) _ _ _ _ asked a b)

  same-entry : a.names ≡ b.names → IsSame (answer_in (put_entry_verdict asked a)) (answer_in (put_entry_verdict asked b))
  same-entry names =
      same-by refl (ap (λ (held_names : List (List ℕ)). answer_in (refused_if (not (list_any (λ n. bytes_eq n asked.file) held_names)) answer.NoFile (put_by (put_answer b.queue asked) b))) (sym names))
      (same-refused (not (is_held asked.file a)) answer.NoFile _ _ same-puts)

isolated : (key : List ℕ) (asked : Request) (user : UserRow) (files others : List ShelfFile) (a b : Known) → is_private asked ≡ true → has a.policy user permission.Admin ≡ false → SameFor key user a b → IsSame (answer_in (verdict_by (needed asked) key asked files a)) (answer_in (verdict_by (needed asked) key asked others b))
isolated key request.ListQueue user files others a b p plain same =
    same-permitted key request.ListQueue user files others a b same (permission.FilesSelect ∷ []) (inl (ap (λ rows. answer.Entries (map shown_entry rows)) (same-queue key user a b same plain)))
isolated key request.ListPrints user files others a b p plain same =
    same-permitted key request.ListPrints user files others a b same (permission.Status ∷ []) (inl (ap (λ rows. answer.Prints (map shown_print (take 100 (reverse rows)))) (same-prints key user a b same plain)))
isolated key (request.DropOwn name) user files others a b p plain same =
    same-permitted key (request.DropOwn name) user files others a b same (permission.FilesSelect ∷ [])
    (inl (ap (λ o. answer_in (found_or o answer.NoEntry (λ row. writes answer.Accepted (dropped a row)))) (found-same user.name a.queue b.queue same.queue name) ∙ same-drop _ (dropped a) (dropped b)))
  where
    dropped : Known → QueueEntry → Deed
    dropped k row = record { calls = []; users = k.users; queue = without user.name name k.queue; prints = k.prints; names = k.names }
isolated key (request.PutEntry name file priority copies material) user files others a b p plain same =
    same-permitted key (request.PutEntry name file priority copies material) user files others a b same (permission.FilesSelect ∷ [])
    (same-entry (asked_entry user.name name file priority copies material) a b same.queue same.names)
isolated key _ user files others a b p plain same = absurd (cc)

pub isolation : Isolation
isolation ask user files others a b p plain same = isolated ask.key ask.request user files others a b p plain same
