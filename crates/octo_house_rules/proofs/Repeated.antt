-- A put that is repeated.
use Rattle.std.proofs.Common.{◌≡◌, ◌⊎◌, inl, inr, ℕ, Bool, true, false, cond, not, List, [], ◌∷◌, Some, None, Result, Ok, Err, refl, ◌∙◌, ap, sym, subst}
use Rattle.octo_access.specs.Rights.{has, caller}
use Rattle.octo_access.specs.declared.permission.Permission.TheVariants as permission
use Rattle.octo_access.specs.declared.row.UserRow.{UserRow}
use Rattle.octo_keeper.specs.declared.shelf.ShelfFile.{ShelfFile}
use Rattle.print_queue.specs.Calls.{is_same, put_answer}
use Rattle.print_queue.specs.Rows.{users_entry}
use Rattle.print_queue.specs.declared.entry.QueueEntry.{QueueEntry}
use Rattle.print_queue.specs.declared.refusal.Put.{Put}
use Rattle.print_queue.specs.declared.refusal.QueueRefusal.{QueueRefusal}
use Rattle.print_queue.specs.declared.refusal.QueueRefusal.TheVariants as refusal
use Rattle.octo_asks.specs.Shown.{shown_entry}
use Rattle.octo_asks.specs.Rights.{needed}
use Rattle.octo_asks.specs.declared.answer.Answer.{Answer}
use Rattle.octo_asks.specs.declared.answer.Answer.TheVariants as answer
use Rattle.octo_asks.specs.declared.request.Request.{Request}
use Rattle.octo_asks.specs.declared.request.Request.TheVariants as request
use Rattle.octo_house_rules.specs.Known.{Known, is_held}
use Rattle.octo_house_rules.specs.Rows.{asked_entry, put_by, put_entry_verdict}
use Rattle.octo_house_rules.specs.Refusals.{refused_if}
use Rattle.octo_house_rules.specs.Verdict.{Verdict, gives, May, is_fault}
use Rattle.octo_house_rules.specs.Answers.{request_verdict, verdict_of_caller, unless_lacking, verdict_by}
use Rattle.octo_house_rules.specs.Isolation.{ShowsKept, IsRepeated, Once}
use Rattle.octo_house_rules.proofs.Verdicts.{put_is}
use Rattle.octo_house_rules.proofs.Denied.{stays-so}

-- the answer of an equal put, and of another one
abbrev again : Bool → QueueEntry → Result Put QueueRefusal
again same kept = cond same (Ok (record { entry = kept; fresh = false })) (Err (refusal.NameTaken kept))

-- the verdict by its tests
abbrev puts : Bool → Bool → Bool → QueueEntry → Known → Verdict
puts can here same kept k = unless_lacking (cond (not can) (Some permission.FilesSelect) None) (refused_if (not here) answer.NoFile (put_by (again same kept) k))

-- an answer that changes nothing
repeated : (a : Answer) (kept : QueueEntry) (k : Known) (x : Answer) → ShowsKept kept a → (x ≡ answer.NoMemory) ⊎ (x ≡ a) → IsRepeated (gives a) kept k x
repeated a kept k x shows may = record { answers = may; shows = shows; stays = stays-so (is_fault x) k }

once-by : (can here : Bool) (kept : QueueEntry) (k : Known) (x : Answer) → (x ≡ answer.NoMemory) ⊎ May (puts can here true kept k) x → IsRepeated (puts can here true kept k) kept k x
once-by false here kept k x may = repeated (answer.Denied (Some permission.FilesSelect)) kept k x (inr (inr refl)) may
once-by true false kept k x may = repeated answer.NoFile kept k x (inr (inl refl)) may
once-by true true kept k x may = repeated (answer.OneEntry (shown_entry kept)) kept k x (inl refl) may

module _ (key : List ℕ) (user : UserRow) (kept asked : QueueEntry) (k : Known) (asker : caller k.policy k.users key ≡ Some user) (there : users_entry asked.user asked.name k.queue ≡ Some kept) (same : is_same kept asked ≡ true) where
  put-again : put_answer k.queue asked ≡ again true kept
  put-again = put_is k.queue asked (Some kept) there ∙ ap (λ b. again b kept) same

  verdict-is : (next : UserRow → Verdict) → next user ≡ put_entry_verdict asked k → verdict_of_caller (caller k.policy k.users key) (permission.FilesSelect ∷ []) k next ≡ puts (has k.policy user permission.FilesSelect) (is_held asked.file k) true kept k
  verdict-is next e =
      ap (λ c. verdict_of_caller c (permission.FilesSelect ∷ []) k next) asker
      ∙ ap (λ v. unless_lacking (cond (not (has k.policy user permission.FilesSelect)) (Some permission.FilesSelect) None) v) (e ∙ ap (λ r. refused_if (not (is_held asked.file k)) answer.NoFile (put_by r k)) put-again)

once-of : (key : List ℕ) (asked : Request) (name file : List ℕ) (priority copies : ℕ) (material : List ℕ) (user : UserRow) (kept : QueueEntry) (files : List ShelfFile) (k : Known) (x : Answer) → asked ≡ request.PutEntry name file priority copies material → caller k.policy k.users key ≡ Some user → users_entry user.name name k.queue ≡ Some kept → is_same kept (asked_entry user.name name file priority copies material) ≡ true → (x ≡ answer.NoMemory) ⊎ May (verdict_by (needed asked) key asked files k) x → IsRepeated (verdict_by (needed asked) key asked files k) kept k x
once-of key asked name file priority copies material user kept files k x asks asker there same may =
    subst (λ v. IsRepeated v kept k x) (sym is) (once-by (has k.policy user permission.FilesSelect) (is_held file k) kept k x (subst (λ v. (x ≡ answer.NoMemory) ⊎ May v x) is may))
  where
    is : verdict_by (needed asked) key asked files k ≡ puts (has k.policy user permission.FilesSelect) (is_held file k) true kept k
    is = ap (λ r. verdict_by (needed r) key r files k) asks ∙ verdict-is key user kept (asked_entry user.name name file priority copies material) k asker there same (λ u. request_verdict (request.PutEntry name file priority copies material) u files k) refl

pub once : Once
once ask user kept files k x r may = once-of ask.key ask.request r.name r.file r.priority r.copies r.material user kept files k x r.asks r.asker r.there r.same may
