-- Every call of a legal history is answered as its caller's permissions say.
use Rattle.std.proofs.Common.{◌≡◌, ◌⊎◌, inl, inr, [], ◌∷◌}
use Rattle.octo_asks.specs.declared.answer.Answer.{Answer}
use Rattle.octo_asks.specs.declared.answer.Answer.TheVariants as answer
use Rattle.octo_asks.specs.declared.entry.Entry.{Entry}
use Rattle.octo_asks.specs.declared.entry.Entry.TheVariants as entry
use Rattle.octo_asks.specs.declared.request.Ask.{Ask}
use Rattle.octo_house_rules.specs.Answers.{verdict}
use Rattle.octo_house_rules.specs.Verdict.{May}
use Rattle.octo_house_rules.proofs.Denied.{access}
use Rattle.octo_house_rules.proofs.Repeated.{once}
use Rattle.octo_house_rules.specs.Legal.{Standing, after_entry, IsLegal}
use Rattle.octo_house_laws.specs.Calls.{IsPermitted, IsPermittedEntry, EveryCallIsPermitted, IsEntryOnce, EveryPutIsMadeOnce}

by_answer : (ask : Ask) (x : Answer) (s : Standing) → (x ≡ answer.NoMemory) ⊎ May (verdict ask s.files s.known) x → IsPermitted ask x s
by_answer ask x s (inl none) = inl none
by_answer ask x s (inr may) = inr (access ask s.files s.known x may)

pub by_entry : (e : Entry) (s : Standing) → IsLegal e s → IsPermittedEntry e s
by_entry (entry.Call worker ask moment x) s l = by_answer ask x s l.1.may
by_entry (entry.Note note) s l = tt
by_entry entry.Close s l = tt

pub every_call : EveryCallIsPermitted
every_call [] s l = tt
every_call (e ∷ es) s l = (by_entry e s l.0, every_call es (after_entry e s) l.1)

pub once_entry : (e : Entry) (s : Standing) → IsLegal e s → IsEntryOnce e s
once_entry (entry.Call worker ask moment x) s l = λ user kept repeats. once ask user kept s.files s.known x repeats l.1.may
once_entry (entry.Note note) s l = tt
once_entry entry.Close s l = tt

pub every_put : EveryPutIsMadeOnce
every_put [] s l = tt
every_put (e ∷ es) s l = (once_entry e s l.0, every_put es (after_entry e s) l.1)
