-- Stretches of a run over contents of the shelf, one after the other.
use Rattle.std.proofs.Common.{◌≡◌, List, [], ◌∷◌, ◌++◌, Option, Some, refl, sym, ap, subst, ◌∙◌, append_assoc}
use Rattle.std.proofs.lemmas.Option.{same_Some}
use Rattle.octo_keeper.specs.declared.shelf.ShelfFile.{ShelfFile}
use Rattle.octo_asks.specs.History.{History}
use Rattle.octo_asks.specs.declared.entry.Entry.{Entry}
use Rattle.octo_house_rules.specs.Legal.{Standing, Legal, IsLegal, after_entry, after_all}
use Rattle.octo_house_rules.specs.Walks.{Walks, Walked}
use Rattle.octo_house_laws.specs.OverContents.{with_files, EachOver, after_over, OnSome, LeadsOver, WalkedOver, WalksOver}

-- what holds of each entry, if something else does
pub each_so : (P Q : Entry → Standing → Type 0) → ((e : Entry) (s : Standing) → P e s → Q e s) → (contents : List (List ShelfFile)) (es : History) (s : Standing)
    → EachOver P contents es s → EachOver Q contents es s
each_so P Q so [] [] s h = tt
each_so P Q so [] (e ∷ es) s h = absurd h
each_so P Q so (files ∷ contents) [] s h = absurd h
each_so P Q so (files ∷ contents) (e ∷ es) s h =
    (so e (with_files files s) h.0, each_so P Q so contents es (after_entry e (with_files files s)) h.1)

-- entries, and then others
pub each_append : (P : Entry → Standing → Type 0) (contents more : List (List ShelfFile)) (es fs : History) (s : Standing)
    → EachOver P contents es s → EachOver P more fs (after_over contents es s) → EachOver P (contents ++ more) (es ++ fs) s
each_append P [] more [] fs s first second = second
each_append P [] more (e ∷ es) fs s first second = absurd first
each_append P (files ∷ contents) more [] fs s first second = absurd first
each_append P (files ∷ contents) more (e ∷ es) fs s first second =
    (first.0, each_append P contents more es fs (after_entry e (with_files files s)) first.1 second)

-- where they lead
pub over_append : (P : Entry → Standing → Type 0) (contents more : List (List ShelfFile)) (es fs : History) (s : Standing)
    → EachOver P contents es s → after_over (contents ++ more) (es ++ fs) s ≡ after_over more fs (after_over contents es s)
over_append P [] more [] fs s first = refl
over_append P [] more (e ∷ es) fs s first = absurd first
over_append P (files ∷ contents) more [] fs s first = absurd first
over_append P (files ∷ contents) more (e ∷ es) fs s first = over_append P contents more es fs (after_entry e (with_files files s)) first.1

-- one stretch after the other
pub over_then : (past mid past' : Option History) (Before Mid After : Standing → Type 0)
    → WalksOver past mid Before Mid → WalksOver mid past' Mid After → WalksOver past past' Before After
over_then past mid past' Before Mid After first second now now_is =
    let later : WalkedOver mid now Mid After = second now now_is in
    let sooner : WalkedOver past later.old Before Mid = first later.old later.past_is in
    record {
      old = sooner.old;
      added = sooner.added ++ later.added;
      past_is = sooner.past_is;
      grows = later.grows ∙ ap (λ (front : History). front ++ later.added) sooner.grows ∙ append_assoc sooner.old sooner.added later.added;
      leads = λ s before. (let one : LeadsOver sooner.added s Mid = sooner.leads s before in
          let two : LeadsOver later.added (after_over one.contents sooner.added s) After =
          later.leads (after_over one.contents sooner.added s) one.leads in
          record {
            contents = one.contents ++ two.contents;
            legal = each_append IsLegal one.contents two.contents sooner.added later.added s one.legal two.legal;
            leads = subst After (sym (over_append IsLegal one.contents two.contents sooner.added later.added s one.legal)) two.leads;
          });
    }

-- the files that each entry of a history came over, if the entries before made them so
along : History → Standing → List (List ShelfFile)
along [] s = []
along (e ∷ es) s = s.files ∷ along es (after_entry e s)

legal_along : (es : History) (s : Standing) → Legal es s → EachOver IsLegal (along es s) es s
unfolding along
legal_along [] s legal = tt
legal_along (e ∷ es) s legal = (legal.0, legal_along es (after_entry e s) legal.1)

after_along : (es : History) (s : Standing) → after_over (along es s) es s ≡ after_all es s
unfolding along
after_along [] s = refl
after_along (e ∷ es) s = after_along es (after_entry e s)

-- a legal stretch from a standing with other files
module _ (was held : List ShelfFile) (Before After : List ShelfFile → Standing → Type 0)
    (before_moves : (files other : List ShelfFile) (s : Standing) → Before files s → Before other (with_files other s))
    (after_moves : (files other : List ShelfFile) (s : Standing) → After files s → After other (with_files other s)) where
  led : (added : History) (s : Standing) → Legal added (with_files was s) → After held (after_all added (with_files was s))
      → LeadsOver added s (OnSome After)
  led [] s legal after = record { contents = []; legal = tt; leads = (s.files, after_moves held s.files (with_files was s) after) }
  led (e ∷ es) s legal after = record {
    contents = was ∷ along es (after_entry e (with_files was s));
    legal = (legal.0, legal_along es (after_entry e (with_files was s)) legal.1);
    leads = (held, subst (λ (t : Standing). After held t) (sym (after_along es (after_entry e (with_files was s)))) after);
  }

  -- so it is of a walk over some recorded files
  pub over_of : (past past' : Option History) → Walks past past' (Some was) (Some held) Before After
      → WalksOver past past' (OnSome Before) (OnSome After)
  over_of past past' walks now now_is =
      let one = walks was refl in
      let walked : Walked past now was held Before After =
      subst (λ (files : List ShelfFile). Walked past now was files Before After) (sym (same_Some held one.0 one.1)) (one.2 now now_is) in
      record {
        old = walked.old;
        added = walked.added;
        past_is = walked.past_is;
        grows = walked.grows;
        leads = λ s before. (let start : Before was (with_files was s) = before_moves before.0 was s before.1 in
            led walked.added s (walked.legal (with_files was s) start) (walked.leads (with_files was s) start));
      }
