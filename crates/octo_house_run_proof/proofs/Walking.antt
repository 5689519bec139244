-- Stretches of a run, one after the other.
use Rattle.std.proofs.Common.{◌≡◌, List, [], ◌∷◌, ◌++◌, Option, Some, refl, sym, ap, subst, ◌∙◌, append_assoc, append-nil}
use Rattle.octo_outside.specs.Recorded.{Adds}
use Rattle.octo_keeper.specs.declared.shelf.ShelfFile.{ShelfFile}
use Rattle.octo_asks.specs.declared.entry.Entry.{Entry}
use Rattle.octo_asks.specs.History.{History}
use Rattle.octo_house_rules.specs.Legal.{Standing, Legal, IsLegal, after_entry, after_all}
use Rattle.octo_house_rules.specs.Walks.{Walks}
use Rattle.std.proofs.lemmas.Option.{same_Some}

-- legal entries, and then others that are legal where they lead
pub legal_append : (es fs : History) (s : Standing) → Legal es s → Legal fs (after_all es s) → Legal (es ++ fs) s
legal_append [] fs s first second = second
legal_append (e ∷ es) fs s first second = (first.0, legal_append es fs (after_entry e s) first.1 second)

-- where entries lead, and then others
pub after_append : (es fs : History) (s : Standing) → after_all (es ++ fs) s ≡ after_all fs (after_all es s)
after_append [] fs s = refl
after_append (e ∷ es) fs s = after_append es fs (after_entry e s)

-- nothing was recorded
pub walks_none : (past past' : Option History) (files files' : Option (List ShelfFile)) (Before After : List ShelfFile → Standing → Type 0)
    → past' ≡ past → files' ≡ files → ((held : List ShelfFile) (s : Standing) → Before held s → After held s)
    → Walks past past' files files' Before After
walks_none past past' files files' Before After same_past same_files so was was_is = (
  was,
  same_files ∙ was_is,
  λ now now_is. record {
    old = now;
    added = [];
    past_is = sym same_past ∙ now_is;
    grows = sym (append-nil now);
    legal = λ s before. tt;
    leads = λ s before. so was s before;
  },
)

-- one entry was recorded
pub walks_one : (past past' : Option History) (files files' : Option (List ShelfFile)) (Before After : List ShelfFile → Standing → Type 0) (e : Entry)
    → Adds past past' (e ∷ [])
    → ((was : List ShelfFile) → files ≡ Some was → (held : List ShelfFile) × (files' ≡ Some held)
    × ((s : Standing) → Before was s → IsLegal e s × After held (after_entry e s)))
    → Walks past past' files files' Before After
walks_one past past' files files' Before After e adds leads was was_is =
    let led = leads was was_is in (
      led.0,
      led.1,
      λ now now_is. (let got = adds now now_is in record {
        old = got.0;
        added = e ∷ [];
        past_is = got.2;
        grows = got.3 ∙ ap (λ (more : History). got.0 ++ more) got.4;
        legal = λ s before. ((led.2 s before).0, tt);
        leads = λ s before. (led.2 s before).1;
      }),
    )

-- one stretch after the other
pub walks_then : (past mid past' : Option History) (files between files' : Option (List ShelfFile)) (Before Mid After : List ShelfFile → Standing → Type 0)
    → Walks past mid files between Before Mid → Walks mid past' between files' Mid After
    → Walks past past' files files' Before After
walks_then past mid past' files between files' Before Mid After first second was was_is =
    let one = first was was_is in
    let two = second one.0 one.1 in (
      two.0,
      two.1,
      λ now now_is. (let later = two.2 now now_is in let sooner = one.2 later.old later.past_is in record {
        old = sooner.old;
        added = sooner.added ++ later.added;
        past_is = sooner.past_is;
        grows = later.grows ∙ ap (λ (front : History). front ++ later.added) sooner.grows ∙ append_assoc sooner.old sooner.added later.added;
        legal = λ s before. legal_append sooner.added later.added s (sooner.legal s before)
            (later.legal (after_all sooner.added s) (sooner.leads s before));
        leads = λ s before. (let At : Standing → Type 0 = λ t. After two.0 t in
            subst At (sym (after_append sooner.added later.added s)) (later.leads (after_all sooner.added s) (sooner.leads s before)));
      }),
    )
