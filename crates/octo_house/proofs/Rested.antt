-- No print is active while an end isn't written.
use Rattle.std.proofs.Common.{◌≡◌, ◌≢◌, ◌⊎◌, inl, inr, ℕ, ◌≤◌, List, length, arith, Bool, true, false, Option, None, Some, option_map, IfSome, refl, sym, ap, ◌∙◌}
use Rattle.std.specs.Option.{option_or}
use Rattle.std.proofs.lemmas.Bool.{false≢true}
use Rattle.print_queue.specs.declared.ending.Ending.{Ending}
use Rattle.std.proofs.lemmas.List.{length-map}
use Rattle.octo_keeper.specs.Tables.{ended_row, with_due_end}
use Rattle.print_queue.specs.declared.row.PrintRow.{PrintRow}
use Rattle.octo_house_tables.specs.Data.{TablesData, IsRested, due_of}
use Rattle.octo_house_tables.specs.declared.tables.Unwritten.{Unwritten}
use Rattle.octo_house_rules.proofs.Histories.{as_many}

abbrev due : Option Unwritten → Option Ending
due unwritten = option_map (λ (u : Unwritten). u.ending) unwritten

due-none : (unwritten : Option Unwritten) → due unwritten ≡ None → unwritten ≡ None
due-none None none = refl
due-none (Some u) none = absurd (cc none)

-- while a print is active each end is written
pub rested-none : (unwritten : Option Unwritten) (active : Bool) → IsRested unwritten active → active ≡ true → unwritten ≡ None
rested-none None active rested on = refl
rested-none (Some u) active rested on = absurd (false≢true (sym (rested (λ e. absurd (cc e))) ∙ on))

off-after : (before after : Bool) → before ≡ false → (after ≡ true → before ≡ true) → after ≡ false
off-after before false off goes = refl
off-after before true off goes = absurd (false≢true (sym off ∙ goes refl))

rested-due : (old new : Option Unwritten) (before after : Bool) → IsRested old before → (after ≡ true → before ≡ true) → due new ≡ due old → new ≢ None
    → after ≡ false
rested-due None new before after rested goes same some = absurd (some (due-none new same))
rested-due (Some u) new before after rested goes same some = off-after before after (rested (λ e. absurd (cc e))) goes

rested-by : (old new : Option Unwritten) (ended : Option Ending) (before after : Bool) → IsRested old before → (after ≡ true → before ≡ true)
    → IfSome ended (λ e. after ≡ false) → due new ≡ option_or ended (due old) → new ≢ None → after ≡ false
rested-by old new None before after rested goes rests same some = rested-due old new before after rested goes same some
rested-by old new (Some e) before after rested goes rests same some = rests

-- after a turn
pub rested-after : (old new : TablesData) (ended : Option Ending) (before after : Bool) → IsRested old.unwritten before → (after ≡ true → before ≡ true)
    → IfSome ended (λ e. after ≡ false) → (due_of new ≡ None) ⊎ (due_of new ≡ option_or ended (due_of old)) → IsRested new.unwritten after
rested-after old new ended before after rested goes rests (inl none) = λ some. absurd (some (due-none new.unwritten none))
rested-after old new ended before after rested goes rests (inr same) = rested-by old.unwritten new.unwritten ended before after rested goes rests same

-- the ending of a turn leaves none active
pub ends-rested : {P : Ending → Type 0} (ended : Option Ending) (after : Bool) → IfSome ended P → ((e : Ending) → P e → after ≡ false)
    → IfSome ended (λ e. after ≡ false)
ends-rested None after ends rests = tt
ends-rested (Some e) after ends rests = rests e ends

-- only an active print ends
pub ends-active : {P : Ending → Type 0} (ended : Option Ending) (active : Bool) → IfSome ended P → ((e : Ending) → P e → active ≡ true) → ended ≢ None
    → active ≡ true
ends-active None active ends on some = absurd (some refl)
ends-active (Some e) active ends on some = on e ends

-- the numbers of prints after a turn
pub numbered-after : (old new : TablesData) (ended : Option Ending) (before after : ℕ) → before ≤ length old.prints → after ≡ before
    → new ≡ record old { prints = with_due_end ended old.prints; unwritten = new.unwritten } → after ≤ length new.prints
numbered-after old new ended before after few same is =
    let long : length new.prints ≡ length old.prints = ap (λ (t : TablesData). length t.prints) is ∙ as_many ended old.prints in
    omega arith
