-- No line of a legal history asks a heater for more than its limit.
use Rattle.std.proofs.Common.{Bool, ℕ, List, [], ◌∷◌, ◌++◌, map, refl, sym, subst}
use Rattle.std.proofs.lemmas.List.Elements.{All-from_recursion, recursion_from_All}
use Rattle.std.specs.List.{AllByRecursion}
use Rattle.temp_rules.specs.declared.limits.Limits.{Limits}
use Rattle.job_desk.specs.Data.{ScriptTexts, texts_at, new_desk}
use Rattle.job_desk.specs.Run.{DeskCall, Pull}
use Rattle.job_desk.specs.declared.issued.Issued.{Issued}
use Rattle.job_desk.specs.declared.issued.Note as declared_note
use Rattle.job_desk.specs.declared.link_fact.LinkFact.{LinkFact}
use Rattle.job_desk.specs.declared.link_fact.LinkFact.TheVariants as fact
use Rattle.octo_asks.specs.Rights.{needed}
use Rattle.octo_asks.specs.History.{History}
use Rattle.octo_asks.specs.declared.entry.Entry.{Entry}
use Rattle.octo_asks.specs.declared.entry.Entry.TheVariants as entry
use Rattle.octo_house_rules.specs.Answers.{verdict}
use Rattle.octo_house_rules.specs.Known.{Known}
use Rattle.octo_house_rules.specs.Issued.{lines_at, issued_in}
use Rattle.octo_house_rules.specs.Legal.{Standing, after_entry, IsLegal, Legal}
use Rattle.octo_house_rules.specs.Noted.{calls_of, known_after_call, known_after_calls, last_call}
use Rattle.octo_house_laws.specs.Limits.{IsCool, AreCoolScripts, EveryLineIsCool, EveryLineOfSettingsIsCool}
use Rattle.octo_house_laws.proofs.Asked.{cool_answer, asks_cool}
use Rattle.octo_house_laws.proofs.Desk.{Cool}
use Rattle.octo_house_laws.proofs.Pulls.{IsCoolLine, IsCoolCall, cool_after, lines_cool}
use Rattle.octo_house_laws.proofs.Texts.{each_append}

module _ (limits : Limits) where
  cool_called : (calls : List DeskCall) (k : Known) → AllByRecursion (IsCoolCall limits) calls → Cool limits k.desk
      → Cool limits (known_after_calls calls k).desk
  cool_called [] k c h = h
  cool_called (call ∷ calls) k c h = cool_called calls (known_after_call call k) c.1 (cool_after limits call k.desk c.0 h)

  -- a note brings no texts to the desk
  pulls_only : (moment : ℕ) (issued : List Issued) (last : List DeskCall) → AllByRecursion (IsCoolCall limits) last
      → AllByRecursion (IsCoolCall limits) (map (λ one. Pull moment) issued ++ last)
  pulls_only moment [] last c = c
  pulls_only moment (one ∷ issued) last c = (tt, pulls_only moment issued last c)

  last_only : (found : LinkFact) (acked moment : ℕ) → AllByRecursion (IsCoolCall limits) (last_call found acked moment)
  last_only fact.Failed acked moment = (tt, tt)
  last_only fact.Quiet acked moment = tt
  last_only fact.Opened acked moment = tt
  last_only fact.Ready acked moment = tt
  last_only fact.Closed acked moment = tt
  last_only fact.NoPort acked moment = tt
  last_only (fact.Ended end) acked moment = tt

  noted_only : (said : declared_note.Note) → AllByRecursion (IsCoolCall limits) (calls_of said)
  noted_only said = (
    tt,
    pulls_only said.moment said.issued.items (last_call said.fact said.acked said.moment)
        (last_only said.fact said.acked said.moment),
  )

  -- what an entry issues, and the desk after it
  pub cool_entry : (e : Entry) (s : Standing) → IsLegal e s → Cool limits s.known.desk
      → AllByRecursion (IsCoolLine limits) (lines_at e) × Cool limits (after_entry e s).known.desk
  cool_entry (entry.Call worker ask moment x) s l h = (
    tt,
    cool_answer limits (verdict ask s.files s.known) s.known x (asks_cool limits
        (needed ask.request) ask.key ask.request s.files s.known h.limits_are) h,
  )
  cool_entry (entry.Note said) s l h = (
    subst (λ lines. AllByRecursion (IsCoolLine limits) lines) l.1.lines (lines_cool limits (calls_of said) s.known.desk (noted_only said) h),
    cool_called (calls_of said) s.known (noted_only said) h,
  )
  cool_entry entry.Close s l h = (tt, h)

  cool_history : (history : History) (s : Standing) → Legal history s → Cool limits s.known.desk
      → AllByRecursion (IsCoolLine limits) (issued_in history)
  cool_history [] s l h = tt
  cool_history (e ∷ es) s l h =
      let one : AllByRecursion (IsCoolLine limits) (lines_at e) × Cool limits (after_entry e s).known.desk = cool_entry e s l.0 h in
      each_append (IsCoolLine limits) (lines_at e) (issued_in es) one.0 (cool_history es (after_entry e s) l.1 one.1)

  pub new_cool : (scripts : ScriptTexts) (poll_ms : ℕ) (numbered : Bool) → AreCoolScripts limits scripts → Cool limits (new_desk scripts limits poll_ms numbered)
  new_cool scripts poll_ms numbered a = record {
    limits_are = refl;
    scripts = λ at. recursion_from_All (IsCool limits) (texts_at at scripts) (a at);
    waiting = tt;
    manual = tt;
    file = λ has. tt;
  }

pub every_line : EveryLineIsCool
every_line scripts limits poll_ms numbered history s e a l =
    All-from_recursion (IsCoolLine limits) (issued_in history) (cool_history limits history s l (subst (λ d. Cool limits d) (sym e)
    (new_cool limits scripts poll_ms numbered a)))

pub every_line_of_settings : EveryLineOfSettingsIsCool
every_line_of_settings settings history s sound e l =
    every_line settings.scripts settings.limits settings.poll_ms settings.numbered_oks history s e (λ at i d within. (sound.scripts at i d within).cool) l
