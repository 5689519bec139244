-- When each fact of a turn may come.
use Rattle.std.proofs.Common.{◌≡◌, inl, inr, ℕ, true, false, List, refl, sym, ap, subst, ◌∙◌}
use Rattle.std.proofs.lemmas.Bool.{false≢true}
use Rattle.octo_keeper.specs.declared.shelf.ShelfFile.{ShelfFile}
use Rattle.job_desk.specs.declared.link_fact.LinkFact.{LinkFact}
use Rattle.job_desk.specs.declared.link_fact.LinkFact.TheVariants as fact
use Rattle.job_desk.specs.Data.{Data}
use Rattle.job_desk.specs.Table.{is_closable_at}
use Rattle.send_window.specs.declared.session_end.SessionEnd.{SessionEnd}
use Rattle.octo_session.specs.Data.{SessionData, doing}
use Rattle.octo_session.specs.Found.{can_find}
use Rattle.octo_session.specs.declared.found.Doing.{Doing}
use Rattle.octo_session.specs.declared.found.Doing.TheVariants.{Dialling, HangingUp, UsingLink, Resting}
use Rattle.octo_session.proofs.Choosing.{dials_at, hangs_up_at}
use Rattle.octo_session_line_proof.proofs.Turned.{talks_up, dials_down}
use Rattle.octo_house_rules.specs.Known.{Known}
use Rattle.octo_house_rules.specs.Legal.{Standing, IsDialling, MayEnd, MayFind}
use Rattle.octo_house_rules.specs.Stands.{StandsAt}

module _ (s : Standing) (known : Known) (x : SessionData) (files : List ShelfFile) (moment : ℕ) (at : StandsAt s known x files moment false) where
  -- the desk that the history leads to is the session's
  pub desk_is : s.known.desk ≡ x.desk
  desk_is = ap (λ (k : Known). k.desk) at.known_is ∙ at.desk

  dialling : doing x ≡ Dialling → IsDialling s
  dialling d = (ap (λ (desk : Data). desk.state) desk_is ∙ dials_at x d, at.up ∙ dials_down x d)

  closable : doing x ≡ HangingUp → is_closable_at s.known.desk.state s.known.desk ≡ true
  closable d =
      let Closes : Data → Type 0 = λ desk. is_closable_at desk.state desk ≡ true in
      subst Closes (sym desk_is) (hangs_up_at x d)

  talking : doing x ≡ UsingLink → s.up ≡ true
  talking d = at.up ∙ talks_up x d

  -- each fact comes only if it may
  pub may_find : (now : Doing) (found : LinkFact) (acked later : ℕ) → doing x ≡ now → can_find now found ≡ true
      → (found ≡ fact.Ready → x.sender.ready ≡ false) → ((end : SessionEnd) → found ≡ fact.Ended end → MayEnd end acked later s)
      → MayFind found acked later s
  may_find Dialling fact.Opened acked later d can unready ends = dialling d
  may_find Dialling fact.NoPort acked later d can unready ends = dialling d
  may_find Dialling fact.Failed acked later d can unready ends = inl (dialling d).0
  may_find Dialling fact.Quiet acked later d can unready ends = tt
  may_find Dialling fact.Ready acked later d can unready ends = absurd (false≢true can)
  may_find Dialling fact.Closed acked later d can unready ends = absurd (false≢true can)
  may_find Dialling (fact.Ended end) acked later d can unready ends = absurd (false≢true can)
  may_find HangingUp fact.Closed acked later d can unready ends = closable d
  may_find HangingUp fact.Quiet acked later d can unready ends = tt
  may_find HangingUp fact.Opened acked later d can unready ends = absurd (false≢true can)
  may_find HangingUp fact.NoPort acked later d can unready ends = absurd (false≢true can)
  may_find HangingUp fact.Failed acked later d can unready ends = absurd (false≢true can)
  may_find HangingUp fact.Ready acked later d can unready ends = absurd (false≢true can)
  may_find HangingUp (fact.Ended end) acked later d can unready ends = absurd (false≢true can)
  may_find UsingLink fact.Quiet acked later d can unready ends = tt
  may_find UsingLink fact.Ready acked later d can unready ends = (talking d, at.ready (talks_up x d) ∙ unready refl)
  may_find UsingLink fact.Failed acked later d can unready ends = inr (talking d)
  may_find UsingLink (fact.Ended end) acked later d can unready ends = (talking d, ends end refl)
  may_find UsingLink fact.Opened acked later d can unready ends = absurd (false≢true can)
  may_find UsingLink fact.Closed acked later d can unready ends = absurd (false≢true can)
  may_find UsingLink fact.NoPort acked later d can unready ends = absurd (false≢true can)
  may_find Resting fact.Quiet acked later d can unready ends = tt
  may_find Resting _ acked later d can unready ends = absurd (false≢true can)
