-- What became of the prints of a host that began by its settings.
use Rattle.std.proofs.Common.{◌≡◌, ℕ, Bool, List, [], ◌++◌, Some, refl, sym, ◌∙◌, ap, subst}
use Rattle.octo_asks.specs.History.{History}
use Rattle.octo_session.specs.Data.{SessionData}
use Rattle.octo_serve.specs.Ends.{HistoryData}
use Rattle.octo_house_rules.specs.Legal.{beginning}
use Rattle.octo_house_rules.specs.Headline.{KeepsPrints}
use Rattle.octo_house_rules.specs.PrintLaws.{IsNewDesk, IsBeginning}
use Rattle.octo_house.specs.Beginning.{IsMadeOf}
use Rattle.octo_house.specs.State.{known_of, session_of}
use Rattle.octo_house.specs.declared.house.House.{House}
use Rattle.octo_serve.specs.Hosted.{HasHosted}
use Rattle.octo_settings.specs.declared.settings.Settings.{Settings}
use Rattle.octo_settings.specs.Session.{session_by}
use Rattle.octo_serve_command.specs.Beginning.{policy_by, terms_by}
use Rattle.octo_serve_command.specs.Hosting.{Around, host_in, HasPrints}
use Rattle.std.proofs.lemmas.Option.{same_Some}

-- a host that began with a new desk and served
pub host_prints : (s : Settings) (between new : Around) (first last : House) (calls : ℕ) (held : Bool) (known : HistoryData) →
    IsMadeOf (session_by s) (policy_by s) s.ports s.material first →
    HasHosted (terms_by s) (host_in between first) (host_in new last) between.doors new.doors calls held known → HasPrints s between new first known.history
host_prints s between new first last calls held known made hosted files files_are events there =
    let begun : IsBeginning (known_of first) = record {
      new = subst (λ (x : SessionData). IsNewDesk x.desk) (sym made.session_is) refl;
      numbered = made.numbered;
    } in
    let x : SessionData = session_of first in
    let got = hosted.ran.prints begun files files_are (beginning x.sender.window x.sender.limit (known_of first) files) refl known.history refl events there in
    let none : got.old ≡ [] = sym (same_Some [] got.old got.was) in
    let all : got.added ≡ known.history = sym (got.grew ∙ ap (λ (h : History). h ++ got.added) none) in (
      got.old_events,
      got.was_link,
      subst (λ (h : History). KeepsPrints s.numbered_oks between.link.kind got.old_events (beginning s.window s.limit_ms (known_of first) files) h events) all
          (subst (λ (y : SessionData). KeepsPrints y.sender.numbered between.link.kind got.old_events (beginning y.sender.window y.sender.limit (known_of first) files) got.added events)
          made.session_is got.so),
    )
