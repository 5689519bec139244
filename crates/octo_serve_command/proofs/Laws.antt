-- The laws of a host that began by its settings.
use Rattle.std.proofs.Common.{◌≡◌, ℕ, Bool, List, [], ◌++◌, Some, refl, sym, ◌∙◌, ap, subst}
use Rattle.std.proofs.lemmas.Option.{same_Some}
use Rattle.job_desk.specs.Data.{new_desk}
use Rattle.octo_asks.specs.History.{History}
use Rattle.octo_session.specs.Data.{SessionData}
use Rattle.octo_serve.specs.Ends.{HistoryData}
use Rattle.octo_house_rules.specs.Legal.{Standing, beginning, Legal}
use Rattle.octo_house.specs.Beginning.{IsMadeOf}
use Rattle.octo_house.specs.State.{known_of, session_of}
use Rattle.octo_house.specs.declared.house.House.{House}
use Rattle.octo_house_laws.specs.OverContents.{LegalOver}
use Rattle.octo_house_laws.proofs.Contents.{keeps_over, every_line_over}
use Rattle.octo_house_laws.proofs.Hosts.{new_host_keeps}
use Rattle.octo_house_laws.proofs.Limits.{every_line_of_settings}
use Rattle.octo_house_laws.proofs.Prints.{new_host_keeps_prints}
use Rattle.octo_serve.specs.Hosted.{HasHosted}
use Rattle.octo_settings.specs.Sound.{IsSettings}
use Rattle.octo_settings.specs.declared.settings.Settings.{Settings}
use Rattle.octo_settings.specs.Session.{session_by}
use Rattle.octo_serve_command.specs.Beginning.{policy_by, terms_by}
use Rattle.octo_serve_command.specs.Hosting.{Around, host_in, HasLaws, HasLawsOver}

-- a host that began with a new desk and served
pub host_laws : (s : Settings) (between new : Around) (first last : House) (calls : ℕ) (held : Bool) (known : HistoryData) → IsSettings s
    → IsMadeOf (session_by s) (policy_by s) s.ports s.material first
    → HasHosted (terms_by s) (host_in between first) (host_in new last) between.doors new.doors calls held known → HasLaws s between first known.history
host_laws s between new first last calls held known sound made hosted files files_are =
    let at : Standing = beginning s.window s.limit_ms (known_of first) files in
    let walked = (hosted.ran.history files files_are).2 known.history refl in
    let none : walked.old ≡ [] = sym (same_Some [] walked.old walked.past_is) in
    let all : walked.added ≡ known.history = sym (walked.grows ∙ ap (λ (h : History). h ++ walked.added) none) in
    let x : SessionData = session_of first in
    let legal : Legal known.history at =
    subst (λ (h : History). Legal h at) all
    (subst (λ (y : SessionData). Legal walked.added (beginning y.sender.window y.sender.limit (known_of first) files)) made.session_is
    (walked.legal (beginning x.sender.window x.sender.limit (known_of first) files) refl)) in
    let desk : at.known.desk ≡ new_desk s.scripts s.limits s.poll_ms s.numbered_oks = ap (λ (y : SessionData). y.desk) made.session_is in
    record {
      laws = new_host_keeps s.scripts s.limits s.poll_ms s.numbered_oks known.history at desk made.numbered legal;
      cool = every_line_of_settings s known.history at sound desk legal;
    }

-- the same over contents of the shelf, whatever it records
pub host_laws_over : (s : Settings) (between new : Around) (first last : House) (calls : ℕ) (held : Bool) (known : HistoryData) → IsSettings s
    → IsMadeOf (session_by s) (policy_by s) s.ports s.material first
    → HasHosted (terms_by s) (host_in between first) (host_in new last) between.doors new.doors calls held known → HasLawsOver s first known.history
host_laws_over s between new first last calls held known sound made hosted =
    let at : Standing = beginning s.window s.limit_ms (known_of first) [] in
    let walked = hosted.ran.contents known.history refl in
    let none : walked.old ≡ [] = sym (same_Some [] walked.old walked.past_is) in
    let all : walked.added ≡ known.history = sym (walked.grows ∙ ap (λ (h : History). h ++ walked.added) none) in
    let x : SessionData = session_of first in
    let led = walked.leads (beginning x.sender.window x.sender.limit (known_of first) []) ([], refl) in
    let legal : LegalOver led.contents known.history at =
    subst (λ (h : History). LegalOver led.contents h at) all
    (subst (λ (y : SessionData). LegalOver led.contents walked.added (beginning y.sender.window y.sender.limit (known_of first) [])) made.session_is led.legal) in
    let desk : at.known.desk ≡ new_desk s.scripts s.limits s.poll_ms s.numbered_oks = ap (λ (y : SessionData). y.desk) made.session_is in
    record {
      contents = led.contents;
      laws = keeps_over led.contents known.history at legal;
      prints = new_host_keeps_prints s.scripts s.limits s.poll_ms s.numbered_oks led.contents known.history at desk made.numbered legal;
      cool = every_line_over s led.contents known.history at sound desk legal;
    }
