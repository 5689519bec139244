-- While a link is open, each limit that passed in silence brought a line.
use Rattle.std.proofs.Common.{◌≡◌, ℕ, zero, suc, ◌+◌, Bool, true, List, [], ◌∷◌, ◌++◌, replicate, refl, sym, ◌∙◌, ap, subst}
use Rattle.std.specs.Prelude.{Option, None, Some}
use Rattle.std.specs.List.{list_all}
use Rattle.marlin_reply.specs.Kind.{kind_of}
use Rattle.job_desk.specs.declared.link_fact.LinkFact.{LinkFact}
use Rattle.job_desk.specs.declared.link_fact.LinkFact.TheVariants as fact
use Rattle.printer_model.specs.World.{WorldData, is_free, world_from}
use Rattle.printer_model.specs.Exchanged.{sends_since}
use Rattle.printer_model.specs.declared.event.WorldEvent.{WorldEvent}
use Rattle.printer_model.specs.declared.event.WorldEvent.TheVariants.{Opened, Send, Arrive, Lose, LoseReply, Garble, Run, Restart, Chatter, Recv, Closed}
use Rattle.printer_model.proofs.Starts.{sends_since-append, sends_since-free}
use Rattle.printer_link.specs.Link.{IsSendOf, IsHeard}
use Rattle.send_window.specs.Counting.{IsQuiet, OwesLine}
use Rattle.send_window.specs.Data.{SenderData, IsSound}
use Rattle.send_window.specs.Hearing.{hear_step, tick_step}
use Rattle.send_window.specs.Sending.{Outgoing, bytes_of_outgoing, next_of, frame_step, push_step}
use Rattle.send_window.proofs.Silence.{sends_in_silence, owes_quiet}
use Rattle.send_window.proofs.Soundness.{hears_sound, ticks_sound, issues_sound, gives_sound}
use Rattle.octo_session.specs.Found.{Got, unasked, lost, nothing, whole}
use Rattle.octo_session.specs.Steps.{Step, opens, finds_no_port, fails_to_dial, hears, listens, fails_to_receive, ticks, issues, gives, fails_to_send, hangs_up, after_step, after_steps, IsAllowed, AreAllowed, IsGiven, IsDone, AreAdded, issuing, issues_then_sends, clock_steps, steps_over_link}
use Rattle.octo_session_line_proof.specs.Pieces.{Each}

-- a step of issuing or sending
abbrev pub IsIssueOrSend : Step → Type 0
IsIssueOrSend (issues text) = Unit {0}
IsIssueOrSend gives = Unit {0}
IsIssueOrSend _ = ⊥

-- one line more was sent
since_sent : (since : ℕ) (bytes : List ℕ) (before behind : List WorldEvent) (event : WorldEvent) → IsSendOf bytes event →
    list_all is_free before ≡ true → list_all is_free behind ≡ true → sends_since since (before ++ event ∷ behind) ≡ since + 1
since_sent since bytes before behind (Send line) is first last =
    sends_since-append since before (Send line ∷ behind)
    ∙ ap (λ (n : ℕ). sends_since (n + 1) behind) (sends_since-free since before first)
    ∙ sends_since-free (since + 1) behind last
since_sent since bytes before behind (Opened number) is first last = absurd is
since_sent since bytes before behind Arrive is first last = absurd is
since_sent since bytes before behind (Lose at) is first last = absurd is
since_sent since bytes before behind (LoseReply at) is first last = absurd is
since_sent since bytes before behind (Garble at line) is first last = absurd is
since_sent since bytes before behind Run is first last = absurd is
since_sent since bytes before behind Restart is first last = absurd is
since_sent since bytes before behind (Chatter reply) is first last = absurd is
since_sent since bytes before behind Recv is first last = absurd is
since_sent since bytes before behind Closed is first last = absurd is

since_given : (since : ℕ) (next : Option Outgoing) (w : WorldData) (added : List WorldEvent) → IsGiven next w added →
    sends_since since added ≡ since + 1
since_given since None w added given = absurd given
since_given since (Some next) w added given =
    let S : List WorldEvent → Type 0 = λ es. sends_since since es ≡ since + 1 in
    subst S (sym given.is) (since_sent since (bytes_of_outgoing next) given.before given.after given.sent given.line_is given.free_before given.free_after)

pub since_heard : (since : ℕ) (bytes : List ℕ) (w : WorldData) (added : List WorldEvent) → IsHeard bytes w added → sends_since since added ≡ 0
since_heard since bytes w added is =
    let S : List WorldEvent → Type 0 = λ es. sends_since since es ≡ 0 in
    subst S (sym is.is) (sends_since-append since is.before (Recv ∷ is.after) ∙ sends_since-free 0 is.after is.free_after)

-- what a sender owes after a step, and that it's sound
pub record Owes (since : ℕ) (s : SenderData) : Type 0 where
  pub sound : IsSound s
  pub owes : OwesLine since s

said_owes : (moment since : ℕ) (step : Step) (s : SenderData) (w : WorldData) (added : List WorldEvent) → IsIssueOrSend step → IsAllowed step s →
    IsDone step s w added → Owes since s → Owes (sends_since since added) (after_step moment step s)
said_owes moment since (issues text) s w added saying allowed is o =
    let O : List WorldEvent → Type 0 = λ es. Owes (sends_since since es) (push_step text s) in
    subst O (sym is) (record { sound = issues_sound text s allowed.0 o.sound; owes = sends_in_silence.2 text since s o.owes })
said_owes moment since gives s w added saying allowed is o =
    let O : ℕ → Type 0 = λ n. Owes n (frame_step moment s) in
    subst O (sym (since_given since (next_of s) w added is))
    (record { sound = gives_sound moment s o.sound; owes = owes_quiet (since + 1) (frame_step moment s) (sends_in_silence.3 moment since s o.sound o.owes allowed) })
said_owes moment since opens s w added saying allowed is o = absurd saying
said_owes moment since finds_no_port s w added saying allowed is o = absurd saying
said_owes moment since fails_to_dial s w added saying allowed is o = absurd saying
said_owes moment since (hears bytes) s w added saying allowed is o = absurd saying
said_owes moment since listens s w added saying allowed is o = absurd saying
said_owes moment since fails_to_receive s w added saying allowed is o = absurd saying
said_owes moment since ticks s w added saying allowed is o = absurd saying
said_owes moment since fails_to_send s w added saying allowed is o = absurd saying
said_owes moment since (hangs_up was_up) s w added saying allowed is o = absurd saying

all_owe : (moment since : ℕ) (is_prompt : Bool) (steps : List Step) (s : SenderData) (w : WorldData) (added : List WorldEvent) →
    Each IsIssueOrSend steps → AreAllowed moment steps s → AreAdded moment is_prompt steps s w added → Owes since s →
    Owes (sends_since since added) (after_steps moment steps s)
all_owe moment since is_prompt [] s w added saying allowed none o =
    let O : List WorldEvent → Type 0 = λ es. Owes (sends_since since es) s in
    subst O (sym none) o
all_owe moment since is_prompt (step ∷ steps) s w added saying allowed is o =
    let t : SenderData = after_step moment step s in
    let O : List WorldEvent → Type 0 = λ es. Owes (sends_since since es) (after_steps moment steps t) in
    let N : ℕ → Type 0 = λ n. Owes n (after_steps moment steps t) in
    let one = said_owes moment since step s w is.0 saying.0 allowed.0 is.3.0 o in
    let more = all_owe moment (sends_since since is.0) is_prompt steps t (world_from w is.0) is.1 saying.1 allowed.1 is.4 one in
    subst O (sym is.2) (subst N (sym (sends_since-append since is.0 is.1)) more)

pub saying_append : (xs ys : List Step) → Each IsIssueOrSend xs → Each IsIssueOrSend ys → Each IsIssueOrSend (xs ++ ys)
saying_append [] ys first second = second
saying_append (x ∷ xs) ys first second = (first.0, saying_append xs ys first.1 second)

pub saying_issuing : (texts : List (List ℕ)) → Each IsIssueOrSend (issuing texts)
saying_issuing [] = tt
saying_issuing (text ∷ texts) = (tt, saying_issuing texts)

pub saying_gives : (count : ℕ) → Each IsIssueOrSend (replicate count gives)
saying_gives zero = tt
saying_gives (suc count) = (tt, saying_gives count)

-- the clock ticks: a line may be owed then
ticked_owes : (moment since : ℕ) (s : SenderData) → IsSound s → IsQuiet since s → Owes since (tick_step moment s)
ticked_owes moment since s sound quiet = record { sound = ticks_sound moment s sound; owes = sends_in_silence.1 moment since s sound quiet }

-- whether a turn that found this leaves the link up
abbrev pub StaysUp : LinkFact → Type 0
StaysUp fact.Quiet = Unit {0}
StaysUp fact.Ready = Unit {0}
StaysUp _ = ⊥

module _ (moment : ℕ) (is_prompt : Bool) where
  clock_owes : (since : ℕ) (found : LinkFact) (texts : List (List ℕ)) (count : ℕ) (s : SenderData) (w : WorldData)
      (added : List WorldEvent) → StaysUp found → IsSound s → IsQuiet since s → AreAllowed moment (clock_steps found texts count) s →
      AreAdded moment is_prompt (clock_steps found texts count) s w added →
      Owes (sends_since since added) (after_steps moment (clock_steps found texts count) s)
  clock_owes since fact.Quiet texts count s w added stays sound quiet allowed is =
      let steps : List Step = issues_then_sends true texts count in
      let t : SenderData = tick_step moment s in
      let O : List WorldEvent → Type 0 = λ es. Owes (sends_since since es) (after_steps moment steps t) in
      let W : List WorldEvent → Type 0 = λ es. AreAdded moment is_prompt steps t (world_from w es) is.1 in
      let F : List WorldEvent → Type 0 = λ es. Owes (sends_since since (es ++ is.1)) (after_steps moment steps t) in
      let saying : Each IsIssueOrSend steps = saying_append (issuing texts) (replicate count gives) (saying_issuing texts) (saying_gives count) in
      let more = all_owe moment since is_prompt steps t w is.1 saying allowed.1 (subst W is.3.0 is.4) (ticked_owes moment since s sound quiet) in
      subst O (sym is.2) (subst F (sym is.3.0) more)
  clock_owes since fact.Ready texts count s w added stays sound quiet allowed is =
      let O : List WorldEvent → Type 0 = λ es. Owes (sends_since since es) (tick_step moment s) in
      let both : added ≡ [] = is.2 ∙ ap (λ (es : List WorldEvent). es ++ is.1) is.3.0 ∙ is.4 in
      subst O (sym both) (ticked_owes moment since s sound quiet)
  clock_owes since fact.Opened texts count s w added stays sound quiet allowed is = absurd stays
  clock_owes since fact.Closed texts count s w added stays sound quiet allowed is = absurd stays
  clock_owes since fact.NoPort texts count s w added stays sound quiet allowed is = absurd stays
  clock_owes since fact.Failed texts count s w added stays sound quiet allowed is = absurd stays
  clock_owes since (fact.Ended end) texts count s w added stays sound quiet allowed is = absurd stays

  talk_owes : (since : ℕ) (got : Got) (found : LinkFact) (texts : List (List ℕ)) (count : ℕ) (s : SenderData) (w : WorldData)
      (added : List WorldEvent) → (got ≡ unasked → ⊥) → (got ≡ lost → found ≡ fact.Failed) → StaysUp found → IsSound s → IsQuiet since s →
      AreAllowed moment (steps_over_link got found texts count) s → AreAdded moment is_prompt (steps_over_link got found texts count) s w added →
      Owes (sends_since since added) (after_steps moment (steps_over_link got found texts count) s)
  talk_owes since unasked found texts count s w added asked broken stays sound quiet allowed is = absurd (asked refl)
  talk_owes since lost found texts count s w added asked broken stays sound quiet allowed is = absurd (subst StaysUp (broken refl) stays)
  talk_owes since nothing found texts count s w added asked broken stays sound quiet allowed is =
      let O : List WorldEvent → Type 0 = λ es. Owes (sends_since since es) (after_steps moment (clock_steps found texts count) s) in
      let N : ℕ → Type 0 = λ n. Owes n (after_steps moment (clock_steps found texts count) s) in
      let same : sends_since since is.0 ≡ since = sends_since-free since is.0 is.3.0.free in
      let more = clock_owes since found texts count s (world_from w is.0) is.1 stays sound quiet allowed.1 is.4 in
      subst O (sym is.2) (subst N (sym (sends_since-append since is.0 is.1 ∙ ap (λ (n : ℕ). sends_since n is.1) same)) more)
  talk_owes since (whole bytes) found texts count s w added asked broken stays sound quiet allowed is =
      let t : SenderData = hear_step (kind_of bytes) moment s in
      let O : List WorldEvent → Type 0 = λ es. Owes (sends_since since es) (after_steps moment (clock_steps found texts count) t) in
      let N : ℕ → Type 0 = λ n. Owes n (after_steps moment (clock_steps found texts count) t) in
      let none : sends_since since is.0 ≡ 0 = since_heard since bytes w is.0 is.3.0 in
      let more = clock_owes 0 found texts count t (world_from w is.0) is.1 stays (hears_sound (kind_of bytes) moment s sound) (sends_in_silence.0 (kind_of bytes) moment s) allowed.1 is.4 in
      subst O (sym is.2) (subst N (sym (sends_since-append since is.0 is.1 ∙ ap (λ (n : ℕ). sends_since n is.1) none)) more)

-- after a turn that leaves the link up nothing is owed, if nothing is unsent
pub talk_quiet : (moment since : ℕ) (is_prompt : Bool) (got : Got) (found : LinkFact) (texts : List (List ℕ)) (count : ℕ) (s t : SenderData)
    (w : WorldData) (added : List WorldEvent) → (got ≡ unasked → ⊥) → (got ≡ lost → found ≡ fact.Failed) → StaysUp found → IsSound s →
    IsQuiet since s → AreAllowed moment (steps_over_link got found texts count) s →
    AreAdded moment is_prompt (steps_over_link got found texts count) s w added → t ≡ after_steps moment (steps_over_link got found texts count) s →
    next_of t ≡ None → IsQuiet (sends_since since added) t
talk_quiet moment since is_prompt got found texts count s t w added asked broken stays sound quiet allowed is same unsent =
    let O : SenderData → Type 0 = λ u. Owes (sends_since since added) u in
    let o : Owes (sends_since since added) t = subst O (sym same) (talk_owes moment is_prompt since got found texts count s w added asked broken stays sound quiet allowed is) in
    sends_in_silence.4 (sends_since since added) t o.sound o.owes unsent
