-- How the steps of a turn join.
use Rattle.std.proofs.Common.{◌≡◌, ℕ, zero, suc, Bool, true, false, List, [], ◌∷◌, ◌++◌, Option, replicate, refl, sym, ◌∙◌, ap, subst, append_assoc, append-nil, arith}
use Rattle.std.specs.Prelude.{None, Some, IfSome, is_some, ◌&&◌}
use Rattle.std.specs.Option.{option_map}
use Rattle.send_window.specs.Sending.{Outgoing, number_of_outgoing, bytes_of_outgoing}
use Rattle.std.proofs.lemmas.List.{append_cancel_left}
use Rattle.printer_link.proofs.Grown.{recorded_then, recorded_so, recorded_same}
use Rattle.printer_model.specs.World.{WorldData, new_world, world_from}
use Rattle.printer_link.specs.Link.{LinkKind, HasSlots, Grows, world_in, IsDial, IsSend, IsSendOf, RoseBy, counted_one}
use Rattle.printer_model.specs.declared.event.WorldEvent.{WorldEvent}
use Rattle.printer_model.proofs.Laws.{world_from-append, world_of-append, world_from-IsSameKind}
use Rattle.send_window.specs.Data.{SenderData}
use Rattle.send_window.specs.Hearing.{tick_step}
use Rattle.job_desk.specs.declared.link_fact.LinkFact.{LinkFact}
use Rattle.job_desk.specs.declared.link_fact.LinkFact.TheVariants as fact
use Rattle.octo_session.specs.Found.{Got, unasked, lost, nothing, whole, is_got, got_of, may_have_issued, may_issue, end_by, can_find}
use Rattle.octo_session.specs.declared.found.Doing.{Doing}
use Rattle.octo_session.specs.declared.found.Doing.TheVariants.{Dialling, Resting}
use Rattle.octo_session.specs.declared.found.Received.{Received}
use Rattle.octo_session.specs.declared.found.Received.TheVariants as received
use Rattle.octo_session.specs.Steps.{Step, opens, finds_no_port, fails_to_dial, fails_to_receive, ticks, hangs_up, hears, listens, issues, gives, fails_to_send, received_by, clock_steps, dial_steps, steps_over_link, turn_steps, after_step, after_steps, IsAllowed, AreAllowed, IsDone, IsDonePromptly, IsGiven, IsGivenAlone, IsAdded, AreAdded, calls_by, calls_after, Issues, Takes, TakesSome, issuing, sends, issues_then_sends}
use Rattle.printer_link.proofs.Calls.{rose_then, rose_none, rose_next}

pub after_steps-append : (moment : ℕ) (xs ys : List Step) (s : SenderData) → after_steps moment (xs ++ ys) s ≡ after_steps moment ys (after_steps moment xs s)
after_steps-append moment [] ys s = refl
after_steps-append moment (x ∷ xs) ys s = after_steps-append moment xs ys (after_step moment x s)

pub calls_after-append : (xs ys : List Step) (a : Option ℕ) → calls_after (xs ++ ys) a ≡ calls_after ys (calls_after xs a)
calls_after-append [] ys a = refl
calls_after-append (x ∷ xs) ys a = calls_after-append xs ys (calls_by x a)

-- steps one after the other are allowed one after the other
pub allowed_then : (moment : ℕ) (xs ys : List Step) (s : SenderData) → AreAllowed moment xs s → AreAllowed moment ys (after_steps moment xs s) →
    AreAllowed moment (xs ++ ys) s
allowed_then moment [] ys s one more = more
allowed_then moment (x ∷ xs) ys s one more = (one.0, allowed_then moment xs ys (after_step moment x s) one.1 more)

-- and what they add comes one after the other
pub added_then : (moment : ℕ) (is_prompt : Bool) (xs ys : List Step) (s : SenderData) (w : WorldData) (a b : List WorldEvent) →
    AreAdded moment is_prompt xs s w a → AreAdded moment is_prompt ys (after_steps moment xs s) (world_from w a) b →
    AreAdded moment is_prompt (xs ++ ys) s w (a ++ b)
added_then moment is_prompt [] ys s w a b none more =
    let P : List WorldEvent → Type 0 = λ es. AreAdded moment is_prompt ys s (world_from w es) b in
    let Q : List WorldEvent → Type 0 = λ es. AreAdded moment is_prompt ys s w (es ++ b) in
    subst Q (sym none) (subst P none more)
added_then moment is_prompt (x ∷ xs) ys s w a b one more =
    let first = one.0 in
    let rest = one.1 in
    let P : WorldData → Type 0 = λ v. AreAdded moment is_prompt ys (after_steps moment xs (after_step moment x s)) v b in
    let here : world_from w a ≡ world_from (world_from w first) rest = ap (world_from w) one.2 ∙ world_from-append w first rest in (
      first,
      rest ++ b,
      ap (λ (es : List WorldEvent). es ++ b) one.2 ∙ append_assoc first rest b,
      one.3,
      added_then moment is_prompt xs ys (after_step moment x s) (world_from w first) rest b one.4 (subst P here more),
    )

-- one step alone
added_one : (moment : ℕ) (is_prompt : Bool) (x : Step) (s : SenderData) (w : WorldData) (added : List WorldEvent) → IsAdded is_prompt x s w added →
    AreAdded moment is_prompt (x ∷ []) s w added
added_one moment is_prompt x s w added is = (added, [], sym (append-nil added), is, refl)

-- two words for one addition, the second of which holds under a premise
pub grows_both : (kind : LinkKind) (old new : Option (List WorldEvent)) (F : Type 0) (K J : WorldData → List WorldEvent → Type 0) → Grows kind old new K →
    (F → Grows kind old new J) → Grows kind old new (λ w added. K w added × (F → J w added))
grows_both kind old new F K J first second = record {
  stays = first.stays;
  grew = λ now e. (
      let one = first.grew now e in (
        one.0,
        one.1,
        one.2,
        one.3,
        (
          one.4,
          λ f. (
              let two = (second f).grew now e in
              let was : old ≡ Some two.0 = two.2 in
              let is : old ≡ Some one.0 = one.2 in
              let same : two.0 ≡ one.0 = cc in
              let lists : one.0 ++ one.1 ≡ one.0 ++ two.1 = sym one.3 ∙ two.3 ∙ ap (λ (l : List WorldEvent). l ++ two.1) same in
              let added : two.1 ≡ one.1 = sym (append_cancel_left one.0 one.1 two.1 lists) in
              let P : List WorldEvent → Type 0 = λ l. J (world_in kind l) two.1 in
              let Q : List WorldEvent → Type 0 = λ l. J (world_in kind one.0) l in
              subst Q added (subst P same two.4)),
        ),
      ));
}

module _ (moment : ℕ) (kind : LinkKind) where
  pub takes_then : (old mid new : Option (List WorldEvent)) (a b c : Option ℕ) (xs ys : List Step) (s t u : SenderData) → Takes moment kind old mid a b xs s t →
      Takes moment kind mid new b c ys t u → Takes moment kind old new a c (xs ++ ys) s u
  takes_then old mid new a b c xs ys s t u first second =
      let Allowed : SenderData → Type 0 = λ v. AreAllowed moment ys v in
      record {
        sender = second.sender ∙ ap (after_steps moment ys) first.sender ∙ sym (after_steps-append moment xs ys s);
        allowed = allowed_then moment xs ys s first.allowed (subst Allowed first.sender second.allowed);
        past = recorded_then old mid new (λ past added. AreAdded moment kind.prompt xs s (world_in kind past) added)
            (λ past added. AreAdded moment kind.prompt ys t (world_in kind past) added)
            (λ past added. AreAdded moment kind.prompt (xs ++ ys) s (world_in kind past) added)
            first.past second.past
            (λ past added more one two. (let At : WorldData → Type 0 = λ w. AreAdded moment kind.prompt ys t w more in
            let From : SenderData → Type 0 = λ v. AreAdded moment kind.prompt ys v (world_from (world_in kind past) added) more in
            added_then moment kind.prompt xs ys s (world_in kind past) added more one
            (subst From first.sender (subst At (world_of-append kind.slots kind.oks past added) two))));
        calls = second.calls ∙ ap (calls_after ys) first.calls ∙ sym (calls_after-append xs ys a);
      }

  -- no step
  pub takes_none : (old : Option (List WorldEvent)) (a : Option ℕ) (s : SenderData) → Takes moment kind old old a a [] s s
  takes_none old a s = record {
    sender = refl;
    allowed = tt;
    past = recorded_same old (λ past added. AreAdded moment kind.prompt [] s (world_in kind past) added) (λ past. refl);
    calls = refl;
  }

  -- one step
  pub takes_one : (old new : Option (List WorldEvent)) (a b : Option ℕ) (x : Step) (s t : SenderData) → t ≡ after_step moment x s → IsAllowed x s →
      b ≡ calls_by x a → Grows kind old new (IsAdded kind.prompt x s) → Takes moment kind old new a b (x ∷ []) s t
  takes_one old new a b x s t after may called grew = record {
    sender = after;
    allowed = (may, tt);
    past = recorded_so old new (λ past added. IsAdded kind.prompt x s (world_in kind past) added)
        (λ past added. AreAdded moment kind.prompt (x ∷ []) s (world_in kind past) added)
        grew (λ past added is. added_one moment kind.prompt x s (world_in kind past) added is);
    calls = called;
  }

  -- one step by the two words of a link
  pub takes_both : (old new : Option (List WorldEvent)) (a b : Option ℕ) (x : Step) (s t : SenderData) → t ≡ after_step moment x s → IsAllowed x s →
      b ≡ calls_by x a → Grows kind old new (IsDone x s) → (kind.prompt ≡ true → Grows kind old new (IsDonePromptly x s)) →
      Takes moment kind old new a b (x ∷ []) s t
  takes_both old new a b x s t after may called grew promptly =
      takes_one old new a b x s t after may called (grows_both kind old new (kind.prompt ≡ true) (IsDone x s) (IsDonePromptly x s) grew promptly)

  -- the same steps under equal names
  pub takes_as : (old new : Option (List WorldEvent)) (a b : Option ℕ) (xs ys : List Step) (s t : SenderData) → xs ≡ ys → Takes moment kind old new a b xs s t →
      Takes moment kind old new a b ys s t
  takes_as old new a b xs ys s t same takes =
      let P : List Step → Type 0 = λ zs. Takes moment kind old new a b zs s t in
      subst P same takes

-- issued texts add nothing
added_issuing : (moment : ℕ) (is_prompt : Bool) (texts : List (List ℕ)) (s : SenderData) (w : WorldData) → AreAdded moment is_prompt (issuing texts) s w []
added_issuing moment is_prompt [] s w = refl
added_issuing moment is_prompt (text ∷ texts) s w = ([], [], refl, (refl, λ is. tt), added_issuing moment is_prompt texts (after_step moment (issues text) s) w)

-- nor are they calls of the link
calls_issuing : (texts : List (List ℕ)) (a : Option ℕ) → calls_after (issuing texts) a ≡ a
calls_issuing [] a = refl
calls_issuing (text ∷ texts) a = calls_issuing texts a

pub takes_issuing : (moment : ℕ) (kind : LinkKind) (old : Option (List WorldEvent)) (a : Option ℕ) (texts : List (List ℕ)) (s t : SenderData) →
    Issues moment texts s t → Takes moment kind old old a a (issuing texts) s t
takes_issuing moment kind old a texts s t issued_all = record {
  sender = issued_all.sender;
  allowed = issued_all.allowed;
  past = recorded_same old (λ past added. AreAdded moment kind.prompt (issuing texts) s (world_in kind past) added)
      (λ past. added_issuing moment kind.prompt texts s (world_in kind past));
  calls = sym (calls_issuing texts a);
}

-- a printer of the same buffer slots
pub takes_at : (moment : ℕ) (kind kind' : LinkKind) (old new : Option (List WorldEvent)) (a b : Option ℕ) (xs : List Step) (s t : SenderData) → kind' ≡ kind →
    Takes moment kind' old new a b xs s t → Takes moment kind old new a b xs s t
takes_at moment kind kind' old new a b xs s t same takes =
    let P : LinkKind → Type 0 = λ k. Takes moment k old new a b xs s t in
    subst P same takes

-- one more of the same
pub replicate-push : (count : ℕ) → replicate count gives ++ gives ∷ [] ≡ replicate (suc count) gives
replicate-push zero = refl
replicate-push (suc count) = ap (λ (xs : List Step). gives ∷ xs) (replicate-push count)

-- one more frame after some
pub takes_more : (moment : ℕ) (kind : LinkKind) (old mid new : Option (List WorldEvent)) (a b c : Option ℕ) (s t u : SenderData) →
    TakesSome moment kind old mid a b (sends true) s t → Takes moment kind mid new b c (gives ∷ []) t u → TakesSome moment kind old new a c (sends true) s u
takes_more moment kind old mid new a b c s t u some one = record {
  count = suc some.count;
  takes = takes_as moment kind old new a c _ _ s u (replicate-push some.count) (takes_then moment kind old mid new a b c _ (gives ∷ []) s t u some.takes one);
}

-- the last one's sending fails
pub takes_last : (moment : ℕ) (kind : LinkKind) (old mid new : Option (List WorldEvent)) (a b c : Option ℕ) (s t u : SenderData) →
    TakesSome moment kind old mid a b (sends true) s t → Takes moment kind mid new b c (fails_to_send ∷ []) t u →
    TakesSome moment kind old new a c (sends false) s u
takes_last moment kind old mid new a b c s t u some one = record {
  count = some.count;
  takes = takes_then moment kind old mid new a b c _ (fails_to_send ∷ []) s t u some.takes one;
}

-- texts are issued, and then frames sent
pub takes_said : (moment : ℕ) (kind : LinkKind) (old new : Option (List WorldEvent)) (a b : Option ℕ) (all : Bool) (texts : List (List ℕ))
    (s t u : SenderData) →
    Issues moment texts s t → TakesSome moment kind old new a b (sends all) t u → TakesSome moment kind old new a b (issues_then_sends all texts) s u
takes_said moment kind old new a b all texts s t u issued_all some = record {
  count = some.count;
  takes = takes_then moment kind old old new a a b (issuing texts) (sends all some.count) s t u
      (takes_issuing moment kind old a texts s t issued_all) some.takes;
}

-- a receiving that didn't fail, and then the rest of the turn
pub takes_talk : (moment : ℕ) (kind kind' : LinkKind) (old mid new : Option (List WorldEvent)) (a b c : Option ℕ) (got : Got) (found : LinkFact)
    (texts : List (List ℕ)) (s t u : SenderData) →
    is_got got ≡ true → kind' ≡ kind → Takes moment kind old mid a b (received_by got) s t → TakesSome moment kind' mid new b c (clock_steps found texts) t u →
    TakesSome moment kind old new a c (steps_over_link got found texts) s u
takes_talk moment kind kind' old mid new a b c unasked found texts s t u is same first some = absurd (cc is)
takes_talk moment kind kind' old mid new a b c lost found texts s t u is same first some = absurd (cc is)
takes_talk moment kind kind' old mid new a b c nothing found texts s t u is same first some = record {
  count = some.count;
  takes = takes_then moment kind old mid new a b c (listens ∷ []) (clock_steps found texts some.count) s t u first
      (takes_at moment kind kind' mid new b c _ t u same some.takes);
}
takes_talk moment kind kind' old mid new a b c (whole bytes) found texts s t u is same first some = record {
  count = some.count;
  takes = takes_then moment kind old mid new a b c (hears bytes ∷ []) (clock_steps found texts some.count) s t u first
      (takes_at moment kind kind' mid new b c _ t u same some.takes);
}

-- how the session ends by what was received
pub end_by_is : (got : Got) (moment : ℕ) (s t : SenderData) → is_got got ≡ true → t ≡ after_steps moment (received_by got) s →
    end_by got moment s ≡ (tick_step moment t).ended
end_by_is unasked moment s t is after = absurd (cc is)
end_by_is lost moment s t is after = absurd (cc is)
end_by_is nothing moment s t is after = ap (λ (x : SenderData). (tick_step moment x).ended) (sym after)
end_by_is (whole bytes) moment s t is after = ap (λ (x : SenderData). (tick_step moment x).ended) (sym after)

-- what was received and isn't lost
pub got_some : (r : Received) (bytes : List ℕ) → (got_of r bytes ≡ unasked → ⊥) → (r ≡ received.Lost → ⊥) → is_got (got_of r bytes) ≡ true
got_some received.Unasked bytes asked not_lost = absurd (asked refl)
got_some received.Lost bytes asked not_lost = absurd (not_lost refl)
got_some received.Nothing bytes asked not_lost = refl
got_some (received.Line temps) bytes asked not_lost = refl

-- a receiving that didn't fail isn't lost
pub got_kept : (got kept : Got) → kept ≡ got → is_got got ≡ true → kept ≡ lost → ⊥
got_kept got kept same is gone =
    let other : true ≡ false = sym is ∙ ap is_got (sym same ∙ gone) in
    absurd (cc)

-- a turn that receives without a failure issues no line only by its fact
pub none_said : (got kept : Got) (found : LinkFact) → kept ≡ got → is_got got ≡ true → may_issue kept found ≡ false → may_have_issued found ≡ false
none_said got kept found same is none = sym (ap (λ (b : Bool). b && may_have_issued found) (ap is_got same ∙ is)) ∙ none

-- a link whose printer keeps 1 to 16 lines waiting is made
pub opens_placed : (kind : LinkKind) (old new : Option (List WorldEvent)) (s : SenderData) → HasSlots kind → Grows kind old new IsDial →
    Grows kind old new (IsDone opens s)
opens_placed kind old new s has grew =
    recorded_so old new (λ past added. IsDial (world_in kind past) added) (λ past added. IsDone opens s (world_in kind past) added) grew
    (λ past added dial. (let same : (world_in kind past).printer.slots ≡ kind.slots = (world_from-IsSameKind (new_world kind.slots kind.oks) past).slots
    in
    (dial, record { some = omega (arith, same, has.some); few = omega (arith, same, has.few) })))

-- a turn that does nothing
pub takes_rest : (moment : ℕ) (kind : LinkKind) (old : Option (List WorldEvent)) (a : Option ℕ) (doing_now : Doing) (was_up : Bool) (got : Got)
    (found : LinkFact) (texts : List (List ℕ)) (s : SenderData) →
    doing_now ≡ Resting → TakesSome moment kind old old a a (turn_steps doing_now was_up got found texts) s s
takes_rest moment kind old a doing_now was_up got found texts s rests =
    let P : Doing → Type 0 = λ d. TakesSome moment kind old old a a (turn_steps d was_up got found texts) s s in
    subst P (sym rests) (record { count = 0; takes = takes_none moment kind old a s })

-- what was written is sent
pub record Gives (kind : LinkKind) (old new : Option (List WorldEvent)) (next : Option Outgoing) : Type 0 where
  pub there : is_some next ≡ true
  pub grew : Grows kind old new (λ w added. IsGiven next w added)
  pub promptly : kind.prompt ≡ true → Grows kind old new (λ w added. IsGivenAlone next added)

pub gives_written : (kind : LinkKind) (old new : Option (List WorldEvent)) (next : Option Outgoing) (number : ℕ) (bytes : List ℕ) →
    Some number ≡ option_map number_of_outgoing next → IfSome next (λ o. bytes ≡ bytes_of_outgoing o) → Grows kind old new (IsSend bytes) →
    (kind.prompt ≡ true → Grows kind old new (λ w added. (sent : WorldEvent) × (added ≡ sent ∷ []) × IsSendOf bytes sent)) → Gives kind old new next
gives_written kind old new None number bytes some written grew promptly = absurd (cc some)
gives_written kind old new (Some next) number bytes some written grew promptly =
    let P : List ℕ → Type 0 = λ b. Grows kind old new (IsSend b) in
    let Q : List ℕ → Type 0 = λ b. Grows kind old new (λ w added. (sent : WorldEvent) × (added ≡ sent ∷ []) × IsSendOf b sent) in
    record { there = refl; grew = subst P written grew; promptly = λ is. subst Q written (promptly is) }

-- how the count of calls rises
counted_stays : (a : Option ℕ) → RoseBy 0 a (counted_one a)
counted_stays None = tt
counted_stays (Some n) = λ below. omega arith

-- a step lowers no count of calls
stays_by : (x : Step) (a : Option ℕ) → RoseBy 0 a (calls_by x a)
stays_by opens a = counted_stays a
stays_by finds_no_port a = counted_stays a
stays_by fails_to_dial a = counted_stays a
stays_by (hears bytes) a = counted_stays a
stays_by listens a = counted_stays a
stays_by fails_to_receive a = counted_stays a
stays_by ticks a = rose_none a
stays_by (issues text) a = rose_none a
stays_by gives a = counted_stays a
stays_by fails_to_send a = counted_stays a
stays_by (hangs_up was_up) a = rose_none a

-- nor do steps
stays_after : (steps : List Step) (a : Option ℕ) → RoseBy 0 a (calls_after steps a)
stays_after [] a = rose_none a
stays_after (x ∷ steps) a = rose_then 0 0 a (calls_by x a) (calls_after steps (calls_by x a)) (stays_by x a) (stays_after steps (calls_by x a))

-- steps that begin with a call raise it
begins_calling : (steps : List Step) (a b : Option ℕ) → b ≡ calls_after steps (counted_one a) → RoseBy 1 a b
begins_calling steps a b is =
    let P : Option ℕ → Type 0 = λ n. RoseBy 1 a n in
    subst P (sym is) (rose_then 1 0 a (counted_one a) (calls_after steps (counted_one a)) (rose_next a) (stays_after steps (counted_one a)))

-- as a turn does that dials
pub dial_calls : (found : LinkFact) (a b : Option ℕ) → can_find Dialling found ≡ true → b ≡ calls_after (dial_steps found) a → RoseBy 1 a b
dial_calls fact.Quiet a b can is = absurd (cc can)
dial_calls fact.Opened a b can is = begins_calling [] a b is
dial_calls fact.Ready a b can is = absurd (cc can)
dial_calls fact.Closed a b can is = absurd (cc can)
dial_calls fact.NoPort a b can is = begins_calling [] a b is
dial_calls fact.Failed a b can is = begins_calling [] a b is
dial_calls (fact.Ended end) a b can is = absurd (cc can)

-- and one that uses the link
pub talk_calls : (got : Got) (found : LinkFact) (texts : List (List ℕ)) (count : ℕ) (a b : Option ℕ) → (got ≡ unasked → ⊥) →
    b ≡ calls_after (steps_over_link got found texts count) a → RoseBy 1 a b
talk_calls unasked found texts count a b asked is = absurd (asked refl)
talk_calls lost found texts count a b asked is = begins_calling [] a b is
talk_calls nothing found texts count a b asked is = begins_calling (clock_steps found texts count) a b is
talk_calls (whole bytes) found texts count a b asked is = begins_calling (clock_steps found texts count) a b is
