-- What an issued line changes of a desk.
use Rattle.std.proofs.Common.{◌≡◌, ◌⊎◌, inl, inr, ℕ, ◌+◌, ◌<◌, min, Bool, true, false, cond, nat_eq, List, [], ◌∷◌, ◌++◌, length, take, refl, ap, arith, length-append}
use Rattle.std.proofs.lemmas.List.{take_all, take-append-le}
use Rattle.job_desk.specs.Data.{Data, Line}
use Rattle.job_desk.specs.Pull.{next_number, keep_number, issue}
use Rattle.job_desk.specs.declared.state.Tag.{Tag}
use Rattle.job_desk.specs.declared.state.Tag.TheVariants.{Script, Job, Manual, Poll}
use Rattle.octo_session_print.specs.Remaining.{planned_tag}
use Rattle.octo_session_print.specs.Underway.{Standing, standing, IsCounted}

-- an issued line changes the desk's numbers alone
pub record IsIssue (d e : Data) : Type 0 where
  pub numbered : e.numbered ≡ d.numbered
  pub scripts : e.scripts ≡ d.scripts
  pub limits : e.limits ≡ d.limits
  pub file : e.file ≡ d.file
  pub manual : e.manual ≡ d.manual
  pub stopped : e.stopped ≡ d.stopped
  pub same_standing : standing e ≡ standing d
  pub poll_at : e.poll_at ≡ d.poll_at
  pub poll_ms : e.poll_ms ≡ d.poll_ms
  pub number : e.issued ≡ next_number d.issued
  pub print : (e.print_line ≡ d.print_line) ⊎ (e.print_line ≡ next_number d.issued)
  pub last : (e.last_line ≡ d.last_line) ⊎ (e.last_line ≡ next_number d.issued)

issue_script : (b : Bool) (d : Data) → IsIssue d (cond b (record d { issued = next_number d.issued; last_line = next_number d.issued })
    (record d { issued = next_number d.issued; print_line = next_number d.issued; last_line = next_number d.issued }))
issue_script true d = record {
  numbered = refl;
  scripts = refl;
  limits = refl;
  file = refl;
  manual = refl;
  stopped = refl;
  same_standing = refl;
  poll_at = refl;
  poll_ms = refl;
  number = refl;
  print = inl refl;
  last = inr refl;
}
issue_script false d = record {
  numbered = refl;
  scripts = refl;
  limits = refl;
  file = refl;
  manual = refl;
  stopped = refl;
  same_standing = refl;
  poll_at = refl;
  poll_ms = refl;
  number = refl;
  print = inr refl;
  last = inr refl;
}

pub issue_tag : (tag : Tag) (d : Data) → IsIssue d (keep_number tag (next_number d.issued) (record d { issued = next_number d.issued }))
issue_tag (Script at print) d = issue_script (nat_eq print 0) d
issue_tag (Job print index) d = record {
  numbered = refl;
  scripts = refl;
  limits = refl;
  file = refl;
  manual = refl;
  stopped = refl;
  same_standing = refl;
  poll_at = refl;
  poll_ms = refl;
  number = refl;
  print = inr refl;
  last = inr refl;
}
issue_tag Manual d = record {
  numbered = refl;
  scripts = refl;
  limits = refl;
  file = refl;
  manual = refl;
  stopped = refl;
  same_standing = refl;
  poll_at = refl;
  poll_ms = refl;
  number = refl;
  print = inl refl;
  last = inr refl;
}
issue_tag Poll d = record {
  numbered = refl;
  scripts = refl;
  limits = refl;
  file = refl;
  manual = refl;
  stopped = refl;
  same_standing = refl;
  poll_at = refl;
  poll_ms = refl;
  number = refl;
  print = inl refl;
  last = inl refl;
}

pub issue_same_standing : (line : Line) (d : Data) → standing (issue line d).1 ≡ standing d
issue_same_standing line d = (issue_tag line.tag d).same_standing

pub issue_state : (line : Line) (d : Data) → (issue line d).1.state ≡ d.state
issue_state line d = ap (λ (s : Standing). s.state) (issue_tag line.tag d).same_standing

pub long : (issued : List (List ℕ)) (text : List ℕ) → length (issued ++ text ∷ []) ≡ length issued + 1
long issued text = length-append issued (text ∷ [])

pub counts_on : (d e : Data) (issued : List (List ℕ)) (text : List ℕ) → IsIssue d e → (d.issued < 18446744073709551615 → IsCounted d issued)
    → e.issued < 18446744073709551615 → IsCounted e (issued ++ text ∷ [])
counts_on d e issued text i before below =
    let next : e.issued ≡ min (d.issued + 1) 18446744073709551615 = i.number in
    let fits : d.issued < 18446744073709551615 = omega (arith, next, below) in
    let c : IsCounted d issued = before fits in
    let more : e.issued ≡ d.issued + 1 = omega (arith, next, below) in
    record {
      all = omega (arith, more, c.all, long issued text);
      print = elim i.print [ inl same ↦ omega (arith, same, c.print, more) | inr new ↦ omega (arith, new, next) ];
      last = elim i.last [ inl same ↦ omega (arith, same, c.last, more) | inr new ↦ omega (arith, new, next) ];
    }

-- a line of the plan is then the last one that is no poll
last_script : (b : Bool) (n : ℕ) (d : Data) → (cond b (record d { last_line = n }) (record d { print_line = n; last_line = n })).last_line ≡ n
last_script true n d = refl
last_script false n d = refl

last_planned : (tag : Tag) (n : ℕ) (d : Data) → planned_tag tag ≡ 1 → (keep_number tag n d).last_line ≡ n
last_planned (Script at print) n d one = last_script (nat_eq print 0) n d
last_planned (Job print index) n d one = refl
last_planned Manual n d one = refl
last_planned Poll n d one = absurd (omega (arith, one))

-- so all texts are among the first ones, up to that
pub first_all : (line : Line) (d : Data) (issued : List (List ℕ)) → planned_tag line.tag ≡ 1 → (d.issued < 18446744073709551615 → IsCounted d issued)
    → (issue line d).1.issued < 18446744073709551615
    → take (issue line d).1.last_line (issued ++ line.text ∷ []) ≡ issued ++ line.text ∷ []
first_all line d issued one before below =
    let i : IsIssue d (issue line d).1 = issue_tag line.tag d in
    let next : (issue line d).1.issued ≡ min (d.issued + 1) 18446744073709551615 = i.number in
    let last : (issue line d).1.last_line ≡ min (d.issued + 1) 18446744073709551615 =
    last_planned line.tag (next_number d.issued) (record d { issued = next_number d.issued }) one in
    let fits : d.issued < 18446744073709551615 = omega (arith, next, below) in
    let c : IsCounted d issued = before fits in
    take_all (issue line d).1.last_line (issued ++ line.text ∷ []) (omega (arith, next, below, last, c.all, long issued line.text))

-- and a poll isn't among them
pub first_same : (text : List ℕ) (d : Data) (issued : List (List ℕ)) → (d.issued < 18446744073709551615 → IsCounted d issued)
    → (issue (record { text = text; tag = Poll }) d).1.issued < 18446744073709551615 → take d.last_line (issued ++ text ∷ []) ≡ take d.last_line issued
first_same text d issued before below =
    let next : (issue (record { text = text; tag = Poll }) d).1.issued ≡ min (d.issued + 1) 18446744073709551615 = (issue_tag Poll d).number in
    let fits : d.issued < 18446744073709551615 = omega (arith, next, below) in
    let c : IsCounted d issued = before fits in
    take-append-le d.last_line issued (text ∷ []) (omega (arith, c.last, c.all))
