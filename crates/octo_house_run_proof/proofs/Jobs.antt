-- The file commands among the lines of a print.
use Rattle.std.proofs.Common.{◌≡◌, ℕ, zero, suc, ◌+◌, Bool, true, false, cond, List, [], ◌∷◌, ◌++◌, length, take, slice_get, Some, refl, sym, ◌∙◌, ap, subst, append-nil, arith}
use Rattle.std.proofs.lemmas.List.Elements.{filter-append}
use Rattle.job_desk.specs.Course.{job_line, Body, started, command, round, End, Paused, Cancelled, Done, Course, still_open, paused, cancelled, cancelled_paused, done}
use Rattle.job_desk.specs.Data.{ScriptTexts, Line, script_lines, tagged, texts_at}
use Rattle.job_desk.specs.Run.{Fate, Finished, is_of, print_lines}
use Rattle.job_desk.specs.Story.{IsBegun, Story, never, going, finished, stopped, left, unplugged, broken}
use Rattle.job_desk.specs.declared.state.Point.{Point}
use Rattle.job_desk.specs.declared.state.Point.TheVariants as point
use Rattle.job_desk.specs.declared.state.Tag.{Tag}
use Rattle.job_desk.specs.declared.state.Tag.TheVariants.{Script, Job}
use Rattle.job_desk.proofs.Lines.{same_test}
use Rattle.octo_house_rules.specs.Issued.{is_job_of, job_part}
use Rattle.octo_house_rules.specs.Jobs.{jobs_from}
use Rattle.byte_text.proofs.ListLaws.{head_same}
use Rattle.std.proofs.Math.Seq.{take-length}

module _ (p : ℕ) where
  pub jobs_append : (xs ys : List Line) → job_part p (xs ++ ys) ≡ job_part p xs ++ job_part p ys
  jobs_append xs ys = filter-append (λ (line : Line). is_job_of p line.tag) xs ys

  -- a file command of the print is one of its lines
  job_of_own : (tag : Tag) → is_of p tag ≡ false → is_job_of p tag ≡ false
  job_of_own (Job q index) other = other
  job_of_own _ other = refl

  -- the file commands among the lines of the print are those among all
  pub jobs_own : (lines : List Line) → job_part p (print_lines p lines) ≡ job_part p lines
  jobs_own [] = refl
  jobs_own (line ∷ lines) = by (jobs_own lines) (is_of p line.tag) refl
    where
      by : job_part p (print_lines p lines) ≡ job_part p lines → (b : Bool) → is_of p line.tag ≡ b
          → job_part p (print_lines p (line ∷ lines)) ≡ job_part p (line ∷ lines)
      by rest true is =
          ap (λ (b : Bool). job_part p (cond b (line ∷ print_lines p lines) (print_lines p lines))) is
          ∙ ap (λ (x : List Line). cond (is_job_of p line.tag) (line ∷ x) x) rest
      by rest false is =
          ap (λ (b : Bool). job_part p (cond b (line ∷ print_lines p lines) (print_lines p lines))) is ∙ rest
          ∙ sym (ap (λ (b : Bool). cond b (line ∷ job_part p lines) (job_part p lines)) (job_of_own line.tag is))

  -- a script has none
  pub jobs_script : (at : Point) (q : ℕ) (texts : List (List ℕ)) → job_part p (tagged (Script at q) texts) ≡ []
  jobs_script at q [] = refl
  jobs_script at q (text ∷ texts) = jobs_script at q texts

  none_scripts : (scripts : ScriptTexts) (at : Point) → job_part p (script_lines scripts at p) ≡ []
  none_scripts scripts at = jobs_script at p (texts_at at scripts)

  with_scripts : (scripts : ScriptTexts) (at : Point) (lines : List Line) → job_part p (lines ++ script_lines scripts at p) ≡ job_part p lines
  with_scripts scripts at lines =
      jobs_append lines (script_lines scripts at p) ∙ ap (λ (x : List Line). job_part p lines ++ x) (none_scripts scripts at) ∙ append-nil (job_part p lines)

  -- the first commands with one more
  more_jobs : (index n : ℕ) (commands : List (List ℕ)) (text : List ℕ) → slice_get commands n ≡ Some text →
      jobs_from p index (take (suc n) commands) ≡ jobs_from p index (take n commands) ++ job_line p (index + n) text ∷ []
  more_jobs index n [] text found = absurd (cc found)
  more_jobs index zero (first ∷ commands) text found =
      let same : first ≡ text = cc in
      ap (λ (t : List ℕ). job_line p index t ∷ []) same ∙ ap (λ (k : ℕ). job_line p k text ∷ []) (omega arith)
  more_jobs index (suc n) (first ∷ commands) text found =
      let rest = more_jobs (suc index) n commands text found in
      ap (λ (x : List Line). job_line p index first ∷ x) rest
      ∙ ap (λ (k : ℕ). job_line p index first ∷ (jobs_from p (suc index) (take n commands) ++ job_line p k text ∷ [])) (omega arith)

  own_job : (index : ℕ) (text : List ℕ) → job_part p (job_line p index text ∷ []) ≡ job_line p index text ∷ []
  own_job index text = ap (λ (b : Bool). cond b (job_line p index text ∷ []) []) (same_test p)

  module _ (scripts : ScriptTexts) (commands : List (List ℕ)) where
    -- the file commands of a body
    body_jobs : (n : ℕ) (lines : List Line) → Body scripts p commands n lines → job_part p lines ≡ jobs_from p 0 (take n commands)
    body_jobs _ _ started = none_scripts scripts point.Started
    body_jobs _ _ (command index text lines b found) =
        jobs_append lines (job_line p index text ∷ [])
        ∙ ap (λ (x : List Line). x ++ job_part p (job_line p index text ∷ [])) (body_jobs index lines b)
        ∙ ap (λ (x : List Line). jobs_from p 0 (take index commands) ++ x) (own_job index text)
        ∙ ap (λ (k : ℕ). jobs_from p 0 (take index commands) ++ job_line p k text ∷ []) (omega arith)
        ∙ sym (more_jobs 0 index commands text found)
    body_jobs _ _ (round index lines b) =
        with_scripts scripts point.Resumed (lines ++ script_lines scripts point.Paused p) ∙ with_scripts scripts point.Paused lines ∙ body_jobs index lines b

    -- those of a course are the first of the file
    pub record AreFirst (lines : List Line) : Type 0 where
      pub count : ℕ
      pub are : job_part p lines ≡ jobs_from p 0 (take count commands)

    pub course_jobs : (e : End) (lines : List Line) → Course scripts p commands e lines → AreFirst lines
    course_jobs _ _ (still_open index lines b) = record { count = index; are = body_jobs index lines b }
    course_jobs _ _ (paused index lines b) = record { count = index; are = with_scripts scripts point.Paused lines ∙ body_jobs index lines b }
    course_jobs _ _ (cancelled index lines b) = record { count = index; are = with_scripts scripts point.Cancelled lines ∙ body_jobs index lines b }
    course_jobs _ _ (cancelled_paused index lines b) = record {
      count = index;
      are = with_scripts scripts point.Cancelled (lines ++ script_lines scripts point.Paused p) ∙ with_scripts scripts point.Paused lines
          ∙ body_jobs index lines b;
    }
    course_jobs _ _ (done lines b) = record { count = length commands; are = with_scripts scripts point.Done lines ∙ body_jobs (length commands) lines b }

  -- the first part of the first ones
  part_of : (n index : ℕ) (commands : List (List ℕ)) (xs ys : List Line) → xs ++ ys ≡ jobs_from p index (take n commands) →
      (m : ℕ) × (xs ≡ jobs_from p index (take m commands))
  part_of n index commands [] ys is = (0, refl)
  part_of zero index commands (x ∷ xs) ys is = absurd (cc is)
  part_of (suc n) index [] (x ∷ xs) ys is = absurd (cc is)
  part_of (suc n) index (text ∷ commands) (x ∷ xs) ys is =
      let here : x ≡ job_line p index text = cc in
      let rest : xs ++ ys ≡ jobs_from p (suc index) (take n commands) = cc in
      let more = part_of n (suc index) commands xs ys rest in (
        suc more.0,
        ap (λ (l : Line). l ∷ xs) here ∙ ap (λ (l : List Line). job_line p index text ∷ l) more.1,
      )

  -- so are those of a part
  pub first_part : (scripts : ScriptTexts) (commands : List (List ℕ)) (xs ys : List Line) → AreFirst scripts commands (xs ++ ys) → AreFirst scripts commands xs
  first_part scripts commands xs ys a =
      let part = part_of a.count 0 commands (job_part p xs) (job_part p ys) (sym (jobs_append xs ys) ∙ a.are) in
      record { count = part.0; are = part.1 }

  pub begun_jobs : (scripts : ScriptTexts) (commands : List (List ℕ)) (lines : List Line) → IsBegun scripts p commands lines → AreFirst scripts commands lines
  begun_jobs scripts commands lines b = first_part scripts commands lines b.rest (course_jobs scripts commands b.end (lines ++ b.rest) b.course)

  -- those of a print that has begun
  pub story_jobs : (scripts : ScriptTexts) (commands : List (List ℕ)) (begun : List (List (List ℕ))) (lines : List Line) (fates : List Fate) →
      Story scripts p begun lines fates → begun ≡ commands ∷ [] → AreFirst scripts commands lines
  story_jobs scripts commands _ _ _ never is = absurd (cc is)
  story_jobs scripts commands _ _ _ (going c lines b) is =
      subst (λ (x : List (List ℕ)). AreFirst scripts x lines) (head_same c commands is) (begun_jobs scripts c lines b)
  story_jobs scripts commands _ _ _ (finished c lines b) is =
      subst (λ (x : List (List ℕ)). AreFirst scripts x lines) (head_same c commands is) (course_jobs scripts c Done lines b)
  story_jobs scripts commands _ _ _ (stopped c lines b) is =
      subst (λ (x : List (List ℕ)). AreFirst scripts x lines) (head_same c commands is) (course_jobs scripts c Cancelled lines b)
  story_jobs scripts commands _ _ _ (left c lines b) is =
      subst (λ (x : List (List ℕ)). AreFirst scripts x lines) (head_same c commands is) (course_jobs scripts c Paused lines b)
  story_jobs scripts commands _ _ _ (unplugged c lines b) is =
      subst (λ (x : List (List ℕ)). AreFirst scripts x lines) (head_same c commands is) (begun_jobs scripts c lines b)
  story_jobs scripts commands _ _ _ (broken c lines b) is =
      subst (λ (x : List (List ℕ)). AreFirst scripts x lines) (head_same c commands is) (begun_jobs scripts c lines b)

  -- of a print that is done: all of the file, in a whole course
  pub record IsWhole (scripts : ScriptTexts) (begun : List (List (List ℕ))) (lines : List Line) : Type 0 where
    pub commands : List (List ℕ)
    pub began : begun ≡ commands ∷ []
    pub course : Course scripts p commands Done lines
    pub jobs : job_part p lines ≡ jobs_from p 0 commands

  done_jobs : (scripts : ScriptTexts) (commands : List (List ℕ)) (e : End) (lines : List Line) → e ≡ Done → Course scripts p commands e lines →
      job_part p lines ≡ jobs_from p 0 commands
  done_jobs scripts commands _ _ is (done lines b) =
      with_scripts scripts point.Done lines ∙ body_jobs scripts commands (length commands) lines b
      ∙ ap (λ (c : List (List ℕ)). jobs_from p 0 c) (take-length commands)
  done_jobs scripts commands _ _ is (still_open index lines b) = absurd (cc is)
  done_jobs scripts commands _ _ is (paused index lines b) = absurd (cc is)
  done_jobs scripts commands _ _ is (cancelled index lines b) = absurd (cc is)
  done_jobs scripts commands _ _ is (cancelled_paused index lines b) = absurd (cc is)

  pub story_done : (scripts : ScriptTexts) (begun : List (List (List ℕ))) (lines : List Line) (fates : List Fate) → Story scripts p begun lines fates
      → fates ≡ Finished ∷ [] →
      IsWhole scripts begun lines
  story_done scripts _ _ _ (finished c lines b) is = record { commands = c; began = refl; course = b; jobs = done_jobs scripts c Done lines refl b }
  story_done scripts _ _ _ never is = absurd (cc is)
  story_done scripts _ _ _ (going c lines b) is = absurd (cc is)
  story_done scripts _ _ _ (stopped c lines b) is = absurd (cc is)
  story_done scripts _ _ _ (left c lines b) is = absurd (cc is)
  story_done scripts _ _ _ (unplugged c lines b) is = absurd (cc is)
  story_done scripts _ _ _ (broken c lines b) is = absurd (cc is)
