-- Courses read as plain lists.
use Rattle.std.proofs.Common.{◌≡◌, ℕ, zero, suc, ◌+◌, ◌≤◌, Bool, List, [], ◌∷◌, ◌++◌, length, take, slice_get, Some, refl, sym, ◌∙◌, ap, arith, append_assoc, length-append, length-take}
use Rattle.std.proofs.lemmas.List.{append-nil, take_all, take_at, take-take}
use Rattle.job_desk.specs.Data.{ScriptTexts, Line, tagged, texts_at, script_lines}
use Rattle.job_desk.specs.Course.{End, Open, Paused, Cancelled, Done, Body, started, command, round, Course, still_open, paused, cancelled, cancelled_paused, done, job_line}
use Rattle.job_desk.specs.Story.{IsBegun}
use Rattle.job_desk.specs.Plain.{is_job, is_script, part, numbered, repeated, first_scripts, CommandsInOrder, alone, after_pause, ReadsPlainly}
use Rattle.job_desk.specs.declared.state.Point.{Point}
use Rattle.job_desk.specs.declared.state.Point.TheVariants as point
use Rattle.job_desk.specs.declared.state.Tag.{Tag}
use Rattle.job_desk.specs.declared.state.Tag.TheVariants.{Script}
use Rattle.job_desk.proofs.Lines.{choose_step}

part-append : (test : Tag → Bool) (xs ys : List Line) → part test (xs ++ ys) ≡ part test xs ++ part test ys
part-append test [] ys = refl
part-append test (x ∷ xs) ys = choose_step (test x.tag) x _ _ _ (part-append test xs ys)

no_jobs : (at : Point) (print : ℕ) (texts : List (List ℕ)) → part is_job (tagged (Script at print) texts) ≡ []
no_jobs at print [] = refl
no_jobs at print (text ∷ texts) = no_jobs at print texts

all_scripts : (at : Point) (print : ℕ) (texts : List (List ℕ)) → part is_script (tagged (Script at print) texts) ≡ tagged (Script at print) texts
all_scripts at print [] = refl
all_scripts at print (text ∷ texts) = ap (λ (l : List Line). record { text = text; tag = Script at print } ∷ l) (all_scripts at print texts)

length-numbered : (print index : ℕ) (texts : List (List ℕ)) → length (numbered print index texts) ≡ length texts
length-numbered print index [] = refl
length-numbered print index (text ∷ texts) = ap suc (length-numbered print (index + 1) texts)

-- one command more
take_numbered : (print index n place : ℕ) (texts : List (List ℕ)) (text : List ℕ) → slice_get texts n ≡ Some text → place ≡ index + n →
    take (suc n) (numbered print index texts) ≡ take n (numbered print index texts) ++ job_line print place text ∷ []
take_numbered print index n place [] text e h = absurd (cc e)
take_numbered print index zero place (first ∷ texts) text e h =
    let same : first ≡ text = cc e in let at : index ≡ place = omega arith in
    ap (λ (t : List ℕ). job_line print index t ∷ []) same ∙ ap (λ (k : ℕ). job_line print k text ∷ []) at
take_numbered print index (suc n) place (first ∷ texts) text e h = ap (λ (l : List Line). job_line print index first ∷ l)
    (take_numbered print (index + 1) n place texts text e (omega arith))

get_below : (texts : List (List ℕ)) (n : ℕ) (text : List ℕ) → slice_get texts n ≡ Some text → suc n ≤ length texts
get_below [] n text e = absurd (cc e)
get_below (first ∷ texts) zero text e = omega arith
get_below (first ∷ texts) (suc n) text e = let below = get_below texts n text e in omega arith

module _ (scripts : ScriptTexts) (print : ℕ) (commands : List (List ℕ)) where
  jobs_behind : (at : Point) (lines : List Line) → part is_job (lines ++ script_lines scripts at print) ≡ part is_job lines
  jobs_behind at lines = part-append is_job lines (script_lines scripts at print)
      ∙ ap (λ (l : List Line). part is_job lines ++ l) (no_jobs at print (texts_at at scripts)) ∙ append-nil _

  scripts_behind : (at : Point) (lines : List Line) → part is_script (lines ++ script_lines scripts at print) ≡ part is_script lines ++ script_lines
      scripts at print
  scripts_behind at lines = part-append is_script lines (script_lines scripts at print)
      ∙ ap (λ (l : List Line). part is_script lines ++ l) (all_scripts at print (texts_at at scripts))

  in_body : (index : ℕ) (lines : List Line) → Body scripts print commands index lines →
      (index ≤ length commands) × (part is_job lines ≡ take index (numbered print 0 commands))
  in_body _ _ started = (omega arith, no_jobs point.Started print (texts_at point.Started scripts))
  in_body _ _ (command index text lines b e) =
      let so = in_body index lines b in
      let more : part is_job (lines ++ job_line print index text ∷ []) ≡ part is_job lines ++ job_line print index text ∷ [] =
      part-append is_job lines (job_line print index text ∷ []) in (
        get_below commands index text e,
        more ∙ ap (λ (l : List Line). l ++ job_line print index text ∷ []) so.1
            ∙ sym (take_numbered print 0 index index commands text e (omega arith)),
      )
  in_body _ _ (round index lines b) =
      let so = in_body index lines b in (
        so.0,
        jobs_behind point.Resumed (lines ++ script_lines scripts point.Paused print) ∙ jobs_behind point.Paused lines
            ∙ so.1,
      )

  abbrev one_round : List Line
  one_round = script_lines scripts point.Paused print ++ script_lines scripts point.Resumed print

  scripts_in : (index : ℕ) (lines : List Line) → Body scripts print commands index lines →
      (rounds : ℕ) × (part is_script lines ≡ first_scripts scripts print rounds)
  scripts_in _ _ started = (0, all_scripts point.Started print (texts_at point.Started scripts) ∙ sym (append-nil (script_lines scripts point.Started print)))
  scripts_in _ _ (command index text lines b e) = let so = scripts_in index lines b in
      (so.0, part-append is_script lines (job_line print index text ∷ []) ∙ append-nil (part is_script lines) ∙ so.1)
  scripts_in _ _ (round index lines b) =
      let so = scripts_in index lines b in (
        suc so.0,
        scripts_behind point.Resumed (lines ++ script_lines scripts point.Paused print)
            ∙ ap (λ (l : List Line). l ++ script_lines scripts point.Resumed print)
            (scripts_behind point.Paused lines ∙ ap (λ (l : List Line). l ++ script_lines scripts point.Paused print) so.1)
            ∙ append_assoc (first_scripts scripts print so.0) (script_lines scripts point.Paused print) (script_lines scripts point.Resumed print)
            ∙ append_assoc (script_lines scripts point.Started print) (repeated so.0 one_round) one_round,
      )

  ordered : (index : ℕ) (lines more : List Line) → Body scripts print commands index lines → part is_job more ≡ part is_job lines →
      CommandsInOrder print commands more
  ordered index lines more b e = let so = in_body index lines b in record { count = index; within = so.0; first = e ∙ so.1 }

  pub plainly : (end : End) (lines : List Line) → Course scripts print commands end lines → ReadsPlainly scripts print commands end lines
  plainly _ _ (still_open index lines b) =
      let s = scripts_in index lines b in
      record {
        in_order = ordered index lines lines b refl;
        all = tt;
        scripts_whole =
            record { rounds = s.0; last = []; last_is = alone Open; whole = s.1 ∙ sym (append-nil _) };
      }
  plainly _ _ (paused index lines b) =
      let s = scripts_in index lines b in
      record {
        in_order = ordered index lines _ b (jobs_behind point.Paused lines);
        all = tt;
        scripts_whole = record {
          rounds = s.0;
          last = script_lines scripts point.Paused print;
          last_is = alone Paused;
          whole = scripts_behind point.Paused lines
              ∙ ap (λ (l : List Line). l ++ script_lines scripts point.Paused print) s.1;
        };
      }
  plainly _ _ (cancelled index lines b) =
      let s = scripts_in index lines b in
      record {
        in_order = ordered index lines _ b (jobs_behind point.Cancelled lines);
        all = tt;
        scripts_whole = record {
          rounds = s.0;
          last = script_lines scripts point.Cancelled print;
          last_is = alone Cancelled;
          whole = scripts_behind point.Cancelled lines ∙ ap (λ (l : List Line). l ++ script_lines scripts point.Cancelled print) s.1;
        };
      }
  plainly _ _ (cancelled_paused index lines b) =
      let s = scripts_in index lines b in
      record {
        in_order = ordered index lines _ b (jobs_behind point.Cancelled (lines ++ script_lines scripts point.Paused print) ∙ jobs_behind point.Paused lines);
        all = tt;
        scripts_whole = record {
          rounds = s.0;
          last = script_lines scripts point.Paused print ++ script_lines scripts point.Cancelled print;
          last_is = after_pause;
          whole = scripts_behind point.Cancelled (lines ++ script_lines scripts point.Paused print)
              ∙ ap (λ (l : List Line). l ++ script_lines scripts point.Cancelled print)
              (scripts_behind point.Paused lines ∙ ap (λ (l : List Line). l ++ script_lines scripts point.Paused print) s.1)
              ∙ append_assoc (first_scripts scripts print s.0) _ _;
        };
      }
  plainly _ _ (done lines b) =
      let s = scripts_in (length commands) lines b in
      let so = in_body (length commands) lines b in
      record {
        in_order = ordered (length commands) lines _ b (jobs_behind point.Done lines);
        all = jobs_behind point.Done lines ∙ so.1 ∙ take_all (length commands) (numbered print 0 commands) (omega (arith, length-numbered print 0 commands));
        scripts_whole = record {
          rounds = s.0;
          last = script_lines scripts point.Done print;
          last_is = alone Done;
          whole = scripts_behind point.Done lines
              ∙ ap (λ (l : List Line). l ++ script_lines scripts point.Done print) s.1;
        };
      }

  -- the front of the first ones is the first ones
  pub beginning : (lines : List Line) → IsBegun scripts print commands lines → CommandsInOrder print commands lines
  beginning lines b =
      let so = (plainly b.end (lines ++ b.rest) b.course).in_order in
      let n = length (part is_job lines) in
      let both : part is_job lines ++ part is_job b.rest ≡ take so.count (numbered print 0 commands) = sym (part-append is_job lines b.rest) ∙ so.first in
      let long : n + length (part is_job b.rest) ≡ length (take so.count (numbered print 0 commands)) =
      sym (length-append (part is_job lines) (part is_job b.rest)) ∙ ap length both in
      let front : take n (part is_job lines ++ part is_job b.rest) ≡ part is_job lines = take_at (part is_job lines) (part is_job b.rest) n refl in
      let below : n ≤ so.count = omega (arith, long, length-take so.count (numbered print 0 commands)) in
      record {
        count = n;
        within = omega (arith, below, so.within);
        first = sym front ∙ ap (λ (l : List Line). take n l) both ∙ take-take n so.count (numbered print 0 commands) below;
      }
