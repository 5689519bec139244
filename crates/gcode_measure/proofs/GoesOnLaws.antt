-- The file that goes on at a command, read again.
use Rattle.std.proofs.Common.{◌≡◌, ℕ, zero, suc, ◌+◌, ◌≤◌, List, [], ◌∷◌, ◌++◌, length, map, take, drop, Result, sym, ap, subst, ◌∙◌, arith}
use Rattle.std.specs.Result.{IsOkAnd}
use Rattle.std.proofs.lemmas.List.{append_assoc, append-nil}
use Rattle.std.proofs.Math.Seq.{take-add}
use Rattle.gcode_lines.specs.declared.fault.FileFault.{FileFault}
use Rattle.gcode_lines.specs.Commands.{job_of}
use Rattle.gcode_lines.specs.Job.{JobData, most_bytes, texts_of}
use Rattle.gcode_measure.specs.declared.head.Head.{Head}
use Rattle.gcode_measure.specs.declared.values.Axis.{Axis}
use Rattle.gcode_measure.specs.declared.values.Axis.TheVariants.{X, Y, Z, E}
use Rattle.gcode_measure.specs.Head.{head_of, head_then}
use Rattle.gcode_measure.specs.Position.{mode_of, position_of}
use Rattle.gcode_measure.specs.Rest.{IsHeadBefore, GoesOn, IsRest, line_of, rest_lines, text_of_lines}
use Rattle.gcode_measure.proofs.HeaderLaws.{header_of, near-head, header-head, header-commands, header-lines}
use Rattle.gcode_measure.proofs.LineLaws.{Each, IsCommand, commands-of_file, file_of, job_in, job-of_file}
use Rattle.gcode_measure.proofs.PositionLaws.{mode_of-Y, mode_of-Z, head_of-push}

Each-drop : (P : List ℕ → Type 0) (n : ℕ) (texts : List (List ℕ)) → Each P texts → Each P (drop n texts)
Each-drop P zero texts each = each
Each-drop P (suc n) [] each = tt
Each-drop P (suc n) (text ∷ texts) each = Each-drop P n texts each.1

Each-append : (P : List ℕ → Type 0) (front back : List (List ℕ)) → Each P front → Each P back → Each P (front ++ back)
Each-append P [] back first rest = rest
Each-append P (text ∷ front) back first rest = (first.0, Each-append P front back first.1 rest)

-- commands do the same after others that leave modes and positions the same
head_of-same : (front other texts : List (List ℕ)) → head_of front ≡ head_of other → head_of (front ++ texts) ≡ head_of (other ++ texts)
head_of-same front other [] e = ap head_of (append-nil front) ∙ e ∙ sym (ap head_of (append-nil other))
head_of-same front other (text ∷ texts) e =
    ap head_of (sym (append_assoc front (text ∷ []) texts))
    ∙ head_of-same (front ++ text ∷ []) (other ++ text ∷ []) texts (head_of-push front text ∙ ap (λ h. head_then h text) e ∙ sym (head_of-push other text))
    ∙ ap head_of (append_assoc other (text ∷ []) texts)

mode-same : (axis : Axis) (texts others : List (List ℕ)) → head_of texts ≡ head_of others → mode_of axis texts ≡ mode_of axis others
mode-same X texts others e = ap (λ (h : Head). h.axes) e
mode-same Y texts others e = mode_of-Y texts ∙ ap (λ (h : Head). h.axes) e ∙ sym (mode_of-Y others)
mode-same Z texts others e = mode_of-Z texts ∙ ap (λ (h : Head). h.axes) e ∙ sym (mode_of-Z others)
mode-same E texts others e = ap (λ (h : Head). h.extruder) e

position-same : (axis : Axis) (texts others : List (List ℕ)) → head_of texts ≡ head_of others → position_of axis texts ≡ position_of axis others
position-same X texts others e = ap (λ (h : Head). h.x) e
position-same Y texts others e = ap (λ (h : Head). h.y) e
position-same Z texts others e = ap (λ (h : Head). h.z) e
position-same E texts others e = ap (λ (h : Head). h.e) e

take-behind : (head : Head) (texts : List (List ℕ)) (i : ℕ) → take (3 + i) (header_of head ++ texts) ≡ header_of head ++ take i texts
take-behind head texts i =
    let three : 3 + i ≡ suc (suc (suc i)) = omega arith in
    ap (λ n. take n (header_of head ++ texts)) three

-- the commands that were written
abbrev written : Head → JobData → ℕ → List (List ℕ)
written head job from = header_of head ++ drop from (texts_of job)

-- before each command modes and positions are what they were
heads-same : (job : JobData) (from i : ℕ) (head : Head) → IsHeadBefore job from head →
    head_of (take (3 + i) (written head job from)) ≡ head_of (take (from + i) (texts_of job))
heads-same job from i head before =
    let head_is = before.head_is in
    ap head_of (take-behind head (drop from (texts_of job)) i)
    ∙ head_of-same (header_of head) (take from (texts_of job)) (take i (drop from (texts_of job))) (header-head head (near-head head before.near) ∙ head_is)
    ∙ sym (ap head_of (take-add from i (texts_of job)))

goes_on : (job : JobData) (from : ℕ) (head : Head) (rest : JobData) → IsHeadBefore job from head → texts_of rest ≡ written head job from → GoesOn job from rest
goes_on job from head rest before is =
    record {
      commands = ap (drop 3) is;
      modes = λ axis i _. mode-same axis (take (3 + i) (texts_of rest)) (take (from + i) (texts_of job))
          (ap (λ texts. head_of (take (3 + i) texts)) is ∙ heads-same job from i head before);
      positions = λ axis i _. position-same axis (take (3 + i) (texts_of rest)) (take (from + i) (texts_of job))
          (ap (λ texts. head_of (take (3 + i) texts)) is ∙ heads-same job from i head before);
    }

lines-written : (head : Head) (texts : List (List ℕ)) → rest_lines head texts ≡ map line_of (header_of head ++ texts)
lines-written head texts = ap (λ lines. lines ++ map line_of texts) (sym (header-lines head))

-- a text that goes on at a command is a file that does what the whole file does from there on
pub rest-goes_on : (job : JobData) (from : ℕ) (head : Head) (text : List ℕ) → IsHeadBefore job from head →
    text ≡ text_of_lines (rest_lines head (drop from (texts_of job))) → IsRest job from text
rest-goes_on job from head text before is = λ bytes file small.
    let each = Each-append IsCommand (header_of head) (drop from (texts_of job)) (header-commands head (near-head head before.near))
    (Each-drop IsCommand from (texts_of job) (commands-of_file bytes job file)) in
    let same : text ≡ file_of (written head job from) = is ∙ ap text_of_lines (lines-written head (drop from (texts_of job))) in
    let fits : length (file_of (written head job from)) ≤ most_bytes = omega (arith, ap length same) in
    let read = job-of_file (written head job from) each fits in
    let P : Result JobData FileFault → Type 0 = λ result. IsOkAnd result (GoesOn job from) in
    subst P (sym (ap job_of same ∙ read.0)) (goes_on job from head (job_in (file_of (written head job from))) before read.1)
