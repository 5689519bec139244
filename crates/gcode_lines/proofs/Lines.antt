-- The lines of a file, one after another.
use Rattle.std.proofs.Common.{◌≡◌, ℕ, suc, ◌+◌, ◌-◌, ◌<◌, ◌≤◌, Bool, true, false, not, cond, nat_lt, ◌==◌, List, [], ◌∷◌, ◌++◌, length, get_or, drop, map, Some, None, Err, ◌⊎◌, inl, inr, refl, sym, ap, subst, ◌∙◌, arith}
use Rattle.std.specs.List.{All, before_first, position_or_len, prefix_len}
use Rattle.std.specs.Option.{option_or}
use Rattle.std.proofs.lemmas.Bool.Decides.{nat_tests}
use Rattle.std.proofs.lemmas.List.{drop_more, drop_all, drop-drop, append-nil, append_assoc, length-append, length-map, length-drop, length-take, map-append, get_or-drop}
use Rattle.std.proofs.lemmas.List.Elements.{All-nil, All-append}
use Rattle.std.proofs.lemmas.List.Folds.{length-prefix_len}
use Rattle.std.proofs.lemmas.List.Sums.{take_while-cons, sum_by-cons, fails_before_first, prefix_len_stops}
use Rattle.gcode_lines.specs.declared.fault.FileFault.{FileFault}
use Rattle.gcode_lines.specs.declared.fault.FileFault.TheVariants.{NoMemory, TooLarge}
use Rattle.gcode_lines.specs.Job.{most_bytes, entry_of}
use Rattle.gcode_lines.specs.Commands.{FileLine, file_line, in_front, pieces_of, numbered, lines_of, is_skipped_line, fault_at, first_fault, commands_in, skipped_in, job_of}
use Rattle.gcode_lines.specs.Packed.{PlacesData, places_after, command_in, EndsIn}
use Rattle.gcode_lines.specs.Found.{AreFound, IsRefused}
use Rattle.gcode_lines.proofs.LineEntries.{IsLineOf, entries_of_line}
use Rattle.gcode_lines.proofs.TextCut.{IsPart, IsPart-part, IsPart-take, IsPart-drop}

-- the bytes before the first line feed
abbrev pub front_of : List ℕ → List ℕ
front_of bytes = before_first (λ b. b == 10) bytes

front_of-feed : (byte : ℕ) (bytes : List ℕ) → (byte == 10) ≡ true → front_of (byte ∷ bytes) ≡ []
front_of-feed byte bytes e =
    take_while-cons (λ b. not (b == 10)) byte bytes ∙ ap (λ t. cond (not t) (byte ∷ front_of bytes) []) e

front_of-other : (byte : ℕ) (bytes : List ℕ) → (byte == 10) ≡ false → front_of (byte ∷ bytes) ≡ byte ∷ front_of bytes
front_of-other byte bytes e =
    take_while-cons (λ b. not (b == 10)) byte bytes ∙ ap (λ t. cond (not t) (byte ∷ front_of bytes) []) e

-- what is left after the first line
abbrev behind : List ℕ → List ℕ
behind bytes = drop (length (front_of bytes) + 1) bytes

behind-feed : (byte : ℕ) (bytes : List ℕ) → (byte == 10) ≡ true → behind (byte ∷ bytes) ≡ bytes
behind-feed byte bytes e = ap (λ front. drop (length front + 1) (byte ∷ bytes)) (front_of-feed byte bytes e)

behind-other : (byte : ℕ) (bytes : List ℕ) → (byte == 10) ≡ false → behind (byte ∷ bytes) ≡ behind bytes
behind-other byte bytes e =
    ap (λ front. drop (length front + 1) (byte ∷ bytes)) (front_of-other byte bytes e)
    ∙ (let n : suc (length (front_of bytes)) + 1 ≡ suc (length (front_of bytes) + 1) = omega arith in
    ap (λ n. drop n (byte ∷ bytes)) n)

pieces_of-feed : (byte : ℕ) (bytes : List ℕ) → (byte == 10) ≡ true → pieces_of (byte ∷ bytes) ≡ front_of (byte ∷ bytes) ∷ pieces_of (behind (byte ∷ bytes))
pieces_of-feed byte bytes e =
    ap (λ t. cond t ([] ∷ pieces_of bytes) (in_front byte (pieces_of bytes))) e
    ∙ sym (ap (λ front. front ∷ pieces_of (behind (byte ∷ bytes))) (front_of-feed byte bytes e) ∙ ap (λ rest. [] ∷ pieces_of rest) (behind-feed byte bytes e))

pieces_of-other : (byte : ℕ) (bytes : List ℕ) → (byte == 10) ≡ false → in_front byte (pieces_of bytes) ≡ (byte ∷ front_of bytes) ∷ pieces_of (behind bytes) → pieces_of (byte ∷ bytes) ≡ front_of (byte ∷ bytes) ∷ pieces_of (behind (byte ∷ bytes))
pieces_of-other byte bytes e rest =
    ap (λ t. cond t ([] ∷ pieces_of bytes) (in_front byte (pieces_of bytes))) e ∙ rest
    ∙ sym (ap (λ front. front ∷ pieces_of (behind (byte ∷ bytes))) (front_of-other byte bytes e) ∙ ap (λ left. (byte ∷ front_of bytes) ∷ pieces_of left) (behind-other byte bytes e))

pieces_of-by : (byte : ℕ) (bytes : List ℕ) → (t : Bool) → (byte == 10) ≡ t → in_front byte (pieces_of bytes) ≡ (byte ∷ front_of bytes) ∷ pieces_of (behind bytes) → pieces_of (byte ∷ bytes) ≡ front_of (byte ∷ bytes) ∷ pieces_of (behind (byte ∷ bytes))
pieces_of-by byte bytes true e rest = pieces_of-feed byte bytes e
pieces_of-by byte bytes false e rest = pieces_of-other byte bytes e rest

-- the pieces are the first line and the pieces of what is left
pub pieces_of-cons : (byte : ℕ) (bytes : List ℕ) → pieces_of (byte ∷ bytes) ≡ front_of (byte ∷ bytes) ∷ pieces_of (behind (byte ∷ bytes))
pieces_of-cons byte [] = pieces_of-by byte [] (byte == 10) refl refl
pieces_of-cons byte (next ∷ bytes) =
    pieces_of-by byte (next ∷ bytes) (byte == 10) refl (ap (in_front byte) (pieces_of-cons next bytes))

-- the lines that are left at a place, after this number of lines
abbrev pub lines_left : List ℕ → ℕ → ℕ → List FileLine
lines_left bytes at number = numbered (number + 1) at (pieces_of (drop at bytes))

pieces_left : (bytes : List ℕ) (at : ℕ) → at < length bytes → pieces_of (drop at bytes) ≡ front_of (drop at bytes) ∷ pieces_of (drop (at + (length (front_of (drop at bytes)) + 1)) bytes)
pieces_left bytes at within =
    ap pieces_of (drop_more bytes at 0 within)
    ∙ pieces_of-cons (get_or bytes at 0) (drop (at + 1) bytes)
    ∙ ap (λ rest. front_of rest ∷ pieces_of (drop (length (front_of rest) + 1) rest)) (sym (drop_more bytes at 0 within))
    ∙ ap (λ rest. front_of (drop at bytes) ∷ pieces_of rest) (drop-drop (length (front_of (drop at bytes)) + 1) at bytes)

pub lines_left-cons : (bytes : List ℕ) (at number : ℕ) (line : List ℕ) → at < length bytes → line ≡ front_of (drop at bytes) → lines_left bytes at number ≡ file_line line (number + 1) at ∷ lines_left bytes (at + (length line + 1)) (number + 1)
lines_left-cons bytes at number line within e =
    let place : at + length line + 1 ≡ at + (length line + 1) = omega arith in
    ap (numbered (number + 1) at) (pieces_left bytes at within ∙ sym (ap (λ l. l ∷ pieces_of (drop (at + (length l + 1)) bytes)) e))
    ∙ ap (λ p. file_line line (number + 1) at ∷ numbered (number + 1 + 1) p (pieces_of (drop (at + (length line + 1)) bytes))) place

pub lines_left-end : (bytes : List ℕ) (at number : ℕ) → length bytes ≤ at → lines_left bytes at number ≡ []
lines_left-end bytes at number past = ap (λ rest. numbered (number + 1) at (pieces_of rest)) (drop_all at bytes past)

commands_by : (line : FileLine) (lines : List FileLine) (t : Bool) → is_skipped_line line ≡ t → commands_in (line ∷ lines) ≡ commands_in (line ∷ []) ++ commands_in lines
commands_by line lines true e = rw e refl
commands_by line lines false e = rw e refl

commands_in-cons : (line : FileLine) (lines : List FileLine) → commands_in (line ∷ lines) ≡ commands_in (line ∷ []) ++ commands_in lines
commands_in-cons line lines = commands_by line lines (is_skipped_line line) refl

skipped_in-cons : (line : FileLine) (lines : List FileLine) → skipped_in (line ∷ lines) ≡ skipped_in (line ∷ []) + skipped_in lines
skipped_in-cons line lines =
    let whole = sum_by-cons (λ l. cond (is_skipped_line l) 1 0) line lines in
    let one = sum_by-cons (λ l. cond (is_skipped_line l) 1 0) line [] in
    omega arith

one_by : (line : FileLine) (t : Bool) → is_skipped_line line ≡ t → length (commands_in (line ∷ [])) + skipped_in (line ∷ []) ≡ 1
one_by line true e = rw e refl
one_by line false e = rw e refl

-- what was found once a number of lines up to a place were read
pub record HasRead (bytes : List ℕ) (at number : ℕ) (places : PlacesData) : Type 0 where
  pub fault : first_fault (lines_of bytes) ≡ first_fault (lines_left bytes at number)
  pub commands : commands_in (lines_of bytes) ≡ map (command_in bytes) places.entries ++ commands_in (lines_left bytes at number)
  pub skipped : skipped_in (lines_of bytes) ≡ places.skipped + skipped_in (lines_left bytes at number)
  pub ends : All (EndsIn bytes) places.entries
  pub starts : 0 < at → at ≤ length bytes → get_or bytes (at - 1) 0 ≡ 10
  pub few : length places.entries + places.skipped ≤ number
  pub counted : number ≤ at
  pub lines : number ≤ length bytes

pub HasRead-start : (bytes : List ℕ) (places : PlacesData) → places ≡ record { entries = []; skipped = 0 } → HasRead bytes 0 0 places
unfolding lines_of
HasRead-start bytes places e =
    rw e (record { fault = refl; commands = refl; skipped = omega arith; ends = All-nil (EndsIn bytes); starts = λ some within. absurd (omega arith); few = omega arith; counted = omega arith; lines = omega arith })

-- the line at a place in the file
front_part : (bytes : List ℕ) (at : ℕ) → at < length bytes → IsPart bytes at (front_of (drop at bytes))
front_part bytes at within =
    let rest = drop at bytes in
    let none : at + 0 ≡ at = omega arith in
    rw none at (IsPart-part bytes at rest 0 (front_of rest) (IsPart-drop at bytes (omega arith)) (IsPart-take (position_or_len (λ b. b == 10) rest) rest))

is_feed : (byte : ℕ) → not (byte == 10) ≡ false → byte ≡ 10
is_feed byte h = grind (arith, nat_tests)

-- the line at a place is a line of the file
line_there : (bytes : List ℕ) (at number : ℕ) (line : List ℕ) → (0 < at → get_or bytes (at - 1) 0 ≡ 10) → at < length bytes → length bytes ≤ most_bytes → line ≡ front_of (drop at bytes) → IsLineOf bytes (file_line line number at)
line_there bytes at number line starts within small e =
    let rest = drop at bytes in
    let feed = λ (byte : ℕ). byte == 10 in
    let end = position_or_len feed rest in
    let long : length line ≤ end = omega (arith, ap length e, length-take end rest) in
    record {
      there = subst (λ l. IsPart bytes at l) (sym e) (front_part bytes at within);
      whole = λ k inside. ap feed (sym (get_or-drop at bytes k 0)) ∙ fails_before_first feed rest k 0 (omega arith);
      starts = starts;
      small = small;
    }

-- a place after a line is the place after its line feed
feed_before : (bytes : List ℕ) (at : ℕ) (line : List ℕ) → at < length bytes → line ≡ front_of (drop at bytes) → at + length line < length bytes → get_or bytes (at + length line) 0 ≡ 10
feed_before bytes at line within e more =
    let rest = drop at bytes in
    let other = λ (byte : ℕ). not (byte == 10) in
    let long : length line ≡ prefix_len other rest = ap length e ∙ length-prefix_len other rest in
    let inside : prefix_len other rest < length rest = omega (arith, length-drop at bytes) in
    let stop = prefix_len_stops other rest 0 inside in
    let here : get_or rest (prefix_len other rest) 0 ≡ get_or bytes (at + length line) 0 = get_or-drop at bytes (prefix_len other rest) 0 ∙ ap (λ n. get_or bytes (at + n) 0) (sym long) in
    sym here ∙ is_feed (get_or rest (prefix_len other rest) 0) stop

pub HasRead-more : (bytes : List ℕ) (at number : ℕ) (places : PlacesData) (line : List ℕ) → HasRead bytes at number places → at < length bytes → length bytes ≤ most_bytes → line ≡ front_of (drop at bytes) → fault_at (file_line line (number + 1) at) ≡ None → HasRead bytes (at + (length line + 1)) (number + 1) (places_after places (file_line line (number + 1) at))
HasRead-more bytes at number places line read within small e sound =
    let this = file_line line (number + 1) at in
    let left = lines_left bytes (at + (length line + 1)) (number + 1) in
    let next = lines_left-cons bytes at number line within e in
    let one = one_by this (is_skipped_line this) refl in
    let new = map entry_of (commands_in (this ∷ [])) in
    let found = entries_of_line bytes this (line_there bytes at (number + 1) line (λ some. read.starts some (omega arith)) within small e) sound in
    let added = length-append places.entries new in
    let mapped = length-map (commands_in (this ∷ [])) entry_of in
    let skipped = skipped_in-cons this left in
    let before = read.skipped ∙ ap (λ lines. places.skipped + skipped_in lines) next in
    let few = read.few in
    let counted = read.counted in
    record {
      fault = read.fault ∙ ap first_fault next ∙ ap (λ fault. option_or fault (first_fault left)) sound;
      commands =
          read.commands ∙ ap (λ lines. map (command_in bytes) places.entries ++ commands_in lines) next
          ∙ ap (λ commands. map (command_in bytes) places.entries ++ commands) (commands_in-cons this left)
          ∙ sym (append_assoc (map (command_in bytes) places.entries) (commands_in (this ∷ [])) (commands_in left))
          ∙ ap (λ commands. (map (command_in bytes) places.entries ++ commands) ++ commands_in left) (sym found.0)
          ∙ ap (λ commands. commands ++ commands_in left) (sym (map-append (command_in bytes) places.entries new));
      skipped = omega arith;
      ends = All-append (EndsIn bytes) places.entries new read.ends found.1;
      starts = λ some inside.
          let step : at + (length line + 1) - 1 ≡ at + length line = omega arith in
          ap (λ n. get_or bytes n 0) step ∙ feed_before bytes at line within e (omega arith);
      few = omega arith;
      counted = omega arith;
      lines = omega arith;
    }

-- a file with no fault has a job of what was found in it all
pub HasRead-end : (bytes : List ℕ) (at number : ℕ) (places : PlacesData) → HasRead bytes at number places → length bytes ≤ most_bytes → length bytes ≤ at → AreFound bytes places
unfolding job_of
HasRead-end bytes at number places read small past =
    let left = lines_left-end bytes at number past in
    let test : nat_lt most_bytes (length bytes) ≡ false = grind (arith, nat_tests) in
    let fault : first_fault (lines_of bytes) ≡ None = read.fault ∙ ap first_fault left in
    let commands : commands_in (lines_of bytes) ≡ map (command_in bytes) places.entries =
    read.commands ∙ ap (λ lines. map (command_in bytes) places.entries ++ commands_in lines) left ∙ append-nil (map (command_in bytes) places.entries) in
    let skipped : skipped_in (lines_of bytes) ≡ places.skipped = read.skipped ∙ ap (λ lines. places.skipped + skipped_in lines) left ∙ omega arith in
    let few = read.few in
    let lines = read.lines in
    record { job = rw (test, fault, commands, skipped) refl; ends = read.ends; lines = omega arith; size = small }

-- a file whose next line has a fault is refused for it
pub HasRead-fault : (bytes : List ℕ) (at number : ℕ) (places : PlacesData) (line : List ℕ) (fault : FileFault) → HasRead bytes at number places → length bytes ≤ most_bytes → at < length bytes → line ≡ front_of (drop at bytes) → (fault ≡ NoMemory) ⊎ (fault_at (file_line line (number + 1) at) ≡ Some fault) → IsRefused bytes fault
unfolding job_of
HasRead-fault bytes at number places line fault read small within e (inl memory) = inl memory
HasRead-fault bytes at number places line fault read small within e (inr found) =
    let test : nat_lt most_bytes (length bytes) ≡ false = grind (arith, nat_tests) in
    let first : first_fault (lines_of bytes) ≡ Some fault =
    read.fault ∙ ap first_fault (lines_left-cons bytes at number line within e) ∙ ap (λ f. option_or f (first_fault (lines_left bytes (at + (length line + 1)) (number + 1)))) found in
    inr (rw (test, first) refl)

-- a file of too many bytes is refused before a line is looked at
pub job_of-large : (bytes : List ℕ) → most_bytes < length bytes → job_of bytes ≡ Err (TooLarge (length bytes))
unfolding job_of
job_of-large bytes large =
    let test : nat_lt most_bytes (length bytes) ≡ true = grind (arith, nat_tests) in
    rw test refl
