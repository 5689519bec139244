-- The modelled printer: what it holds, how it takes a line and how it runs one.
use Rattle.std.specs.Prelude.{◌≡◌, ◌⊎◌, true, ℕ, ◌+◌, ◌-◌, Bool, ◌&&◌, ◌==◌, not, nat_le, if◌then◌else◌, List, [], ◌∷◌, ◌++◌, length, Option, Some, None, Result, Ok, Err}
use Rattle.byte_text.specs.Marks.{has_m110}
use Rattle.marlin_frame.specs.Frame.{begins_with_n, has_checksum, fails, n_parameter_of, line_number_of, text_of}
use Rattle.printer_model.specs.Replies.{run_reply}
use Rattle.printer_model.specs.declared.oks.Oks.{Oks}
use Rattle.printer_model.specs.declared.printer.Reason.{Reason}
use Rattle.printer_model.specs.declared.printer.Reason.TheVariants.{WrongNumber, NoChecksum, Mismatch}
use Rattle.printer_model.specs.declared.printer.Taken.{Taken}
use Rattle.printer_model.specs.declared.printer.Taken.TheVariants.{Accepted, Full, Refused}

-- a line that waits to be run; `n_parameter` is the N parameter at the front, which a second N may overrule
pub record Entry : Type 0 where
  pub number : Option ℕ
  pub n_parameter : Option ℕ
  pub text : List ℕ

-- a line that was run
pub record Logged : Type 0 where
  pub number : Option ℕ
  pub text : List ℕ

-- a line that was run, with the reply to it
pub record RanLine : Type 0 where
  pub number : Option ℕ
  pub text : List ℕ
  pub reply : List ℕ

-- the printer: the last line number, how many entries may wait, its `ok`s, and what waits
pub record PrinterData : Type 0 where
  pub last : ℕ
  pub slots : ℕ
  pub oks : Oks
  pub queue : List Entry

-- whether as many entries wait as may
abbrev pub is_full : PrinterData → Bool
is_full p = nat_le p.slots (length p.queue)

-- a line without a number
abbrev pub plain_entry : List ℕ → Entry
plain_entry line = record { number = None; n_parameter = None; text = line }

-- a line with its number
abbrev pub numbered_entry : List ℕ → Entry
numbered_entry line = record { number = Some (line_number_of line); n_parameter = Some (n_parameter_of line); text = text_of line }

-- whether a line's number doesn't follow the last one, and the line doesn't set the number either
unfoldable pub is_out_of_turn : ℕ → List ℕ → Bool
is_out_of_turn last line = not (line_number_of line == last + 1) && not (has_m110 line)

-- what a printer with this last number makes of a line: the entry, or the first rule that the line breaks
unfoldable pub judged : ℕ → List ℕ → Result Entry Reason
judged last line =
    if not (begins_with_n line) then Ok (plain_entry line)
    else if is_out_of_turn last line then Err WrongNumber
    else if not (has_checksum line) then Err NoChecksum
    else if fails line then Err Mismatch
    else Ok (numbered_entry line)

-- an entry's line number, or the former last number if it has none
abbrev pub number_or : ℕ → Option ℕ → ℕ
number_or last None = last
number_or last (Some number) = number

-- an accepted line joins the queue, and its number, if it has one, is the last one; a refusal changes nothing
abbrev pub take_judged : PrinterData → Result Entry Reason → Taken × PrinterData
take_judged p (Ok entry) =
    (Accepted, record p { last = number_or p.last entry.number; queue = p.queue ++ entry ∷ [] })
take_judged p (Err reason) = (Refused reason p.last, p)

-- the printer takes a line; a full one doesn't look at it
abbrev pub take_line : PrinterData → List ℕ → Taken × PrinterData
take_line p line = if is_full p then (Full, p) else take_judged p (judged p.last line)

-- the last number after an entry was run: a text with M110 sets it again
unfoldable pub last_after : ℕ → Entry → ℕ
last_after last entry = if has_m110 entry.text then number_or last entry.number else last

-- the reply after an entry ran; the free buffer slots are counted while it still waits
abbrev pub ran_line : PrinterData → Entry → RanLine
ran_line p entry =
    record {
      number = entry.number;
      text = entry.text;
      reply = run_reply p.oks.numbered entry.n_parameter entry.text (p.slots - length p.queue);
    }

-- the front of a queue is run
abbrev pub run_queue : PrinterData → List Entry → Option RanLine × PrinterData
run_queue p [] = (None, p)
run_queue p (entry ∷ rest) = (Some (ran_line p entry), record p { last = last_after p.last entry; queue = rest })

-- the printer runs the front of its queue
abbrev pub run_front : PrinterData → Option RanLine × PrinterData
run_front p = run_queue p p.queue

-- the printer restarts: it expects number 1, and what waited is gone
abbrev pub printer_after_restart : PrinterData → PrinterData
printer_after_restart p = record p { last = 0; queue = [] }

-- what the log keeps of a line that was run
abbrev pub log_line_of : RanLine → Logged
log_line_of ran = record { number = ran.number; text = ran.text }

-- a line that waits, as the log will keep it
abbrev pub waiting_as : Entry → Logged
waiting_as entry = record { number = entry.number; text = entry.text }

-- two states of a printer of the same make
pub record IsSameKind (old new : PrinterData) : Type 0 where
  pub slots : new.slots ≡ old.slots
  pub oks : new.oks ≡ old.oks

-- a line follows the last number or sets it
abbrev pub IsInTurn : ℕ → List ℕ → Type 0
IsInTurn last line = (line_number_of line ≡ last + 1) ⊎ (has_m110 line ≡ true)

-- a line is refused at this last number, for one of the reasons
pub record IsRefusal (last : ℕ) (line : List ℕ) : Type 0 where
  pub reason : Reason
  pub is : judged last line ≡ Err reason
