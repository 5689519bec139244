-- What is said, by the faults of the arguments.
use Rattle.std.proofs.Common.{◌≡◌, ◌⊎◌, inl, inr, ℕ, ◌≤◌, ◌||◌, ◌==◌, false, List, [], ◌∷◌, ◌++◌, ap, ◌∙◌, Result, Ok, Err, OnOk, IfOk, arith}
use Rattle.std.proofs.lemmas.Bool.{ne_eqb}
use Rattle.byte_text.specs.Marks.{has_byte}
use Rattle.byte_text.proofs.MarkLaws.{has_byte-append}
use Rattle.clap.specs.Words.{IsAmong, Text, fault_of}
use Rattle.clap.specs.declared.error.kind.ErrorKind.{ErrorKind}
use Rattle.clap.specs.declared.error.kind.ErrorKind.TheVariants.{OutOfMemory}
use Rattle.octo_words.specs.Apps.{helped_app}
use Rattle.octo_words.specs.Remarks.{IsRemarkOn, IsSaidOf, IsLine, IsLineOn, asked, argument, value}
use Rattle.octo_words.specs.declared.remark.Remark.{Remark}
use Rattle.octo_words.specs.declared.remark.Remark.TheVariants as remark

-- of a fault among those of the arguments
said_among : (words : List Text) (fault : ErrorKind) (r : Remark) → IsAmong fault (fault_of helped_app words) → IsSaidOf fault r → IsRemarkOn words r
said_among words fault (remark.Asked text) among said = asked text (record { fault = fault; among = among; such = said })
said_among words fault (remark.Wrong text) among said = argument text (record { fault = fault; among = among; such = said.0 }) said.1

-- of a fault that isn't lack of memory
pub said_of_fault : {E : Type 0} (words : List Text) (fault : ErrorKind) (r : Result Remark E) → (fault ≡ OutOfMemory) ⊎ IsAmong fault (fault_of helped_app words)
    → IfOk r (λ remark. (fault ≡ OutOfMemory → ⊥) × IsSaidOf fault remark) → IfOk r (IsRemarkOn words)
said_of_fault words fault (Err e) found said = tt
said_of_fault words fault (Ok r) (inl memory) said = absurd (said.0 memory)
said_of_fault words fault (Ok r) (inr among) said = said_among words fault r among said.1

-- of a value, if there is no fault
pub said_of_values : {E : Type 0} (words : List Text) (r : Result Remark E) → fault_of helped_app words ≡ [] → IfOk r IsLineOn → IfOk r (IsRemarkOn words)
said_of_values words (Err e) none said = tt
said_of_values words (Ok (remark.Asked text)) none said = absurd said
said_of_values words (Ok (remark.Wrong text)) none said = value text none said

no_feed : (byte : ℕ) → 32 ≤ byte → (byte == 10) ≡ false
no_feed byte shown = ne_eqb byte 10 (λ is. omega arith)

-- a line stays one with another byte that is no control byte
line_more : (line : List ℕ) (byte : ℕ) → has_byte 10 line ≡ false → 32 ≤ byte → has_byte 10 (line ++ byte ∷ []) ≡ false
unfolding has_byte
line_more line byte none shown =
    has_byte-append 10 line (byte ∷ []) ∙ ap (λ front. front || ((byte == 10) || false)) none ∙ ap (λ back. back || false) (no_feed byte shown)

pub shown_more : {T E : Type 0} (r : Result T E) (old new : List ℕ) (byte : ℕ) → has_byte 10 old ≡ false → 32 ≤ byte → OnOk r (new ≡ old ++ byte ∷ []) → OnOk r (has_byte 10 new ≡ false)
shown_more (Err e) old new byte none shown is = tt
shown_more (Ok v) old new byte none shown is = ap (has_byte 10) is ∙ line_more old byte none shown

pub no_feed_in_none : (line : List ℕ) → line ≡ [] → has_byte 10 line ≡ false
unfolding has_byte
no_feed_in_none line is = ap (has_byte 10) is

pub line_ended : (line text : List ℕ) → has_byte 10 line ≡ false → text ≡ line ++ 10 ∷ [] → IsLine text
line_ended line text single whole = record { line = line; whole = whole; single = single }
