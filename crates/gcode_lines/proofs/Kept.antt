-- A job's entries, read at their places.
use Rattle.std.proofs.Common.{◌≡◌, ℕ, suc, ◌+◌, ◌-◌, ◌<◌, List, [], ◌∷◌, length, take, drop, map, get_or, refl, sym, ap, ◌∙◌, arith}
use Rattle.std.specs.List.{All}
use Rattle.std.proofs.lemmas.List.{get_or-map, length-map}
use Rattle.std.proofs.lemmas.List.Elements.{All-map}
use Rattle.std.proofs.lemmas.Result.{IfOk-at_ok}
use Rattle.gcode_lines.specs.Job.{Command, entry_of, texts_of, AllSendable, IsCutFrom, IsJob}
use Rattle.gcode_lines.specs.Packed.{PlacesData, begin_in, length_in, command_in, job_at, EndsIn}
use Rattle.gcode_lines.specs.Found.{AreFound}
use Rattle.gcode_lines.proofs.Decoded.{entry_of-command_in, cut_from}
use Rattle.gcode_lines.proofs.JobLaws.{sendable_job}

-- a part of the command that the entry at a place names
pub at_entry : {X : Type 0} (part : Command → X) (file entries : List ℕ) (i : ℕ) (d : X) → i < length entries → part (command_in file (get_or entries i 0)) ≡ get_or (map part (map (command_in file) entries)) i d
at_entry part file entries i d inside =
    let named = map (command_in file) entries in
    let within : i < length named = omega (arith, length-map entries (command_in file)) in
    sym (get_or-map part named i (command_in file (get_or entries i 0)) d within ∙ ap part (get_or-map (command_in file) entries i 0 (command_in file (get_or entries i 0)) inside))

-- the slice of a file that is the text of an entry's command
pub text_in : (file shown : List ℕ) (entry begin size : ℕ) → shown ≡ file → begin ≡ begin_in entry → size ≡ length_in entry → take (begin + size - begin) (drop begin shown) ≡ (command_in file entry).text
text_in file shown entry begin size same at long =
    let rest : begin + size - begin ≡ size = omega arith in
    ap (λ n. take n (drop begin shown)) rest ∙ cc

-- the commands that entries name have these entries
pub entries_back : (file entries : List ℕ) → All (EndsIn file) entries → entries ≡ map entry_of (map (command_in file) entries)
entries_back file [] ends = refl
entries_back file (entry ∷ entries) ends =
    let first : EndsIn file entry = ends 0 0 (omega arith) in
    let others : All (EndsIn file) entries = λ k d inside. ends (suc k) d (omega arith) in
    let head = entry_of-command_in file entry first in
    let tail = entries_back file entries others in
    cc

-- and their texts are what the file holds there
pub cuts_back : (file entries : List ℕ) → All (EndsIn file) entries → All (IsCutFrom file) (map (command_in file) entries)
cuts_back file entries ends =
    All-map (IsCutFrom file) (command_in file) entries (λ k d inside. cut_from file (get_or entries k d) (ends k d inside))

-- what was found in a file makes a job
pub job_found : (file : List ℕ) (places : PlacesData) → AreFound file places → IsJob (job_at file places)
job_found file places found =
    let lines = found.lines in
    record {
      sendable = IfOk-at_ok (λ job. AllSendable (texts_of job)) found.job (sendable_job file);
      lines = omega (arith, length-map places.entries (command_in file));
      size = found.size;
    }
