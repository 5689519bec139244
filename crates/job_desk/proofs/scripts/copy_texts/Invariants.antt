use Rattle.std.proofs.Common.{◌≡◌, take}
use Rattle.job_desk.specs.Views.{bytes_of}
use Rattle.job_desk.proofs.scripts.copy_texts.Given as goal

-- the texts so far
abbrev pub invariant-loop-text : goal.invariant-loop-text
invariant-loop-text l = bytes_of l.copies.items ≡ bytes_of (take l.text-index l.texts)
