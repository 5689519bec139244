-- A link whose `ok`s have numbers and that loses none suits any session.
use Rattle.std.proofs.Common.{◌≡◌, Bool, true, false}
use Rattle.printer_link.specs.Suits.{Suits}
use Rattle.printer_model.specs.declared.oks.Oks.{Oks}

pub suits_any : (numbered : Bool) (oks : Oks) → oks.lost ≡ false → oks.numbered ≡ true → Suits numbered oks
suits_any false oks plain named = plain
suits_any true oks plain named = named
