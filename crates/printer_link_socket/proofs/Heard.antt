-- What is heard if no reply line waited.
use Rattle.std.proofs.Common.{◌≡◌, ℕ, true, false, List, [], ◌++◌, Option, Some, None, take, drop, ap, sym, ◌∙◌}
use Rattle.std.proofs.KnownBytes.{Consumes-nil}
use Rattle.std.specs.Io.KnownBytes.{Keeps, Consumes}
use Rattle.std.specs.List.{list_any, before_first, after_first}
use Rattle.printer_link.specs.declared.link.Heard.TheVariants.{Line, Nothing}
use Rattle.printer_link_socket.specs.Heard.{Came, HeardLater}
use Rattle.printer_link_socket.specs.Lines.{LinesData, cut, ends_line}
use Rattle.printer_link_socket.specs.Sent.{Fits, Wrote}
use Rattle.byte_text.proofs.ListLaws.{take_once}

-- nothing was read
pub nothing_came : {S : Type 0} (remaining : S → Option (List ℕ)) (stream : S) → Came remaining (Some stream) (Some stream) []
nothing_came remaining stream = Consumes-nil (remaining stream)

-- a read that failed took nothing
pub keeps_consumes : (a b : Option (List ℕ)) → Keeps a b → Consumes a b []
keeps_consumes None b k = tt
keeps_consumes (Some xs) None k = absurd k
keeps_consumes (Some xs) (Some ys) k = sym k

-- a read of no bytes took nothing
pub consumes_keeps : (a b : Option (List ℕ)) → Consumes a b [] → Keeps a b
consumes_keeps None b p = tt
consumes_keeps (Some xs) None p = absurd p
consumes_keeps (Some xs) (Some ys) p = sym p

pub no_bytes_came : {S : Type 0} (remaining : S → Option (List ℕ)) (before after : S) → Keeps (remaining before) (remaining after) → Came remaining (Some before) (Some after) []
no_bytes_came remaining before after k = keeps_consumes (remaining before) (remaining after) k

-- the receiving wrote and read, and then a line ended
pub heard_line : {S : Type 0} (contents remaining : S → Option (List ℕ)) (room : S → Option ℕ) (before between after : Option S)
    (unsent left line : List ℕ) (count : ℕ) (old read new : LinesData)
    → Wrote contents before between (take count unsent) → Fits room before count unsent → left ≡ drop count unsent
    → Came remaining between after read.waiting
    → read.begun ≡ cut (old.begun ++ old.waiting) → read.end ≡ None
    → list_any ends_line read.waiting ≡ true → line ≡ cut (read.begun ++ before_first ends_line read.waiting)
    → new ≡ record read { begun = []; waiting = after_first ends_line read.waiting }
    → HeardLater contents remaining room before after unsent left old Line line new
heard_line contents remaining room before None after unsent left line count old read new w f l c b going any is rest = absurd c
heard_line contents remaining room before (Some s) after unsent left line count old read new w f l c b going any is rest = record {
  written = s;
  came = read.waiting;
  took = record { count = count; wrote = w; fits = f; leaves = l };
  comes = c;
  hears = (
    any,
    is
        ∙ ap (λ l. cut (l ++ before_first ends_line read.waiting)) b
        ∙ take_once 256 (old.begun ++ old.waiting) (before_first ends_line read.waiting),
    rest ∙ ap (λ e. record { begun = []; waiting = after_first ends_line read.waiting; end = e }) going,
  );
}

-- the receiving wrote and read, and no line has ended yet
pub heard_nothing : {S : Type 0} (contents remaining : S → Option (List ℕ)) (room : S → Option ℕ) (before between after : Option S)
    (unsent left line : List ℕ) (count : ℕ) (old read new : LinesData)
    → Wrote contents before between (take count unsent) → Fits room before count unsent → left ≡ drop count unsent
    → Came remaining between after read.waiting
    → read.begun ≡ cut (old.begun ++ old.waiting) → read.end ≡ None
    → list_any ends_line read.waiting ≡ false → new ≡ record read { begun = cut (read.begun ++ read.waiting); waiting = [] }
    → HeardLater contents remaining room before after unsent left old Nothing line new
heard_nothing contents remaining room before None after unsent left line count old read new w f l c b going any is = absurd c
heard_nothing contents remaining room before (Some s) after unsent left line count old read new w f l c b going any is = record {
  written = s;
  came = read.waiting;
  took = record { count = count; wrote = w; fits = f; leaves = l };
  comes = c;
  hears = (
    any,
    is
        ∙ ap (λ e. record { begun = cut (read.begun ++ read.waiting); waiting = []; end = e }) going
        ∙ ap (λ l. record { begun = l; waiting = []; end = None })
        (ap (λ l. cut (l ++ read.waiting)) b ∙ take_once 256 (old.begun ++ old.waiting) read.waiting),
  );
}
