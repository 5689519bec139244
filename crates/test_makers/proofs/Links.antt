-- Links that aren't made, beside the printers of a new floor.
use Rattle.std.proofs.Common.{◌≡◌, ℕ, false, List, [], ◌∷◌, All, sym, subst, ◌∙◌}
use Rattle.std.proofs.lemmas.List.Elements.{All-nil, All-cons, All-map}
use Rattle.print_queue.specs.declared.entry.QueueEntry.{QueueEntry}
use Rattle.printer_link.specs.Memory.{MemoryLinkData, link_state}
use Rattle.octo_session.specs.Data.{SessionData}
use Rattle.octo_floor.specs.declared.links.Links.{Links}
use Rattle.octo_floor_bay.specs.Bay.{BayData, IsNewSession}
use Rattle.octo_floor.specs.Floor.{AreUp, FloorData, new_bay, new_floor}
use Rattle.octo_floor.proofs.Floors.{all_at}
use Rattle.printer_link.specs.Calls.{LinkState}
use Rattle.test_makers.specs.Links.{AreDown, AreOffline, memory_states}

-- no session of a new floor has a link
down : (sessions : List SessionData) → All IsNewSession sessions → All (λ s. (new_bay s).session.up ≡ false) sessions
down sessions new = λ place s within. (new place s within).down

-- a link isn't made
abbrev IsUnmade : LinkState → Type 0
IsUnmade l = l.up ≡ false

-- none of the links is made
unmade : (links : Links MemoryLinkData) → AreDown links → All IsUnmade (memory_states links)
unmade links are =
    let s : MemoryLinkData → LinkState = link_state in
    let none : List LinkState = [] in
    let h : List LinkState = s links.h ∷ none in
    let g : List LinkState = s links.g ∷ h in
    let f : List LinkState = s links.f ∷ g in
    let e : List LinkState = s links.e ∷ f in
    let d : List LinkState = s links.d ∷ e in
    let c : List LinkState = s links.c ∷ d in
    let b : List LinkState = s links.b ∷ c in
    All-cons IsUnmade (s links.a) b are.a (All-cons IsUnmade (s links.b) c are.b (All-cons IsUnmade (s links.c) d are.c
    (All-cons IsUnmade (s links.d) e are.d (All-cons IsUnmade (s links.e) f are.e (All-cons IsUnmade (s links.f) g are.f
    (All-cons IsUnmade (s links.g) h are.g (All-cons IsUnmade (s links.h) none are.h (All-nil IsUnmade))))))))

-- no printer of a new floor has a link
pub offline : (floor : FloorData) (sessions : List SessionData) (ports materials : List (List ℕ)) (queue : List QueueEntry) (records : ℕ)
    → All IsNewSession sessions → floor ≡ new_floor sessions ports materials queue records → AreOffline floor.bays
offline floor sessions ports materials queue records new is =
    subst (λ (f : FloorData). AreOffline f.bays) (sym is)
    (All-map (λ (x : BayData). x.session.up ≡ false) new_bay sessions (down sessions new))

-- each link is made exactly if its session says so
pub first_up : (bays : List BayData) (links : Links MemoryLinkData) → AreOffline bays → AreDown links → AreUp bays (memory_states links)
first_up bays links off are printer b link its_bay its_link =
    all_at IsUnmade (memory_states links) printer link (unmade links are) its_link
    ∙ sym (all_at (λ (x : BayData). x.session.up ≡ false) bays printer b off its_bay)
