-- an image tracks the machine through a run
use Rattle.std.proofs.Common.{◌≡◌, ℕ, zero, suc, Bool, true, false, List, [], ◌∷◌, ◌++◌, length, Option, Some, None, refl, ap, sym, ◌∙◌}
use Rattle.std.proofs.Common.{if◌then◌else◌, slice_get, not, IsTrue, subst, append-nil}
use Rattle.std.specs.List.{AllByRecursion, list_any, list_all, zip}
use Rattle.std.proofs.lemmas.Grind.{flat_map-append}
use Rattle.vm_iotlb.specs.declared.permissions.Permissions.TheVariants.{Read, Write}
use Rattle.vm_memory_core.specs.Host.{Host, Block, Place, cleared, lengths}
use Rattle.vm_memory.specs.Layout.{Region, fits, overlap, is_region, place}
use Rattle.vm_memory.specs.Memory.{Memory, addresses, for_io, location, physical, place_behind, reach, stored, stored_all, stored_at}
use Rattle.vm_memory.specs.Memory.{table_of}
use Rattle.fs_queue.specs.Queue.{Queue, fresh}
use Rattle.plain_machine.proofs.PlainPlaces.{IsPlain, plain_place}
use Rattle.plain_machine.specs.Harvested.{Page, harvested}
use Rattle.fs_device.specs.Applying.{first_refused, pages_put}
use Rattle.fs_device.proofs.CatchUpLemmas.{Tracks, pages_put-append}
use Rattle.fs_device.proofs.TrackLemmas.{HavePlaces, harvest_is_host, harvest_placed, harvest-lengths, places-append, stale_marked}
use Rattle.fs_device.proofs.TrackLemmas.{tracks_copy, tracks_harvest, tracks_store, tracks-sized}
use Rattle.plain_machine.proofs.UsedLemmas.{step_stores}
use Rattle.fs_device.proofs.ReportingLemmas.{end_keeps}
use Rattle.fs_record.proofs.ReadingLemmas.{one_reading}
use Rattle.server_meanings.specs.Serving.{May}
use Rattle.plain_machine.specs.declared.error.DeviceError.{DeviceError}
use Rattle.plain_machine.specs.declared.refusal.Refusal.TheVariants as why
use Rattle.plain_machine.specs.Step.{State, Exchange, Calls, Step, Exchanged}
use Rattle.plain_machine.specs.Run as run
use Rattle.plain_machine.specs.Run.{Turns, Command, Answer, Effect, KickRun, Kicks, KickAnswer, HasEffect, Does, Performs, RunReported}
use Rattle.plain_machine.specs.Run.{Affects, effect, insert, insert_block, is_known, some_overlap, reset}
use Rattle.fs_device.specs.Moving.{follows_image, made_over, pages_of_answer, pages_answered, HasItsMarks, IsStale, MovedIsLast, page_mark}
use Rattle.fs_device.specs.Moving.{RunsFromImage}

-- ---- stores

-- no table is used, and what of an image differs lies on a marked page
abbrev TracksOn : Host → Memory → Type 0
TracksOn image m = (m.translates ≡ false) × Tracks image m.host

placed_held : (image : Host) (m : Memory) (byte : ℕ) (o : Option Place) → IsPlain o → TracksOn image m → TracksOn image (stored_at m byte o)
placed_held image m byte None plain h = h
placed_held image m byte (Some p) plain h = (h.0, tracks_store image m.host p byte plain h.1)

store_held : (image : Host) (m : Memory) (write : ℕ × ℕ) → TracksOn image m → TracksOn image (stored m write)
store_held image m write h =
    let here : location m Write write.0 ≡ place m.layout write.0 =
    ap (λ (b : Bool). if b then for_io m.io_pages write.0 (place_behind m.layout Write (table_of m write.0)) else place m.layout write.0)
    h.0 in
    subst (λ (o : Option Place). TracksOn image (stored_at m write.1 o)) (sym here)
    (placed_held image m write.1 (place m.layout write.0) (plain_place m.layout write.0) h)

stores_held : (image : Host) (m : Memory) (ws : List (ℕ × ℕ)) → TracksOn image m → TracksOn image (stored_all m ws)
unfolding stored_all
stores_held image m [] h = h
stores_held image m (w ∷ ws) h = stores_held image (stored m w) ws (store_held image m w h)

-- ---- steps

abbrev HeldIn : {F : Type 0} → Host → State F → Type 0
HeldIn image s = TracksOn image s.memory

step_held : {F : Type 0} (may : May F) (image : Host) (s after : State F) (i : ℕ) (calls : Calls) (x : Exchange) (notice : Bool) →
    Step may s i calls (Exchanged x notice) after → HeldIn image s → HeldIn image after
step_held may image s after i calls x notice step h =
    let by = step_stores may s after i calls x notice step in subst (TracksOn image) (sym by.1) (stores_held image s.memory by.0 h)

-- ---- kicks

kick_held :
    {F : Type 0} (may : May F) (image : Host) (s : State F) (i most : ℕ) (turns : Turns) (refused : Option DeviceError) (after : State F)
    → KickRun may s i most turns refused after → HeldIn image s → HeldIn image after
unfolding KickRun
kick_held may image s i most [] refused after t h = subst (TracksOn image) (sym (end_keeps may s i most refused after t)) h
kick_held may image s i zero (x ∷ turns) refused after t h = absurd t
kick_held may image s i (suc most) (x ∷ turns) refused after (mid, step, rest) h =
    kick_held may image mid i most turns refused after rest
    (step_held may image s mid i x.calls x.exchange x.notice step h)

kicks_held : {F : Type 0} (may : May F) (image : Host) (s : State F) (i most : ℕ) (o : Option Queue) (turns : Turns) (k : KickAnswer)
    (after : State F) →
    Kicks may s i most o turns k after → HeldIn image s → HeldIn image after
kicks_held may image s i most None turns k after t h = subst (HeldIn image) (sym t.0) h
kicks_held may image s i most (Some q) turns k after t h = kick_held may image s i most turns k.refused after t.0 h

-- ---- commands

-- the image with an answer's pages, which have their places and leave its lengths, tracks the state
abbrev Continues : {F : Type 0} → Host → Effect F → Type 0
Continues image (answer, after) =
    HeldIn (pages_put image (pages_of_answer answer)) after × HavePlaces (lengths image) (pages_of_answer answer)
    × (lengths (pages_put image (pages_of_answer answer)) ≡ lengths image)

-- if no page is answered
proceeds : (image : Host) {on : Bool} {host : Host} → (on ≡ false) × Tracks image host →
    ((on ≡ false) × Tracks (pages_put image []) host) × HavePlaces (lengths image) [] × (lengths (pages_put image []) ≡ lengths image)
unfolding pages_put first_refused
proceeds image h = (h, λ i. refl, refl)

whichever : {F : Type 0} (image : Host) (b : Bool) (x y : Effect F) → Continues image x → Continues image y
    → Continues image (if b then x else y)
whichever image true x y p q = p
whichever image false x y p q = q

insert_proceeds : {F : Type 0} (image : Host) (s : State F) (r : Region) → HeldIn image s → Continues image (insert s r)
insert_proceeds image s r h = whichever image (not (fits r)) _ _ (proceeds image h)
    (whichever image (list_any (overlap r) s.memory.layout) _ _ (proceeds image h) (proceeds image h))

block_proceeds : {F : Type 0} (image : Host) (s : State F) (base block : ℕ) (o : Option Block) → HeldIn image s →
    Continues image (insert_block s base block o)
block_proceeds image s base block None h = proceeds image h
block_proceeds image s base block (Some b) h = insert_proceeds image s _ h

reset_proceeds :
    {F : Type 0} (image : Host) (s : State F) (i : ℕ) (anew : Queue) (o : Option Queue) → HeldIn image s
    → Continues image (reset s i anew o)
reset_proceeds image s i anew None h = proceeds image h
reset_proceeds image s i anew (Some q) h = proceeds image h

switch_proceeds : {F : Type 0} (image : Host) (s : State F) (on : Bool) → IsTrue (not on) → HeldIn image s
    → Continues image (run.set_iommu s on)
switch_proceeds image s true follows h = absurd (cc)
switch_proceeds image s false follows h = proceeds image (refl, h.1)

harvest_proceeds : {F : Type 0} (image : Host) (s : State F) → HeldIn image s → Continues image (run.harvest s)
harvest_proceeds image s h =
    ((h.0, tracks_harvest image s.memory.host h.1), harvest_placed image s.memory.host h.1, harvest-lengths image s.memory.host h.1)

by_effect : {F : Type 0} (image : Host) (e : Effect F) (answer : Answer) (after : State F) → (answer, after) ≡ e → Continues image e →
    Continues image (answer, after)
by_effect image e answer after t h = subst (Continues image) (sym t) h

affect_proceeds : {F : Type 0} (image : Host) (s : State F) (command : Command) (answer : Answer) (after : State F) →
    IsTrue (follows_image command) → HeldIn image s →
    Affects s command answer after → Continues image (answer, after)
unfolding effect
affect_proceeds image s (run.GuestRead a n) answer after follows h t =
    by_effect image (run.guest_read s a n) answer after t
    (whichever image (reach (physical s.memory) Read a n) _ _ (proceeds image h) (proceeds image h))
affect_proceeds image s (run.GuestWrite a bs) answer after follows h t =
    let written = stores_held image (physical s.memory) (zip (addresses a (length bs)) bs) (refl, h.1) in
    by_effect image (run.guest_write s a bs) answer after t
    (whichever image (reach (physical s.memory) Write a (length bs)) _ _ (proceeds image (h.0, written.1)) (proceeds image h))
affect_proceeds image s (run.InsertRegion base block) answer after follows h t =
    by_effect image (insert_block s base block (slice_get s.memory.host.blocks block)) answer after t
    (block_proceeds image s base block (slice_get s.memory.host.blocks block) h)
affect_proceeds image s (run.RemoveRegion base size) answer after follows h t =
    by_effect image (run.remove_region s base size) answer after t
    (whichever image (list_any (is_region base size) s.memory.layout) _ _ (proceeds image h) (proceeds image h))
affect_proceeds image s (run.SetLayout layout) answer after follows h t =
    by_effect image (run.set_layout s layout) answer after t
    (whichever image (not (list_all (is_known s.memory.host) layout)) _ _ (proceeds image h)
    (whichever image (not (list_all fits layout)) _ _ (proceeds image h)
    (whichever image (some_overlap layout) _ _ (proceeds image h) (proceeds image h))))
affect_proceeds image s (run.SetIommu on) answer after follows h t =
    by_effect image (run.set_iommu s on) answer after t (switch_proceeds image s on follows h)
affect_proceeds image s (run.Kick queue most) answer after follows h t = absurd t
affect_proceeds image s (run.ResetQueue queue size desc avail used) answer after follows h t =
    by_effect image (reset s queue (fresh size desc avail used) (slice_get s.queues queue)) answer after t
    (reset_proceeds image s queue (fresh size desc avail used) (slice_get s.queues queue) h)
affect_proceeds image s run.Harvest answer after follows h t = by_effect image (run.harvest s) answer after t (harvest_proceeds image s h)
affect_proceeds image s _ answer after follows h t = absurd (cc)

effect_proceeds : {F : Type 0} (image : Host) (s : State F) (command : Command) (turns : Turns) (answer : Answer) (after : State F) →
    IsTrue (follows_image command) → HeldIn image s →
    HasEffect s command turns answer after → Continues image (answer, after)
effect_proceeds image s command [] answer after follows h t = affect_proceeds image s command answer after follows h t
effect_proceeds image s command (x ∷ turns) answer after follows h t = absurd t

does_proceeds : {F : Type 0} (may : May F) (image : Host) (s : State F) (command : Command) (turns : Turns) (answer : Answer)
    (after : State F) →
    IsTrue (follows_image command) → HeldIn image s →
    Does may s command turns answer after → Continues image (answer, after)
does_proceeds may image s (run.Kick i most) turns (run.Served k) after follows h t =
    proceeds image (kicks_held may image s i most (slice_get s.queues i) turns k after t h)
does_proceeds may image s (run.Kick i most) turns _ after follows h t = absurd t
does_proceeds may image s command turns answer after follows h t = effect_proceeds image s command turns answer after follows h t

performs_proceeds : {F : Type 0} (may : May F) (image : Host) (s : State F) (command : Command) (turns : Turns) (answer : Answer)
    (after : State F) → IsTrue (follows_image command) → HeldIn image s →
    Performs may s command turns answer after → Continues image (answer, after)
performs_proceeds may image s command [] (run.IsRefused why.OutOfMemory) after follows h t =
    proceeds image (subst (HeldIn image) (sym t.1) h)
performs_proceeds may image s command (x ∷ turns) (run.IsRefused why.OutOfMemory) after follows h t = absurd t
performs_proceeds may image s command turns _ after follows h t = does_proceeds may image s command turns _ after follows h t

-- ---- runs

abbrev CanFollow : List (Command × Answer) → Type 0
CanFollow events = AllByRecursion (λ e. IsTrue (follows_image e.0)) events

-- the image with all pages that a run answers, which have their places, tracks its last state
abbrev Arrives : {F : Type 0} → Host → List (Command × Answer) → State F → Type 0
Arrives image events after = HeldIn (pages_put image (pages_answered events)) after × HavePlaces (lengths image) (pages_answered events)

run_proceeds : {F : Type 0} (may : May F) (image : Host) (s : State F) (events : List (Command × Answer)) (all_turns : List Turns)
    (after : State F) → CanFollow events → HeldIn image s →
    RunReported may s events all_turns after → Arrives image events after
unfolding RunReported
run_proceeds may image s [] [] after follows h t = subst (λ s. Arrives image [] s) (sym t) (let now = proceeds image h in (now.0, now.1))
run_proceeds may image s (e ∷ es) (turns ∷ all_turns) after follows h (mid, performs, rest) =
    let now = performs_proceeds may image s e.0 turns e.1 mid follows.0 h performs in
    let later = run_proceeds may (pages_put image (pages_of_answer e.1)) mid es all_turns after follows.1 now.0 rest in (
      subst (λ (k : Host). HeldIn k after) (sym (pages_put-append image (pages_of_answer e.1) (pages_answered es))) later.0,
      places-append (lengths image) (pages_of_answer e.1) (pages_answered es) now.1
          (subst (λ (l : List ℕ). HavePlaces l (pages_answered es)) now.2 later.1),
    )
run_proceeds may image s _ _ after follows h t = absurd t

-- an image that answered its copy tracks the state after
image_held : {F : Type 0} (may : May F) (s : State F) (copy : Host) (turns : Turns) (after : State F) → s.memory.translates ≡ false →
    HasItsMarks s.memory.host →
    Performs may s run.Image turns (run.Copied copy) after → HeldIn copy after
unfolding effect
image_held {F} may s copy [] after off marks t =
    let answer : run.Copied copy ≡ run.Copied (cleared s.memory.host) = ap (λ (p : Effect F). p.0) t in
    let is : copy ≡ cleared s.memory.host = cc in
    subst (λ (k : Host). HeldIn k after) (sym is)
    (subst (λ (p : Effect F). HeldIn (cleared s.memory.host) p.1) (sym t) (off, tracks_copy s.memory.host marks))
image_held may s copy (x ∷ turns) after off marks t = absurd t

-- what a run from an image begins with, once the image was made
abbrev ProceedsFrom : {F : Type 0} → May F → Host → List (Command × Answer) → State F → Type 0
ProceedsFrom {F} may copy events after =
    (mid : State F) × (all_turns : List Turns) × HeldIn copy mid × RunReported may mid events all_turns after

begins : {F : Type 0} (may : May F) (s after : State F) (copy : Host) (events : List (Command × Answer)) (all_turns : List Turns) →
    s.memory.translates ≡ false → HasItsMarks s.memory.host →
    RunReported may s ((run.Image, run.Copied copy) ∷ events) all_turns after → ProceedsFrom may copy events after
unfolding RunReported
begins may s after copy events [] off marks t = absurd t
begins may s after copy events (turns ∷ all_turns) off marks (mid, performs, rest) =
    (mid, all_turns, image_held may s copy turns mid off marks performs, rest)

from_image : {F : Type 0} (may : May F) (s after : State F) (copy : Host) (events : List (Command × Answer)) →
    RunsFromImage may s copy events after → ProceedsFrom may copy events after
from_image may s after copy events r = begins may s after copy events r.run.0 r.off r.marks r.run.1

arrives : {F : Type 0} (may : May F) (s after : State F) (copy : Host) (events : List (Command × Answer)) →
    RunsFromImage may s copy events after → Arrives copy events after
arrives may s after copy events r =
    let b = from_image may s after copy events r in
    run_proceeds may copy b.0 events b.1 after r.follow b.2 b.3

pub stale_is_marked : {F : Type 0} (may : May F) (s after : State F) (copy : Host) (events : List (Command × Answer)) (p : Place) →
    RunsFromImage may s copy events after →
    IsStale copy (pages_answered events) after.memory.host p → page_mark after.memory.host p ≡ Some true
stale_is_marked may s after copy events p r stale =
    stale_marked (pages_put copy (pages_answered events)) after.memory.host p (arrives may s after copy events r).0.1 stale

pub pages_have_places : {F : Type 0} (may : May F) (s after : State F) (copy : Host) (events : List (Command × Answer)) →
    RunsFromImage may s copy events after →
    first_refused (lengths copy) 0 (pages_answered events) ≡ None
pages_have_places may s after copy events r = (arrives may s after copy events r).1 0

pub can_move_again : {F : Type 0} (may : May F) (s after : State F) (copy : Host) (events : List (Command × Answer)) →
    RunsFromImage may s copy events after →
    (after.memory.translates ≡ false) × HasItsMarks after.memory.host
can_move_again may s after copy events r =
    let held = (arrives may s after copy events r).0 in
    (held.0, tracks-sized (pages_put copy (pages_answered events)) after.memory.host held.1)

-- ---- the last harvest

-- a run up to its last command, and that command
abbrev Ends : {F : Type 0} → May F → State F → List (Command × Answer) → Command × Answer → State F → Type 0
Ends {F} may s events e after =
    (mid : State F) × (all_turns : List Turns) × (turns : Turns) × RunReported may s events all_turns mid
    × Performs may mid e.0 turns e.1 after

ends : {F : Type 0} (may : May F) (s after : State F) (events : List (Command × Answer)) (e : Command × Answer) (all_turns : List Turns)
    → RunReported may s (events ++ e ∷ []) all_turns after → Ends may s events e after
unfolding RunReported
ends may s after [] e [] t = absurd t
ends may s after [] e (turns ∷ []) (mid, performs, rest) =
    (s, [], turns, refl, subst (λ k. Performs may s e.0 turns e.1 k) (sym rest) performs)
ends may s after [] e (turns ∷ x ∷ all_turns) (mid, performs, rest) = absurd rest
ends may s after (x ∷ events) e [] t = absurd t
ends may s after (x ∷ events) e (turns ∷ all_turns) (mid, performs, rest) =
    let later = ends may mid after events e all_turns rest in
    (later.0, turns ∷ later.1, later.2, (mid, performs, later.3), later.4)

follow_front : (events : List (Command × Answer)) (e : Command × Answer) → CanFollow (events ++ e ∷ []) → CanFollow events
follow_front [] e f = tt
follow_front (x ∷ events) e f = (f.0, follow_front events e f.1)

last_is_host :
    {F : Type 0} (may : May F) (image : Host) (mid after : State F) (turns : Turns) (last : List Page) → Tracks image mid.memory.host →
    Performs may mid run.Harvest turns (run.Pages last) after → pages_put image last ≡ after.memory.host
unfolding effect
last_is_host {F} may image mid after [] last f t =
    let answer : run.Pages last ≡ run.Pages (harvested mid.memory.host) = ap (λ (p : Effect F). p.0) t in
    let is : last ≡ harvested mid.memory.host = cc in
    let host : after.memory.host ≡ cleared mid.memory.host = ap (λ (p : Effect F). p.1.memory.host) t in
    ap (pages_put image) is ∙ harvest_is_host image mid.memory.host f ∙ sym host
last_is_host may image mid after (x ∷ turns) last f t = absurd t

pages_in_all : (events : List (Command × Answer)) (last : List Page) →
    pages_answered (events ++ (run.Harvest, run.Pages last) ∷ []) ≡ pages_answered events ++ last
pages_in_all events last =
    flat_map-append (λ (e : Command × Answer). pages_of_answer e.1) events ((run.Harvest, run.Pages last) ∷ [])
    ∙ ap (λ (l : List Page). pages_answered events ++ l) (append-nil last)

pub image_catches_up : {F : Type 0} (may : May F) (s after : State F) (copy : Host) (events : List (Command × Answer)) (last : List Page) →
    let all = events ++ (run.Harvest, run.Pages last) ∷ [] in
    RunsFromImage may s copy all after → pages_put copy (pages_answered all) ≡ after.memory.host
image_catches_up may s after copy events last r =
    let b = from_image may s after copy (events ++ (run.Harvest, run.Pages last) ∷ []) r in
    let e = ends may b.0 after events (run.Harvest, run.Pages last) b.1 b.3 in
    let front = run_proceeds may copy b.0 events e.1 e.0 (follow_front events (run.Harvest, run.Pages last) r.follow) b.2 e.3 in
    ap (pages_put copy) (pages_in_all events last)
    ∙ pages_put-append copy (pages_answered events) last
    ∙ last_is_host may (pages_put copy (pages_answered events)) e.0 after e.2 last front.0.1 e.4

-- ---- the state over the image

pub moved_is_last : {F : Type 0} (may : May F) → MovedIsLast may
moved_is_last {F} may s after copy events last v v' bytes options queues r here there =
    let one = one_reading v v' after.options options after.queues queues bytes bytes [] [] here there refl in
    let host = image_catches_up may s after copy events last r in
    ap (λ (h : Host). made_over h options queues after) host
    ∙ ap (λ (o : ℕ). made_over after.memory.host o queues after) (sym one.1)
    ∙ ap (λ (l : List Queue). made_over after.memory.host after.options l after) (sym one.2)
