-- A walk counts the descriptors that joined its chain.
use Rattle.std.proofs.Common.{◌≡◌, ◌∙◌, ℕ, Bool, true, false, ◌+◌, List, [], ◌∷◌, length, length-append, Option, Some, None}
use Rattle.std.proofs.Common.{ap, sym, subst, arith}
use Rattle.std.specs.Prelude.{if◌then◌else◌}
use Rattle.fs_queue.specs.declared.chain_walk.ChainWalk.{ChainWalk}
use Rattle.fs_queue.specs.declared.chain_walk.Progress as code
use Rattle.fs_queue.specs.declared.chain_walk.Progress.TheVariants as shows
use Rattle.fs_queue.specs.declared.layout.QueueLayout.{QueueLayout}
use Rattle.fs_queue.specs.declared.walk.Walk as ring
use Rattle.fs_queue.specs.declared.walk.Walk.TheVariants as waits
use Rattle.fs_queue.specs.Chain.{Descriptor, Visit, WalkStep, Ordinary, Indirect, Stops, Found, IsChain, after_walk_step}
use Rattle.fs_queue.specs.Chain.{first_visit, has_next, next_visit, walk_step}
use Rattle.fs_queue.specs.Loads.{Ahead, Reads, Ends, ahead_after, ahead_of_next, holding, reads_entry}
use Rattle.fs_queue.specs.RingingView.{BeginsChain}
use Rattle.fs_queue.specs.SteppingView.{ahead_of, joining, visit_of, IfWants}
use Rattle.fs_queue.specs.WalkingView.{at_position}
use Rattle.fs_regions.specs.Straight.{IsCounted}
use Rattle.fs_regions.specs.Stretches.{ReadsStretch}
use Rattle.fs_regions.specs.declared.walk.QueueWalk.{QueueWalk}
use Rattle.fs_regions.specs.declared.walk.QueueWalk.TheVariants as at
use Rattle.fs_regions.proofs.Finding.{with_joining}

-- how many descriptors join at a step
abbrev joined : WalkStep → ℕ
joined (Ordinary d) = 1
joined _ = 0

plus_none : (n : ℕ) → n ≡ n + 0
plus_none n = omega arith

longer : (w : WalkStep) (ds : List Descriptor) → length (with_joining ds (joining w)) ≡ length ds + joined w
longer (Ordinary d) ds = length-append ds (d ∷ [])
longer _ ds = plus_none (length ds)

abbrev earlier_of : Option Visit → ℕ
earlier_of None = 0
earlier_of (Some u) = u.earlier

-- the next step is after these
next_earlier : (v u : Visit) (w : WalkStep) → next_visit v w ≡ Some u → u.earlier ≡ v.earlier + joined w
next_earlier v u (Ordinary d) is = by_next (has_next d) is
  where
    by_next : (b : Bool)
        → (if b then Some (record { table = v.table; index = d.next; earlier = v.earlier + 1 }) else None) ≡ Some u
        → u.earlier ≡ v.earlier + 1
    by_next true some = sym (ap earlier_of some)
    by_next false none = absurd (cc)
next_earlier v u (Indirect t) is = sym (ap earlier_of is) ∙ plus_none v.earlier
next_earlier v u _ is = absurd (cc)

abbrev visit_or : Visit → Ahead → Visit
visit_or u (Reads v) = v
visit_or u (Ends f) = u

-- a walk that needs an entry is at its next step
proceeds_at : (size : ℕ) (w : WalkStep) (o : Option Visit) (u : Visit) → Reads u ≡ ahead_of_next size w o → o ≡ Some u
proceeds_at size w None u is = absurd (cc)
proceeds_at size w (Some v) u is = by_test (reads_entry v) (after_walk_step (walk_step (holding []) size v) (IsChain [])) is
  where
    by_test : (b : Bool) (f : Found) → Reads u ≡ (if b then Reads v else Ends f) → Some v ≡ Some u
    by_test true f same = ap (λ (x : Ahead). Some (visit_or u x)) (sym same)
    by_test false f none = absurd (cc)

-- one entry more
pub counts_on : (size : ℕ) (v : Visit) (w : WalkStep) (old new : List Descriptor) (joins : Option Descriptor) (after : code.Progress)
    → joins ≡ joining w → ahead_of after ≡ ahead_after size v w → new ≡ with_joining old joins → v.earlier ≡ length old
    → IfWants after (λ x. x.earlier ≡ length new)
counts_on size v w old new joins (shows.Ends e) is proceeds joined_so count = tt
counts_on size v w old new joins (shows.Wants x) is proceeds joined_so count =
    let next : x.earlier ≡ v.earlier + joined w =
    next_earlier v (visit_of x) w (proceeds_at size w (next_visit v w) (visit_of x) proceeds) in
    let len : length new ≡ length old + joined w =
    ap length joined_so ∙ ap (λ (o : Option Descriptor). length (with_joining old o)) is ∙ longer w old in
    let it : x.earlier ≡ length new = omega (arith, next, len, count) in
    it

-- a stretch
pub counted : (walk : ChainWalk) (bs : List ℕ) (old new : List Descriptor) (after : code.Progress) (size : ℕ)
    → ReadsStretch walk bs old new after → IsCounted size old walk → IfWants after (IsCounted size new)
counted walk bs old new (shows.Wants w) size r is = (r.size ∙ is.0, r.counts is.1)
counted walk bs old new (shows.Ends e) size r is = tt

-- a walk from a head
pub begun_counted : (l : QueueLayout) (w : ring.Walk) (head : ℕ) (next : ChainWalk) (ds : List Descriptor)
    → w ≡ waits.Chain head (shows.Wants next) → BeginsChain l w → ds ≡ [] → IsCounted l.size ds next
begun_counted l w head next ds is begins none =
    let b = subst (λ (x : ring.Walk). BeginsChain l x) is begins in
    let v = first_visit (at_position l 0) head in
    let at = proceeds_at l.size Stops (Some v) (visit_of next) b.0 in
    (b.1, sym (ap earlier_of at) ∙ sym (ap length none))

-- the layout of a walk of the ring
abbrev pub layout_or : QueueLayout → QueueWalk → QueueLayout
layout_or l (at.Index w) = w.layout
layout_or l (at.RingEntry w) = w.layout
layout_or l (at.Entries w) = l
