-- a walk through a stretch of a table, entry by entry
use Rattle.std.proofs.Common.{◌≡◌, ℕ, true, false, zero, suc, ◌+◌, ◌-◌, ◌*◌, ◌/◌, max, min, ◌<◌, ◌≤◌, ◌^◌, ◌++◌, List, [], ◌∷◌, length}
use Rattle.std.proofs.Common.{take, drop, Option, Some, None, inl, inr, refl, ap, sym, ◌∙◌, subst, arith, append_assoc, length-append}
use Rattle.std.specs.Prelude.{nat_lt, ◌⊎◌, is_some, All}
use Rattle.std.specs.List.{list_all}
use Rattle.std.proofs.lemmas.Bool.{and_parts, eq-eqb}
use Rattle.std.proofs.lemmas.List.{length-drop, length-take-le}
use Rattle.std.proofs.lemmas.List.Elements.{All-cons, All-nil, All-push}
use Rattle.vm_iotlb.specs.declared.permissions.Permissions.TheVariants.{Read}
use Rattle.vm_memory_core.specs.Window.{Window, places_of}
use Rattle.vm_memory.specs.Memory.{Memory, addresses, located, location, reach}
use Rattle.vm_memory.specs.Slices.{IsWindowAt}
use Rattle.vm_memory.proofs.Places.{addresses-append}
use Rattle.vm_memory.proofs.RangeLemmas.{all_located}
use Rattle.fs_queue.specs.declared.chain_walk.ChainWalk.{ChainWalk}
use Rattle.fs_queue.specs.declared.chain_walk.Progress as code
use Rattle.fs_queue.specs.declared.chain_walk.Progress.TheVariants as shows
use Rattle.fs_queue.specs.declared.chain_walk.WalkEnd as walked
use Rattle.fs_queue.specs.Chain.{Descriptor, entry_address, first_visit}
use Rattle.fs_queue.specs.Loads.{Load, Ahead, Reads, ahead_at, ahead_after, step_by}
use Rattle.fs_queue.specs.Queue.{Queue}
use Rattle.fs_queue.specs.SteppingView.{ahead_of, joining, load_of, visit_of, IfWants}
use Rattle.fs_queue.proofs.TakeLemmas.{list_all-append, reach-each}
use Rattle.fs_regions.specs.declared.step.CourseStep as comes
use Rattle.fs_regions.specs.declared.step.CourseStep.TheVariants as step
use Rattle.fs_regions.specs.declared.entries.EntriesWalk.{EntriesWalk}
use Rattle.fs_regions.specs.declared.walk.QueueWalk.TheVariants as at
use Rattle.fs_regions.specs.Places.{Mapped, places_in}
use Rattle.fs_regions.specs.Stretches.{AsksFor, ReadsStretch}
use Rattle.fs_regions.specs.Walks.{is_in, Brings, ComesBy, IsCourseStep, IsReadOut, Loaded, ReadOutOf, IsWalkAt, UsesUp, HeadMayBePushed}
use Rattle.fs_regions.proofs.Finding.{brings_on, with_joining}
use Rattle.fs_regions.proofs.Steps.{waits_on}

-- ---- a window's bytes can be read

-- the first of some addresses that have places
front_has : (l : Mapped) (a n len : ℕ) (w : Window) → n ≤ len → located (location (places_in l) Read) (addresses a len)
    ≡ Some (places_of w) → list_all (λ x. is_some (location (places_in l) Read x)) (addresses a n) ≡ true
front_has l a n len w within found =
    let split : n + (len - n) ≡ len = omega (arith, within) in
    let all : list_all (λ x. is_some (location (places_in l) Read x)) (addresses a (n + (len - n))) ≡ true =
    ap (λ k. list_all (λ x. is_some (location (places_in l) Read x)) (addresses a k)) split
    ∙ all_located (addresses a len) (location (places_in l) Read) ∙ ap is_some found in
    (and_parts (list_all (λ x. is_some (location (places_in l) Read x)) (addresses a n))
    (list_all (λ x. is_some (location (places_in l) Read x)) (addresses (a + n) (len - n)))
    (list_all-append (addresses a n) (addresses (a + n) (len - n)) (location (places_in l) Read)
    ∙ ap (list_all (λ x. is_some (location (places_in l) Read x))) (sym (addresses-append n (len - n) a)) ∙ all)).0

pub window_reaches : (l : Mapped) (a n most : ℕ) (w : Window) → a + n < 2 ^ 64 → n ≤ w.len →
    IsWindowAt (location (places_in l) Read) a most w → reach (places_in l) Read a n ≡ true
window_reaches l a n most w fits within window = reach-each (places_in l) Read a n fits ∙ front_has l a n w.len w within window.3

one_or_within : (len n k : ℕ) → n ≡ max (len / 16) 1 → len / 16 ≡ k → (n ≡ 1) ⊎ (16 * n ≤ len)
one_or_within len n zero is none = inl (omega (arith, is, none))
one_or_within len n (suc k) is some = inr (omega (arith, is, some))

whole_there : (l : Mapped) (a n most : ℕ) (w : Window) → a + 16 * n < 2 ^ 64 → (n ≡ 1) ⊎ (16 * n ≤ w.len) →
    IsWindowAt (location (places_in l) Read) a most w → reach (places_in l) Read a 16 ≡ true →
    reach (places_in l) Read a (16 * n) ≡ true
whole_there l a n most w fits (inl one) window there = rw one there
whole_there l a n most w fits (inr within) window there = window_reaches l a (16 * n) most w fits within window

-- as many entries as a window has whole, or one
pub entries_there : (l : Mapped) (walk : ChainWalk) (a most n : ℕ) (w : Window) → a ≡ entry_address (visit_of walk) →
    n ≡ max (w.len / 16) 1 → 0 < most → walk.index + most ≤ walk.table.entries →
    IsWindowAt (location (places_in l) Read) a (16 * most) w → reach (places_in l) Read (entry_address (visit_of walk)) 16 ≡ true →
    reach (places_in l) Read (entry_address (visit_of walk)) (16 * n) ≡ true
entries_there l walk a most n w at is some inside window =
    let ends = walk.ends in
    let less = window.1 in
    let fits : entry_address (visit_of walk) + 16 * n < 2 ^ 64 = omega (arith, is, ends, inside, some, less) in
    whole_there l (entry_address (visit_of walk)) n (16 * most) w fits (one_or_within w.len n (w.len / 16) is refl)
    (subst (λ x. IsWindowAt (location (places_in l) Read) x (16 * most) w) at window)

-- the load of an entry that stands somewhere in a stretch
abbrev pub read_at : ChainWalk → (bs : List ℕ) → (offset : ℕ) → Load
read_at w bs offset = load_of w (Some (take 16 (drop offset bs)))

-- ---- an entry's bytes, and the room for its descriptor

pub entry_len : (bs : List ℕ) (offset : ℕ) → offset + 16 ≤ length bs → length (take 16 (drop offset bs)) ≡ 16
entry_len bs offset inside =
    let left = length-drop offset bs in
    length-take-le 16 (drop offset bs) (omega (arith, inside, left))

-- what joins the chain by an entry that stands in a stretch
pub entry_read : (walk : ChainWalk) (bs : List ℕ) (offset : ℕ) (entry : List ℕ) (joins : Option Descriptor) (after : code.Progress)
    (old new : List Descriptor) →
    offset + 16 ≤ length bs → entry ≡ take 16 (drop offset bs) →
    joins ≡ joining (step_by walk.size (visit_of walk) (load_of walk (Some entry))) →
    ahead_of after ≡ ahead_after walk.size (visit_of walk) (step_by walk.size (visit_of walk) (load_of walk (Some entry))) →
    new ≡ with_joining old joins →
    (ls : List Load) (start : Ahead) → Brings walk.size ls start old (Reads (visit_of walk)) →
    Brings walk.size (ls ++ read_at walk bs offset ∷ []) start new (ahead_of after)
entry_read walk bs offset entry joins after old new inside is joins_is after_is joined ls start so_far =
    let load : Load = load_of walk (Some entry) in
    let long : length entry ≡ 16 = ap length is ∙ entry_len bs offset inside in
    let brings : Brings walk.size (ls ++ load ∷ []) start (with_joining old joins) (ahead_of after) =
    brings_on walk.size ls start old (visit_of walk) load joins (ahead_of after) refl (eq-eqb (length entry) 16 long) joins_is
    after_is so_far in
    let P : List ℕ → Type 0 = λ e. Brings walk.size (ls ++ load_of walk (Some e) ∷ []) start new (ahead_of after) in
    subst P is (subst (λ (ds : List Descriptor). Brings walk.size (ls ++ load ∷ []) start ds (ahead_of after)) (sym joined) brings)

-- ---- no more entries than that

-- a bound on more than one is one on all
pub fits : (n m : ℕ) → 0 < m → (1 < n → n ≤ m) → n ≤ m
fits zero m some more = omega arith
fits (suc zero) m some more = omega (arith, some)
fits (suc (suc k)) m some more = more (omega arith)

-- an address without a place can't be read
lost : (l : Mapped) (a : ℕ) → location (places_in l) Read a ≡ None → reach (places_in l) Read a 16 ≡ true → ⊥
unfolding addresses
lost l a none there =
    let parts = and_parts (nat_lt (a + 16) (2 ^ 64)) (list_all (λ x. is_some (location (places_in l) Read x)) (addresses a 16)) there in
    let first : is_some (location (places_in l) Read a) ≡ true = (and_parts (is_some (location (places_in l) Read a))
    (list_all (λ x. is_some (location (places_in l) Read x)) (addresses (a + 1) 15)) parts.1).0 in
    not_some (sym (ap is_some none) ∙ first)
  where
    not_some : false ≡ true → ⊥
    not_some e = cc

-- as many as a window has whole
pub most_whole : (n most left len k : ℕ) → k ≡ max (len / 16) 1 → len ≡ min (16 * most) left → n ≤ most → (1 < n → 16 * n ≤ left) → n ≤ k
most_whole n most left len k is long few within =
    fits n k (omega (arith, is)) (λ one. let short = within one in omega (arith, is, long, few, short))

pub none_whole : {A : Type 0} (l : Mapped) (walk : ChainWalk) (a : ℕ) → a ≡ entry_address (visit_of walk) →
    location (places_in l) Read a ≡ None → reach (places_in l) Read (entry_address (visit_of walk)) 16 ≡ true → A
none_whole l walk a at none there = absurd (lost l (entry_address (visit_of walk)) (ap (location (places_in l) Read) (sym at) ∙ none) there)

-- ---- entries that were read out

-- how far a walk came in a stretch: so many entries may still be read out
pub record Reading (walk : ChainWalk) (bs : List ℕ) (old now : List Descriptor) (left : ℕ) (after : code.Progress) : Type 0 where
  pub reads : List Load
  pub some : (l : Load) × (rest : List Load) × (reads ≡ l ∷ rest) × (l.address ≡ entry_address (visit_of walk))
  pub each : All (IsReadOut (entry_address (visit_of walk)) bs) reads
  pub count : 16 * (length reads + left) ≡ length bs
  pub brings : (ls : List Load) (start : Ahead) → Brings walk.size ls start old (Reads (visit_of walk)) →
      Brings walk.size (ls ++ reads) start now (ahead_of after)
  pub size : IfWants after (λ w. w.size ≡ walk.size)
  pub counts : walk.earlier ≡ length old → IfWants after (λ w. w.earlier ≡ length now)

-- the first entry
pub reading_begins : (walk : ChainWalk) (bs : List ℕ) (old now : List Descriptor) (entries left : ℕ) (after : code.Progress) →
    length bs ≡ 16 * entries → 1 + left ≡ entries →
    ((ls : List Load) (start : Ahead) → Brings walk.size ls start old (Reads (visit_of walk)) →
    Brings walk.size (ls ++ read_at walk bs 0 ∷ []) start now (ahead_of after)) →
    IfWants after (λ w. w.size ≡ walk.size) → (walk.earlier ≡ length old → IfWants after (λ w. w.earlier ≡ length now)) →
    Reading walk bs old now left after
reading_begins walk bs old now entries left after long one brings size counts = record {
  reads = read_at walk bs 0 ∷ [];
  some = (read_at walk bs 0, [], refl, refl);
  each = All-cons (IsReadOut (entry_address (visit_of walk)) bs) (read_at walk bs 0) [] (0, omega arith, omega (arith, long, one), refl)
      (All-nil (IsReadOut (entry_address (visit_of walk)) bs));
  count = ap (λ k. 16 * k) one ∙ sym long;
  brings = brings;
  size = size;
  counts = counts;
}

pub some_more : (a : ℕ) (ls : List Load) (m : Load) → (l : Load) × (rest : List Load) × (ls ≡ l ∷ rest) × (l.address ≡ a) →
    (l : Load) × (rest : List Load) × (ls ++ m ∷ [] ≡ l ∷ rest) × (l.address ≡ a)
some_more a ls m some = (some.0, some.1 ++ m ∷ [], ap (λ (x : List Load). x ++ m ∷ []) some.2, some.3)

-- one entry more
pub reading_on : (walk next : ChainWalk) (bs : List ℕ) (old now new : List Descriptor) (left fewer offset : ℕ) (after : code.Progress) →
    entry_address (visit_of next) ≡ entry_address (visit_of walk) + offset →
    offset + 16 ≤ length bs → left ≡ fewer + 1 → Reading walk bs old now left (shows.Wants next) →
    ((ls : List Load) (start : Ahead) → Brings next.size ls start now (Reads (visit_of next)) →
    Brings next.size (ls ++ read_at next bs offset ∷ []) start new (ahead_of after)) →
    IfWants after (λ w. w.size ≡ next.size) → (next.earlier ≡ length now → IfWants after (λ w. w.earlier ≡ length new)) →
    Reading walk bs old new fewer after
reading_on walk next bs old now new left fewer offset after stands inside one so_far brings size counts =
    let l = read_at next bs offset in record {
      reads = so_far.reads ++ l ∷ [];
      some = some_more (entry_address (visit_of walk)) so_far.reads l so_far.some;
      each = All-push (IsReadOut (entry_address (visit_of walk)) bs) so_far.reads l so_far.each (offset, stands, inside, refl);
      count =
          let more = length-append so_far.reads (l ∷ []) in let count = so_far.count in
          omega (arith, more, count, one);
      brings = λ ls start from.
          let P : ℕ → Type 0 = λ n. Brings n (ls ++ so_far.reads) start now (Reads (visit_of next)) →
          Brings n ((ls ++ so_far.reads) ++ l ∷ []) start new (ahead_of after) in
          let there = subst P so_far.size (brings (ls ++ so_far.reads) start) in
          subst (λ (x : List Load). Brings walk.size x start new (ahead_of after)) (append_assoc ls so_far.reads (l ∷ []))
          (there (so_far.brings ls start from));
      size = same_size after size so_far.size;
      counts = λ count. counts (so_far.counts count);
    }
  where
    same_size : (p : code.Progress) → IfWants p (λ w. w.size ≡ next.size) → next.size ≡ walk.size → IfWants p (λ w. w.size ≡ walk.size)
    same_size (shows.Wants w) a b = a ∙ b
    same_size (shows.Ends walked) a b = tt

read_out : (walk : ChainWalk) (bs : List ℕ) (old now : List Descriptor) (left : ℕ) (after : code.Progress)
    (r : Reading walk bs old now left after) → ReadOutOf (entry_address (visit_of walk)) bs r.reads
read_out walk bs old now left after r = record {
  first = r.some;
  each = r.each;
  few = let count = r.count in omega (arith, count);
}

-- a walk that has ended
pub reading_ends : (walk : ChainWalk) (bs : List ℕ) (old now : List Descriptor) (left : ℕ) (walked : walked.WalkEnd) →
    Reading walk bs old now left (shows.Ends walked) → ReadsStretch walk bs old now (shows.Ends walked)
reading_ends walk bs old now left walked r = record {
  reads = r.reads;
  read_out = read_out walk bs old now left (shows.Ends walked) r;
  brings = r.brings;
  size = tt;
  uses_up = tt;
  counts = λ count. tt;
}

used : (from n address len left count : ℕ) → 16 * (count + left) ≡ len → (is_in from n address ≡ false) ⊎ (left ≡ 0) →
    (is_in from n address ≡ false) ⊎ (16 * count ≡ len)
used from n address len left count total (inl away) = inl away
used from n address len left count total (inr none) = inr (omega (arith, total, none))

-- one that wants another entry
pub reading_stops : (walk next : ChainWalk) (bs : List ℕ) (old now : List Descriptor) (left : ℕ) →
    (is_in (entry_address (visit_of walk)) (length bs) (entry_address (visit_of next)) ≡ false) ⊎ (left ≡ 0) →
    Reading walk bs old now left (shows.Wants next) → ReadsStretch walk bs old now (shows.Wants next)
reading_stops walk next bs old now left stops r = record {
  reads = r.reads;
  read_out = read_out walk bs old now left (shows.Wants next) r;
  brings = r.brings;
  size = r.size;
  uses_up = used (entry_address (visit_of walk)) (length bs) (entry_address (visit_of next)) (length bs) left (length r.reads)
      r.count stops;
  counts = r.counts;
}

-- ---- what the walk comes to by a stretch

uses_up : (walk : ChainWalk) (bs : List ℕ) (old new : List Descriptor) (after : code.Progress) (r : ReadsStretch walk bs old new after)
    (came : comes.CourseStep) → AsksFor after came →
    UsesUp (entry_address (visit_of walk)) bs r.reads came
uses_up walk bs old new (shows.Wants w) r (step.Load next) asks =
    subst (λ a. (is_in (entry_address (visit_of walk)) (length bs) a ≡ false) ⊎ (16 * length r.reads ≡ length bs)) (sym asks) r.uses_up
uses_up walk bs old new (shows.Ends walked) r (step.Load next) asks = absurd asks
uses_up walk bs old new after r came asks = tt

same_size : (p : code.Progress) (a b : ℕ) → IfWants p (λ w. w.size ≡ a) → a ≡ b → IfWants p (λ w. w.size ≡ b)
same_size (shows.Wants w) a b h e = h ∙ e
same_size (shows.Ends walked) a b h e = tt

-- by where the walk stood, and by what it comes to where its last entry leads
pub comes_by : (m : Memory) (limit : ℕ) (q : Queue) (loaded : Loaded) (stretch : EntriesWalk) (bs : List ℕ) (old new : List Descriptor)
    (after : code.Progress) (came : comes.CourseStep) →
    ReadsStretch stretch.walk bs old new after → AsksFor after came →
    ((l : Loaded) → HeadMayBePushed m q l stretch.head → IfWants after (λ w. w.size ≡ q.size) →
    Brings q.size l.entries (ahead_at q.size (first_visit q stretch.head)) new (ahead_of after) → IsCourseStep m limit q l new came) →
    IsWalkAt m q loaded old (at.Entries stretch) → ComesBy m limit q loaded (at.Entries stretch) bs new came
comes_by m limit q loaded stretch bs old new after came r asks comes stands =
    let start = ahead_at q.size (first_visit q stretch.head) in
    let P : ℕ → Type 0 = λ n. Brings n loaded.entries start old (Reads (visit_of stretch.walk)) →
    Brings n (loaded.entries ++ r.reads) start new (ahead_of after) in
    let brings : Brings q.size (loaded.entries ++ r.reads) start new (ahead_of after) =
    subst P stands.1 (r.brings loaded.entries start) stands.2 in
    record {
      after = record loaded { entries = loaded.entries ++ r.reads };
      adds = record { reads = r.reads; read_out = r.read_out; uses_up = uses_up stretch.walk bs old new after r came asks; added = refl };
      comes = comes (record loaded { entries = loaded.entries ++ r.reads }) (waits_on m q loaded (loaded.entries ++ r.reads) stretch.head
          stands.0) (same_size after stretch.walk.size q.size r.size stands.1) brings;
    }
