-- What reads of a file have put into a writer.
use Rattle.std.proofs.Common.{◌≡◌, ℕ, ◌+◌, ◌-◌, ◌^◌, ◌<◌, ◌≤◌, min, sum, List, [], ◌∷◌, ◌++◌, length, Result, Ok, Err, refl, sym, ap, ◌∙◌}
use Rattle.std.proofs.Common.{arith, inl, inr, ⊎_elim, length-append, append_assoc}
use Rattle.std.specs.List.{concat}
use Rattle.std.proofs.lemmas.List.{append-nil, nil_from_length}
use Rattle.std.proofs.lemmas.List.Folds.{concat-append}
use Rattle.fuse_fs.specs.Lengths.{filled, first, past, up_to}
use Rattle.fuse_fs.specs.Transfers.{MayRead, moved, ReadsOnce, ReadsOn, ReadsEnd, ReadsSegments}
use Rattle.fuse_fs.proofs.Lengths.{sum-past, past_zero_of, past-past, past-up_to, first-up_to, filled-past, filled-up_to, up_to_min}
use Rattle.fuse_fs.proofs.Lengths.{first_some}

-- a writer, by what was put in, how many bytes more there is room for, and in which segments that is
pub record Filling : Type 0 where
  pub put : List ℕ
  pub room : ℕ
  pub rooms : List ℕ

-- how much a file is to be read at most
pub record Offered (before : Filling) (count most : ℕ) : Type 0 where
  pub limit : most ≡ min count before.room
  pub all : sum before.rooms ≡ before.room
  pub some : filled before.rooms ≡ before.rooms

-- one call put these bytes in
pub record Added (now : Filling) (part : List ℕ) (new : Filling) : Type 0 where
  pub put : new.put ≡ now.put ++ part
  pub room : now.room ≡ new.room + length part
  pub rooms : new.rooms ≡ past (length part) now.rooms

module _ {F : Type 0} (may : MayRead F) where
  -- reads go on by one
  reads_more : (f : F) (rooms : List ℕ) (off : ℕ) (parts : List (List ℕ)) (g : F) (k : ℕ) (part : List ℕ) (place : ℕ) (h : F) →
      filled rooms ≡ rooms → ReadsOn may f rooms off parts g →
      k ≡ first (past (length (concat parts)) rooms) → place ≡ off + length (concat parts) → length part ≤ k → 0 < length part →
      may g k place (Ok part) h →
      ReadsOn may f rooms off (parts ++ part ∷ []) h
  reads_more f rooms off [] g k part place h fs y ek ep le some step =
      let here : k ≡ first rooms = ek ∙ ap first (past_zero_of rooms fs) in
      let at : place ≡ off = omega (arith, ep) in
      let last : may f (first rooms) off (Ok part) h = rw (y, here, at) at step in
      (h, some, omega (arith, le, here), last, refl)
  reads_more f rooms off (p ∷ parts) g k part place h fs y ek ep le some step = (
    y.0,
    y.1,
    y.2,
    y.3,
    reads_more y.0 (past (length p) rooms) (off + length p) parts g k part place h (filled-past (length p) rooms fs) y.4
        (ek ∙ ap (λ i. first (past i rooms)) (length-append p (concat parts))
        ∙ ap first (sym (past-past (length (concat parts)) (length p) rooms)))
        (omega (arith, ep, length-append p (concat parts))) le some step,
  )

  -- what reads have put in so far
  pub record SoFar (f : F) (before : Filling) (most off done : ℕ) (now : Filling) (g : F) : Type 0 where
    pub parts : List (List ℕ)
    pub reads : ReadsOn may f (up_to most before.rooms) off parts g
    pub count : length (concat parts) ≡ done
    pub within : done ≤ most
    pub put : now.put ≡ before.put ++ concat parts
    pub room : before.room ≡ now.room + done
    pub rooms : now.rooms ≡ past done before.rooms

  -- what they have put in in the end
  abbrev pub Filled : F → Filling → (count off : ℕ) → Result ℕ ℕ → Filling → F → Type 0
  Filled f before count off answer now g =
      (bytes : List ℕ) × (now.put ≡ before.put ++ bytes) × (before.room ≡ now.room + length bytes)
      × (now.rooms ≡ past (length bytes) before.rooms)
      × (sum before.rooms ≡ before.room) × ReadsSegments may f (up_to count before.rooms) off bytes answer g

  pub so_far_none : (f : F) (before : Filling) (count most off : ℕ) → Offered before count most → SoFar f before most off 0 before f
  so_far_none f before count most off t =
      record {
        parts = [];
        reads = refl;
        count = refl;
        within = omega arith;
        put = sym (append-nil before.put);
        room = omega arith;
        rooms = sym (past_zero_of before.rooms t.some);
      }

  -- what one call is asked for
  asked : (f : F) (before : Filling) (most off done : ℕ) (now : Filling) (g : F) → SoFar f before most off done now g →
      min (most - done) (first now.rooms) ≡ first (past done (up_to most before.rooms))
  asked f before most off done now g s =
      ap (λ (ns : List ℕ). min (most - done) (first ns)) s.rooms
      ∙ sym (ap first (past-up_to done most before.rooms) ∙ first-up_to (most - done) (past done before.rooms))

  -- where reads end, what was put in was gathered
  so_far_ends : (f : F) (before : Filling) (count most off done : ℕ) (now new : Filling) (g : F) (answer : Result ℕ ℕ) (h : F) →
      Offered before count most → SoFar f before most off done now g →
      new.put ≡ now.put → new.room ≡ now.room → new.rooms ≡ now.rooms →
      ReadsEnd may g (past done (up_to most before.rooms)) (off + done) done answer h → Filled f before count off answer new h
  so_far_ends f before count most off done now new g answer h t s ep er es ends =
      let limit : most ≡ min count (sum before.rooms) = omega (arith, t.limit, t.all) in
      let rooms : up_to most before.rooms ≡ up_to count before.rooms =
      ap (λ i. up_to i before.rooms) limit ∙ up_to_min count before.rooms t.some in
      let gathers : ReadsSegments may f (up_to most before.rooms) off (concat s.parts) answer h =
      record { parts = s.parts; mid = g; whole = refl; reads = s.reads; ends = rw s.count ends }
      in (
        concat s.parts,
        ep ∙ s.put,
        omega (arith, s.room, s.count, er),
        es ∙ s.rooms ∙ ap (λ i. past i before.rooms) (sym s.count),
        t.all,
        rw rooms at gathers,
      )

  -- the count is done, or the room is used up
  pub so_far_whole : (f : F) (before : Filling) (count most off done : ℕ) (now : Filling) (g : F) → Offered before count most →
      SoFar f before most off done now g → most ≤ done → Filled f before count off (Ok done) now g
  so_far_whole f before count most off done now g t s le =
      let none : first (past done (up_to most before.rooms)) ≡ 0 = omega (arith, asked f before most off done now g s, le) in
      so_far_ends f before count most off done now now g (Ok done) g t s refl refl refl (refl, inl (none, refl))

  -- the place is past the greatest
  pub so_far_past : (f : F) (before : Filling) (count most off done : ℕ) (now : Filling) (g : F) → Offered before count most →
      SoFar f before most off done now g → done < most →
      2 ^ 64 ≤ off + done → Filled f before count off (Err 5) now g
  so_far_past f before count most off done now g t s lt far =
      let left : 0 < sum (past done before.rooms) = omega (arith, sum-past done before.rooms, t.all, t.limit, lt) in
      let there : 0 < first (past done before.rooms) = first_some (past done before.rooms) (filled-past done before.rooms t.some) left in
      let here : 0 < first now.rooms = rw s.rooms there in
      let some : 0 < first (past done (up_to most before.rooms)) = omega (arith, asked f before most off done now g s, lt, here) in
      so_far_ends f before count most off done now now g (Err 5) g t s refl refl refl (some, inl (refl, far, refl))

  -- one more call of a file gave nothing
  pub so_far_stops : (f : F) (before : Filling) (count most off done : ℕ) (now : Filling) (g : F) (n place : ℕ) (part : List ℕ)
      (new : Filling) (h : F) → Offered before count most →
      SoFar f before most off done now g → ReadsOnce may g (min (most - done) (first now.rooms)) place part (Ok n) h → Added now part new →
      n ≡ 0 → place ≡ off + done → place < 2 ^ 64 →
      Filled f before count off (Ok done) new h
  so_far_stops f before count most off done now g n place part new h t s once a zero at fits =
      let is = asked f before most off done now g s in
      let none : length part ≡ 0 = omega (arith, once.0, zero) in
      let empty : part ≡ [] = nil_from_length part none in
      let same : filled now.rooms ≡ now.rooms = ap filled s.rooms ∙ filled-past done before.rooms t.some ∙ sym s.rooms in
      let ends : ReadsEnd may g (past done (up_to most before.rooms)) (off + done) done (Ok done) h = (
        refl,
        ⊎_elim
            (λ (full : (min (most - done) (first now.rooms) ≡ 0) × (Ok n ≡ Ok 0) × (h ≡ g)). inl (sym is ∙ full.0, full.2))
            (λ (last : (0 < min (most - done) (first now.rooms)) × (length part ≤ min (most - done) (first now.rooms))
            × may g (min (most - done) (first now.rooms)) place (Ok part) h).
            inr (omega (arith, is, last.0), omega (arith, at, fits), rw (is, at, empty) at last.2))
            once.1,
      ) in
      so_far_ends f before count most off done now new g (Ok done) h t s
      (a.put ∙ ap (λ p. now.put ++ p) empty ∙ append-nil now.put) (omega (arith, a.room, none))
      (a.rooms ∙ ap (λ i. past i now.rooms) none ∙ past_zero_of now.rooms same) ends

  -- one more call of a file failed
  pub so_far_fails : (f : F) (before : Filling) (count most off done : ℕ) (now : Filling) (g : F) (e place : ℕ) (part : List ℕ)
      (new : Filling) (h : F) → Offered before count most →
      SoFar f before most off done now g → ReadsOnce may g (min (most - done) (first now.rooms)) place part (Err e) h → Added now part new →
      place ≡ off + done → place < 2 ^ 64 →
      Filled f before count off (Err e) new h
  so_far_fails f before count most off done now g e place part new h t s once a at fits =
      let is = asked f before most off done now g s in
      let none : length part ≡ 0 = sym once.0 in
      let empty : part ≡ [] = nil_from_length part none in
      let same : filled now.rooms ≡ now.rooms = ap filled s.rooms ∙ filled-past done before.rooms t.some ∙ sym s.rooms in
      let ends : ReadsEnd may g (past done (up_to most before.rooms)) (off + done) done (Err e) h =
      ⊎_elim
      (λ (full : (min (most - done) (first now.rooms) ≡ 0) × (Err e ≡ Ok 0) × (h ≡ g)). absurd (cc))
      (λ (last : (0 < min (most - done) (first now.rooms)) × (length part ≤ min (most - done) (first now.rooms))
      × may g (min (most - done) (first now.rooms)) place (Err e) h).
      (omega (arith, is, last.0), inr (omega (arith, at, fits), rw (is, at) at last.2)))
      once.1
      in
      so_far_ends f before count most off done now new g (Err e) h t s
      (a.put ∙ ap (λ p. now.put ++ p) empty ∙ append-nil now.put) (omega (arith, a.room, none))
      (a.rooms ∙ ap (λ i. past i now.rooms) none ∙ past_zero_of now.rooms same) ends

  -- one more call of a file gave something
  pub so_far_proceeds : (f : F) (before : Filling) (count most off done : ℕ) (now : Filling) (g : F) (n place : ℕ) (part : List ℕ)
      (new : Filling) (h : F) → Offered before count most →
      SoFar f before most off done now g → ReadsOnce may g (min (most - done) (first now.rooms)) place part (Ok n) h → Added now part new →
      (n ≡ 0 → ⊥) → place ≡ off + done →
      SoFar f before most off (done + n) new h
  so_far_proceeds f before count most off done now g n place part new h t s once a some at =
      ⊎_elim
      (λ (full : (min (most - done) (first now.rooms) ≡ 0) × (Ok n ≡ Ok 0) × (h ≡ g)). absurd (some (ap moved full.1)))
      (λ (last : (0 < min (most - done) (first now.rooms)) × (length part ≤ min (most - done) (first now.rooms))
      × may g (min (most - done) (first now.rooms)) place (Ok part) h).
      let m = min (most - done) (first now.rooms) in
      let is = asked f before most off done now g s in
      let count_is = s.count in
      let long : n ≡ length part = once.0 in
      record {
        parts = s.parts ++ part ∷ [];
        reads = reads_more f (up_to most before.rooms) off s.parts g m part place h (filled-up_to most before.rooms t.some) s.reads
            (is ∙ ap (λ i. first (past i (up_to most before.rooms))) (sym count_is)) (omega (arith, at, count_is)) last.1
            (omega (arith, some, long)) last.2;
        count = rw (concat-append s.parts (part ∷ []), length-append (concat s.parts) (part ++ []), append-nil part, s.count)
            (ap (λ k. done + k) (sym long));
        within = omega (arith, last.1, s.within, long);
        put = rw (a.put, s.put, concat-append s.parts (part ∷ []), append-nil part) (append_assoc before.put (concat s.parts) part);
        room = omega (arith, s.room, a.room, long);
        rooms = a.rooms ∙ ap (past (length part)) s.rooms ∙ past-past (length part) done before.rooms
            ∙ ap (λ k. past (done + k) before.rooms) (sym long);
      })
      once.1
