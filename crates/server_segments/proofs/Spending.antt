-- What writes of a file have taken out of a reader.
use Rattle.std.proofs.Common.{◌≡◌, ℕ, ◌+◌, ◌-◌, ◌^◌, ◌<◌, ◌≤◌, min, sum, List, [], ◌∷◌, ◌++◌, length, take, drop, Option, Result, Ok, Err}
use Rattle.std.proofs.Common.{refl, sym, ap, ◌∙◌, arith, inl, inr, ⊎_elim}
use Rattle.std.proofs.lemmas.List.{drop-take, take-take, drop-drop, take_min}
use Rattle.std.proofs.lemmas.List.Sums.{sum_by_push}
use Rattle.fuse_fs.specs.Lengths.{filled, first, past, up_to}
use Rattle.fuse_fs.specs.Transfers.{moved, WritesOnce, WritesOn, WritesEnd, Spends}
use Rattle.server_segments.specs.ReaderAndWriterView.{ReaderView}
use Rattle.fuse_fs.proofs.Lengths.{sum-cons, sum-past, past_zero_of, past-past, past-up_to, first-up_to, filled-past, filled-up_to}
use Rattle.fuse_fs.proofs.Lengths.{up_to_min, first_some}

-- a part of what is left is a part of the data
same_front : (m done count : ℕ) (xs : List ℕ) → m ≤ count - done → done ≤ count → take m (drop done xs) ≡ take m (drop done (take count xs))
same_front m done count xs le dc =
    let e : done + (count - done) ≡ count = omega (arith, dc) in
    sym (ap (λ k. take m (drop done (take k xs))) (sym e) ∙ ap (take m) (drop-take done (count - done) xs)
    ∙ take-take m (count - done) (drop done xs) le)

-- what stays the same while a file writes: how much it is to write at most, of the bytes in the reader's segments
pub record Lent (before : ReaderView) (count most : ℕ) : Type 0 where
  pub limit : most ≡ min count (length before.left)
  pub all : sum before.segments ≡ length before.left
  pub some : filled before.segments ≡ before.segments

module _ {F : Type 0} (gives : F → List ℕ → ℕ → Option ℕ → Result ℕ ℕ → F → Type 0) where
  -- writes go on by one
  writes_more : (f : F) (all segments : List ℕ) (off : ℕ) (flags : Option ℕ) (parts : List ℕ) (g : F) (k n : ℕ) (bytes : List ℕ) (place : ℕ)
      (h : F) → filled segments ≡ segments →
      WritesOn gives f all segments off flags parts g → k ≡ first (past (sum parts) segments) → bytes ≡ take k (drop (sum parts) all) →
      place ≡ off + sum parts → n ≤ k → 0 < n →
      gives g bytes place flags (Ok n) h → WritesOn gives f all segments off flags (parts ++ n ∷ []) h
  writes_more f all segments off flags [] g k n bytes place h fs y ek eb ep le some step =
      let here : k ≡ first segments = ek ∙ ap first (past_zero_of segments fs) in
      let front : bytes ≡ take (first segments) all = eb ∙ ap (λ i. take i all) here in
      let at : place ≡ off = omega (arith, ep) in
      let last : gives f (take (first segments) all) off flags (Ok n) h = rw (y, front, at) at step in
      (h, some, omega (arith, le, here), last, refl)
  writes_more f all segments off flags (p ∷ parts) g k n bytes place h fs y ek eb ep le some step = (
    y.0,
    y.1,
    y.2,
    y.3,
    writes_more y.0 (drop p all) (past p segments) (off + p) flags parts g k n bytes place h (filled-past p segments fs) y.4
        (ek ∙ ap (λ i. first (past i segments)) (sum-cons p parts) ∙ ap first (sym (past-past (sum parts) p segments)))
        (eb ∙ ap (λ i. take k (drop i all)) (sum-cons p parts) ∙ ap (take k) (sym (drop-drop (sum parts) p all)))
        (omega (arith, ep, sum-cons p parts)) le some step,
  )

  -- what writes have taken so far
  pub record Spent (f : F) (before : ReaderView) (most off : ℕ) (flags : Option ℕ) (done : ℕ) (now : ReaderView) (g : F) : Type 0 where
    pub parts : List ℕ
    pub writes : WritesOn gives f (take most before.left) (up_to most before.segments) off flags parts g
    pub whole : sum parts ≡ done
    pub within : done ≤ most
    pub left : now.left ≡ drop done before.left
    pub segments : now.segments ≡ past done before.segments
    pub read : now.read ≡ before.read + done

  -- what they have taken in the end
  abbrev pub Gone : F → ReaderView → (count off : ℕ) → Option ℕ → Result ℕ ℕ → ReaderView → F → Type 0
  Gone f before count off flags answer now g =
      (n : ℕ) × (n ≤ length before.left) × (now.left ≡ drop n before.left) × (now.segments ≡ past n before.segments)
      × (now.read ≡ before.read + n)
      × Spends gives f (take count before.left) (up_to count before.segments) off flags n answer g

  pub spent_none : (f : F) (before : ReaderView) (count most off : ℕ) (flags : Option ℕ) → Lent before count most →
      Spent f before most off flags 0 before f
  spent_none f before count most off flags t =
      record {
        parts = [];
        writes = refl;
        whole = refl;
        within = omega arith;
        left = refl;
        segments = sym (past_zero_of before.segments t.some);
        read = omega arith;
      }

  -- what one call is lent
  lent : (f : F) (before : ReaderView) (most off : ℕ) (flags : Option ℕ) (done : ℕ) (now : ReaderView) (g : F) →
      Spent f before most off flags done now g →
      min (most - done) (first now.segments) ≡ first (past done (up_to most before.segments))
  lent f before most off flags done now g s =
      ap (λ (ns : List ℕ). min (most - done) (first ns)) s.segments
      ∙ sym (ap first (past-up_to done most before.segments) ∙ first-up_to (most - done) (past done before.segments))

  lent_bytes : (f : F) (before : ReaderView) (most off : ℕ) (flags : Option ℕ) (done : ℕ) (now : ReaderView) (g : F) (m : ℕ) →
      Spent f before most off flags done now g → m ≤ most - done →
      take m now.left ≡ take m (drop done (take most before.left))
  lent_bytes f before most off flags done now g m s le = ap (take m) s.left ∙ same_front m done most before.left le s.within

  -- where writes end, what is taken was spent
  spent_ends : (f : F) (before : ReaderView) (count most off : ℕ) (flags : Option ℕ) (done : ℕ) (now new : ReaderView) (g : F)
      (answer : Result ℕ ℕ) (h : F) → Lent before count most →
      Spent f before most off flags done now g → new.left ≡ now.left → new.segments ≡ now.segments → new.read ≡ now.read →
      WritesEnd gives g (drop done (take most before.left)) (past done (up_to most before.segments)) (off + done) flags done answer h →
      Gone f before count off flags answer new h
  spent_ends f before count most off flags done now new g answer h t s el es er ends =
      let bytes : take most before.left ≡ take count before.left = ap (λ i. take i before.left) t.limit ∙ take_min count before.left in
      let limit : most ≡ min count (sum before.segments) = omega (arith, t.limit, t.all) in
      let segments : up_to most before.segments ≡ up_to count before.segments =
      ap (λ i. up_to i before.segments) limit ∙ up_to_min count before.segments t.some in
      let spends : Spends gives f (take most before.left) (up_to most before.segments) off flags done answer h =
      record { parts = s.parts; mid = g; whole = s.whole; writes = s.writes; ends = ends }
      in (
        done,
        omega (arith, s.within, t.limit),
        el ∙ s.left,
        es ∙ s.segments,
        er ∙ s.read,
        rw (bytes, segments) at spends,
      )

  -- the count is done, or no data is left
  pub spent_whole : (f : F) (before : ReaderView) (count most off : ℕ) (flags : Option ℕ) (done : ℕ) (now : ReaderView) (g : F) →
      Lent before count most → Spent f before most off flags done now g →
      most ≤ done → Gone f before count off flags (Ok done) now g
  spent_whole f before count most off flags done now g t s le =
      let none : first (past done (up_to most before.segments)) ≡ 0 = omega (arith, lent f before most off flags done now g s, le) in
      spent_ends f before count most off flags done now now g (Ok done) g t s refl refl refl (refl, inl (none, refl))

  -- the place is past the greatest
  pub spent_past : (f : F) (before : ReaderView) (count most off : ℕ) (flags : Option ℕ) (done : ℕ) (now : ReaderView) (g : F) →
      Lent before count most → Spent f before most off flags done now g →
      done < most → 2 ^ 64 ≤ off + done → Gone f before count off flags (Err 5) now g
  spent_past f before count most off flags done now g t s lt far =
      let left : 0 < sum (past done before.segments) = omega (arith, sum-past done before.segments, t.all, t.limit, lt) in
      let there : 0 < first (past done before.segments) =
      first_some (past done before.segments) (filled-past done before.segments t.some) left in
      let here : 0 < first now.segments = rw s.segments there in
      let some : 0 < first (past done (up_to most before.segments)) = omega (arith, lent f before most off flags done now g s, lt, here) in
      spent_ends f before count most off flags done now now g (Err 5) g t s refl refl refl (some, inl (refl, far, refl))

  -- one more call of a file took nothing
  pub spent_stops : (f : F) (before : ReaderView) (count most off : ℕ) (flags : Option ℕ) (done : ℕ) (now : ReaderView) (g : F)
      (n place : ℕ) (new : ReaderView) (h : F) → Lent before count most →
      Spent f before most off flags done now g → WritesOnce gives g now.left now.segments (most - done) place flags (Ok n) h →
      new.left ≡ drop n now.left → new.segments ≡ past n now.segments →
      new.read ≡ now.read + n → n ≡ 0 → place ≡ off + done → place < 2 ^ 64 → Gone f before count off flags (Ok done) new h
  spent_stops f before count most off flags done now g n place new h t s once el es er zero at fits =
      let is = lent f before most off flags done now g s in
      let same : filled now.segments ≡ now.segments = ap filled s.segments ∙ filled-past done before.segments t.some ∙ sym s.segments in
      let ends : WritesEnd gives g (drop done (take most before.left)) (past done (up_to most before.segments)) (off + done) flags done
      (Ok done) h = (
        refl,
        ⊎_elim
            (λ (full : (min (most - done) (first now.segments) ≡ 0) × (Ok n ≡ Ok 0) × (h ≡ g)). inl (sym is ∙ full.0, full.2))
            (λ (last : (0 < min (most - done) (first now.segments)) × (n ≤ min (most - done) (first now.segments))
            × gives g (take (min (most - done) (first now.segments)) now.left) place flags (Ok n) h).
            inr (
              omega (arith, is, last.0),
              omega (arith, at, fits),
              rw (lent_bytes f before most off flags done now g (min (most - done) (first now.segments)) s (omega arith), is, at, zero) at
                  last.2,
            ))
            once,
      ) in
      spent_ends f before count most off flags done now new g (Ok done) h t s
      (el ∙ ap (λ i. drop i now.left) zero) (es ∙ ap (λ i. past i now.segments) zero ∙ past_zero_of now.segments same)
      (omega (arith, er, zero)) ends

  -- one more call of a file failed
  pub spent_fails : (f : F) (before : ReaderView) (count most off : ℕ) (flags : Option ℕ) (done : ℕ) (now : ReaderView) (g : F)
      (e place : ℕ) (new : ReaderView) (h : F) → Lent before count most →
      Spent f before most off flags done now g → WritesOnce gives g now.left now.segments (most - done) place flags (Err e) h → new ≡ now →
      place ≡ off + done → place < 2 ^ 64 →
      Gone f before count off flags (Err e) new h
  spent_fails f before count most off flags done now g e place new h t s once same at fits =
      let is = lent f before most off flags done now g s in
      let ends : WritesEnd gives g (drop done (take most before.left)) (past done (up_to most before.segments)) (off + done) flags
      done (Err e) h =
      ⊎_elim
      (λ (full : (min (most - done) (first now.segments) ≡ 0) × (Err e ≡ Ok 0) × (h ≡ g)). absurd (cc))
      (λ (last : (0 < min (most - done) (first now.segments)) × (0 ≤ min (most - done) (first now.segments))
      × gives g (take (min (most - done) (first now.segments)) now.left) place flags (Err e) h). (
        omega (arith, is, last.0),
        inr (
          omega (arith, at, fits),
          rw (lent_bytes f before most off flags done now g (min (most - done) (first now.segments)) s (omega arith), is, at) at last.2,
        ),
      ))
      once
      in
      spent_ends f before count most off flags done now new g (Err e) h t s
      (ap (λ (r : ReaderView). r.left) same) (ap (λ (r : ReaderView). r.segments) same) (ap (λ (r : ReaderView). r.read) same) ends

  -- one more call of a file took something
  pub spent_proceeds : (f : F) (before : ReaderView) (count most off : ℕ) (flags : Option ℕ) (done : ℕ) (now : ReaderView) (g : F)
      (n place : ℕ)
      (new : ReaderView) (h : F) → Lent before count most →
      Spent f before most off flags done now g → WritesOnce gives g now.left now.segments (most - done) place flags (Ok n) h →
      new.left ≡ drop n now.left → new.segments ≡ past n now.segments →
      new.read ≡ now.read + n → (n ≡ 0 → ⊥) → place ≡ off + done → Spent f before most off flags (done + n) new h
  spent_proceeds f before count most off flags done now g n place new h t s once el es er some at =
      ⊎_elim
      (λ (full : (min (most - done) (first now.segments) ≡ 0) × (Ok n ≡ Ok 0) × (h ≡ g)). absurd (some (ap moved full.1)))
      (λ (last : (0 < min (most - done) (first now.segments)) × (n ≤ min (most - done) (first now.segments))
      × gives g (take (min (most - done) (first now.segments)) now.left) place flags (Ok n) h).
      let m = min (most - done) (first now.segments) in
      let whole = s.whole in
      let is = lent f before most off flags done now g s in
      let bytes = lent_bytes f before most off flags done now g m s (omega arith) in
      record {
        parts = s.parts ++ n ∷ [];
        writes = writes_more f (take most before.left) (up_to most before.segments) off flags s.parts g m n (take m now.left) place h
            (filled-up_to most before.segments t.some) s.writes
            (is ∙ ap (λ i. first (past i (up_to most before.segments))) (sym whole))
            (bytes ∙ ap (λ i. take m (drop i (take most before.left))) (sym whole))
            (omega (arith, at, whole)) last.1 (let p : 0 < n = omega (arith, some) in p) last.2;
        whole = sum_by_push (λ (x : ℕ). x) s.parts n ∙ ap (λ k. k + n) whole;
        within = omega (arith, last.1, s.within);
        left = el ∙ ap (drop n) s.left ∙ drop-drop n done before.left;
        segments = es ∙ ap (past n) s.segments ∙ past-past n done before.segments;
        read = omega (arith, er, s.read);
      })
      once
