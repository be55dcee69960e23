-- Segments that are cut at a place.
use Rattle.std.proofs.Common.{◌≡◌, ℕ, ◌+◌, ◌-◌, ◌<◌, ◌≤◌, min, sum, sym, List, [], ◌∷◌, ◌++◌, length, take, drop, ◌∙◌, ap, arith, refl}
use Rattle.std.proofs.Common.{append_assoc, append-nil, length-append, get_or, ⊎_elim}
use Rattle.std.proofs.lemmas.List.{map-append, length-take-le, take-append-drop, nil_from_length, length-drop, take_all}
use Rattle.std.proofs.lemmas.List.Folds.{length-flat_map-take}
use Rattle.std.proofs.lemmas.Bool.{cases_lt}
use Rattle.std.proofs.lemmas.Grind.{flat_map-append}
use Rattle.std.proofs.Math.Seq.{take-append-add, drop-append-add, take-nil}
use Rattle.std.specs.Borrow.{Bor}
use Rattle.fuse_fs.specs.Lengths.{filled, past, up_to}
use Rattle.server_segments.specs.Segments.{joined, all_of, segment_lengths}
use Rattle.fuse_fs.proofs.Lengths.{sum-cons, sum-filled, filled-append, up_to_zero, up_to_proceeds, past_proceeds, past_zero, past_first}
use Rattle.fuse_fs.proofs.Lengths.{past_behind, up_to_first, up_to_behind}

-- one segment more
pub joined_more : (front : List (Bor (List ℕ))) (cut : Bor (List ℕ)) → joined (front ++ cut ∷ []) ≡ joined front ++ cut.now
joined_more front cut = flat_map-append (λ (s : Bor (List ℕ)). s.now) front (cut ∷ []) ∙ ap (λ s. joined front ++ s) (append-nil cut.now)

-- a segment's front goes to the front, and its rest stays before the queue
pub moved_front : (front queue : List (Bor (List ℕ))) (cut : Bor (List ℕ)) (segment : List ℕ) (n : ℕ) → cut.now ≡ take n segment →
    joined (front ++ cut ∷ []) ++ (drop n segment ++ joined queue) ≡ joined front ++ (segment ++ joined queue)
moved_front front queue cut segment n e =
    let a = joined_more front cut in
    let b = append_assoc (joined front) cut.now (drop n segment ++ joined queue) in
    let d = append_assoc cut.now (drop n segment) (joined queue) in
    let f : cut.now ++ drop n segment ≡ segment = ap (λ s. s ++ drop n segment) e ∙ take-append-drop n segment in
    cc

pub moved_len : (front : List (Bor (List ℕ))) (cut : Bor (List ℕ)) (segment : List ℕ) (n : ℕ) → cut.now ≡ take n segment →
    n ≤ length segment → length (joined (front ++ cut ∷ [])) ≡ length (joined front) + n
moved_len front cut segment n e le =
    ap length (joined_more front cut) ∙ length-append (joined front) cut.now
    ∙ ap (λ k. length (joined front) + k) (ap length e ∙ length-take-le n segment le)

pub nothing_past : (n : ℕ) (segment : List ℕ) → length segment ≤ n → drop n segment ≡ []
nothing_past n segment le = nil_from_length (drop n segment) (omega (arith, length-drop n segment, le))

-- a place past a first part
pub take_past : (xs ys : List ℕ) (k : ℕ) → length xs ≤ k → take k (xs ++ ys) ≡ xs ++ take (k - length xs) ys
take_past xs ys k le =
    let e : k ≡ length xs + (k - length xs) = omega (arith, le) in
    ap (λ n. take n (xs ++ ys)) e ∙ take-append-add xs ys (k - length xs)

pub drop_past : (xs ys : List ℕ) (k : ℕ) → length xs ≤ k → drop k (xs ++ ys) ≡ drop (k - length xs) ys
drop_past xs ys k le =
    let e : k ≡ length xs + (k - length xs) = omega (arith, le) in
    ap (λ n. drop n (xs ++ ys)) e ∙ drop-append-add xs ys (k - length xs)

-- one segment more was taken off the queue
pub front_more : (front after queue popped : List (Bor (List ℕ))) (cut segment : Bor (List ℕ)) (rest tail whole : List ℕ) (n : ℕ) →
    after ≡ front ++ cut ∷ [] → cut.now ≡ take n segment.now →
    tail ≡ drop n segment.now → queue ≡ segment ∷ popped → rest ≡ [] → joined front ++ all_of rest queue ≡ whole →
    joined after ++ all_of tail popped ≡ whole
front_more front after queue popped cut segment rest tail whole n a e t q r w =
    let w_here : joined front ++ (segment.now ++ joined popped) ≡ whole = rw (r, q) at w in
    rw (a, t) (moved_front front popped cut segment.now n e ∙ w_here)

pub front_len : (front after : List (Bor (List ℕ))) (cut : Bor (List ℕ)) (segment : List ℕ) (n part offset : ℕ) →
    after ≡ front ++ cut ∷ [] → cut.now ≡ take n segment →
    n ≡ min part (length segment) → length (joined front) + part ≡ offset → length (joined after) + (part - n) ≡ offset
front_len front after cut segment n part offset a e m o =
    let l = moved_len front cut segment n e (omega (arith, m)) in
    rw a (omega (arith, l, m, o))

pub tail_none :
    (segment : List ℕ) (n part : ℕ) → n ≡ min part (length segment) → 0 < part - n → take (length segment - n) (drop n segment) ≡ []
tail_none segment n part m h = ap (take (length segment - n)) (nothing_past n segment (omega (arith, m, h))) ∙ take-nil (length segment - n)

pub tail_whole : (segment : List ℕ) (n : ℕ) → take (length segment - n) (drop n segment) ≡ drop n segment
tail_whole segment n = take_all (length segment - n) (drop n segment) (omega (arith, length-drop n segment))

-- one segment more makes the sum too great
pub too_much : (xs ys : List (Bor (List ℕ))) (i total top : ℕ) (d : Bor (List ℕ)) → xs ≡ ys → i < length xs →
    total ≡ length (joined (take i xs)) → (total + length (get_or xs i d).now < top → ⊥) →
    top ≤ length (joined ys)
too_much xs ys i total top d e l t big =
    let some = length-flat_map-take (λ (s : Bor (List ℕ)). s.now) xs i d l in
    let all : length (joined xs) ≡ length (joined ys) = ap (λ s. length (joined s)) e in
    ⊎_elim (λ (k : total + length (get_or xs i d).now < top). absurd (big k))
    (λ (k : top ≤ total + length (get_or xs i d).now). omega (arith, k, t, some, all)) (cases_lt (total + length (get_or xs i d).now) top)

-- the lengths of segments are as many bytes as they have
sum-lengths : (segments : List (Bor (List ℕ))) → sum (segment_lengths segments) ≡ length (joined segments)
sum-lengths [] = refl
sum-lengths (s ∷ ss) = omega (arith, sum-cons (length s.now) (segment_lengths ss), sum-lengths ss, length-append s.now (joined ss))

pub sum_all :
    (segment : List ℕ) (later : List (Bor (List ℕ))) → sum (filled (length segment ∷ segment_lengths later)) ≡ length (all_of segment later)
sum_all segment later =
    omega (
      arith,
      sum-filled (length segment ∷ segment_lengths later),
      sum-cons (length segment) (segment_lengths later),
      sum-lengths later,
      length-append segment (joined later),
    )

-- the lengths that were taken off the queue, and those that are left on it
pub before_more : (front after queue popped : List (Bor (List ℕ))) (cut segment : Bor (List ℕ)) (part n : ℕ) (whole : List ℕ) →
    after ≡ front ++ cut ∷ [] → length cut.now ≡ n →
    n ≡ min part (length segment.now) → 0 < part → queue ≡ segment ∷ popped →
    filled (segment_lengths front) ++ up_to part (filled (segment_lengths queue)) ≡ whole →
    filled (segment_lengths after) ++ up_to (part - n) (filled (segment_lengths popped)) ≡ whole
before_more front after queue popped cut segment part n whole a l m some q w =
    let behind = up_to (part - n) (filled (segment_lengths popped)) in
    ap (λ s. filled (segment_lengths s) ++ behind) a
    ∙ ap (λ s. filled s ++ behind) (map-append (λ (s : Bor (List ℕ)). length s.now) front (cut ∷ []))
    ∙ ap (λ s. s ++ behind) (filled-append (segment_lengths front) (length cut.now ∷ []))
    ∙ append_assoc (filled (segment_lengths front)) (filled (length cut.now ∷ [])) behind
    ∙ ap (λ k. filled (segment_lengths front) ++ (filled (k ∷ []) ++ behind)) l
    ∙ ap (λ s. filled (segment_lengths front) ++ s) (sym (up_to_proceeds part (length segment.now) n (segment_lengths popped) some m))
    ∙ ap (λ (s : List (Bor (List ℕ))). filled (segment_lengths front) ++ up_to part (filled (segment_lengths s))) (sym q)
    ∙ w

pub behind_more : (queue popped : List (Bor (List ℕ))) (segment : Bor (List ℕ)) (rest tail : List ℕ) (part n : ℕ) (whole : List ℕ) →
    length tail ≡ length segment.now - n →
    n ≡ min part (length segment.now) → queue ≡ segment ∷ popped → rest ≡ [] →
    past part (filled (length rest ∷ segment_lengths queue)) ≡ whole →
    past (part - n) (filled (length tail ∷ segment_lengths popped)) ≡ whole
behind_more queue popped segment rest tail part n whole l m q r w =
    ap (λ k. past (part - n) (filled (k ∷ segment_lengths popped))) l ∙ past_proceeds part (length segment.now) n (segment_lengths popped) m
    ∙ ap (λ (s : List (Bor (List ℕ))). past part (filled (segment_lengths s))) (sym q)
    ∙ ap (λ (s : List ℕ). past part (filled (length s ∷ segment_lengths queue))) (sym r) ∙ w

pub before_ends : (front behind whole : List ℕ) (part : ℕ) → part ≡ 0 → front ++ up_to part behind ≡ whole → front ≡ whole
before_ends front behind whole part z w =
    sym (ap (λ i. front ++ up_to i behind) z ∙ ap (λ s. front ++ s) (up_to_zero behind) ∙ append-nil front) ∙ w

pub behind_ends : (ns whole : List ℕ) (part : ℕ) → part ≡ 0 → past part (filled ns) ≡ whole → filled ns ≡ whole
behind_ends ns whole part z w = sym (ap (λ i. past i (filled ns)) z ∙ past_zero ns) ∙ w

-- a reader that is cut in its first segment
pub cut_before : (segment : List ℕ) (later kept : List (Bor (List ℕ))) (offset : ℕ) (segments : List ℕ) →
    filled (length segment ∷ segment_lengths later) ≡ segments → offset ≤ length segment →
    kept ≡ [] → filled (length (take offset segment) ∷ segment_lengths kept) ≡ up_to offset segments
cut_before segment later kept offset segments v le k =
    ap (λ (s : List (Bor (List ℕ))). filled (length (take offset segment) ∷ segment_lengths s)) k
    ∙ ap (λ (i : ℕ). filled (i ∷ [])) (length-take-le offset segment le)
    ∙ sym (up_to_first offset (length segment) (segment_lengths later) le) ∙ ap (up_to offset) v

pub cut_behind : (segment tail : List ℕ) (later kept : List (Bor (List ℕ))) (offset : ℕ) (segments result : List ℕ) →
    filled (length segment ∷ segment_lengths later) ≡ segments →
    offset ≤ length segment → kept ≡ later → length tail ≡ length segment - offset
    → result ≡ filled (length tail ∷ segment_lengths kept) →
    result ≡ past offset segments
cut_behind segment tail later kept offset segments result v le k l r =
    r ∙ ap (λ (s : List (Bor (List ℕ))). filled (length tail ∷ segment_lengths s)) k
    ∙ ap (λ (i : ℕ). filled (i ∷ segment_lengths later)) l
    ∙ sym (past_first offset (length segment) (segment_lengths later) le) ∙ ap (past offset) v

-- and behind it
pub long_before : (segment : List ℕ) (later front : List (Bor (List ℕ))) (offset : ℕ) (segments : List ℕ) →
    filled (length segment ∷ segment_lengths later) ≡ segments → length segment ≤ offset →
    filled (segment_lengths front) ≡ up_to (offset - length segment) (filled (segment_lengths later)) →
    filled (length segment ∷ segment_lengths front) ≡ up_to offset segments
long_before segment later front offset segments v le e =
    filled-append (length segment ∷ []) (segment_lengths front) ∙ ap (λ s. filled (length segment ∷ []) ++ s) e
    ∙ sym (up_to_behind offset (length segment) (segment_lengths later) le) ∙ ap (up_to offset) v

pub long_behind : (segment : List ℕ) (later : List (Bor (List ℕ))) (offset : ℕ) (segments tail result : List ℕ) →
    filled (length segment ∷ segment_lengths later) ≡ segments →
    length segment ≤ offset → tail ≡ past (offset - length segment) (filled (segment_lengths later)) → result ≡ tail →
    result ≡ past offset segments
long_behind segment later offset segments tail result v le e r =
    r ∙ e ∙ sym (past_behind offset (length segment) (segment_lengths later) le) ∙ ap (past offset) v
