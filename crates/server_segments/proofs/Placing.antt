-- Places in segments, by how many bytes are before them.
use Rattle.std.proofs.Common.{◌≡◌, ℕ, ◌+◌, ◌-◌, ◌<◌, ◌≤◌, sum, List, [], ◌∷◌, ◌++◌, length, take, drop, get_or, sym, ap, ◌∙◌, arith}
use Rattle.std.proofs.lemmas.List.{drop_more, drop_all, take_all, take_more, take-take, take-append-le, length-take-le}
use Rattle.std.proofs.lemmas.List.Sums.{sum_by-append}
use Rattle.server_segments.specs.SegmentPlaces.{bytes_before, IsIn}
use Rattle.fuse_fs.specs.Lengths.{filled, first, past, up_to}
use Rattle.fuse_fs.proofs.Lengths.{past_at, past_part, past_none, up_to_at, filled-append}

-- what stands behind a place
pub behind_some :
    (ns : List ℕ) (i used : ℕ) → IsIn ns i used → i < length ns → past used (drop i ns) ≡ (get_or ns i 0 - used) ∷ drop (i + 1) ns
behind_some ns i used is l = ap (past used) (drop_more ns i 0 l) ∙ past_part used (get_or ns i 0) (drop (i + 1) ns) (is.before_end l)

pub behind_none : (ns : List ℕ) (i used : ℕ) → length ns ≤ i → past used (drop i ns) ≡ []
behind_none ns i used l = ap (past used) (drop_all i ns l) ∙ past_none used

pub behind_is : (ns : List ℕ) (i used at : ℕ) → IsIn ns i used → bytes_before ns i used ≡ at → past at ns ≡ past used (drop i ns)
behind_is ns i used at is e = ap (λ k. past k ns) (sym e) ∙ past_at ns i used is.there

-- the room of the segment at a place
pub first_some :
    (ns : List ℕ) (i used at : ℕ) → IsIn ns i used → bytes_before ns i used ≡ at → i < length ns → get_or ns i 0 - used ≡ first (past at ns)
first_some ns i used at is e l = sym (ap first (behind_is ns i used at is e ∙ behind_some ns i used is l))

pub first_none : (ns : List ℕ) (i used at : ℕ) → IsIn ns i used → bytes_before ns i used ≡ at → length ns ≤ i → 0 ≡ first (past at ns)
first_none ns i used at is e l = sym (ap first (behind_is ns i used at is e ∙ behind_none ns i used l))

-- what stands before a place
pub before_is : (ns after : List ℕ) (i used at : ℕ) → IsIn ns i used → filled ns ≡ ns → bytes_before ns i used ≡ at → at ≤ sum ns →
    after ≡ take i ns ++ filled (used ∷ []) → after ≡ up_to at ns
before_is ns after i used at is all e le a =
    let end : i ≡ length ns → used ≡ 0 =
    λ (z : i ≡ length ns). let whole = ap sum (take_all i ns (omega (arith, z))) in omega (arith, e, le, whole) in
    a ∙ sym (up_to_at ns i used all is.there is.before_end end) ∙ ap (λ k. up_to k ns) e

-- a place before a cut stays
pub kept_before : (ns after : List ℕ) (i used p q : ℕ) → IsIn ns i used → p ≤ i → after ≡ take i ns ++ filled (used ∷ []) →
    bytes_before after p q ≡ bytes_before ns p q
kept_before ns after i used p q is le a =
    let long : p ≤ length (take i ns) = omega (arith, length-take-le i ns is.there, le) in
    ap (λ s. sum s + q) (ap (take p) a ∙ take-append-le p (take i ns) (filled (used ∷ [])) long ∙ take-take p i ns le)

-- and before what is joined on
pub joined_before : (ls os : List ℕ) (p q : ℕ) → p ≤ length ls → bytes_before (ls ++ os) p q ≡ bytes_before ls p q
joined_before ls os p q le = ap (λ s. sum s + q) (take-append-le p ls os le)

pub sum-append : (ls os : List ℕ) → sum (ls ++ os) ≡ sum ls + sum os
sum-append ls os = sum_by-append (λ (x : ℕ). x) ls os

-- one length more
pub filled_more : (ns old new : List ℕ) (i x : ℕ) → new ≡ old ++ filled (x ∷ []) → old ≡ filled (take i ns) → i < length ns →
    x ≡ get_or ns i 0 → new ≡ filled (take (i + 1) ns)
filled_more ns old new i x n o l e =
    n ∙ ap (λ s. s ++ filled (x ∷ [])) o ∙ ap (λ k. filled (take i ns) ++ filled (k ∷ [])) e
    ∙ sym (filled-append (take i ns) (get_or ns i 0 ∷ []))
    ∙ ap filled (sym (take_more ns i 0 l))
