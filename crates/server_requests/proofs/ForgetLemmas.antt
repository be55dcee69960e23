-- Pairs of BATCH_FORGET, one after another.
use Rattle.std.proofs.Common.{◌≡◌, ℕ, zero, suc, ◌+◌, ◌*◌, ◌<◌, ◌≤◌, true, List, [], ◌∷◌, ◌++◌, length, drop, take, Ok, Err, refl, sym, ap}
use Rattle.std.proofs.Common.{◌∙◌, arith, append_assoc, append-nil, ⊎_elim}
use Rattle.std.proofs.lemmas.Bool.{cases_lt, lt-ltb, le-ltb}
use Rattle.std.specs.Prelude.{◌/◌}
use Rattle.std.proofs.lemmas.List.{length-drop, length-take-le, take-take, drop-take}
use Rattle.server_segments.specs.declared.error.Error.TheVariants.{DecodeMessage}
use Rattle.fuse_wire.specs.declared.others.ForgetOne.{ForgetOne}
use Rattle.fuse_wire.specs.Records.{forget_one}
use Rattle.server_segments.specs.declared.error.Error.{Error}
use Rattle.fuse_values.specs.Values.{pair_in, pairs_of, pairs_in}
use Rattle.server_requests.specs.Reading.{Parsed, Faults, and_then, many, record_parser, value_of}
use Rattle.server_requests.specs.Fronts.{forget_pair, has_pairs}

-- a list that was read, behind another
abbrev pub behind : {A : Type 0} → List A → Parsed (List A) → Parsed (List A)
behind done r = and_then r (λ x. Ok (done ++ x.0, x.1))

pub pair_read : (bytes more : List ℕ) (r : ForgetOne) → Ok (r, more) ≡ record_parser forget_one bytes →
    forget_pair bytes ≡ Ok ((r.nodeid, r.nlookup), more)
pair_read bytes more r h = rw (← h) refl

pub pair_short : (bytes : List ℕ) (e : Error) → Err (Faults e) ≡ record_parser forget_one bytes → forget_pair bytes ≡ Err (Faults e)
pair_short bytes e h = rw (← h) refl

behind_one :
    {A : Type 0} (done : List A) (x : A) (r : Parsed (List A)) → behind done (and_then r (λ y. Ok (x ∷ y.0, y.1)))
    ≡ behind (done ++ x ∷ []) r
behind_one done x (Ok y) = ap (λ (all : List _). Ok (all, y.1)) (sym (append_assoc done (x ∷ []) y.0))
behind_one done x (Err e) = refl

-- one more
pub many_next : (left n : ℕ) (whole : Parsed (List (ℕ × ℕ))) (done : List (ℕ × ℕ)) (x : ℕ × ℕ) (bytes more : List ℕ) → left ≡ suc n
    → whole ≡ behind done (many left forget_pair bytes) → forget_pair bytes ≡ Ok (x, more)
    → whole ≡ behind (done ++ x ∷ []) (many n forget_pair more)
unfolding many
many_next left n whole done x bytes more e w h = w ∙ rw (e, h) (behind_one done x (many n forget_pair more))

-- the end, or one that is short
pub many_end : (left : ℕ) (whole : Parsed (List (ℕ × ℕ))) (done : List (ℕ × ℕ)) (bytes : List ℕ) → left ≡ 0 →
    whole ≡ behind done (many left forget_pair bytes) → Ok (done, bytes) ≡ whole
unfolding many
many_end left whole done bytes e w = sym (w ∙ rw (e, append-nil done) refl)

pub many_short : (left n : ℕ) (whole : Parsed (List (ℕ × ℕ))) (done : List (ℕ × ℕ)) (bytes : List ℕ) (e : Error) → left ≡ suc n
    → whole ≡ behind done (many left forget_pair bytes) → forget_pair bytes ≡ Err (Faults e) → Err (Faults e) ≡ whole
unfolding many
many_short left n whole done bytes e k w h = sym (w ∙ rw (k, h) refl)

pair_there : (bytes : List ℕ) → 16 ≤ length bytes → forget_pair bytes ≡ Ok (pair_in bytes, drop 16 bytes)
unfolding record_parser
pair_there bytes h = rw (le-ltb (length bytes) 16 h) refl

pair_cut : (bytes : List ℕ) → length bytes < 16 → forget_pair bytes ≡ Err (Faults DecodeMessage)
unfolding record_parser
pair_cut bytes h = rw (lt-ltb (length bytes) 16 h) refl

-- too few bytes for all of them
pub many_few : (n : ℕ) (bytes : List ℕ) → length bytes < n * 16 → many n forget_pair bytes ≡ Err (Faults DecodeMessage)
unfolding many
many_few zero bytes h = absurd (omega (arith, h))
many_few (suc n) bytes h =
    ⊎_elim
    (λ (l : length bytes < 16). rw (pair_cut bytes l) refl)
    (λ (l : 16 ≤ length bytes).
    let few : length (drop 16 bytes) < n * 16 = rw (length-drop 16 bytes) (omega (arith, h, l)) in
    rw (pair_there bytes l, many_few n (drop 16 bytes) few) refl)
    (cases_lt (length bytes) 16)

-- enough for all of them
abbrev Pairs : ℕ → List ℕ → Type 0
Pairs n bytes = (more : List ℕ) × (many n forget_pair bytes ≡ Ok (pairs_of n bytes, more)) × (length (pairs_of n bytes) ≡ n)

many_there : (n : ℕ) (bytes : List ℕ) → n * 16 ≤ length bytes → Pairs n bytes
unfolding many pairs_of
many_there zero bytes h = (bytes, refl, refl)
many_there (suc n) bytes h =
    let one : 16 ≤ length bytes = omega (arith, h) in
    let others = many_there n (drop 16 bytes) (rw (length-drop 16 bytes) (omega (arith, h))) in
    (others.0, rw (pair_there bytes one, others.1) refl, ap suc others.2)

pub pairs_there : (n : ℕ) (bytes : List ℕ) → n * 16 ≤ length bytes → 0 < n → has_pairs (many n forget_pair bytes) ≡ true
pairs_there n bytes h l =
    let all = many_there n bytes h in
    let some : 0 < length (pairs_of n bytes) = rw all.2 l in
    rw all.1 (lt-ltb 0 (length (pairs_of n bytes)) some)

-- the pairs of the bytes that hold them alone
pairs_kept : (n : ℕ) (bytes : List ℕ) → pairs_of n (take (n * 16) bytes) ≡ pairs_of n bytes
unfolding pairs_of
pairs_kept zero bytes = refl
pairs_kept (suc n) bytes =
    let front : take 16 (take (suc n * 16) bytes) ≡ take 16 bytes = take-take 16 (suc n * 16) bytes (omega arith) in
    let more : suc n * 16 ≡ 16 + n * 16 = omega arith in
    let rest : drop 16 (take (suc n * 16) bytes) ≡ take (n * 16) (drop 16 bytes) =
    ap (λ k. drop 16 (take k bytes)) more ∙ drop-take 16 (n * 16) bytes in
    rw (front, rest, pairs_kept n (drop 16 bytes)) refl

pub pairs_read :
    (n : ℕ) (bytes : List ℕ) → n * 16 ≤ length bytes → value_of (many n forget_pair bytes) ≡ Ok (pairs_in (take (n * 16) bytes))
pairs_read n bytes h =
    let all = many_there n bytes h in
    let long : length (take (n * 16) bytes) ≡ n * 16 = length-take-le (n * 16) bytes h in
    let count : length (take (n * 16) bytes) / 16 ≡ n = rw long (omega arith) in
    ap value_of all.1 ∙ ap Ok (sym (rw count (pairs_kept n bytes)))

pub pairs_cut : (n : ℕ) (bytes : List ℕ) → length bytes < n * 16 → value_of (many n forget_pair bytes) ≡ Err (Faults DecodeMessage)
pairs_cut n bytes h = rw (many_few n bytes h) refl
