-- What stands in front of an input is at most one record.
use Rattle.std.proofs.Common.{◌≡◌, ℕ, suc, ◌+◌, ◌*◌, ◌<◌, ◌≤◌, ◌^◌, Bool, true, false, ◌||◌, nat_le, List, [], ◌∷◌, ◌++◌, length, Some}
use Rattle.std.proofs.Common.{None, arith, refl, sym, ap, ◌∙◌, append_assoc}
use Rattle.std.proofs.lemmas.Bool.{leb-false}
use Rattle.std.proofs.lemmas.List.Concat.{flat_map-cons}
use Rattle.std.specs.Prelude.{All, if◌then◌else◌}
use Rattle.std.specs.List.{flat_map}
use Rattle.bitflags.specs.Sets.{known_bits, known_from}
use Rattle.fuse_base.specs.Flags.{fs_options}
use Rattle.vm_values.specs.Fields.{spelled, field_bytes, Fits, AllFit}
use Rattle.vm_values.specs.UniqueProof.{halves, fields_once}
use Rattle.fs_queue.specs.Lawful.{layout_error}
use Rattle.fs_queue.specs.Queue.{Queue}
use Rattle.fs_queue.specs.declared.fault.QueueLayoutError.TheVariants.{BadSize, Misaligned, EndOverflow}
use Rattle.fs_record.specs.Fields.{head_fields, queue_fields, limit_fields}
use Rattle.fs_record.specs.Laws.{OneReading}
use Rattle.fs_record.specs.Record.{Version, First, Second, version_number, page_size_word, HasItsBits, flag, saved, head_of, queue_bytes}
use Rattle.fs_record.specs.Record.{end_bytes, record_bytes, HasKnownBits, IsSavedQueue}
use lib.Bits.{and_le_r}

-- ---- the parts have one length each

head_length : (v : Version) (options count : ℕ) → length (spelled (head_fields (head_of v options count))) ≡ 24
unfolding field_bytes
head_length v options count = refl

limit_length : (limit : ℕ) → length (spelled (limit_fields limit)) ≡ 8
unfolding field_bytes
limit_length limit = refl

queue_length : (q : Queue) → length (queue_bytes q) ≡ 32
unfolding field_bytes
queue_length q = refl

-- ---- their numbers fit

known_options_are : known_bits fs_options ≡ 0x117fbffffff
unfolding known_from
known_options_are = refl

options_fit : (options : ℕ) → HasKnownBits options → options < 2 ^ 64
options_fit options known = omega (arith, known, known_options_are, and_le_r options (known_bits fs_options))

version_fits : (v : Version) → version_number v < 2 ^ 32
version_fits First = omega arith
version_fits (Second page_size limit) = omega arith

page_size_fits : (v : Version) → HasItsBits v → page_size_word v < 2 ^ 32
page_size_fits First h = omega arith
page_size_fits (Second page_size limit) h = h.0

head_fits :
    (v : Version) (options count : ℕ) → HasItsBits v → HasKnownBits options → count ≤ 64 → AllFit (head_fields (head_of v options count))
unfolding Fits
head_fits v options count bits known few =
    (omega arith, (version_fits v, (omega (arith, few), (page_size_fits v bits, (options_fit options known, tt)))))

limit_fits : (limit : ℕ) → limit < 2 ^ 64 → AllFit (limit_fields limit)
unfolding Fits
limit_fits limit h = (h, tt)

no_overflow : (size misaligned ends : Bool)
    → (if size then Some BadSize else if misaligned then Some Misaligned else if ends then Some EndOverflow else None) ≡ None → ends ≡ false
no_overflow false false false h = refl
no_overflow _ _ _ h = absurd (cc)

neither : (a b c : Bool) → (a || b || c) ≡ false → (a ≡ false) × (b ≡ false) × (c ≡ false)
neither false false false h = (refl, refl, refl)
neither _ _ _ h = absurd (cc)

parts_fit : (size desc avail used : ℕ) → layout_error size desc avail used ≡ None → (desc < 2 ^ 64) × (avail < 2 ^ 64) × (used < 2 ^ 64)
parts_fit size desc avail used lawful =
    let ends = neither (nat_le (2 ^ 64) (desc + 16 * size)) (nat_le (2 ^ 64) (avail + (6 + 2 * size)))
    (nat_le (2 ^ 64) (used + (6 + 8 * size))) (no_overflow _ _ _ lawful) in (
      omega (arith, leb-false (2 ^ 64) (desc + 16 * size) ends.0),
      omega (arith, leb-false (2 ^ 64) (avail + (6 + 2 * size)) ends.1),
      omega (arith, leb-false (2 ^ 64) (used + (6 + 8 * size)) ends.2),
    )

flag_fits : (b : Bool) → flag b < 2 ^ 32
flag_fits true = omega arith
flag_fits false = omega arith

queue_fits : (q : Queue) → IsSavedQueue q → AllFit (queue_fields (saved q))
unfolding Fits
queue_fits q h =
    let ends = parts_fit q.size q.desc q.avail q.used h.0 in
    (h.1, (h.2, (flag_fits q.stopped, (ends.0, (ends.1, (ends.2, tt))))))

-- ---- equal parts are of equal values

flag_once : (a b : Bool) → flag a ≡ flag b → a ≡ b
flag_once true false h = absurd (omega (arith, h))
flag_once false true h = absurd (omega (arith, h))
flag_once _ _ h = refl

same_saved : (x y : Queue) → queue_fields (saved x) ≡ queue_fields (saved y) → x ≡ y
same_saved x y h =
    let size : x.size ≡ y.size = cc in
    let position : x.position ≡ y.position = cc in
    let stopped : flag x.stopped ≡ flag y.stopped = cc in
    let desc : x.desc ≡ y.desc = cc in
    let avail : x.avail ≡ y.avail = cc in
    let used : x.used ≡ y.used = cc in
    let was : x.stopped ≡ y.stopped = flag_once x.stopped y.stopped stopped in
    λ i. record { size = size i; desc = desc i; avail = avail i; used = used i; position = position i; stopped = was i }

-- ---- queues one after another

lawful_first : (x : Queue) (xs : List Queue) → All IsSavedQueue (x ∷ xs) → IsSavedQueue x
lawful_first x xs all = all 0 x (omega arith)

lawful_others : (x : Queue) (xs : List Queue) → All IsSavedQueue (x ∷ xs) → All IsSavedQueue xs
lawful_others x xs all = λ k d below. all (suc k) d (omega (arith, below))

queues_once : (xs ys : List Queue) (s t : List ℕ) → length xs ≡ length ys → All IsSavedQueue xs → All IsSavedQueue ys
    → flat_map queue_bytes xs ++ s ≡ flat_map queue_bytes ys ++ t → (xs ≡ ys) × (s ≡ t)
queues_once [] [] s t l p q e = (refl, e)
queues_once (x ∷ xs) (y ∷ ys) s t l p q e =
    let apart : queue_bytes x ++ (flat_map queue_bytes xs ++ s) ≡ queue_bytes y ++ (flat_map queue_bytes ys ++ t) =
    sym (append_assoc (queue_bytes x) (flat_map queue_bytes xs) s) ∙ ap (λ l. l ++ s) (sym (flat_map-cons queue_bytes x xs)) ∙ e
    ∙ ap (λ l. l ++ t) (flat_map-cons queue_bytes y ys) ∙ append_assoc (queue_bytes y) (flat_map queue_bytes ys) t in
    let cut = halves (queue_bytes x) (queue_bytes y) (flat_map queue_bytes xs ++ s) (flat_map queue_bytes ys ++ t)
    (queue_length x ∙ sym (queue_length y)) apart in
    let fields = fields_once (queue_fields (saved x)) (queue_fields (saved y)) refl (queue_fits x (lawful_first x xs p))
    (queue_fits y (lawful_first y ys q)) cut.0 in
    let one : x ≡ y = same_saved x y fields in
    let others = queues_once xs ys s t (omega (arith, l)) (lawful_others x xs p) (lawful_others y ys q) cut.1 in
    (λ i. one i ∷ others.0 i, others.1)
queues_once _ _ s t l p q e = absurd (omega (arith, l))

-- ---- what stands behind the queues

same_limit : (a b : ℕ) → limit_fields a ≡ limit_fields b → a ≡ b
same_limit a b h = cc

ends_once : (v v' : Version) (s t : List ℕ) → HasItsBits v → HasItsBits v' → version_number v ≡ version_number v'
    → page_size_word v ≡ page_size_word v'
    → end_bytes v ++ s ≡ end_bytes v' ++ t → (v ≡ v') × (s ≡ t)
ends_once First First s t b b' number size e = (refl, e)
ends_once (Second page_size limit) (Second page_size' limit') s t b b' number size e =
    let cut = halves (spelled (limit_fields limit)) (spelled (limit_fields limit')) s t
    (limit_length limit ∙ sym (limit_length limit')) e in
    let fields = fields_once (limit_fields limit) (limit_fields limit') refl (limit_fits limit b.1) (limit_fits limit' b'.1) cut.0 in
    let same : limit ≡ limit' = same_limit limit limit' fields in
    (λ i. Second (size i) (same i), cut.1)
ends_once _ _ s t b b' number size e = absurd (omega (arith, number))

-- ---- a record

parted : (v : Version) (options : ℕ) (queues : List Queue) (rest : List ℕ) → record_bytes v options queues ++ rest
    ≡ spelled (head_fields (head_of v options (length queues))) ++ (flat_map queue_bytes queues ++ (end_bytes v ++ rest))
parted v options queues rest =
    let head = spelled (head_fields (head_of v options (length queues))) in
    append_assoc (head ++ flat_map queue_bytes queues) (end_bytes v) rest
    ∙ append_assoc head (flat_map queue_bytes queues) (end_bytes v ++ rest)

pub one_reading : OneReading
one_reading v v' options options' queues queues' bytes bytes' rest rest' first second same =
    let head = spelled (head_fields (head_of v options (length queues))) in
    let head' = spelled (head_fields (head_of v' options' (length queues'))) in
    let apart : head ++ (flat_map queue_bytes queues ++ (end_bytes v ++ rest))
    ≡ head' ++ (flat_map queue_bytes queues' ++ (end_bytes v' ++ rest')) =
    sym (parted v options queues rest) ∙ ap (λ l. l ++ rest) (sym first.0) ∙ same ∙ ap (λ l. l ++ rest') second.0
    ∙ parted v' options' queues' rest' in
    let cut = halves head head' (flat_map queue_bytes queues ++ (end_bytes v ++ rest))
    (flat_map queue_bytes queues' ++ (end_bytes v' ++ rest'))
    (head_length v options (length queues) ∙ sym (head_length v' options' (length queues'))) apart in
    let fields = fields_once (head_fields (head_of v options (length queues))) (head_fields (head_of v' options' (length queues'))) refl
    (head_fits v options (length queues) first.1 first.2.0 first.2.2)
    (head_fits v' options' (length queues') second.1 second.2.0 second.2.2) cut.0 in
    let number : version_number v ≡ version_number v' = cc in
    let size : page_size_word v ≡ page_size_word v' = cc in
    let agreed : options ≡ options' = cc in
    let count : length queues ≡ length queues' = cc in
    let others = queues_once queues queues' (end_bytes v ++ rest) (end_bytes v' ++ rest') count first.2.3 second.2.3 cut.1 in
    let ends = ends_once v v' rest rest' first.1 second.1 number size others.1 in
    (ends.0, agreed, others.0, ends.1)
