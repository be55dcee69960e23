-- The queues of a record, one after another.
use Rattle.std.proofs.Common.{◌≡◌, ℕ, zero, suc, ◌+◌, ◌<◌, ◌^◌, Bool, true, false, inl, inr, List, [], ◌∷◌, ◌++◌, length, take, drop}
use Rattle.std.proofs.Common.{get_or, Option, Some}
use Rattle.std.proofs.Common.{None, Result, Ok, Err, arith, refl, sym, ap, ◌∙◌, subst, add-one, append_assoc, append-nil, length-append}
use Rattle.std.proofs.Common.{drop-cons}
use Rattle.std.proofs.Math.Seq.{take-suc}
use Rattle.std.proofs.lemmas.List.Elements.{All-append}
use Rattle.std.proofs.lemmas.Grind.{flat_map-append}
use Rattle.std.proofs.lemmas.List.Concat.{flat_map-cons}
use Rattle.std.specs.Prelude.{All, IfErr, if◌then◌else◌}
use Rattle.std.specs.List.{flat_map}
use Rattle.std.specs.Io.KnownBytes.{Appends}
use Rattle.std.proofs.KnownBytes.{Appends-trans}
use Rattle.fs_queue.specs.Queue.{Queue}
use Rattle.vm_values.specs.Fields.{spelled, AllFit}
use Rattle.fs_record.specs.Fields.{head_fields}
use Rattle.fs_record.specs.Record.{Version, Second, ProceedsWith, HasItsBits, IsRecordFor, head_error, head_of, record_front, queue_bytes}
use Rattle.fs_record.specs.Record.{end_bytes, IsSavedQueue}
use Rattle.fs_record.specs.Restoring.{IsRecordFront, RefusesRecord, RefusesQueue, RefusesEnd, LeavesSource, versioned}
use Rattle.fs_record.specs.declared.fields.RecordHead.{RecordHead}
use Rattle.fs_record.specs.declared.fields.RecordVersion.{RecordVersion}
use Rattle.fs_record.specs.declared.fields.RecordVersion.TheVariants as versions
use Rattle.fs_record.specs.declared.error.RestoreError.{RestoreError}
use Rattle.fs_record.specs.declared.error.RestoreError.TheVariants.{Truncated, BadMagic, BadVersion, BadCount, BadReserved, BadQueue}
use Rattle.fs_record.specs.declared.error.RestoreError.TheVariants.{BadOptions, ReadFault, Mismatch}

-- the next queue's bytes, and then those of the later ones
pub next_queue : (queues : List Queue) (i : ℕ) (q : Queue) → i < length queues → q ≡ get_or queues i q →
    flat_map queue_bytes (drop i queues) ≡ queue_bytes q ++ flat_map queue_bytes (drop (i + 1) queues)
next_queue queues i q within is =
    ap (flat_map queue_bytes) (drop-cons queues i q within) ∙ flat_map-cons queue_bytes (get_or queues i q) (drop (suc i) queues)
    ∙ ap (λ (p : Queue). queue_bytes p ++ flat_map queue_bytes (drop (suc i) queues)) (sym is)
    ∙ ap (λ k. queue_bytes q ++ flat_map queue_bytes (drop k queues)) (sym (add-one i))

one_at : (q d : Queue) (k : ℕ) → k < 1 → IsSavedQueue q → IsSavedQueue (get_or (q ∷ []) k d)
one_at q d zero below h = h
one_at q d (suc n) below h = absurd (omega (arith, below))

one_lawful : (q : Queue) → IsSavedQueue q → All IsSavedQueue (q ∷ [])
one_lawful q h = λ k d below. one_at q d k below h

-- one lawful queue more
pub more_lawful : (queues : List Queue) (i : ℕ) (q : Queue) → i < length queues → q ≡ get_or queues i q → All IsSavedQueue (take i queues) →
    IsSavedQueue q → All IsSavedQueue (take (i + 1) queues)
more_lawful queues i q within is before one =
    let cut : take (i + 1) queues ≡ take i queues ++ q ∷ [] =
    ap (λ k. take k queues) (add-one i) ∙ take-suc queues i q within ∙ ap (λ (p : Queue). take i queues ++ p ∷ []) (sym is) in
    subst (All IsSavedQueue) (sym cut) (All-append IsSavedQueue (take i queues) (q ∷ []) before (one_lawful q one))

-- a queue went out behind the part before it
pub put_queue : (whole part one later left : List ℕ) (a b c : Option (List ℕ)) → whole ≡ part ++ left → left ≡ one ++ later
    → Appends a b part → Appends b c one
    → (x : List ℕ) × (whole ≡ x ++ later) × Appends a c x
put_queue whole part one later left a b c all next before more =
    (part ++ one, all ∙ ap (λ l. part ++ l) next ∙ sym (append_assoc part one later), Appends-trans a b c part one before more)

-- a front with one queue more
pub front_more : (bytes : List ℕ) (v : Version) (options count : ℕ) (queues : List Queue) (q : Queue)
    → IsRecordFront bytes v options count queues → length queues < count → IsSavedQueue q
    → IsRecordFront (bytes ++ queue_bytes q) v options count (queues ++ q ∷ [])
front_more bytes v options count queues q front short one =
    let head = spelled (head_fields (head_of v options count)) in
    let all : flat_map queue_bytes (queues ++ q ∷ []) ≡ flat_map queue_bytes queues ++ queue_bytes q =
    flat_map-append queue_bytes queues (q ∷ []) ∙ ap (λ l. flat_map queue_bytes queues ++ l) (append-nil (queue_bytes q)) in (
      ap (λ l. l ++ queue_bytes q) front.0 ∙ append_assoc head (flat_map queue_bytes queues) (queue_bytes q)
          ∙ ap (λ l. head ++ l) (sym all),
      front.1,
      front.2,
      front.3,
      rw length-append (omega (arith, short)),
      All-append IsSavedQueue queues (q ∷ []) front.5 (one_lawful q one),
    )

-- what is wrong with a queue behind a front
pub queue_refuses : (bytes part : List ℕ) (page_size limit : ℕ) (v : Version) (options count index : ℕ) (queues : List Queue)
    (e : RestoreError) → ProceedsWith page_size limit v
    → IsRecordFront bytes v options count queues → length queues ≡ index → index < count → RefusesQueue part index e
    → RefusesRecord (bytes ++ part) page_size limit e
queue_refuses bytes part page_size limit v options count index queues Truncated proceeds front at below h =
    inr (inl (v, options, count, queues, bytes, part, proceeds, front, omega (arith, at, below), refl, h))
queue_refuses bytes part page_size limit v options count index queues ReadFault proceeds front at below h =
    inr (inl (v, options, count, queues, bytes, part, proceeds, front, omega (arith, at, below), refl, h))
queue_refuses bytes part page_size limit v options count index queues (BadQueue i) proceeds front at below h =
    (v, options, count, queues, bytes, h.1, proceeds, front, at ∙ sym h.0, omega (arith, below, h.0), ap (λ l. bytes ++ l) h.2, h.3, h.4)
queue_refuses bytes part page_size limit v options count index queues _ proceeds front at below h = absurd h

-- a source that hadn't failed before is left so too
pub leaves_too : (e : RestoreError) (has : Option (List ℕ)) (before failed fails : Bool) → failed ≡ before →
    LeavesSource e has failed fails → LeavesSource e has before fails
leaves_too e has before failed fails same h = subst (λ (b : Bool). LeavesSource e has b fails) same h

-- ---- what stands behind the queues

-- a version, with a page size and a limit, goes with them
pub proceeds_with : (v : RecordVersion) (page_size limit : ℕ) → ProceedsWith page_size limit (versioned v page_size limit)
proceeds_with versions.First page_size limit = inl refl
proceeds_with versions.Second page_size limit = inr refl

-- a front doesn't tell the limit
pub with_limit : (v : RecordVersion) (bytes : List ℕ) (page_size limit options count : ℕ) (queues : List Queue)
    → IsRecordFront bytes (versioned v page_size 0) options count queues
    → IsRecordFront bytes (versioned v page_size limit) options count queues
with_limit versions.First bytes page_size limit options count queues front = front
with_limit versions.Second bytes page_size limit options count queues front = front

-- the end doesn't tell the page size
same_end : (v : RecordVersion) (page_size limit : ℕ) → end_bytes (versioned v 0 limit) ≡ end_bytes (versioned v page_size limit)
same_end versions.First page_size limit = refl
same_end versions.Second page_size limit = refl

has_its_bits : (v : RecordVersion) (page_size limit : ℕ) → page_size < 2 ^ 32 → limit < 2 ^ 64 → HasItsBits (versioned v page_size limit)
has_its_bits versions.First page_size limit a b = tt
has_its_bits versions.Second page_size limit a b = (a, b)

-- a front with all its queues, and the end behind it, are a record
pub whole_record :
    (bytes : List ℕ) (v : RecordVersion) (page_size limit options count : ℕ) (queues : List Queue) → page_size < 2 ^ 32 → limit < 2 ^ 64
    → IsRecordFront bytes (versioned v page_size limit) options count queues → length queues ≡ count
    → IsRecordFor (bytes ++ end_bytes (versioned v 0 limit)) page_size limit options queues
whole_record bytes v page_size limit options count queues small low front all =
    let version = versioned v page_size limit in (
      version,
      proceeds_with v page_size limit,
      (
        ap (λ l. l ++ end_bytes (versioned v 0 limit)) front.0
            ∙ ap (λ n. record_front version options n queues ++ end_bytes (versioned v 0 limit)) (sym all)
            ∙ ap (λ l. record_front version options (length queues) queues ++ l) (same_end v page_size limit),
        has_its_bits v page_size limit small low,
        (front.1, omega (arith, front.2, all), omega (arith, front.3, all), front.5),
      ),
    )

-- what is wrong behind the queues, of version 2
second_front : (bytes : List ℕ) (v : RecordVersion) (page_size limit options count : ℕ) (queues : List Queue) → v ≡ versions.Second
    → IsRecordFront bytes (versioned v page_size limit) options count queues
    → IsRecordFront bytes (Second page_size limit) options count queues
second_front bytes v page_size limit options count queues is front =
    subst (λ (w : RecordVersion). IsRecordFront bytes (versioned w page_size limit) options count queues) is front

pub end_refuses : (bytes part : List ℕ) (v : RecordVersion) (page_size limit options count : ℕ) (queues : List Queue) (e : RestoreError)
    → IsRecordFront bytes (versioned v page_size limit) options count queues → length queues ≡ count → RefusesEnd part v limit e
    → RefusesRecord (bytes ++ part) page_size limit e
end_refuses bytes part v page_size limit options count queues Truncated front all h =
    inr (inr (options, count, queues, bytes, part, second_front bytes v page_size limit options count queues h.0 front, all, refl, h.1))
end_refuses bytes part v page_size limit options count queues ReadFault front all h =
    inr (inr (options, count, queues, bytes, part, second_front bytes v page_size limit options count queues h.0 front, all, refl, h.1))
end_refuses bytes part v page_size limit options count queues Mismatch front all h =
    inr (
      options,
      count,
      queues,
      bytes,
      h.1,
      second_front bytes v page_size limit options count queues h.0 front,
      all,
      ap (λ l. bytes ++ l) h.2,
      h.3,
      h.4,
    )
end_refuses bytes part v page_size limit options count queues _ front all h = absurd h

-- ---- what is wrong with a head

some_once : (x y : RestoreError) → Some x ≡ Some y → x ≡ y
some_once x y h = cc

one_of : (P : RestoreError → Type 0) (a b c d f g : Bool) (e : RestoreError) → P BadMagic → P BadVersion → P BadCount → P BadReserved
    → P Mismatch → P BadOptions
    → (if a then Some BadMagic else if b then Some BadVersion else if c then Some BadCount else if d then Some BadReserved
    else if f then Some Mismatch else if g then Some BadOptions else None) ≡ Some e → P e
one_of P true b c d f g e m v n r s o h = subst P (some_once BadMagic e h) m
one_of P false true c d f g e m v n r s o h = subst P (some_once BadVersion e h) v
one_of P false false true d f g e m v n r s o h = subst P (some_once BadCount e h) n
one_of P false false false true f g e m v n r s o h = subst P (some_once BadReserved e h) r
one_of P false false false false true g e m v n r s o h = subst P (some_once Mismatch e h) s
one_of P false false false false false true e m v n r s o h = subst P (some_once BadOptions e h) o
one_of P false false false false false false e m v n r s o h = absurd (cc)

pub head_refuses : (bytes : List ℕ) (page_size limit : ℕ) (h : RecordHead) (e : RestoreError) → bytes ≡ spelled (head_fields h)
    → AllFit (head_fields h) → head_error page_size h ≡ Some e
    → RefusesRecord bytes page_size limit e
head_refuses bytes page_size limit h e are fit is =
    one_of (λ x. head_error page_size h ≡ Some x → RefusesRecord bytes page_size limit x) _ _ _ _ _ _ e (λ i. (h, are, fit, i))
    (λ i. (h, are, fit, i)) (λ i. (h, are, fit, i)) (λ i. (h, are, fit, i))
    (λ i. inl (h, are, fit, i)) (λ i. (h, are, fit, i)) is is

pub head_leaves : (page_size : ℕ) (h : RecordHead) (e : RestoreError) (has : Option (List ℕ)) (failed fails : Bool) →
    head_error page_size h ≡ Some e → fails ≡ failed → LeavesSource e has failed fails
head_leaves page_size h e has failed fails is same =
    one_of (λ x. LeavesSource x has failed fails) _ _ _ _ _ _ e same same same same same same is

pub if_err : {X E : Type 0} {P Q : E → Type 0} (r : Result X E) → ((e : E) → P e → Q e) → IfErr r P → IfErr r Q
if_err (Ok x) f p = tt
if_err (Err e) f p = f e p
