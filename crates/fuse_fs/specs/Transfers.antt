-- Reads and writes of a file, one segment at a time. Each continues at the offset where the one before ended.
use Rattle.std.specs.Prelude.{◌≡◌, ℕ, ◌+◌, ◌^◌, ◌<◌, ◌≤◌, ◌⊎◌, ◌==◌, min, sum, List, [], ◌∷◌, length, take}
use Rattle.std.specs.Prelude.{drop, Option, Result, Ok, Err, if◌then◌else◌}
use Rattle.std.specs.List.{concat}
use Rattle.fuse_fs.specs.Lengths.{first, past}

-- the number of bytes that a call moved; 0 if it failed
abbrev pub moved : {E : Type 0} → Result ℕ E → ℕ
moved (Ok n) = n
moved (Err e) = 0

-- a read's answer with the bytes that it read to the front of a buffer, by the buffer after it
abbrev pub bytes_answer : Result ℕ ℕ → List ℕ → Result (List ℕ) ℕ
bytes_answer (Ok n) buf = Ok (take n buf)
bytes_answer (Err e) buf = Err e

-- a read's answer with these bytes for their number
abbrev pub read_answer : Result ℕ ℕ → List ℕ → Result (List ℕ) ℕ
read_answer (Ok n) bytes = Ok bytes
read_answer (Err e) bytes = Err e

-- an answer, in which an errno that follows some bytes is replaced by their number
abbrev pub short_answer : Result ℕ ℕ → (done : ℕ) → Result ℕ ℕ
short_answer (Ok n) done = Ok n
short_answer (Err e) done = if done == 0 then Err e else Ok done

-- the same for a read, by the bytes read
abbrev pub whole_answer : Result ℕ ℕ → List ℕ → Result ℕ ℕ
whole_answer answer bytes = short_answer answer (length bytes)

-- the type of a relation that defines one read: file before, most bytes, offset, answer, file after
abbrev pub MayRead : Type 0 → Type 1
MayRead F = F → ℕ → ℕ → Result (List ℕ) ℕ → F → Type 0

-- the type of a relation that defines one write: file before, bytes, offset, flags, answer, file after
abbrev pub MayWrite : Type 0 → Type 1
MayWrite F = F → List ℕ → ℕ → Option ℕ → Result ℕ ℕ → F → Type 0

-- one read of at most `most` bytes, or none if that is 0
abbrev pub ReadsOnce : {F : Type 0} → MayRead F → F → (most off : ℕ) → List ℕ → Result ℕ ℕ → F → Type 0
ReadsOnce may f most off bytes answer g =
    (moved answer ≡ length bytes)
    × (((most ≡ 0) × (answer ≡ Ok 0) × (g ≡ f))
    ⊎ ((0 < most) × (length bytes ≤ most) × may f most off (read_answer answer bytes) g))

-- reads one after another return these parts, none of them empty: each read is for all of the first
-- segment that still has room
abbrev pub ReadsOn : {F : Type 0} → MayRead F → F → (rooms : List ℕ) → (off : ℕ) → List (List ℕ) → F → Type 0
ReadsOn may f rooms off [] g = g ≡ f
ReadsOn {F} may f rooms off (part ∷ parts) g =
    (mid : F) × (0 < length part) × (length part ≤ first rooms) × may f (first rooms) off (Ok part) mid
    × ReadsOn may mid (past (length part) rooms) (off + length part) parts g

-- the end of the reads: no room is left; the last read answers 0 or an errno; or the offset is 2^64
-- or more, which is EIO (5) without a read
abbrev pub ReadsEnd :
    {F : Type 0} → MayRead F → F → (rooms : List ℕ) → (off total : ℕ) → Result ℕ ℕ → F → Type 0
ReadsEnd may f rooms off total (Ok n) g =
    (n ≡ total) × (((first rooms ≡ 0) × (g ≡ f))
    ⊎ ((0 < first rooms) × (off < 2 ^ 64) × may f (first rooms) off (Ok []) g))
ReadsEnd may f rooms off total (Err e) g =
    (0 < first rooms)
    × (((e ≡ 5) × (2 ^ 64 ≤ off) × (g ≡ f)) ⊎ ((off < 2 ^ 64) × may f (first rooms) off (Err e) g))

-- reads of file f from an offset on into these segments return these bytes and the answer, and
-- leave the file g
pub record ReadsSegments {F : Type 0} (may : MayRead F) (f : F) (rooms : List ℕ) (off : ℕ) (bytes : List ℕ)
    (answer : Result ℕ ℕ) (g : F) : Type 0 where
  pub parts : List (List ℕ)
  pub mid : F
  pub whole : concat parts ≡ bytes
  pub reads : ReadsOn may f rooms off parts mid
  pub ends : ReadsEnd may mid (past (length bytes) rooms) (off + length bytes) (length bytes) answer g

-- one write of at most count bytes of the first segment, or none if there are none
abbrev pub WritesOnce : {F : Type 0} → MayWrite F → F → (left segments : List ℕ) → (count off : ℕ) →
    Option ℕ → Result ℕ ℕ → F → Type 0
WritesOnce may f left segments count off flags answer g =
    ((min count (first segments) ≡ 0) × (answer ≡ Ok 0) × (g ≡ f))
    ⊎ ((0 < min count (first segments))
    × (moved answer ≤ min count (first segments))
    × may f (take (min count (first segments)) left) off flags answer g)

-- writes one after another, none of them answering 0: each is of the first segment of the bytes
-- that the ones before left
abbrev pub WritesOn :
    {F : Type 0} → MayWrite F → F → (bytes segments : List ℕ) → (off : ℕ) → Option ℕ → List ℕ → F → Type 0
WritesOn may f bytes segments off flags [] g = g ≡ f
WritesOn {F} may f bytes segments off flags (n ∷ ns) g =
    (mid : F) × (0 < n) × (n ≤ first segments) × may f (take (first segments) bytes) off flags (Ok n) mid
    × WritesOn may mid (drop n bytes) (past n segments) (off + n) flags ns g

-- the end of the writes: nothing is left; the last write answers 0 or an errno; or the offset is
-- 2^64 or more, which is EIO (5) without a write
abbrev pub WritesEnd : {F : Type 0} → MayWrite F → F → (bytes segments : List ℕ) → (off : ℕ) → Option ℕ →
    (total : ℕ) → Result ℕ ℕ → F → Type 0
WritesEnd may f bytes segments off flags total (Ok n) g =
    (n ≡ total) × (((first segments ≡ 0) × (g ≡ f))
    ⊎ ((0 < first segments) × (off < 2 ^ 64) × may f (take (first segments) bytes) off flags (Ok 0) g))
WritesEnd may f bytes segments off flags total (Err e) g =
    (0 < first segments) × (((e ≡ 5) × (2 ^ 64 ≤ off) × (g ≡ f))
    ⊎ ((off < 2 ^ 64) × may f (take (first segments) bytes) off flags (Err e) g))

-- writes to file f from an offset on of these bytes in these segments write `total` of them, return
-- the answer, and leave the file g
pub record Spends {F : Type 0} (may : MayWrite F) (f : F) (bytes segments : List ℕ) (off : ℕ)
    (flags : Option ℕ) (total : ℕ) (answer : Result ℕ ℕ) (g : F) : Type 0 where
  pub parts : List ℕ
  pub mid : F
  pub whole : sum parts ≡ total
  pub writes : WritesOn may f bytes segments off flags parts mid
  pub ends : WritesEnd may mid (drop total bytes) (past total segments) (off + total) flags total answer g
