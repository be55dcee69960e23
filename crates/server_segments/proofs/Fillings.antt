-- What reads of a file have put into a buffer, and a writer as such a buffer.
use Rattle.std.proofs.Common.{◌≡◌, ℕ, ◌+◌, List, [], ◌++◌, length, sum, Result, ◌∙◌, ap, sym, refl, subst, arith, length-append}
use Rattle.fuse_fs.specs.Lengths.{past, up_to}
use Rattle.fuse_fs.specs.Transfers.{MayRead, ReadsSegments}
use Rattle.fuse_fs.proofs.SegmentReads.{Filling, Filled, Added}
use Rattle.fuse_fs.proofs.Lengths.{sum-past, past-past}
use Rattle.server_segments.specs.ReaderAndWriterView.{WriterView, rooms}

abbrev pub filling : List ℕ → ℕ → List ℕ → Filling
filling got room rooms = record { put = got; room = room; rooms = rooms }

pub added : {room left : ℕ} {rooms rest : List ℕ} (got bytes : List ℕ) → room ≡ left + length bytes → rest ≡ past (length bytes) rooms →
    Added (filling got room rooms) bytes (filling (got ++ bytes) left rest)
added got bytes room rooms = record { put = refl; room = room; rooms = rooms }

-- what reads have put in in the end
pub all_put : (Puts : List ℕ → Type 0) {F : Type 0} (may : MayRead F) {f g : F} {got rest : List ℕ} {room off : ℕ} {answer : Result ℕ ℕ}
    (rooms : List ℕ) (left count : ℕ) → Puts got →
    Filled may f (filling [] room rooms) count off answer (filling got left rest) g →
    (bytes : List ℕ) × Puts bytes × (room ≡ left + length bytes) × (rest ≡ past (length bytes) rooms) × (sum rooms ≡ room)
    × ReadsSegments may f (up_to count rooms) off bytes answer g
all_put Puts may rooms left count puts t = (t.0, subst Puts t.1 puts, t.2, t.3, t.4, t.5)

-- the free bytes of a writer lie in its last segments
pub all_free : (w : WriterView) → sum w.segments ≡ length w.written + w.free → sum (rooms w) ≡ w.free
all_free w s = omega (arith, sum-past (length w.written) w.segments, s)

-- a writer's last segments after some of their bytes were written
pub rooms_more : (w v : WriterView) (part : List ℕ) → v.written ≡ w.written ++ part → v.segments ≡ w.segments →
    rooms v ≡ past (length part) (rooms w)
rooms_more w v part e s =
    ap (λ ns. past (length v.written) ns) s ∙ ap (λ (k : ℕ). past k w.segments) (ap length e ∙ length-append w.written part)
    ∙ sym (past-past (length part) (length w.written) w.segments)
