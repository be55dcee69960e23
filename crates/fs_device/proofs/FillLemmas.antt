-- What a read of a file has put into a room.
use Rattle.std.proofs.Common.{◌≡◌, ℕ, ◌+◌, ◌≤◌, sum, List, [], ◌∷◌, length, take, drop, sym, ap, ◌∙◌, arith}
use Rattle.std.proofs.lemmas.List.{length-drop}
use Rattle.std.specs.List.{zip}
use Rattle.fuse_fs.specs.Lengths.{first}
use Rattle.fuse_fs.proofs.Lengths.{sum-cons}
use Rattle.vm_memory_core.specs.Host.{Host, Place, shape}
use Rattle.vm_memory_core.specs.Window.{Stores, put_all}
use Rattle.plain_machine.specs.Fills.{Fills}
use Rattle.plain_machine.specs.FillsProof.{zip-front}

-- bytes that fill a room leave so many fewer places
pub room_less : (a b : Host) (ps qs : List Place) (bytes : List ℕ) → Fills a ps bytes b qs → length ps ≡ length qs + length bytes
room_less a b ps qs bytes f = omega (arith, ap length f.left, length-drop (length bytes) ps, f.fits)

-- the first length is no more than all
pub first_within : (ns : List ℕ) → first ns ≤ sum ns
first_within [] = omega arith
first_within (n ∷ ns) = omega (arith, sum-cons n ns)

-- bytes that were stored at the front of a room
pub fills_front : (a b : Host) (ps qs front : List Place) (most n : ℕ) (bytes : List ℕ) → front ≡ take most ps → most ≤ length ps →
    Stores a b front bytes → length bytes ≡ n → n ≤ most →
    shape b ≡ shape a → qs ≡ drop n ps → Fills a ps bytes b qs
fills_front a b ps qs front most n bytes is le stored count fits same left =
    record {
      stored = stored ∙ ap (λ (l : List Place). put_all a (zip l bytes)) is
          ∙ ap (put_all a) (zip-front most ps bytes (omega (arith, fits, count)));
      left = left ∙ ap (λ k. drop k ps) (sym count);
      fits = omega (arith, fits, count, le);
      shape = same;
    }
