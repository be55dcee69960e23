-- What memory a request takes, by the call that it asks for.
use Rattle.std.proofs.Common.{◌≡◌, ℕ, Bool, true, false, List, Ok, refl, sym, ap, ◌∙◌}
use Rattle.std.specs.Prelude.{◌||◌}
use Rattle.fuse_in.specs.declared.session.InHeader.{InHeader}
use Rattle.fuse_in.specs.Records.{in_header}
use Rattle.fuse_fs.specs.Lengths.{past}
use Rattle.fuse_fs.specs.Calls.{FileCall}
use Rattle.server_segments.specs.ReaderAndWriterView.{ReaderView}
use Rattle.server_requests.specs.Reading.{record_parser}
use Rattle.server_calls.specs.Requests.{owns_memory}
use Rattle.server_meanings.specs.Grammar.{Meaning, Asks, One, given}
use Rattle.server_meanings.specs.WantOfMemory.{meaning_owns, body_takes_memory, may_take_memory}

or_none : (a b : Bool) → (a || b) ≡ false → a ≡ false
or_none true b e = absurd (cc)
or_none false b e = refl

-- memory is taken for what the call that is asked for owns
pub owned_none : (m : Meaning) (split : Bool) (unique : ℕ) (made call : FileCall) → m ≡ Asks (One unique call) → made ≡ call →
    (meaning_owns m || split) ≡ false → owns_memory made ≡ false
owned_none m split unique made call e f none = ap owns_memory f ∙ sym (ap meaning_owns e) ∙ or_none (meaning_owns m) split none

-- a request that takes no memory takes none behind its header
pub takes_none : (options room : ℕ) (r : ReaderView) (h : InHeader) (segments more : List ℕ) → Ok (h, more) ≡ record_parser in_header r.left
    → segments ≡ past 40 r.segments
    → may_take_memory options r room ≡ false → body_takes_memory (given h options room) segments more ≡ false
takes_none options room r h segments more e s p = rw s (rw (← e) at p)
