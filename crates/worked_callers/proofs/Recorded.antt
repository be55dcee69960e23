-- A worked range of a reply buffer, and a worked record of a device.
use Rattle.std.proofs.Common.{◌≡◌, ℕ, All, true, false, List, [], ◌∷◌, None, bit_and, take, drop, ap, arith, refl}
use Rattle.std.proofs.lemmas.List.Elements.{All-cons, All-nil}
use lib.Count.{ones}
use Rattle.vm_memory.specs.Memory.{addresses}
use Rattle.fs_queue.specs.Chain.{Descriptor}
use Rattle.fs_queue.specs.Lawful.{layout_error}
use Rattle.fs_regions.specs.Windows.{IsRangeFrom}
use Rattle.fs_record.specs.Record.{First, IsRecord, IsSavedQueue, record_bytes}
use Rattle.server_meanings.proofs.Options.{known_bits_are}
use Rattle.live_machine.specs.Live.{room_of}
use Rattle.live_machine.specs.Overlap.{at_positions, first_table}
use Rattle.fs_chain.specs.Moves.{AreResetBy}
use Rattle.fs_chain.specs.declared.queue.QueueState.{QueueState}
use Rattle.worked_callers.specs.InARow.{first_asked}

abbrev pub reply_buffer : Descriptor
reply_buffer = record { addr = 0x2000; len = 16; flags = 2; next = 0 }

pub range : IsRangeFrom true first_table 4 0x2004 12
unfolding addresses
range = (omega arith, 0x2004, refl, refl, reply_buffer, 4, ([], [], refl, refl, omega arith), refl)

pub marked : take 2 (drop 4 (room_of first_asked)) ≡ 0x2004 ∷ 0x2005 ∷ []
unfolding addresses
marked = refl

pub is_lawful : layout_error 4 0 0x100 0x200 ≡ None
unfolding ones
is_lawful = refl

-- the queue after both chains, as a `QueueState`
abbrev pub kept : QueueState
kept = record {
  layout = record {
    size = 4;
    desc = 0;
    avail = 0x100;
    used = 0x200;
    lawful = is_lawful;
    sized = omega arith;
    table = omega arith;
    available = omega arith;
    used_ring = omega arith;
  };
  next_avail = 2;
  next_used = 2;
  max_in_flight = 4;
  pushing = false;
  reset_count = 0;
  pop_count = 2;
  event_index = false;
  stopped = None;
}

abbrev pub bytes : List ℕ
bytes = record_bytes First 0 ((at_positions 2 2).queue ∷ [])

is_saved : IsSavedQueue (at_positions 2 2).queue
is_saved = (is_lawful, omega arith, omega arith)

all_saved : All IsSavedQueue ((at_positions 2 2).queue ∷ [])
all_saved = All-cons IsSavedQueue (at_positions 2 2).queue [] is_saved (All-nil IsSavedQueue)

pub recorded_so : IsRecord bytes First 0 ((at_positions 2 2).queue ∷ [])
recorded_so = (refl, tt, (ap (bit_and 0) known_bits_are, omega arith, omega arith, all_saved))

pub begun : AreResetBy ((at_positions 2 2).queue ∷ []) (kept ∷ [])
begun = record { same = refl; positions_agree = ((refl, omega arith), tt); few = ((omega arith, omega arith), tt) }
