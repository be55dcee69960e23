-- Two chains that overlap.
use Rattle.std.proofs.Common.{◌≡◌, ℕ, Bool, List, [], ◌∷◌, length, Some, None, refl, ap, ◌++◌, sym, ◌∙◌, IsTrue, slice_get}
use Rattle.std.proofs.Common.{eq-eqb, ◌==◌, if◌then◌else◌, true, option_map}
use Rattle.std.proofs.lemmas.List.Elements.{All-nil}
use Rattle.vm_values.specs.Fields as fields
use Rattle.vm_memory.specs.Layout.{place}
use Rattle.vm_memory.specs.Memory.{addresses, stored_all}
use Rattle.fs_queue.specs.Loads.{found_exactly, chain_exactly}
use Rattle.fs_queue.specs.Taking.{Offers, IsRequest, addresses_of, readable, total_len, writable}
use Rattle.fs_regions.specs.Walks.{FetchesBy, IsLost, Loaded}
use Rattle.fuse_fs.specs.Calls.{FileAnswer, FileCall, suits}
use Rattle.server_replies.specs.WholeReplies.{error_bytes, reply_bytes}
use Rattle.server_requests.specs.Reading.{record_parser}
use Rattle.server_meanings.specs.Examples.{le16}
use Rattle.server_meanings.specs.Grammar.{meaning, meant, row}
use Rattle.server_meanings.specs.Serving.{May}
use Rattle.plain_machine.specs.Examples.{blank, queue}
use Rattle.live_machine.specs.Live.{ReceivesAnswerSo, PushesChainSo, LoadsAreMapped, Asked, InFlightChain, LiveState, PushedWith, serving}
use Rattle.live_machine.specs.Live.{after_answer, after_push, room_of}
use Rattle.live_machine.specs.Overlap.{Overlap, at_positions, destroy, state, first, first_asked, first_answered, first_loads, first_table}
use Rattle.live_machine.specs.Overlap.{second, second_asked, second_loads, second_table}
use Rattle.fs_queue.specs.Chain.{Descriptor, IsChain}
use Rattle.fs_queue.specs.OfferLoads.{offer_by}
use Rattle.fs_queue.specs.Queue.{Queue}
use Rattle.fs_queue.specs.Returning.{Store, stores_after_reply}
use Rattle.plain_machine.specs.Step.{Exchange}
use Rattle.live_machine.specs.Several.{LiveQueue, returning, wants}
use Rattle.live_machine.proofs.Queues.{some_none}

-- ---- events of runs with given loads

-- a chain that the loads have whole
pub fetches : (w : Queue) (l : Loaded) (ds : List Descriptor) (head : ℕ) (i e : List ℕ) → l.index ≡ Some i → l.entry ≡ Some e
    → chain_exactly (l.entries ++ []) w head ≡ Some (IsChain ds)
    → ((request : List ℕ) → offer_by blank 0x101000 w l.index l.entry (l.entries ++ []) request ≡ option_map (Offers head)
    (if length request == total_len (readable ds) then Some (IsRequest request (addresses_of (writable ds))) else None))
    → FetchesBy blank 0x101000 w l ds head None
fetches w l ds head i e index entry found offers = (
  ([], All-nil (IsLost blank), found),
  λ request whole. (
    (λ none. absurd (some_none i (sym index ∙ none)), λ none asks. absurd (some_none e (sym entry ∙ none))),
    [],
    All-nil (IsLost blank),
    offers request
        ∙ ap (λ (b : Bool). option_map (Offers head) (if b then Some (IsRequest request (addresses_of (writable ds))) else None))
        (eq-eqb (length request) (total_len (readable ds)) whole),
  ),
)

-- the first call of a chain with these before it is answered
pub answers : {F : Type 0} {may : May F} {s after : LiveState F} {c : InFlightChain} {call : FileCall} {answer : FileAnswer}
    (before : List InFlightChain) (request : List ℕ) (options : ℕ) (files : F) → s.chains ≡ before ++ c ∷ []
    → c.phase ≡ Asked request options []
    → (serving s.page_size options options request (room_of c) []).calls ≡ call ∷ [] → IsTrue (suits call answer)
    → may s.files call answer files → after ≡ after_answer s before [] c request options ((call, answer) ∷ []) files
    → ReceivesAnswerSo may s c call answer after
answers before request options files out asked pending is_one may_so state = record {
  before = before;
  behind = [];
  out = out;
  request = request;
  options = options;
  calls = [];
  asked = asked;
  pending = pending;
  is_one = is_one;
  files = files;
  may_so = may_so;
  state = state;
}

-- a chain with these before it is returned, and the available flags are 0
pub returns : {F : Type 0} {s after : LiveState F} {c : InFlightChain} {x : Exchange} {used : List Store}
    (before : List InFlightChain) (w : LiveQueue) → s.chains ≡ before ++ c ∷ [] → slice_get s.queues c.queue ≡ Some w
    → PushedWith s.page_size c c.phase x → used ≡ stores_after_reply (returning w) c.head (length x.reply) → true ≡ wants w (le16 0)
    → after ≡ after_push s before [] c w → PushesChainSo s c x true 0 used (le16 0) after
returns before w out there proceeds used_is notice_is state = record {
  before = before;
  behind = [];
  out = out;
  w = w;
  there = there;
  proceeds = proceeds;
  used_is = used_is;
  two = refl;
  reported = notice_is;
  state = state;
}

-- ---- two chains that overlap

pub first_fetches : FetchesBy blank 0x101000 queue first_loads first_table 0 None
unfolding place addresses stored_all found_exactly
first_fetches = fetches queue first_loads first_table 0 (le16 2) (le16 0) refl refl refl (λ request. refl)

pub second_fetches : FetchesBy blank 0x101000 (record queue { position = 1 }) second_loads second_table 2 None
unfolding place addresses stored_all found_exactly
second_fetches = fetches (record queue { position = 1 }) second_loads second_table 2 (le16 2) (le16 2) refl refl refl (λ request. refl)

pub first_there : LoadsAreMapped blank queue first_loads
unfolding place addresses
first_there = record { index = λ some. refl; entry = λ some. refl; entries = ((refl, refl), ((refl, refl), tt)) }

pub second_there : LoadsAreMapped blank (record queue { position = 1 }) second_loads
unfolding place addresses
second_there = record { index = λ some. refl; entry = λ some. refl; entries = ((refl, refl), ((refl, refl), tt)) }

pub overlap : {F : Type 0} (may : May F) → Overlap may
unfolding addresses meaning record_parser meant row reply_bytes error_bytes fields.field_bytes
overlap may before after so = (
  state before (at_positions 1 0) 1 (first ∷ []),
  record { w = at_positions 0 0; there = refl; room = refl; proceeds = refl; mapped = first_there; ends = (first_fetches, refl, tt) },
  (
    state before (at_positions 1 0) 1 (first_asked ∷ []),
    record { before = []; behind = []; out = refl; fresh = refl; whole = refl; reports = refl; state = refl },
    (
      state before (at_positions 2 0) 1 (first_asked ∷ second ∷ []),
      record { w = at_positions 1 0; there = refl; room = refl; proceeds = refl; mapped = second_there; ends = (second_fetches, refl, tt) },
      (
        state before (at_positions 2 0) 1 (first_asked ∷ second_asked ∷ []),
        record { before = first_asked ∷ []; behind = []; out = refl; fresh = refl; whole = refl; reports = refl; state = refl },
        (
          state before (at_positions 2 1) 1 (first_asked ∷ []),
          returns (first_asked ∷ []) (at_positions 2 0) refl refl (refl, refl) refl refl refl,
          (
            state after (at_positions 2 1) 0 (first_answered ∷ []),
            answers [] destroy 1 after refl refl refl refl so refl,
            (state after (at_positions 2 2) 0 [], returns [] (at_positions 2 1) refl refl (refl, refl) refl refl refl, refl),
          ),
        ),
      ),
    ),
  ),
)
