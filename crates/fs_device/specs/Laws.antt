-- Theorems that follow from the definition of a step.
use Rattle.std.specs.Prelude.{◌≡◌, ◌↔◌, ℕ, List, length, flat_map}
use Rattle.vm_memory.specs.Memory.{Memory, bytes}
use Rattle.fs_queue.specs.Queue.{Queue}
use Rattle.fs_queue.specs.Chain.{Descriptor, IsChain, chain}
use Rattle.fs_queue.specs.Taking.{readable, writable, total_len, IsRequest, request_and_room, Offers, offer}
use Rattle.server_meanings.specs.Serving.{May, ServedMessage}
use Rattle.plain_machine.specs.Step.{Calls, ServesRequest}

-- the joined bytes of a chain's request
abbrev pub joined_request : Memory → List Descriptor → List ℕ
joined_request m ds = flat_map (λ d. bytes m d.addr d.len) (readable ds)

-- theorem: two chains in two memories are served alike, if their joined requests have the same bytes
-- and their reply buffers the same length; the cuts into descriptors don't matter
abbrev pub CutsDoNotMatter : {F : Type 0} → May F → Type 0
CutsDoNotMatter {F} may =
    (m n : Memory) (limit other : ℕ) (ds es : List Descriptor) (request room request' room' : List ℕ) →
    request_and_room m limit ds ≡ IsRequest request room →
    request_and_room n other es ≡ IsRequest request' room' →
    joined_request m ds ≡ joined_request n es →
    total_len (writable ds) ≡ total_len (writable es) →
    (page_size options : ℕ) (before after : F) (calls : Calls) (given : ServedMessage) →
    ServesRequest may page_size options request (length room) before calls given after
    ↔ ServesRequest may page_size options request' (length room') before calls given after

-- a queue offers a chain of these descriptors, direct or by an indirect table, with this request and
-- reply buffer
pub record OffersChain (m : Memory) (limit : ℕ) (q : Queue) (ds : List Descriptor) (request room : List ℕ) :
    Type 0 where
  pub head : ℕ
  pub walked : chain m q head ≡ IsChain ds
  pub offered : offer m limit q ≡ Offers head (IsRequest request room)

-- theorem: two such chains that two queues offer, each in its own memory, are served alike
abbrev pub OffersAreServedAlike : {F : Type 0} → May F → Type 0
OffersAreServedAlike {F} may =
    (m n : Memory) (limit other : ℕ) (q p : Queue) (ds es : List Descriptor)
    (request room request' room' : List ℕ) →
    OffersChain m limit q ds request room →
    OffersChain n other p es request' room' →
    joined_request m ds ≡ joined_request n es →
    total_len (writable ds) ≡ total_len (writable es) →
    (page_size options : ℕ) (before after : F) (calls : Calls) (given : ServedMessage) →
    ServesRequest may page_size options request (length room) before calls given after
    ↔ ServesRequest may page_size options request' (length room') before calls given after
