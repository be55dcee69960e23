-- New memory for each handle of a driver, while no chain is in flight.
use Rattle.std.specs.Prelude.{◌≡◌, ◌⊎◌, ◌&&◌, ◌<◌, ◌^◌, ℕ, ◌==◌, Bool, true, List, [], ◌∷◌, length, Option}
use Rattle.std.specs.Prelude.{Some, None, Result, Ok, Err, if◌then◌else◌, option_map}
use Rattle.std.specs.Option.{option_or}
use Rattle.vm_memory.specs.Collecting.{RegionsWereRefused, fault_of}
use Rattle.vm_memory.specs.Layout.{Region}
use Rattle.fs_regions.specs.Places.{places_in, untranslated}
use Rattle.live_machine.specs.Live.{LiveEvent, Remaps}
use Rattle.fs_chain.specs.Orders.{memory_error}
use Rattle.fs_chain.specs.Queues.{in_flight}
use Rattle.fs_chain.specs.declared.chain_handle.ChainHandle.{ChainHandle}
use Rattle.fs_chain.specs.declared.error.ChainError.{ChainError}
use Rattle.fs_chain.specs.declared.error.ChainError.TheVariants as error
use Rattle.fs_chain.specs.declared.queue.QueueState.{QueueState}
use Rattle.fs_chain.specs.declared.state.ChainState.TheVariants as at
use Rattle.fs_driven.specs.Drivers.{Driver}

-- why regions aren't a memory
abbrev pub regions_error : List Region → Option ChainError
regions_error regions = option_map (λ fault. error.BadArgument) (fault_of regions)

-- why a handle doesn't take these regions with the limit that it has
abbrev pub handle_error : ChainHandle → List Region → Option ChainError
handle_error w regions = option_or (memory_error w.state w.limit) (regions_error regions)

-- why one of the handles doesn't
abbrev pub handles_error : List ChainHandle → List Region → Option ChainError
handles_error [] regions = None
handles_error (w ∷ ws) regions = option_or (handle_error w regions) (handles_error ws regions)

-- whether no chain of these queues is in flight
abbrev pub are_idle : List QueueState → Bool
are_idle [] = true
are_idle (q ∷ qs) = (in_flight q == 0) && are_idle qs

-- none of their chains is in flight, by numbers of 16 bits
abbrev pub HaveNone : List QueueState → Type 0
HaveNone [] = Unit {0}
HaveNone (q ∷ qs) =
    (in_flight q ≡ 0)
    × (q.max_in_flight < 2 ^ 16)
    × (q.next_used < 2 ^ 16)
    × (q.next_avail < 2 ^ 16)
    × HaveNone qs

-- why they don't, while chains of the queues may be in flight
abbrev pub remap_error : List ChainHandle → List QueueState → List Region → Option ChainError
remap_error ws qs regions = if are_idle qs then handles_error ws regions else Some error.ChainInFlight

-- a call returns the error that it has, or an allocation for n regions failed
abbrev pub IsErrorOf : Option ChainError → (n : ℕ) → ChainError → Type 0
IsErrorOf why n e = (why ≡ Some e) ⊎ ((e ≡ error.OutOfMemory) × RegionsWereRefused n)

-- a free handle has these regions now. All else that it has is as it was
abbrev pub TakesMemory : List Region → (old new : ChainHandle) → Type 0
TakesMemory regions old new =
    (old.state ≡ at.Free)
    × (new.regions ≡ untranslated regions)
    × (new.limit ≡ old.limit)
    × (new.state ≡ old.state)
    × (new.part ≡ old.part)
    × (new.session ≡ old.session)
    × (new.ticket ≡ old.ticket)
    × (new.list_len ≡ old.list_len)

-- each of them has
abbrev pub TakeMemory : List Region → (olds news : List ChainHandle) → Type 0
TakeMemory regions [] [] = Unit {0}
TakeMemory regions [] (new ∷ news) = ⊥
TakeMemory regions (old ∷ olds) [] = ⊥
TakeMemory regions (old ∷ olds) (new ∷ news) = TakesMemory regions old new × TakeMemory regions olds news

-- the event of new memory, while no chain is in flight; or none, if it isn't set
abbrev pub RemapEvents : (d d' : Driver) → List Region → Result (Unit {0}) ChainError → List LiveEvent →
    Type 0
RemapEvents d d' regions (Ok done) es =
    (es ≡ Remaps (places_in (untranslated regions)) ∷ [])
    × (remap_error d.handles d.queues regions ≡ None)
    × TakeMemory regions d.handles d'.handles
    × (d'.queues ≡ d.queues)
    × (d.owned ≡ [])
    × (d'.owned ≡ [])
RemapEvents d d' regions (Err e) es =
    (es ≡ []) × (d' ≡ d) × IsErrorOf (remap_error d.handles d.queues regions) (length regions) e
