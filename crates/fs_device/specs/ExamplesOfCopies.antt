-- Worked copies that compute, of two small blocks of one page each.
use Rattle.std.specs.Prelude.{◌≡◌, ℕ, true, false, List, [], ◌∷◌, refl, Some, None}
use Rattle.vm_memory_core.specs.Host.{Host, cleared, lengths}
use Rattle.fs_device.specs.declared.applying.ApplyError.TheVariants.{UnknownBlock, OutOfRange}
use Rattle.plain_machine.specs.Harvested.{Page, block_pages, host_pages, harvested}
use Rattle.fs_device.specs.Applying.{first_refused, pages_put}

-- a host of two blocks with these bytes, of which only the first is marked
abbrev two : (first second : List ℕ) → Host
two first second = record {
  blocks = record { bytes = first; marks = true ∷ [] } ∷ record { bytes = second; marks = false ∷ [] } ∷ [];
  tables = [];
  io_marks = [];
}

abbrev page : (block offset : ℕ) → List ℕ → Page
page block offset bytes = record { block = block; offset = offset; bytes = bytes }

abbrev four : Host
four = two (1 ∷ 2 ∷ 3 ∷ 4 ∷ []) (5 ∷ 6 ∷ [])

-- the last page that is written to a place remains, and no mark changes
puts_in_order : pages_put four (page 0 1 (7 ∷ 8 ∷ []) ∷ page 0 2 (9 ∷ []) ∷ page 1 0 (0 ∷ []) ∷ [])
    ≡ two (1 ∷ 7 ∷ 9 ∷ 4 ∷ []) (0 ∷ 6 ∷ [])
unfolding pages_put
puts_in_order = refl

-- an image from before a write, with the marked page applied, is the host with its marks cleared
catches_up : pages_put (cleared (two (0 ∷ 0 ∷ 0 ∷ 0 ∷ []) (5 ∷ 6 ∷ []))) (harvested four) ≡ cleared four
unfolding pages_put block_pages host_pages
catches_up = refl

-- a page may end at the end of its block, and a page of no byte may begin there
refuses_none : first_refused (lengths four) 0 (page 0 2 (7 ∷ 8 ∷ []) ∷ page 1 2 [] ∷ []) ≡ None
unfolding first_refused
refuses_none = refl

-- the error has the number of the first page that doesn't fit
refuses_past_the_end : first_refused (lengths four) 0 (page 0 0 [] ∷ page 0 3 (7 ∷ 8 ∷ []) ∷ page 9 0 [] ∷ [])
    ≡ Some (OutOfRange 1)
unfolding first_refused
refuses_past_the_end = refl

refuses_unknown_blocks :
    first_refused (lengths four) 0 (page 9 0 (7 ∷ []) ∷ page 0 9 [] ∷ []) ≡ Some (UnknownBlock 0)
unfolding first_refused
refuses_unknown_blocks = refl
