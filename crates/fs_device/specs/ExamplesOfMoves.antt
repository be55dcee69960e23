-- A worked move that computes: an image of eight bytes, a guest's write after it, and a harvest after
-- which image and host agree.
use Rattle.std.specs.Prelude.{◌≡◌, ℕ, Bool, true, false, List, [], ◌∷◌, refl, Some, None}
use Rattle.vm_memory_core.specs.Host.{Host, Place, byte_at, lengths}
use Rattle.vm_memory.specs.Layout.{place}
use Rattle.vm_memory.specs.Memory.{memory_of, addresses, stored_all}
use Rattle.plain_machine.specs.Harvested.{block_pages, host_pages}
use Rattle.fs_device.specs.Applying.{first_refused, pages_put}
use Rattle.plain_machine.specs.Step.{State}
use Rattle.plain_machine.specs.Run as run
use Rattle.plain_machine.specs.Run.{Command, Answer, RunReported, effect}
use Rattle.plain_machine.specs.Examples.{queue, Nothing, may, device}
use Rattle.fs_device.specs.Moving.{RunsFromImage, page_mark, pages_answered}
use Rattle.fs_device.specs.Migrating.{IsMoved}

-- a machine with these bytes at 0, their page marked or not
abbrev of_eight : List ℕ → Bool → State Nothing
of_eight bytes marked =
    device
    (memory_of
    (record { blocks = record { bytes = bytes; marks = marked ∷ [] } ∷ []; tables = []; io_marks = [] })
    (record { start = 0; size = 8; block = 0 } ∷ []))
    queue

-- the bytes at the image
abbrev old_bytes : List ℕ
old_bytes = 1 ∷ 2 ∷ 3 ∷ 4 ∷ 5 ∷ 6 ∷ 7 ∷ 8 ∷ []

-- the bytes after the write
abbrev new_bytes : List ℕ
new_bytes = 1 ∷ 2 ∷ 3 ∷ 4 ∷ 5 ∷ 70 ∷ 80 ∷ 8 ∷ []

-- the image
abbrev copy : Host
copy = (of_eight old_bytes false).memory.host

-- the guest writes two bytes at 5, and the page is harvested
abbrev events : List (Command × Answer)
events =
    (run.GuestWrite 5 (70 ∷ 80 ∷ []), run.Done)
    ∷ (run.Harvest, run.Pages (record { block = 0; offset = 0; bytes = new_bytes } ∷ [])) ∷ []

-- the run meets the theorem's conditions
moves : RunsFromImage may (of_eight old_bytes true) copy events (of_eight new_bytes false)
unfolding RunReported effect place addresses stored_all block_pages host_pages
moves = record {
  off = refl;
  marks = (refl, tt);
  follow = (refl, (refl, tt));
  run = (
    [] ∷ [] ∷ [] ∷ [],
    (of_eight old_bytes false, refl, (of_eight new_bytes true, refl, (of_eight new_bytes false, refl, refl))),
  );
}

-- between the two the byte at 5 is stale, and its page is marked
abbrev at_five : Place
at_five = record { block = 0; offset = 5; io = None }

copy_is_old : byte_at copy at_five ≡ Some 6
copy_is_old = refl

host_is_new : byte_at (of_eight new_bytes true).memory.host at_five ≡ Some 70
host_is_new = refl

host_is_marked : page_mark (of_eight new_bytes true).memory.host at_five ≡ Some true
host_is_marked = refl

-- the page fits into the image, which then equals the host
page_has_its_place : first_refused (lengths copy) 0 (pages_answered events) ≡ None
unfolding first_refused
page_has_its_place = refl

image_is_the_host : pages_put copy (pages_answered events) ≡ (of_eight new_bytes false).memory.host
unfolding pages_put
image_is_the_host = refl

-- the machine is moved, with the write in the meantime and its page in the last harvest, and could go
-- on here in the same way
is_moved : IsMoved may (of_eight old_bytes true) ((run.GuestWrite 5 (70 ∷ 80 ∷ []), run.Done) ∷ [])
    (of_eight new_bytes false)
unfolding RunReported effect place addresses stored_all block_pages host_pages pages_put
is_moved = record {
  copy = copy;
  last = record { block = 0; offset = 0; bytes = new_bytes } ∷ [];
  here = of_eight new_bytes false;
  from = record {
    off = refl;
    marks = (refl, tt);
    follow = (refl, (refl, tt));
    run = (
      [] ∷ [] ∷ [] ∷ [],
      (
        of_eight old_bytes false,
        refl,
        (of_eight new_bytes true, refl, (of_eight new_bytes false, refl, refl)),
      ),
    );
  };
  over = refl;
  same = refl;
  carries_on = λ later all_turns end ran. (
    of_eight old_bytes false,
    refl,
    (of_eight new_bytes true, refl, (of_eight new_bytes false, refl, ran)),
  );
}
