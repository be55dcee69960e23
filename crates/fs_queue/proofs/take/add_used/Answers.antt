use Rattle.std.proofs.Common.{◌≡◌, Bool, List, Option, Some, None, subst, sym}
use Rattle.std.specs.Prelude.{if◌then◌else◌, IfOk}
use Rattle.vm_iotlb.specs.declared.permissions.Permissions.TheVariants.{Write}
use Rattle.vm_memory_core.specs.Host.{Place, lengths}
use Rattle.vm_memory_core.specs.Window.{places}
use Rattle.vm_memory.specs.Memory.{addresses, located, location}
use Rattle.vm_memory.proofs.Places.{located-append}
use Rattle.fs_queue.specs.Queue.{element_at, index_at}
use Rattle.fs_queue.specs.WalkingView.{at_position}
use Rattle.fs_queue.proofs.TakeLemmas.{after_empty, after_missing, located-lost, none_lies}
use Rattle.fs_queue.proofs.take.add_used.Goals as goal

pub returns-then-not-branch-clause-found : goal.returns-then-not-branch-clause-found
returns-then-not-branch-clause-found g c =
    let f = location (g.M.GuestMemory.memory c.args.mem.now (g.H.HostBlocks.host c.args.host.now)) Write in
    let q = at_position c.args.layout c.args.position in
    located-lost (addresses (element_at q) 8) (addresses (index_at q) 2) f
    (after_missing (located f (addresses (element_at q) 8))
    (rw (c.requires.none, c.if-not-branch.true, c.used_element_at-element.ensures.at) at c.in_ok-add_windows.ensures.found))

pub returns-clause-found : goal.returns-clause-found
returns-clause-found g c =
    let f = location (g.M.GuestMemory.memory c.args.mem.now (g.H.HostBlocks.host c.args.host.now)) Write in
    let q = at_position c.args.layout c.args.position in
    let element = after_empty (located f (addresses (element_at q) 8)) _
    (rw (c.requires.none, c.if-not-branch.false, c.used_element_at-element.ensures.at) at c.in_ok-add_windows.ensures.found) in
    subst (λ (o : Option (List Place)). IfOk c.add_windows-2.result
    (λ (found : Bool). o ≡ (if found then Some (places c.add_windows-2.new.windows.items) else None)))
    (sym (located-append (addresses (element_at q) 8) (addresses (index_at q) 2) f _ element))
    (rw c.used_index_at-index.ensures.at at c.add_windows-2.ensures.found)

pub returns-in_err-add_windows-clause-lie : goal.returns-in_err-add_windows-clause-lie
returns-in_err-add_windows-clause-lie g c =
    c.add_windows.ensures.lie (rw c.requires.none (none_lies (lengths (g.H.HostBlocks.host c.args.host.now))))

pub returns-then-not-branch-clause-lie : goal.returns-then-not-branch-clause-lie
returns-then-not-branch-clause-lie g c =
    c.add_windows.ensures.lie (rw c.requires.none (none_lies (lengths (g.H.HostBlocks.host c.args.host.now))))

pub returns-clause-lie : goal.returns-clause-lie
returns-clause-lie g c =
    c.add_windows-2.ensures.lie (c.add_windows.ensures.lie (rw c.requires.none (none_lies (lengths (g.H.HostBlocks.host c.args.host.now)))))
