use Rattle.std.proofs.Common.{ap, append-nil, arith, ◌≡◌, Bool, List, Option, Some, None, subst}
use Rattle.std.specs.Prelude.{if◌then◌else◌, IfOk}
use Rattle.vm_memory_core.specs.Host.{Place}
use Rattle.vm_memory_core.specs.Window.{places}
use Rattle.vm_memory.specs.Memory.{addresses, after, located}
use Rattle.vm_memory.proofs.RangeLemmas.{places_from-is}
use Rattle.fs_queue.proofs.access.add_windows.Goals as goal

pub returns-clause-found : goal.returns-clause-found
returns-clause-found g c =
    subst (λ (o : Option (List Place)). IfOk c.push_windows.result
    (λ (found : Bool). after (places c.args.windows.now.items) o
    ≡ (if found then Some (places c.push_windows.new.windows.items) else None)))
    (places_from-is (g.M.GuestMemory.memory c.args.mem.now (g.H.HostBlocks.host c.args.host.now)) c.args.access c.args.addr c.args.len
    c.requires.fits) c.push_windows.ensures.found

pub returns-clause-lie : goal.returns-clause-lie
returns-clause-lie g c = c.push_windows.ensures.held c.requires.held

pub returns-then-len-eq0-clause-found : goal.returns-then-len-eq0-clause-found
unfolding located addresses
returns-then-len-eq0-clause-found g c =
    let none : c.args.len ≡ 0 = omega (arith, c.if-len-eq0.true) in
    rw none (ap Some (append-nil (places c.args.windows.now.items)))
