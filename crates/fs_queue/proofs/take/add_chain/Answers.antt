use Rattle.std.proofs.Common.{◌≡◌, [], false, true, not}
use Rattle.vm_iotlb.specs.declared.permissions.Permissions.TheVariants.{Read, Write}
use Rattle.fs_queue.specs.Chain.{is_writable}
use Rattle.fs_queue.specs.Taking.{all_reach, readable, writable}
use Rattle.fs_queue.proofs.TakeLemmas.{fits_filter, found_all}
use Rattle.fs_queue.proofs.take.add_chain.Goals as goal

pub returns-then-not-branch-clause-found : goal.returns-then-not-branch-clause-found
returns-then-not-branch-clause-found g c =
    let m = g.M.GuestMemory.memory c.args.mem.now (g.H.HostBlocks.host c.args.host.now) in
    let r : all_reach m Read (readable c.args.descriptors.now) ≡ false =
    found_all m Read (readable c.args.descriptors.now) false []
    (fits_filter (λ d. not (is_writable d)) c.args.descriptors.now c.requires.fits)
    (rw c.if-not-branch.true at c.in_ok-add_direction.ensures.found) in
    rw r

pub returns-then-not-branch-2-clause-found : goal.returns-then-not-branch-2-clause-found
returns-then-not-branch-2-clause-found g c =
    let m = g.M.GuestMemory.memory c.args.mem.now (g.H.HostBlocks.host c.args.host.now) in
    let r : all_reach m Read (readable c.args.descriptors.now) ≡ true =
    found_all m Read (readable c.args.descriptors.now) true _
    (fits_filter (λ d. not (is_writable d)) c.args.descriptors.now c.requires.fits)
    (rw c.if-not-branch.false at c.in_ok-add_direction.ensures.found) in
    let w : all_reach m Write (writable c.args.descriptors.now) ≡ false =
    found_all m Write (writable c.args.descriptors.now) false [] (fits_filter is_writable c.args.descriptors.now c.requires.fits)
    (rw c.if-not-branch-2.true at c.in_ok-add_direction-2.ensures.found) in
    rw (r, w)

pub returns-clause-found : goal.returns-clause-found
returns-clause-found g c =
    let m = g.M.GuestMemory.memory c.args.mem.now (g.H.HostBlocks.host c.args.host.now) in
    let r : all_reach m Read (readable c.args.descriptors.now) ≡ true =
    found_all m Read (readable c.args.descriptors.now) true _
    (fits_filter (λ d. not (is_writable d)) c.args.descriptors.now c.requires.fits)
    (rw c.if-not-branch.false at c.in_ok-add_direction.ensures.found) in
    let w : all_reach m Write (writable c.args.descriptors.now) ≡ true =
    found_all m Write (writable c.args.descriptors.now) true _ (fits_filter is_writable c.args.descriptors.now c.requires.fits)
    (rw c.if-not-branch-2.false at c.in_ok-add_direction-2.ensures.found) in
    rw (r, w)
