-- What C is told of notifications.
use Rattle.std.proofs.Common.{◌≡◌, inl, inr, ℕ, ◌^◌, ◌<◌, ◌==◌, ◌||◌, Bool, true, false, List, Option, Some, refl, sym, ap, subst, ◌∙◌}
use Rattle.std.specs.Int.{w16, to_le_bytes, from_le_bytes}
use Rattle.std.proofs.lemmas.Nat.{from_le_bytes-to_le_bytes_2}
use Rattle.fs_queue.specs.Returning.{Store}
use Rattle.vm_iotlb.specs.declared.permissions.Permissions.TheVariants.{Write}
use Rattle.fs_regions.specs.Places.{Mapped}
use Rattle.fs_chain.specs.Events.{notifies_of}
use Rattle.notify.specs.Threads.{ThreadedQueue, Wishes, WishIsThere, after_act}
use Rattle.fs_notify.proofs.Returns as givers
use Rattle.fs_notify.proofs.Wishes as takers
use Rattle.fs_notify.specs.Takers.{ShowsWish, ways_of}
use Rattle.fs_chain_c.specs.declared.notifications.FsStore.{FsStore}
use Rattle.fs_chain_c.specs.Notifications.{FillsStore}
use Rattle.fs_chain_c.specs.Notifying.{NotifyIsACheck, StoresAWish}
use Rattle.fs_chain_c.specs.Queues.{flag}
use Rattle.fs_chain_c.specs.Pushing.{StandsHere}
use Rattle.fs_chain_c.proofs.CalledLemmas.{no_error, no_queue}

-- a store that is told without an error
pub filled_store : (regions : Mapped) (store : Store) (filled : FsStore) → FillsStore regions (Some store) filled 0
    → StandsHere regions Write store.address 2 filled.at × (store.bytes ≡ to_le_bytes w16 filled.value) × (filled.len ≡ 2)
filled_store regions store filled (inl done) = (done.1, done.2, done.3)
filled_store regions store filled (inr lost) = absurd (cc lost.0)

pub wishes : StoresAWish
wishes b q filled (inl none) = absurd (no_queue q none.1)
wishes b q filled (inr is) = (
  is.1,
  is.2,
  λ s counted of walker.
      let asked = takers.rearms is.1 s counted of walker in
      let store = asked.0 in
      let end : ThreadedQueue = after_act (ways_of is.1) (after_act (ways_of is.1) s Wishes) WishIsThere in
      let stored =
      filled_store b.regions store filled (subst (λ (x : Option Store). FillsStore b.regions x filled 0) asked.1 is.3) in (
        subst (λ (a : ℕ). StandsHere b.regions Write a 2 filled.at) asked.2 stored.0,
        stored.2,
        subst (λ (bytes : List ℕ). ShowsWish is.1 bytes end.event end.muted) stored.1 asked.5,
        asked.6,
      ),
)

flag_is : (b : Bool) → (flag b == 1) ≡ b
flag_is true = refl
flag_is false = refl

pub checks : NotifyIsACheck
checks b b' q q' seen notify (inl none) fits = absurd (no_queue q none.2.0)
checks b b' q q' seen notify (inr is) fits = elim is.3 [
  | inl ended ↦ (
    is.1,
    is.2,
    λ u small at one shows.
        let same : from_le_bytes w16 (to_le_bytes w16 seen) ≡ seen = from_le_bytes-to_le_bytes_2 seen fits in
        let check = givers.checks is.1 (to_le_bytes w16 seen) u small (subst (λ (n : ℕ). n < 2 ^ 16) (sym same) fits) at one shows in
        check ∙ ap (λ (n : Bool). u.owes || n) (sym (ap (λ (n : ℕ). n == 1) ended.2 ∙ flag_is (notifies_of is.1 (to_le_bytes w16 seen)))),
  )
  | inr why ↦ absurd (no_error why.0 why.3.0)
]
