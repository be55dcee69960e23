-- The end of a driver's commands: with the shortest of its three lists.
use Rattle.std.proofs.Common.{inl, inr, ◌≤◌, ℕ, List, length}
use Rattle.fs_chain.specs.declared.chain_handle.ChainHandle.{ChainHandle}
use Rattle.fs_chain.specs.declared.queue.QueueState.{QueueState}
use Rattle.fs_driven.specs.Events.{Drives, calls_of}
use Rattle.fs_driven.specs.declared.commands.DriverCall.{DriverCall}
use Rattle.fs_driven.specs.declared.commands.Results.{Results}
use Rattle.fs_driven.proofs.Lists.{DrivenSoFar, all_so_far}

pub places : (on : List ℕ) (page_size : ℕ) (ws0 ws : List ChainHandle) (q0 q : List QueueState) (ks : List ℕ)
    (before now : List DriverCall) (rs : List Results) (n : ℕ)
    → DrivenSoFar on page_size ws0 ws q0 q ks before now rs n → length ks ≤ n
    → Drives on page_size ws0 ws q0 q (calls_of ks before rs)
places on page_size ws0 ws q0 q ks before now rs n so past =
    all_so_far on page_size ws0 ws q0 q ks before now rs n so (inl past)

pub commands : (on : List ℕ) (page_size : ℕ) (ws0 ws : List ChainHandle) (q0 q : List QueueState) (ks : List ℕ)
    (before now : List DriverCall) (rs : List Results) (n : ℕ)
    → DrivenSoFar on page_size ws0 ws q0 q ks before now rs n → length now ≤ n
    → Drives on page_size ws0 ws q0 q (calls_of ks before rs)
commands on page_size ws0 ws q0 q ks before now rs n so past =
    all_so_far on page_size ws0 ws q0 q ks before now rs n so (inr (inl past))

pub results : (on : List ℕ) (page_size : ℕ) (ws0 ws : List ChainHandle) (q0 q : List QueueState) (ks : List ℕ)
    (before now : List DriverCall) (rs : List Results) (n : ℕ)
    → DrivenSoFar on page_size ws0 ws q0 q ks before now rs n → length rs ≤ n
    → Drives on page_size ws0 ws q0 q (calls_of ks before rs)
results on page_size ws0 ws q0 q ks before now rs n so past =
    all_so_far on page_size ws0 ws q0 q ks before now rs n so (inr (inr past))
