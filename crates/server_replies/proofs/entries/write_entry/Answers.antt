use Rattle.std.proofs.Common.{◌≡◌, ℕ, ◌+◌, ◌-◌, length, arith}
use Rattle.std.proofs.lemmas.List.{take-replicate}
use Rattle.server_replies.specs.Entries.{dirent_bytes}
use Rattle.server_replies.proofs.EntryLemmas.{entry_joined}
use Rattle.server_replies.proofs.entries.write_entry.Goals as goal

pub returns-clause-written : goal.returns-clause-written
unfolding dirent_bytes
returns-clause-written c =
    let len = c.dirent_len.ensures in
    let zeros = take-replicate {X = ℕ} (c.dirent_len.result - 24 - length c.args.entry.now.name.now) 8 0 (omega (arith, len.filled)) in
    let count : c.dirent_len.result - 24 - length c.args.entry.now.name.now
    ≡ c.dirent_len.result - (24 + length c.args.entry.now.name.now) = omega arith in
    entry_joined _ _ _ _ _ _ _ _ _ c.append.ensures.written (rw c.dirent_head.ensures at c.append-2.ensures.written)
    c.append-3.ensures.written
    (rw (zeros, count, len.len) at c.append-4.ensures.written)
