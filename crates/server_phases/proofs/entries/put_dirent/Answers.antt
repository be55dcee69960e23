use Rattle.std.proofs.Common.{◌≡◌, ℕ, ◌+◌, ◌-◌, length, refl, arith}
use Rattle.std.proofs.lemmas.List.{take-replicate}
use Rattle.vm_values.specs.Fields.{field_bytes}
use Rattle.server_replies.specs.Entries.{dirent_bytes, dirent_len}
use Rattle.server_phases.proofs.entries.put_dirent.Goals as goal

pub returns : goal.returns
unfolding dirent_bytes field_bytes
returns c =
    let n = length c.args.entry.now.name.now in
    let z = length c.split_at_mut-name.result.1.now in
    let place = c.requires.place in
    let head = c.split_at_mut-head.ensures.back_len in
    let name = c.split_at_mut-name.ensures.back_len in
    let count : z ≡ dirent_len n - (24 + n) = omega arith in
    let zeros = take-replicate {X = ℕ} z 8 0 (omega arith) in
    rw (
      c.copy_from_slice.ensures.after,
      c.dirent_head.ensures,
      c.copy_from_slice-2.ensures.after,
      c.copy_from_slice-3.ensures.after,
      zeros,
      count,
    ) refl
