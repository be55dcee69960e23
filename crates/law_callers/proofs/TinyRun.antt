-- Two machines that differ in a byte that isn't read.
use Rattle.std.proofs.Common.{◌≡◌, ℕ, [], ◌∷◌, None, arith, true, refl, subst, sym}
use Rattle.std.proofs.lemmas.Bool.Decides.{nat_tests}
use Rattle.vm_memory.specs.Layout.{place}
use Rattle.vm_memory.specs.Memory.{addresses, stored_all}
use Rattle.server_meanings.specs.Serving.{May}
use Rattle.plain_machine.specs.Run.{RunReported, effect}
use Rattle.fs_confinement.specs.Confinement.{AgreeOn, SameButBytes}
use Rattle.fs_confinement.specs.ReadSet.{byte_of, is_among, read_set, run_touches}
use Rattle.law_callers.specs.Worked.{machine, one_read, tiny}

pub same_but_bytes : {F : Type 0} (files : F) → SameButBytes (machine (tiny 7) files) (machine (tiny 9) files)
unfolding place addresses stored_all
same_but_bytes files = refl

-- the run
pub reads : {F : Type 0} (may : May F) (files : F) →
    RunReported may (machine (tiny 7) files) one_read ([] ∷ []) (machine (tiny 7) files)
unfolding RunReported effect place addresses stored_all
reads may files = (machine (tiny 7) files, refl, refl)

-- only the first byte is at the place that is read
first_only : (block offset : ℕ) → is_among block offset (record { block = 0; offset = 0; io = None } ∷ []) ≡ true
    → (block ≡ 0) × (offset ≡ 0)
first_only block offset is = (grind (arith, nat_tests), grind (arith, nat_tests))

pub agree : {F : Type 0} (may : May F) (files : F)
    (ran : RunReported may (machine (tiny 7) files) one_read ([] ∷ []) (machine (tiny 7) files))
    → AgreeOn (machine (tiny 7) files).memory.host (machine (tiny 9) files).memory.host
    (read_set may (machine (tiny 7) files) one_read ([] ∷ []) (machine (tiny 7) files) ran)
unfolding place addresses stored_all run_touches
agree may files ran block offset is =
    let there = first_only block offset is in
    let seven = (machine (tiny 7) files).memory.host in
    let nine = (machine (tiny 9) files).memory.host in
    subst (λ (b : ℕ). byte_of seven b offset ≡ byte_of nine b offset) (sym there.0)
    (subst (λ (o : ℕ). byte_of seven 0 o ≡ byte_of nine 0 o) (sym there.1) refl)
