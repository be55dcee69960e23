-- Bytes that don't stand in one segment.
use Rattle.std.proofs.Common.{◌≡◌, ℕ, ◌<◌, ◌≤◌, true, false, List, Result, Ok, Err, refl, arith, sum}
use Rattle.std.specs.Prelude.{IfErr, nat_le}
use Rattle.std.proofs.lemmas.Bool.{lt-ltb}
use Rattle.std.proofs.lemmas.Bool.Decides.{nat_tests}
use Rattle.fuse_fs.specs.Lengths.{first}
use Rattle.server_segments.specs.Errors.{is_memory}
use Rattle.server_segments.specs.declared.error.Error.{Error}
use Rattle.server_segments.specs.declared.error.Error.TheVariants.{OutOfMemory}
use Rattle.server_requests.specs.Fronts.{is_split}

split_is : (ns : List ℕ) (n : ℕ) → first ns < n → n ≤ sum ns → is_split n ns ≡ true
split_is ns n l s =
    let whole : nat_le n (sum ns) ≡ true = grind (arith, nat_tests) in
    rw (lt-ltb (first ns) n l, whole) refl

-- only those allocate
pub split_memory : {B : Type 0} (result : Result B Error) (ns : List ℕ) (n m : ℕ) → IfErr result (λ e. (e ≡ OutOfMemory) × (first ns < n))
    → n ≤ sum ns → n ≡ m
    → is_split m ns ≡ false → IfErr result (λ e. is_memory e ≡ false)
split_memory (Ok b) ns n m p s e h = tt
split_memory (Err f) ns n m p s e h = let split = split_is ns n p.1 s in absurd (cc)
