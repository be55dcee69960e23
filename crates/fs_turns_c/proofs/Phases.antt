-- The machine's step by the number of a phase.
use Rattle.std.proofs.Common.{◌≡◌, ℕ, ap}
use Rattle.std.specs.Prelude.{nat_lt, if◌then◌else◌}
use Rattle.fs_turns.specs.declared.machine.Seen.{Seen}
use Rattle.fs_turns.specs.declared.machine.TurnEvent.{TurnEvent}
use Rattle.fs_turns.specs.Next.{wrong, next_at, enters, resumes, pops, arms_to_sleep, arms_to_answer, looks, muted}
use Rattle.fs_turns_c.specs.declared.turns.FsTurns.{FsTurns}
use Rattle.fs_turns_c.specs.Numbers.{next_of, phase_of, turns_of}

at : (f : FsTurns) (e : TurnEvent) (s : Seen) (n : ℕ) → f.phase ≡ n
    → next_of f e s ≡ (if nat_lt n 7 then next_at (phase_of n) (turns_of f) e s else wrong (turns_of f))
at f e s n is = ap (λ (m : ℕ). if nat_lt m 7 then next_at (phase_of m) (turns_of f) e s else wrong (turns_of f)) is

pub when_free : (f : FsTurns) (e : TurnEvent) (s : Seen) → f.phase ≡ 0 → next_of f e s ≡ enters (turns_of f) e
when_free f e s is = at f e s 0 is

pub when_resuming : (f : FsTurns) (e : TurnEvent) (s : Seen) → f.phase ≡ 1 → next_of f e s ≡ resumes (turns_of f) e s
when_resuming f e s is = at f e s 1 is

pub when_popping : (f : FsTurns) (e : TurnEvent) (s : Seen) → f.phase ≡ 2 → next_of f e s ≡ pops (turns_of f) e s
when_popping f e s is = at f e s 2 is

pub when_arming_to_sleep : (f : FsTurns) (e : TurnEvent) (s : Seen) → f.phase ≡ 3 → next_of f e s ≡ arms_to_sleep (turns_of f) e s
when_arming_to_sleep f e s is = at f e s 3 is

pub when_arming_to_answer : (f : FsTurns) (e : TurnEvent) (s : Seen) → f.phase ≡ 4 → next_of f e s ≡ arms_to_answer (turns_of f) e s
when_arming_to_answer f e s is = at f e s 4 is

pub when_looking : (f : FsTurns) (e : TurnEvent) (s : Seen) → f.phase ≡ 5 → next_of f e s ≡ looks (turns_of f) e
when_looking f e s is = at f e s 5 is

pub when_muting : (f : FsTurns) (e : TurnEvent) (s : Seen) → f.phase ≡ 6 → next_of f e s ≡ muted (turns_of f) e
when_muting f e s is = at f e s 6 is
