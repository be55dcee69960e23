-- what a guest's read is answered
use Rattle.std.proofs.Common.{◌≡◌, ℕ, Bool, true, false, List, [], sym, refl, subst, Vec}
use Rattle.std.specs.Global.{Global}
use Rattle.std.specs.Prelude.{if◌then◌else◌}
use Rattle.vm_iotlb.specs.declared.permissions.Permissions.TheVariants.{Read}
use Rattle.vm_memory.specs.Memory.{bytes, physical, reach}
use Rattle.server_meanings.specs.Serving.{May}
use Rattle.fs_device.specs.declared.command.Answer as said
use Rattle.plain_machine.specs.declared.refusal.Refusal.{Refusal}
use Rattle.plain_machine.specs.declared.refusal.Refusal.TheVariants as why
use Rattle.plain_machine.specs.Step.{State}
use Rattle.plain_machine.specs.Run.{GuestRead, Affects, Answer, Done, Bytes, NewBlockIs, IsRefused, Effect, Performs, effect, no}
use Rattle.fs_device.specs.CommandView.{answer_of}

-- bytes or a refusal
abbrev pub IsReadAnswer : Answer → Type 0
IsReadAnswer (Bytes read) = Unit {0}
IsReadAnswer (IsRefused e) = Unit {0}
IsReadAnswer answer = ⊥

either : {F : Type 0} (reaches : Bool) (answer : Answer) (s after : State F) (read : List ℕ) →
    (answer, after) ≡ (if◌then◌else◌ {A = Effect F} reaches (Bytes read, s) (no why.NoPlace s)) → IsReadAnswer answer
either {F} true answer s after read is = subst (λ (e : Effect F). IsReadAnswer e.0) (sym is) tt
either {F} false answer s after read is = subst (λ (e : Effect F). IsReadAnswer e.0) (sym is) tt

affects : {F : Type 0} (s after : State F) (a n : ℕ) (answer : Answer) → Affects s (GuestRead a n) answer after → IsReadAnswer answer
unfolding effect
affects s after a n answer is = either (reach (physical s.memory) Read a n) answer s after (bytes (physical s.memory) a n) is

-- nothing else
pub read_returned : {F : Type 0} (may : May F) (s after : State F) (a n : ℕ) (answer : said.Answer) →
    ((read : Vec ℕ Global) → answer ≡ said.TheVariants.Bytes read → ⊥) →
    ((e : Refusal) → answer ≡ said.TheVariants.Refused e → ⊥) →
    Performs may s (GuestRead a n) [] (answer_of answer) after → ⊥
read_returned may s after a n (said.TheVariants.Bytes read) unread unrefused is = unread read refl
read_returned may s after a n (said.TheVariants.Refused e) unread unrefused is = unrefused e refl
read_returned may s after a n said.TheVariants.Done unread unrefused is = affects s after a n Done is
read_returned may s after a n (said.TheVariants.Block number) unread unrefused is = affects s after a n (NewBlockIs number) is
read_returned may s after a n _ unread unrefused is = affects s after a n _ is
