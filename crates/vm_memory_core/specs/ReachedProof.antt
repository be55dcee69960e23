-- Proofs that an access reaches at most as many places as it asks for. Nothing here has to be believed.
use Rattle.std.specs.Prelude.{◌≡◌, ℕ, zero, suc, ◌+◌, ◌-◌, ◌≤◌, ◌==◌, List, length, min, nat_lt}
use Rattle.std.specs.Prelude.{if◌then◌else◌, true, false, Option, Result, Ok, Err, refl}
use Rattle.std.proofs.Common.{ap, sym, subst, arith}
use Rattle.vm_memory_core.specs.Host.{Place}
use Rattle.vm_memory_core.specs.Window.{Window, span}
use Rattle.vm_memory_core.specs.declared.window.IoMarks.{IoMarks}
use Rattle.vm_memory_core.specs.Parts.{part_of}
use Rattle.vm_memory_core.specs.Access.{places_in, reached_places}
use Rattle.vm_memory_core.specs.declared.error.VolatileMemoryError.{VolatileMemoryError}
use Rattle.vm_memory_core.specs.declared.error.VolatileMemoryError.TheVariants.{OutOfBounds}

count-span : (n block offset : ℕ) (io : Option IoMarks) → length (span block offset io n) ≡ n
unfolding span
count-span zero b o io = refl
count-span (suc n) b o io = ap suc (count-span n b (o + 1) io)

-- at most n places are reached
abbrev pub AtMost : {E : Type 0} → ℕ → Result (List Place) E → Type 0
AtMost n (Ok ps) = length ps ≤ n
AtMost n (Err e) = Unit {0}

of_window : (w : Window) (a n : ℕ) → AtMost n (reached_places w a n)
of_window w a n =
    let part : Result Window VolatileMemoryError = if nat_lt a w.len then Ok (part_of w a (min n (w.len - a)))
    else Err (OutOfBounds a) in
    elim (n == 0) as (λ b. AtMost n (places_in (if b then Ok (part_of w 0 0) else part))) [
      | true ↦ omega (arith, count-span 0 w.block (w.offset + 0) w.io)
      | false ↦ elim (nat_lt a w.len)
          as (λ b. AtMost n (places_in (if b then Ok (part_of w a (min n (w.len - a)))
          else Err (OutOfBounds a)))) [
            | true ↦ omega (arith, count-span (min n (w.len - a)) w.block (w.offset + a) w.io)
            | false ↦ tt
          ]
    ]

pub length-reached_places :
    (w : Window) (a n : ℕ) (places : List Place) → Ok places ≡ reached_places w a n → length places ≤ n
length-reached_places w a n places e = subst (λ r. AtMost n r) (sym e) (of_window w a n)
