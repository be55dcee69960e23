-- the table of a machine's device, and what its host holds besides
use Rattle.std.proofs.Common.{◌≡◌, ℕ, suc, Bool, true, false, ◌+◌, ◌<◌, ◌≤◌, ◌^◌, ◌&&◌, nat_lt, List, [], ◌∷◌, length, ap, sym, ◌∙◌, refl}
use Rattle.std.proofs.Common.{subst, inl, inr}
use Rattle.std.specs.Prelude.{◌⊎◌, Result, Ok, Err, replicate, slice_get, slice_set, unwrap_or}
use Rattle.std.specs.Result.{IfOk, OnErr}
use Rattle.std.specs.declared.alloc.AllocError.{AllocError}
use Rattle.std.proofs.lemmas.Bool.{and_from, le-ltb, lt-ltb}
use Rattle.std.proofs.Math.Bool.{and-false}
use Rattle.vm_iotlb.specs.declared.range.IotlbRange.{IotlbRange}
use Rattle.vm_iotlb.specs.Table.{Table}
use Rattle.vm_iotlb.specs.AddressRuns.{begins_anew_about, carries_on_at}
use Rattle.vm_memory_core.specs.Host.{Host, with_block}
use Rattle.vm_memory_core.specs.Lending.{with_table_at}
use Rattle.vm_memory.specs.Layout.{Region}
use Rattle.vm_memory.specs.Translated.{HoldsBehind, ranges_in}
use Rattle.plain_machine.specs.declared.refusal.Refusal.TheVariants as why
use Rattle.plain_machine.specs.Step.{State}
use Rattle.plain_machine.specs.Run.{IsRefused, ChangesTable, ends_fit}
use Rattle.fs_device.proofs.LayoutLemmas.{kept}

-- ---- ends

pub fits_not : (a n : ℕ) → 2 ^ 64 ≤ a + n → ends_fit a n ≡ false
fits_not a n h = le-ltb (a + n) (2 ^ 64) h

pub one_fits_not : (a b n : ℕ) → (2 ^ 64 ≤ a + n) ⊎ (2 ^ 64 ≤ b + n) → (ends_fit a n && ends_fit b n) ≡ false
one_fits_not a b n (inl h) = rw (fits_not a n h) refl
one_fits_not a b n (inr h) = rw (fits_not b n h) (and-false (ends_fit a n))

-- ---- what changes a table

pub refused : {F : Type 0} (s : State F) (fit : Bool) (table : Table) (after : State F) → fit ≡ false → after ≡ s →
    ChangesTable s fit table (IsRefused why.BadMapping) after
refused s true table after fit is = absurd (cc)
refused {F} s false table after fit is = ap (λ (x : State F). (IsRefused why.BadMapping, x)) is

set-same : (l : List (List IotlbRange)) (i : ℕ) → slice_set l i (unwrap_or (slice_get l i) []) ≡ l
set-same (x ∷ l) (suc i) = ap (λ (r : List (List IotlbRange)). x ∷ r) (set-same l i)
set-same _ _ = refl

-- a table that is left as it was
pub left_same : (old new : Host) (number : ℕ) (ranges : List IotlbRange) → ranges ≡ ranges_in old number →
    new ≡ with_table_at old number ranges → new ≡ old
left_same old new number ranges same is =
    is ∙ ap (with_table_at old number) same ∙ ap (λ (l : List (List IotlbRange)). record old { tables = l }) (set-same old.tables number)

-- memory is wanted for some addresses alone, where their end fits and a range is split there
pub wanted_to_unmap : (t : Table) (a n : ℕ) → a + n < 2 ^ 64 → 0 < n → carries_on_at t (a + n) ≡ true →
    ((nat_lt 0 n && ends_fit a n) && carries_on_at t (a + n)) ≡ true
wanted_to_unmap t a n fits some on =
    and_from (nat_lt 0 n && ends_fit a n) (carries_on_at t (a + n))
    (and_from (nat_lt 0 n) (ends_fit a n) (lt-ltb 0 n some) (lt-ltb (a + n) (2 ^ 64) fits)) on

pub wanted_to_map : (t u : Table) (a b n : ℕ) → a + n < 2 ^ 64 → b + n < 2 ^ 64 → 0 < n → begins_anew_about t u a (a + n) ≡ true →
    ((nat_lt 0 n && (ends_fit a n && ends_fit b n)) && begins_anew_about t u a (a + n)) ≡ true
wanted_to_map t u a b n fits target some anew =
    and_from (nat_lt 0 n && (ends_fit a n && ends_fit b n)) (begins_anew_about t u a (a + n))
    (and_from (nat_lt 0 n) (ends_fit a n && ends_fit b n) (lt-ltb 0 n some)
    (and_from (ends_fit a n) (ends_fit b n) (lt-ltb (a + n) (2 ^ 64) fits) (lt-ltb (b + n) (2 ^ 64) target))) anew

-- ---- what a host holds

-- whether or not there is one more block
pub kept_behind : (count : ℕ → ℕ) (n : ℕ) (old new : Host) (l : List Region) (number set : ℕ) (made : Result ℕ AllocError) →
    IfOk made (λ number. new ≡ with_block old (record { bytes = replicate n 0; marks = replicate (count n) false })) →
    OnErr made (new ≡ old) →
    HoldsBehind old l number set → HoldsBehind new l number set
kept_behind count n old new l number set (Ok block) ok err held = (
  kept count n old new l (Ok block) ok err held.0,
  subst (λ (h : Host). number < length h.tables) (sym ok) held.1,
  subst (λ (h : Host). set < length h.io_marks) (sym ok) held.2,
)
kept_behind count n old new l number set (Err e) ok err held = subst (λ (h : Host). HoldsBehind h l number set) (sym err) held
