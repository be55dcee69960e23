-- Ranges that are keyed by their starts.
use Rattle.std.specs.Prelude.{◌≡◌, ◌<◌, ◌≤◌, ◌+◌, ◌-◌, ℕ, List, [], ◌∷◌, Option, Some, None, IsSome, cond}
use Rattle.std.specs.Prelude.{nat_le, nat_lt, ◌&&◌, if◌then◌else◌}
use Rattle.std.specs.Map.{lookup}
use Rattle.std.specs.BTreeMap.{is_at}
use Rattle.std.specs.Ordering.{nat_cmp}
use Rattle.vm_iotlb.specs.declared.range.IotlbRange.{IotlbRange}

-- each key is its range's start
abbrev pub AreKeyed : List (ℕ × IotlbRange) → Type 0
AreKeyed [] = Unit {0}
AreKeyed (e ∷ es) = (e.0 ≡ e.1.start) × AreKeyed es

-- the range at a key
abbrev pub range_at : List (ℕ × IotlbRange) → ℕ → Option IotlbRange
range_at es k = lookup (is_at (nat_cmp k)) es

-- the range has the greatest start that is at most an address
abbrev pub IsLastUpTo : List (ℕ × IotlbRange) → ℕ → IotlbRange → Type 0
IsLastUpTo es iova r =
    (r.start ≤ iova)
    × (range_at es r.start ≡ Some r)
    × ((k : ℕ) (s : IotlbRange) → range_at es k ≡ Some s → k ≤ iova → k ≤ r.start)

-- no range starts at or below an address
abbrev pub NoneUpTo : List (ℕ × IotlbRange) → ℕ → Type 0
NoneUpTo es iova = (k : ℕ) (s : IotlbRange) → range_at es k ≡ Some s → iova < k

-- the ranges with keys below `low` end at or below an address, and those with keys from it on end above it
abbrev pub Divides : List (ℕ × IotlbRange) → (low iova : ℕ) → Type 0
Divides es low iova =
    ((k : ℕ) (r : IotlbRange) → range_at es k ≡ Some r → k < low → r.end ≤ iova)
    × ((k : ℕ) (r : IotlbRange) → range_at es k ≡ Some r → low ≤ k → iova < r.end)

-- the ranges by key after a range, if there is one, was inserted at its start
abbrev pub put_at : Option IotlbRange → (ℕ → Option IotlbRange) → ℕ → Option IotlbRange
put_at None ranges q = ranges q
put_at (Some r) ranges q = cond (is_at (nat_cmp r.start) q) (Some r) (ranges q)

-- the ranges by key after those with keys from `from` up to `to`, excluded, were removed
abbrev pub cleared : (from to : ℕ) → (ℕ → Option IotlbRange) → ℕ → Option IotlbRange
cleared from to ranges q = if nat_le from q && nat_lt q to then None else ranges q

-- a range's start is no key, or there is no range
abbrev pub IsNoKey : (ℕ → Option IotlbRange) → Option IotlbRange → Type 0
IsNoKey ranges None = Unit {0}
IsNoKey ranges (Some r) = ranges r.start ≡ None

-- a range's start is a key, or there is no range
abbrev pub IsKey : (ℕ → Option IotlbRange) → Option IotlbRange → Type 0
IsKey ranges None = Unit {0}
IsKey ranges (Some r) = IsSome (ranges r.start)

-- the option is the range that begins below an address and ends at it or above, or None if there is none
abbrev pub ReachesFrom : List (ℕ × IotlbRange) → ℕ → Option IotlbRange → Type 0
ReachesFrom es start (Some b) = (b.start < start) × (start ≤ b.end) × (range_at es b.start ≡ Some b)
ReachesFrom es start None = (k : ℕ) (s : IotlbRange) → range_at es k ≡ Some s → k < start → s.end < start

-- the option is the range that contains an address, or None if there is none
abbrev pub HasAddress : List (ℕ × IotlbRange) → ℕ → Option IotlbRange → Type 0
HasAddress es end (Some r) = (r.start ≤ end) × (end < r.end) × (range_at es r.start ≡ Some r)
HasAddress es end None = (k : ℕ) (s : IotlbRange) → range_at es k ≡ Some s → k ≤ end → s.end ≤ end

-- the part of a range below an address
abbrev pub part_up_to : Option IotlbRange → ℕ → Option IotlbRange
part_up_to None e = None
part_up_to (Some r) e = Some (record { start = r.start; end = e; target = r.target; perm = r.perm })

-- the part of a range from an address on; None if the range doesn't begin below it
abbrev pub part_from : Option IotlbRange → ℕ → Option IotlbRange
part_from None e = None
part_from (Some r) e =
    if nat_lt r.start e then Some
    (record { start = e; end = r.end; target = r.target + (e - r.start); perm = r.perm }) else None

-- a range, once extended, maps the addresses from another's start on as that one does
abbrev pub Aligns : IotlbRange → IotlbRange → Type 0
Aligns b r = (b.target + (r.start - b.start) ≡ r.target) × (b.perm ≡ r.perm)

-- a range maps the addresses from another's end on as that one would, once extended
abbrev pub AlignsBehind : IotlbRange → IotlbRange → Type 0
AlignsBehind a r = (r.target + (r.end - r.start) ≡ a.target + (r.end - a.start)) × (r.perm ≡ a.perm)

-- the option is the range before another one if they can be joined, or None if they can't
abbrev pub JoinsLeft : IotlbRange → (before left : Option IotlbRange) → Type 0
JoinsLeft r before None = (b : IotlbRange) → before ≡ Some b → Aligns b r → ⊥
JoinsLeft r before (Some b) = (before ≡ Some b) × Aligns b r

-- the option is the range behind another one if they can be joined, or None if they can't
abbrev pub JoinsRight : IotlbRange → (after right : Option IotlbRange) → Type 0
JoinsRight r after None = (a : IotlbRange) → after ≡ Some a → AlignsBehind a r → ⊥
JoinsRight r after (Some a) = (after ≡ Some a) × AlignsBehind a r

-- the start of a range after it was joined with the one before, if there is one
abbrev pub start_joined : IotlbRange → Option IotlbRange → ℕ
start_joined r None = r.start
start_joined r (Some b) = b.start

-- the target of a range after it was joined with the one before, if there is one
abbrev pub target_joined : IotlbRange → Option IotlbRange → ℕ
target_joined r None = r.target
target_joined r (Some b) = b.target

-- the end of a range after it was joined with the one behind, if there is one
abbrev pub end_joined : IotlbRange → Option IotlbRange → ℕ
end_joined r None = r.end
end_joined r (Some a) = a.end

-- a range after it was joined with those before and behind it, if there are any
abbrev pub joined : IotlbRange → (left right : Option IotlbRange) → IotlbRange
joined r left right =
    record {
      start = start_joined r left;
      end = end_joined r right;
      target = target_joined r left;
      perm = r.perm;
    }

-- the rest of the range before, up to an address; None if it was joined
abbrev pub left_over : (left before : Option IotlbRange) → ℕ → Option IotlbRange
left_over None before e = part_up_to before e
left_over (Some b) before e = None

-- the rest of the range behind, from an address on; None if it was joined
abbrev pub right_over : (right after : Option IotlbRange) → ℕ → Option IotlbRange
right_over None after e = part_from after e
right_over (Some a) after e = None
