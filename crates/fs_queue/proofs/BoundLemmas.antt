-- No walk is cut short: it ends by itself within size + 2 steps.
use Rattle.std.proofs.Common.{◌≡◌, ℕ, zero, suc, ◌+◌, ◌-◌, ◌*◌, ◌%◌, ◌<◌, ◌≤◌, Bool, true, false, cond, not, eqb, ◌∷◌, Option, Some, None}
use Rattle.std.proofs.Common.{refl, ap, sym, ◌∙◌, arith}
use Rattle.std.specs.Prelude.{◌==◌, ◌||◌, nat_le}
use Rattle.std.proofs.lemmas.Bool.{eqb-false}
use Rattle.vm_iotlb.specs.declared.permissions.Permissions.TheVariants.{Read}
use Rattle.vm_memory.specs.Memory.{Memory, reach}
use Rattle.fs_queue.specs.declared.fault.ChainFault.{ChainFault}
use Rattle.fs_queue.specs.Queue.{Queue}
use Rattle.fs_queue.specs.Chain.{Descriptor, DescriptorTable, Visit, WalkStep, Ordinary, Indirect, Faulty, Stops, descriptor_at, has_next}
use Rattle.fs_queue.specs.Chain.{walk_step, walk_step_at}
use Rattle.fs_queue.specs.Chain.{indirect_step, ordinary_step, is_indirect, ends_in_64_bits, next_visit, onward, path, first_visit, walk}
use Rattle.fs_queue.proofs.WalkLemmas.{tables_left}

-- how many steps a walk may have from one on, in the chain of a queue of this size
abbrev pub steps_left : (size : ℕ) → Visit → ℕ
steps_left size v = size - v.earlier + tables_left v.table.indirect

pub either : (P : WalkStep → Type 0) (b : Bool) (x y : WalkStep) → (b ≡ true → P x) → (b ≡ false → P y) → P (cond b x y)
either P true x y p q = p refl
either P false x y p q = q refl

-- a chain of as many descriptors as the queue has takes no more, and no table leads to another from within one
pub Allows : (size : ℕ) → Visit → WalkStep → Type 0
Allows size v (Ordinary d) = eqb v.earlier size ≡ false
Allows size v (Indirect t) = (v.table.indirect ≡ false) × (t.indirect ≡ true)
Allows size v _ = Unit {0}

faulty : (size : ℕ) (v : Visit) (f : ChainFault) → Allows size v (Faulty f)
unfolding Allows
faulty size v f = tt

stops : (size : ℕ) (v : Visit) → Allows size v Stops
unfolding Allows
stops size v = tt

ordinary : (size : ℕ) (v : Visit) (d : Descriptor) → eqb v.earlier size ≡ false → Allows size v (Ordinary d)
unfolding Allows
ordinary size v d h = h

names_table : (size : ℕ) (v : Visit) (t : DescriptorTable) → v.table.indirect ≡ false → t.indirect ≡ true → Allows size v (Indirect t)
unfolding Allows
names_table size v t h e = (h, e)

allowed_ordinary : (size : ℕ) (v : Visit) (d : Descriptor) → Allows size v (ordinary_step size v d)
allowed_ordinary size v d =
    either (Allows size v) _ _ _ (λ _. faulty size v _)
    (λ more. either (Allows size v) _ _ _ (λ _. faulty size v _) (λ _. ordinary size v d more))

-- an if-chain whose first tests are faults
past_fault :
    (size : ℕ) (v : Visit) (b : Bool) (f : ChainFault) (w : WalkStep) → (b ≡ false → Allows size v w) → Allows size v (cond b (Faulty f) w)
past_fault size v true f w h = faulty size v f
past_fault size v false f w h = h refl

allowed_indirect : (size : ℕ) (v : Visit) (d : Descriptor) → Allows size v (indirect_step v d)
allowed_indirect size v d =
    past_fault size v (has_next d) _ _ (λ _. past_fault size v v.table.indirect _ _ (λ own.
    past_fault size v (d.len == 0 || not (d.len % 16 == 0)) _ _
    (λ _. past_fault size v (not (ends_in_64_bits d)) _ _ (λ _. names_table size v _ own refl))))

allowed_at : (m : Memory) (size : ℕ) (v : Visit) (a : ℕ) → Allows size v (walk_step_at m size v a)
allowed_at m size v a =
    either (Allows size v) (not (reach m Read a 16)) _ _
    (λ _. either (Allows size v) v.table.indirect _ _ (λ _. faulty size v _) (λ _. stops size v))
    (λ _. either (Allows size v) (is_indirect (descriptor_at m a)) _ _
    (λ _. allowed_indirect size v (descriptor_at m a)) (λ _. allowed_ordinary size v (descriptor_at m a)))

pub allowed : (m : Memory) (size : ℕ) (v : Visit) → Allows size v (walk_step m size v)
allowed m size v = past_fault size v (nat_le v.table.entries v.index) _ _ (λ _. allowed_at m size v (v.table.address + 16 * v.index))

-- at the next step, if there is one, fewer may come, and no more descriptors came before it than the queue has
abbrev pub Falls : (size n : ℕ) → Option Visit → Type 0
Falls size n None = Unit {0}
Falls size n (Some w) = (steps_left size w < n) × (w.earlier ≤ size)

if_more : (size : ℕ) (b : Bool) (n : ℕ) (w : Visit) → steps_left size w < n → w.earlier ≤ size → Falls size n (cond b (Some w) None)
if_more size true n w h le = (h, le)
if_more size false n w h le = tt

pub falls : (size : ℕ) (v : Visit) (w : WalkStep) → v.earlier ≤ size → Allows size v w → Falls size (steps_left size v) (next_visit v w)
unfolding Allows
falls size v (Ordinary d) le h =
    let some : (v.earlier ≡ size → ⊥) = eqb-false v.earlier size h in
    if_more size (has_next d) _ _ (omega (arith, some, le)) (omega (arith, some, le))
falls size v (Indirect t) le h = (rw (h.0, h.1) (omega arith), le)
falls size v _ le h = tt

mutual_step :
    (m : Memory) (size n : ℕ) → ((w : Visit) → w.earlier ≤ size → steps_left size w ≤ n → path m size n w ≡ path m size (suc n) w) →
    (k : ℕ) → k ≤ suc n → (a : Option Visit) → Falls size k a → onward (path m size n) a ≡ onward (path m size (suc n)) a
mutual_step m size n same k le None h = refl
mutual_step m size n same k le (Some w) h = let fewer = h.0 in same w h.1 (omega (arith, fewer, le))

-- one more step changes nothing
same_path : (m : Memory) (size n : ℕ) (v : Visit) → v.earlier ≤ size → steps_left size v ≤ n → path m size n v ≡ path m size (suc n) v
unfolding path
same_path m size zero v few le = absurd (none v.table.indirect le)
  where
    none : (b : Bool) → size - v.earlier + tables_left b ≤ 0 → ⊥
    none true h = omega arith
    none false h = omega arith
same_path m size (suc n) v few le =
    ap (λ rest. v ∷ rest) (mutual_step m size n (same_path m size n) (steps_left size v) le (next_visit v (walk_step m size v))
    (falls size v (walk_step m size v) few (allowed m size v)))

-- nor do any number of steps more
same_paths : (m : Memory) (size k n : ℕ) (v : Visit) → v.earlier ≤ size → steps_left size v ≤ n → path m size (k + n) v ≡ path m size n v
same_paths m size zero n v few le =
    let count : zero + n ≡ n = omega arith in
    ap (λ j. path m size j v) count
same_paths m size (suc k) n v few le =
    let count : suc k + n ≡ suc (k + n) = omega arith in
    ap (λ j. path m size j v) count ∙ sym (same_path m size (k + n) v few (omega (arith, le))) ∙ same_paths m size k n v few le

pub walks_end : (m : Memory) (q : Queue) (head n : ℕ) → q.size + 2 ≤ n → path m q.size n (first_visit q head) ≡ walk m q head
walks_end m q head n le =
    let count : n ≡ n - (q.size + 2) + (q.size + 2) = omega (arith, le) in
    ap (λ j. path m q.size j (first_visit q head)) count
    ∙ same_paths m q.size (n - (q.size + 2)) (q.size + 2) (first_visit q head) (omega arith) (omega arith)
