-- a walk by loads, beside a walk in a memory
use Rattle.std.proofs.Common.{◌≡◌, ℕ, Bool, true, false, zero, suc, ◌+◌, ◌-◌, ◌<◌, ◌≤◌, List, [], ◌∷◌, ◌++◌, length, Option, Some, None}
use Rattle.std.proofs.Common.{refl, ap, sym, ◌∙◌, arith, append-nil}
use Rattle.std.specs.Prelude.{if◌then◌else◌, nat_le, ◌==◌, ◌&&◌, option_map}
use Rattle.std.proofs.lemmas.Bool.{eqb-true, eq-eqb, ltb-true}
use Rattle.std.proofs.lemmas.Bool.Decides.{nat_tests}
use Rattle.vm_iotlb.specs.declared.permissions.Permissions.TheVariants.{Read}
use Rattle.vm_memory.specs.Memory.{Memory, bytes, reach}
use Rattle.fs_queue.specs.declared.fault.ChainFault.TheVariants.{NextOutOfTable}
use Rattle.fs_queue.specs.Queue.{Queue}
use Rattle.fs_queue.specs.Chain.{Visit, WalkStep, Ordinary, Faulty, walk_step, next_visit, onward, path, first_visit}
use Rattle.fs_queue.specs.Chain.{after_walk_step, Found, IsChain, found, chain}
use Rattle.fs_queue.specs.Chain.{entry_address}
use Rattle.fs_queue.specs.Loads.{Load, Ahead, Reads, Ends, holding, reads_entry, step_by, ahead_at, ahead_after, ahead_of_next, end_of}
use Rattle.fs_queue.specs.Loads.{found_by, is_whole}
use Rattle.fs_queue.specs.Loads.{found_exactly, chain_exactly, IsEntryOf, AreEntriesOf, Still, LeavesTheRest, Finds, Confined}
use Rattle.fs_queue.specs.Loads.{AreEntriesInTurn, found_in_turn, InTurn}
use Rattle.fs_queue.proofs.WalkLemmas.{found_step, tables_left}
use Rattle.fs_queue.proofs.BoundLemmas.{walks_end, steps_left, Falls, falls, allowed}
use Rattle.fs_queue.proofs.ReadLemmas.{length-bytes}
use Rattle.fs_queue.proofs.LoadLemmas.{step_still}

-- what is found ahead in a memory, by at most n steps
abbrev pub found_in : Memory → (size n : ℕ) → Ahead → Found
found_in m size n (Reads v) = found m size (path m size n v)
found_in m size n (Ends f) = f

-- a step that is ahead reads its entry
abbrev pub IsSound : Ahead → Type 0
IsSound (Reads v) = v.index < v.table.entries
IsSound (Ends f) = Unit {0}

pub sound_at : (size : ℕ) (v : Visit) → IsSound (ahead_at size v)
sound_at size v = by_test (reads_entry v) refl
  where
    by_test : (b : Bool) → reads_entry v ≡ b →
        IsSound (if b then Reads v else Ends (after_walk_step (walk_step (holding []) size v) (IsChain [])))
    by_test true e = ltb-true v.index v.table.entries e
    by_test false e = tt

pub sound_next : (size : ℕ) (w : WalkStep) (o : Option Visit) → IsSound (ahead_of_next size w o)
sound_next size w None = tt
sound_next size w (Some v) = sound_at size v

pub outside : (m : Memory) (size : ℕ) (v : Visit) → reads_entry v ≡ false → Faulty NextOutOfTable ≡ walk_step m size v
outside m size v e =
    let past : nat_le v.table.entries v.index ≡ true = grind (arith, nat_tests) in
    rw past refl

outside_found : (m : Memory) (size k : ℕ) (v : Visit) → reads_entry v ≡ false →
    found m size (path m size (suc k) v) ≡ after_walk_step (walk_step (holding []) size v) (IsChain [])
outside_found m size k v e =
    found_step m size k v (Faulty NextOutOfTable) (outside m size v e)
    ∙ ap (λ (w : WalkStep). after_walk_step w (IsChain [])) (outside (holding []) size v e)

at_found : (m : Memory) (size k : ℕ) (v : Visit) → found m size (path m size (suc k) v) ≡ found_in m size (suc k) (ahead_at size v)
at_found m size k v = by_test (reads_entry v) refl
  where
    by_test : (b : Bool) → reads_entry v ≡ b →
        found m size (path m size (suc k) v)
        ≡ found_in m size (suc k) (if b then Reads v else Ends (after_walk_step (walk_step (holding []) size v) (IsChain [])))
    by_test true e = refl
    by_test false e = outside_found m size k v e

end_found : (w : WalkStep) → after_walk_step w (IsChain []) ≡ after_walk_step w (end_of w)
end_found (Ordinary d) = refl
end_found _ = refl

next_found : (m : Memory) (size k : ℕ) (w : WalkStep) (o : Option Visit) →
    after_walk_step w (found m size (onward (path m size (suc k)) o)) ≡ after_walk_step w (found_in m size (suc k) (ahead_of_next size w o))
unfolding found
next_found m size k w None = end_found w
next_found m size k w (Some v) = ap (after_walk_step w) (at_found m size k v)

pub mapped : (g : Found → Found) (o : Option Found) (f : Found) → option_map g o ≡ Some f → (x : Found) × (o ≡ Some x) × (g x ≡ f)
mapped g None f e = absurd (cc)
mapped g (Some x) f e = (x, refl, cc)

-- a walk by loads from a step on
still_step : (m : Memory) (size k : ℕ) (v : Visit) (l : Load) (ls : List Load) (f : Found) (b : Bool) → v.index < v.table.entries →
    (l.address == entry_address v) ≡ b → IsEntryOf m l →
    ((x : Found) → found_by size ls (ahead_after size v (step_by size v l)) ≡ Some x →
    found_in m size (suc k) (ahead_after size v (step_by size v l)) ≡ x) →
    (if b then option_map (after_walk_step (step_by size v l)) (found_by size ls (ahead_after size v (step_by size v l))) else None)
    ≡ Some f →
    found m size (path m size (suc (suc k)) v) ≡ f
still_step m size k v l ls f false inside at is rest e = absurd (cc)
still_step m size k v l ls f true inside at is rest e =
    let w = step_by size v l in
    let same : w ≡ walk_step m size v = step_still m size v l inside (eqb-true l.address (entry_address v) at) is in
    let got = mapped (after_walk_step w) (found_by size ls (ahead_after size v w)) f e in
    found_step m size (suc k) v w same ∙ next_found m size k w (next_visit v w) ∙ ap (after_walk_step w) (rest got.0 got.1) ∙ got.2

still_from : (m : Memory) (size n : ℕ) (ls : List Load) (a : Ahead) (f : Found) → length ls ≤ n → IsSound a → AreEntriesOf m ls →
    found_by size ls a ≡ Some f →
    found_in m size (suc n) a ≡ f
unfolding found_by
still_from m size n [] (Ends g) f le sound are e = cc
still_from m size n [] (Reads v) f le sound are e = absurd (cc)
still_from m size n (l ∷ ls) (Ends g) f le sound are e = cc
still_from m size zero (l ∷ ls) (Reads v) f le sound are e = absurd (omega arith)
still_from m size (suc n) (l ∷ ls) (Reads v) f le sound are e =
    still_step m size n v l ls f (l.address == entry_address v) sound refl are.0
    (λ x h. still_from m size n ls (ahead_after size v (step_by size v l)) x (omega (arith, le))
    (sound_next size (step_by size v l) (next_visit v (step_by size v l))) are.1 h) e

pub still : Still
still m q head ls f are e =
    let n = length ls + (q.size + 2) in
    sym (still_from m q.size n ls (ahead_at q.size (first_visit q head)) f (omega arith) (sound_at q.size (first_visit q head)) are e)
    ∙ sym (at_found m q.size n (first_visit q head))
    ∙ ap (found m q.size) (walks_end m q head (suc n) (omega arith))

-- just the loads of a walk, with more behind them
pub ended : (size : ℕ) (ls : List Load) (f : Found) → found_by size ls (Ends f) ≡ Some f
unfolding found_by
ended size [] f = refl
ended size (l ∷ ls) f = refl

exact_step : (g : Found → Found) (x y : Option Found) (f : Found) (a b : Bool) → ((h : Found) → x ≡ Some h → y ≡ Some h) →
    (if a && b then option_map g x else None) ≡ Some f → (if a then option_map g y else None) ≡ Some f
exact_step g x y f true true more e = let got = mapped g x f e in ap (option_map g) (more got.0 got.1) ∙ ap Some got.2
exact_step g x y f _ _ more e = absurd (cc)

exact_from :
    (size : ℕ) (ls more : List Load) (a : Ahead) (f : Found) → found_exactly size ls a ≡ Some f → found_by size (ls ++ more) a ≡ Some f
unfolding found_by found_exactly
exact_from size [] more (Ends g) f e = ended size more g ∙ e
exact_from size (l ∷ ls) more (Reads v) f e =
    let w = step_by size v l in
    exact_step (after_walk_step w) (found_exactly size ls (ahead_after size v w)) (found_by size (ls ++ more) (ahead_after size v w)) f
    (l.address == entry_address v) (is_whole 16 l.came)
    (λ h is. exact_from size ls more (ahead_after size v w) h is) e
exact_from size _ more _ f e = absurd (cc)

pub leaves_the_rest : LeavesTheRest
leaves_the_rest q head ls more f e = exact_from q.size ls more (ahead_at q.size (first_visit q head)) f e

-- just the loads that a memory has
pub still_exactly : (m : Memory) (q : Queue) (head : ℕ) (ls : List Load) (f : Found) → AreEntriesOf m ls →
    chain_exactly ls q head ≡ Some f → f ≡ chain m q head
still_exactly m q head ls f are e =
    still m q head ls f are (ap (λ (x : List Load). found_by q.size x (ahead_at q.size (first_visit q head))) (sym (append-nil ls))
    ∙ leaves_the_rest q head ls [] f e)

-- some loads that find what a memory has, and what a walk finds by just them
pub record HasLoads (m : Memory) (size : ℕ) (a : Ahead) (f : Found) : Type 0 where
  pub loads : List Load
  pub are : AreEntriesOf m loads
  pub finds : found_exactly size loads a ≡ Some f

finds_next : (m : Memory) (size k : ℕ) (w : WalkStep) (o : Option Visit) → Falls size (suc k) o →
    ((u : Visit) → u.earlier ≤ size → steps_left size u ≤ k → HasLoads m size (ahead_at size u) (found m size (path m size k u))) →
    (g : Found) × HasLoads m size (ahead_of_next size w o) g
    × (after_walk_step w g ≡ after_walk_step w (found m size (onward (path m size k) o)))
unfolding found found_exactly
finds_next m size k w None falls more = (end_of w, record { loads = []; are = tt; finds = refl }, sym (end_found w))
finds_next m size k w (Some u) falls more =
    let fewer = falls.0 in (found m size (path m size k u), more u falls.1 (omega (arith, fewer)), refl)

abbrev entry_in : Memory → Visit → Load
entry_in m v =
    record { address = entry_address v; came = if reach m Read (entry_address v) 16 then Some (bytes m (entry_address v) 16) else None }

-- what a memory has is as long as it was asked for
pub whole_in : (m : Memory) (a n : ℕ) → is_whole n (if reach m Read a n then Some (bytes m a n) else None) ≡ true
whole_in m a n = by_reach (reach m Read a n)
  where
    by_reach : (b : Bool) → is_whole n (if b then Some (bytes m a n) else None) ≡ true
    by_reach true = eq-eqb (length (bytes m a n)) n (length-bytes m a n)
    by_reach false = refl

true_and : (a b : Bool) → a ≡ true → b ≡ true → (a && b) ≡ true
true_and true true p q = refl
true_and true false p q = q
true_and false b p q = p

finds_one : (m : Memory) (size k : ℕ) (v : Visit) (w : WalkStep) (g f : Found) (ls : List Load) → w ≡ step_by size v (entry_in m v) →
    found_exactly size ls (ahead_after size v w) ≡ Some g →
    after_walk_step w g ≡ f → found_exactly size (entry_in m v ∷ ls) (Reads v) ≡ Some f
unfolding found_exactly
finds_one m size k v w g f ls is rest e =
    let at : ((entry_address v == entry_address v) && is_whole 16 (entry_in m v).came) ≡ true =
    true_and (entry_address v == entry_address v) (is_whole 16 (entry_in m v).came) (eq-eqb (entry_address v) (entry_address v) refl)
    (whole_in m (entry_address v) 16) in
    rw at (ap (λ (x : WalkStep). option_map (after_walk_step x) (found_exactly size ls (ahead_after size v x))) (sym is)
    ∙ ap (option_map (after_walk_step w)) rest ∙ ap Some e)

falls_from : (size n k : ℕ) (o : Option Visit) → n ≤ k → Falls size n o → Falls size k o
falls_from size n k None le h = tt
falls_from size n k (Some u) le h = let fewer = h.0 in (omega (arith, fewer, le), h.1)

pub finds_from : (m : Memory) (size n : ℕ) (v : Visit) → v.earlier ≤ size → steps_left size v ≤ n →
    HasLoads m size (ahead_at size v) (found m size (path m size n v))
unfolding found_exactly
finds_from m size zero v few le = absurd (none v.table.indirect le)
  where
    none : (b : Bool) → size - v.earlier + tables_left b ≤ 0 → ⊥
    none true h = omega arith
    none false h = omega arith
finds_from m size (suc n) v few le = by_test (finds_from m size n) (reads_entry v) refl
  where
    by_test :
        ((u : Visit) → u.earlier ≤ size → steps_left size u ≤ n → HasLoads m size (ahead_at size u) (found m size (path m size n u))) →
        (b : Bool) → reads_entry v ≡ b →
        HasLoads m size (if b then Reads v else Ends (after_walk_step (walk_step (holding []) size v) (IsChain [])))
        (found m size (path m size (suc n) v))
    by_test more false e = record { loads = []; are = tt; finds = ap Some (sym (outside_found m size n v e)) }
    by_test more true e =
        let w = walk_step m size v in
        let same : step_by size v (entry_in m v) ≡ w = step_still m size v (entry_in m v) (ltb-true v.index v.table.entries e) refl refl in
        let rest = finds_next m size n w (next_visit v w)
        (falls_from size (steps_left size v) (suc n) (next_visit v w) le (falls size v w few (allowed m size v))) more in
        record {
          loads = entry_in m v ∷ rest.1.loads;
          are = (refl, rest.1.are);
          finds = finds_one m size n v w rest.0 _ rest.1.loads (sym same) rest.1.finds (rest.2 ∙ sym (found_step m size n v w refl));
        }

pub finds : Finds
finds m q head =
    let all = finds_from m q.size (q.size + 2) (first_visit q head) (omega arith) (omega arith) in
    (all.loads, all.are, all.finds)

pub confined : Confined
confined m n q head ls f here there e = sym (still m q head ls f here e) ∙ still n q head ls f there e

in_turn_step :
    (ms : List Memory) (m : Memory) (size : ℕ) (v : Visit) (l : Load) (ls : List Load) (f : Found) (b : Bool) → v.index < v.table.entries →
    (l.address == entry_address v) ≡ b → IsEntryOf m l →
    ((x : Found) → found_by size ls (ahead_after size v (step_by size v l)) ≡ Some x →
    found_in_turn size ms (ahead_after size v (step_by size v l)) ≡ Some x) →
    (if b then option_map (after_walk_step (step_by size v l)) (found_by size ls (ahead_after size v (step_by size v l))) else None)
    ≡ Some f →
    option_map (after_walk_step (walk_step m size v)) (found_in_turn size ms (ahead_after size v (walk_step m size v))) ≡ Some f
in_turn_step ms m size v l ls f false inside at is rest e = absurd (cc)
in_turn_step ms m size v l ls f true inside at is rest e =
    let w = step_by size v l in
    let same : w ≡ walk_step m size v = step_still m size v l inside (eqb-true l.address (entry_address v) at) is in
    let got = mapped (after_walk_step w) (found_by size ls (ahead_after size v w)) f e in
    sym (ap (λ (x : WalkStep). option_map (after_walk_step x) (found_in_turn size ms (ahead_after size v x))) same)
    ∙ ap (option_map (after_walk_step w)) (rest got.0 got.1) ∙ ap Some got.2

in_turn_from : (size : ℕ) (ms : List Memory) (ls : List Load) (a : Ahead) (f : Found) → IsSound a → AreEntriesInTurn ms ls →
    found_by size ls a ≡ Some f → found_in_turn size ms a ≡ Some f
unfolding found_by found_in_turn
in_turn_from size [] [] (Ends g) f sound are e = e
in_turn_from size (m ∷ ms) [] (Ends g) f sound are e = e
in_turn_from size ms [] (Reads v) f sound are e = absurd (cc)
in_turn_from size [] (l ∷ ls) a f sound are e = absurd are
in_turn_from size (m ∷ ms) (l ∷ ls) (Ends g) f sound are e = e
in_turn_from size (m ∷ ms) (l ∷ ls) (Reads v) f sound are e =
    in_turn_step ms m size v l ls f (l.address == entry_address v) sound refl are.0
    (λ x h. in_turn_from size ms ls (ahead_after size v (step_by size v l)) x
    (sound_next size (step_by size v l) (next_visit v (step_by size v l))) are.1 h) e

pub in_turn : InTurn
in_turn ms q head ls f are e =
    in_turn_from q.size ms ls (ahead_at q.size (first_visit q head)) f (sound_at q.size (first_visit q head)) are e
