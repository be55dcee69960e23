-- The entries of a whole table that follow each other are as many steps of a walk.
use Rattle.std.proofs.Common.{◌≡◌, ◌∙◌, ℕ, Bool, true, false, ◌+◌, ◌*◌, ◌<◌, ◌≤◌, ◌^◌, List, [], ◌∷◌, ◌++◌, length, take, drop}
use Rattle.std.proofs.Common.{get_or, Some, None, refl, ap, sym, subst, arith, append_assoc, append-nil, length-append}
use Rattle.std.specs.Prelude.{if◌then◌else◌, nat_lt, not, ◌&&◌, ◌==◌, All}
use Rattle.std.proofs.lemmas.Bool.{eq-eqb, ltb-true}
use Rattle.std.proofs.lemmas.Bool.Decides.{nat_tests}
use Rattle.std.proofs.lemmas.List.Elements.{All-nil, All-push}
use Rattle.vm_values.specs.Fields.{AllFit, spelled}
use Rattle.fs_queue.specs.declared.chain_walk.ChainWalk.{ChainWalk}
use Rattle.fs_queue.specs.declared.chain_walk.Progress.TheVariants as shows
use Rattle.fs_queue.specs.declared.chain_walk.WalkEnd.TheVariants as comes_to
use Rattle.fs_queue.specs.Chain.{Descriptor, DescriptorTable, Visit, Ordinary, IsChain, after_walk_step, entry_address, has_next}
use Rattle.fs_queue.specs.Chain.{is_indirect, walk_step}
use Rattle.fs_queue.specs.Loads.{Load, Ahead, Reads, Ends, ahead_after, ahead_at, ahead_of_next, holding, step_by}
use Rattle.fs_queue.specs.Records.{descriptor}
use Rattle.fs_queue.specs.SteppingView.{joining, visit_of}
use Rattle.fs_queue.specs.WalkingView.{in_table}
use Rattle.fs_queue.proofs.LoadLemmas.{step_spelled}
use Rattle.fs_regions.specs.Stretches.{ReadsStretch}
use Rattle.fs_regions.specs.Walks.{Brings, IsReadOut}
use Rattle.fs_regions.proofs.Finding.{brings_on}
use Rattle.fs_regions.proofs.Stretching.{entry_len, some_more}

-- ---- the list's front stays

pub kept_all : (old : List Descriptor) → take (length old) old ≡ old
kept_all [] = refl
kept_all (d ∷ old) = ap (λ (l : List Descriptor). d ∷ l) (kept_all old)

pushed : (old now : List Descriptor) (d : Descriptor) → take (length old) now ≡ old → take (length old) (now ++ d ∷ []) ≡ old
pushed [] now d is = refl
pushed (x ∷ old) [] d is = absurd (cc)
pushed (x ∷ old) (y ∷ now) d is =
    let head : y ≡ x = ap (λ (l : List Descriptor). get_or l 0 x) is in
    let tail : take (length old) now ≡ old = ap (drop 1) is in
    ap (λ (z : Descriptor). z ∷ take (length old) (now ++ d ∷ [])) head ∙ ap (λ (l : List Descriptor). x ∷ l) (pushed old now d tail)

pub kept : (old now new : List Descriptor) (d : Descriptor) → new ≡ now ++ d ∷ [] → take (length old) now ≡ old
    → take (length old) new ≡ old
kept old now new d is front = ap (take (length old)) is ∙ pushed old now d front

-- ---- a step

-- the visit of an entry, behind those before it
abbrev pub visit_at : ChainWalk → (k : ℕ) → Visit
visit_at walk k = in_table walk.table k (walk.earlier + k)

-- the load of an entry, out of the table's bytes
abbrev pub load_at : ChainWalk → (bs : List ℕ) → (k : ℕ) → Load
load_at walk bs k = record { address = entry_address (visit_at walk k); came = Some (take 16 (drop (16 * k) bs)) }

same_visit : (t : DescriptorTable) (i j e f : ℕ) → i ≡ j → e ≡ f → in_table t i e ≡ in_table t j f
same_visit t i j e f at count = ap (λ n. in_table t n e) at ∙ ap (λ n. in_table t j n) count

no_overflow : (len sum : ℕ) → (0 < len → sum < 2 ^ 64) → (nat_lt 0 len && not (nat_lt sum (2 ^ 64))) ≡ false
no_overflow len sum ends = by_len (nat_lt 0 len) refl
  where
    by_len : (b : Bool) → nat_lt 0 len ≡ b → (b && not (nat_lt sum (2 ^ 64))) ≡ false
    by_len false is = refl
    by_len true is =
        let less = ends (ltb-true 0 len is) in
        let yes : nat_lt sum (2 ^ 64) ≡ true = grind (arith, nat_tests) in
        ap not yes

-- the step at an ordinary descriptor
step_of : (size : ℕ) (v : Visit) (bs : List ℕ) (d : Descriptor) → v.index < v.table.entries → entry_address v + 16 < 2 ^ 64
    → length bs ≡ 16 → bs ≡ spelled (descriptor d) → AllFit (descriptor d) → is_indirect d ≡ false
    → (0 < d.len → d.addr + d.len < 2 ^ 64) → v.earlier < size
    → step_by size v (record { address = entry_address v; came = Some bs }) ≡ Ordinary d
step_of size v bs d inside fits long spell fit kind ends less =
    let room : (v.earlier == size) ≡ false = grind (arith, nat_tests) in
    let over = no_overflow d.len (d.addr + d.len) ends in
    step_spelled size v bs d inside fits long spell fit ∙ rw (kind, room, over) refl

-- an entry of a table, with a descriptor that joins the chain
pub record IsEntry (walk : ChainWalk) (bs : List ℕ) (k : ℕ) (d : Descriptor) : Type 0 where
  pub first : walk.index ≡ 0
  pub whole : length bs ≡ 16 * walk.table.entries
  pub joins : walk.earlier + walk.table.entries ≤ walk.size
  pub inside : k < walk.table.entries
  pub spells : take 16 (drop (16 * k) bs) ≡ spelled (descriptor d)
  pub fits : AllFit (descriptor d)
  pub ordinary : is_indirect d ≡ false
  pub ends : 0 < d.len → d.addr + d.len < 2 ^ 64

entry_step : (walk : ChainWalk) (bs : List ℕ) (k : ℕ) (d : Descriptor) → IsEntry walk bs k d
    → step_by walk.size (visit_at walk k) (load_at walk bs k) ≡ Ordinary d
entry_step walk bs k d e =
    let ends = walk.ends in
    let whole = e.whole in
    let inside = e.inside in
    let joins = e.joins in
    step_of walk.size (visit_at walk k) (take 16 (drop (16 * k) bs)) d inside (omega (arith, ends, inside))
    (entry_len bs (16 * k) (omega (arith, whole, inside))) e.spells e.fits e.ordinary e.ends (omega (arith, joins, inside))

-- ---- the entries so far

-- so many entries were read, and each named the one behind it
pub record InOrder (walk : ChainWalk) (bs : List ℕ) (old now : List Descriptor) (k : ℕ) : Type 0 where
  pub reads : List Load
  pub count : length reads ≡ k
  pub first : 0 < k → (l : Load) × (rest : List Load) × (reads ≡ l ∷ rest) × (l.address ≡ entry_address (visit_of walk))
  pub each : All (IsReadOut (entry_address (visit_of walk)) bs) reads
  pub brings : k < walk.table.entries → (ls : List Load) (start : Ahead) → Brings walk.size ls start old (Reads (visit_of walk)) →
      Brings walk.size (ls ++ reads) start now (Reads (visit_at walk k))

pub in_order_none : (walk : ChainWalk) (bs : List ℕ) (ds : List Descriptor) → walk.index ≡ 0 → InOrder walk bs ds ds 0
in_order_none walk bs ds first = record {
  reads = [];
  count = refl;
  first = λ some. absurd (omega (arith, some));
  each = All-nil (IsReadOut (entry_address (visit_of walk)) bs);
  brings = λ inside ls start from.
      let here : visit_of walk ≡ visit_at walk 0 = same_visit walk.table walk.index 0 walk.earlier (walk.earlier + 0) first (omega arith) in
      subst (λ (x : List Load). Brings walk.size x start ds (Reads (visit_at walk 0))) (sym (append-nil ls))
      (subst (λ (v : Visit). Brings walk.size ls start ds (Reads v)) here from);
}

first_push : (a : ℕ) (reads : List Load) (m : Load) (k : ℕ) → length reads ≡ k
    → (0 < k → (l : Load) × (rest : List Load) × (reads ≡ l ∷ rest) × (l.address ≡ a)) → (k ≡ 0 → m.address ≡ a)
    → (l : Load) × (rest : List Load) × (reads ++ m ∷ [] ≡ l ∷ rest) × (l.address ≡ a)
first_push a [] m k count some here = (m, [], refl, here (sym count))
first_push a (x ∷ xs) m k count some here = some_more a (x ∷ xs) m (some (omega (arith, count)))

-- what was read, with one entry more
read_first : (walk : ChainWalk) (bs : List ℕ) (old now : List Descriptor) (k : ℕ) (d : Descriptor) → IsEntry walk bs k d
    → (o : InOrder walk bs old now k)
    → (l : Load) × (rest : List Load) × (o.reads ++ load_at walk bs k ∷ [] ≡ l ∷ rest) × (l.address ≡ entry_address (visit_of walk))
read_first walk bs old now k d e o =
    let first = e.first in
    first_push (entry_address (visit_of walk)) o.reads (load_at walk bs k) k o.count o.first (λ none. omega (arith, none, first))

read_each : (walk : ChainWalk) (bs : List ℕ) (old now : List Descriptor) (k : ℕ) (d : Descriptor) → IsEntry walk bs k d
    → (o : InOrder walk bs old now k) → All (IsReadOut (entry_address (visit_of walk)) bs) (o.reads ++ load_at walk bs k ∷ [])
read_each walk bs old now k d e o =
    let first = e.first in
    let whole = e.whole in
    let inside = e.inside in
    All-push (IsReadOut (entry_address (visit_of walk)) bs) o.reads (load_at walk bs k) o.each
    (16 * k, omega (arith, first), omega (arith, whole, inside), refl)

read_brings : (walk : ChainWalk) (bs : List ℕ) (old now new : List Descriptor) (k : ℕ) (d : Descriptor) (a : Ahead)
    → IsEntry walk bs k d → (o : InOrder walk bs old now k) → new ≡ now ++ d ∷ []
    → a ≡ ahead_after walk.size (visit_at walk k) (Ordinary d) → (ls : List Load) (start : Ahead)
    → Brings walk.size ls start old (Reads (visit_of walk))
    → Brings walk.size (ls ++ (o.reads ++ load_at walk bs k ∷ [])) start new a
read_brings walk bs old now new k d a e o joined proceeds ls start from =
    let v = visit_at walk k in
    let l = load_at walk bs k in
    let step = entry_step walk bs k d e in
    let whole = e.whole in
    let inside = e.inside in
    let long = entry_len bs (16 * k) (omega (arith, whole, inside)) in
    let on : Brings walk.size ((ls ++ o.reads) ++ l ∷ []) start (now ++ d ∷ []) a =
    brings_on walk.size (ls ++ o.reads) start now v l (Some d) a refl (eq-eqb (length (take 16 (drop (16 * k) bs))) 16 long)
    (sym (ap joining step)) (proceeds ∙ sym (ap (ahead_after walk.size v) step)) (o.brings inside ls start from) in
    subst (λ (x : List Load). Brings walk.size x start new a) (append_assoc ls o.reads (l ∷ []))
    (subst (λ (ds : List Descriptor). Brings walk.size ((ls ++ o.reads) ++ l ∷ []) start ds a) (sym joined) on)

-- where the walk is after an entry that names the next one
next_at : (walk : ChainWalk) (k n : ℕ) (d : Descriptor) → has_next d ≡ true → d.next ≡ n → n ≡ k + 1 → n < walk.table.entries
    → Reads (visit_at walk n) ≡ ahead_after walk.size (visit_at walk k) (Ordinary d)
next_at walk k n d next is one inside =
    let u = in_table walk.table d.next (walk.earlier + k + 1) in
    let found : ahead_after walk.size (visit_at walk k) (Ordinary d) ≡ ahead_at walk.size u =
    ap (λ (b : Bool). ahead_of_next walk.size (Ordinary d) (if b then Some u else None)) next in
    let there : nat_lt d.next walk.table.entries ≡ true = grind (arith, nat_tests) in
    let reads : ahead_at walk.size u ≡ Reads u =
    ap (λ (b : Bool). if b then Reads u else Ends (after_walk_step (walk_step (holding []) walk.size u) (IsChain []))) there in
    ap Reads (same_visit walk.table n d.next (walk.earlier + n) (walk.earlier + k + 1) (sym is) (omega (arith, one))) ∙ sym (found ∙ reads)

-- where it is after one that names none
last_at : (walk : ChainWalk) (k : ℕ) (d : Descriptor) → has_next d ≡ false
    → Ends (IsChain []) ≡ ahead_after walk.size (visit_at walk k) (Ordinary d)
last_at walk k d last =
    let u = in_table walk.table d.next (walk.earlier + k + 1) in
    sym (ap (λ (b : Bool). ahead_of_next walk.size (Ordinary d) (if b then Some u else None)) last)

-- one entry more, which names the one behind it
pub in_order_on : (walk : ChainWalk) (bs : List ℕ) (old now new : List Descriptor) (k n : ℕ) (d : Descriptor)
    → IsEntry walk bs k d → has_next d ≡ true → d.next ≡ n → n ≡ k + 1 → new ≡ now ++ d ∷ []
    → InOrder walk bs old now k → InOrder walk bs old new n
in_order_on walk bs old now new k n d e next is one joined o = record {
  reads = o.reads ++ load_at walk bs k ∷ [];
  count =
      let more = length-append o.reads (load_at walk bs k ∷ []) in let count = o.count in
      omega (arith, more, count, one);
  first = λ some. read_first walk bs old now k d e o;
  each = read_each walk bs old now k d e o;
  brings = λ inside ls start from.
      read_brings walk bs old now new k d (Reads (visit_at walk n)) e o joined (next_at walk k n d next is one inside) ls start from;
}

-- the last entry of a chain
pub in_order_ends : (walk : ChainWalk) (bs : List ℕ) (old now new : List Descriptor) (k : ℕ) (d : Descriptor)
    → IsEntry walk bs k d → has_next d ≡ false → new ≡ now ++ d ∷ [] → InOrder walk bs old now k
    → ReadsStretch walk bs old new (shows.Ends comes_to.Chain)
in_order_ends walk bs old now new k d e last joined o = record {
  reads = o.reads ++ load_at walk bs k ∷ [];
  read_out = record {
    first = read_first walk bs old now k d e o;
    each = read_each walk bs old now k d e o;
    few =
        let more = length-append o.reads (load_at walk bs k ∷ []) in let count = o.count in
        let whole = e.whole in let inside = e.inside in
        omega (arith, more, count, whole, inside);
  };
  brings = λ ls start from.
      read_brings walk bs old now new k d (Ends (IsChain [])) e o joined (last_at walk k d last) ls start from;
  size = tt;
  uses_up = tt;
  counts = λ count. tt;
}
