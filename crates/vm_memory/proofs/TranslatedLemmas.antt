-- windows of I/O addresses
use Rattle.std.proofs.Common.{◌≡◌, ℕ, Bool, true, false, zero, suc, ◌+◌, ◌-◌, ◌^◌, ◌<◌, ◌≤◌, ◌&&◌, eqb, min, List, [], ◌∷◌, map, refl, ap}
use Rattle.std.proofs.Common.{sym, subst, ◌∙◌, arith, Option, Some, None}
use Rattle.std.specs.Prelude.{if◌then◌else◌, unwrap_or, MatchOption}
use Rattle.std.proofs.lemmas.Bool.{eqb-true}
use Rattle.vm_iotlb.specs.declared.permissions.Permissions.{Permissions}
use Rattle.vm_iotlb.specs.declared.iova.IovaRange.{IovaRange}
use Rattle.vm_iotlb.specs.declared.iova.MappedRange.{MappedRange}
use Rattle.vm_iotlb.specs.Table.{Mapping, Table, allows}
use Rattle.vm_iotlb.specs.AddressRuns.{go_together, led_by, may_all, may_pass, piece_of, pieces, run_of, runs, target_of}
use Rattle.vm_memory_core.specs.Host.{Place}
use Rattle.vm_memory_core.specs.Window.{Window, io_from, places_of, with_io}
use Rattle.vm_memory_core.proofs.WindowLemmas.{places_replaced}
use Rattle.vm_memory.specs.Layout.{Region, left_at, place}
use Rattle.vm_memory.specs.Memory.{addresses, for_io, located, place_behind}
use Rattle.vm_memory.specs.Translated.{run_len, translated, translated_left, AreLeft, MappedLeft}
use Rattle.vm_iotlb.specs.declared.range.IotlbRange.{IotlbRange}
use Rattle.vm_iotlb.specs.Ranges.{table_held}
use Rattle.vm_memory.proofs.Places.{Where, parts}
use Rattle.vm_memory.proofs.Translations.{nothing_passes}

-- ---- runs of addresses that are mapped as one

-- the first run of some addresses
runs_head : (n a : ℕ) (table : Table) → (rest : List IovaRange) × (runs table a (suc n) ≡ run_of a (run_len table a (suc n)) ∷ rest)
unfolding runs run_len
runs_head zero a table =
    elim (go_together (table a) (table (a + 1)))
    as (λ b. (rest : List IovaRange) × ((if b then run_of a 1 ∷ [] else run_of a 1 ∷ []) ≡ run_of a (if b then 1 else 1) ∷ rest)) [
      | true ↦ ([], refl)
      | false ↦ ([], refl)
    ]
runs_head (suc n) a table =
    let next = runs_head n (a + 1) table in
    let l : ℕ = run_len table (a + 1) (suc n) in
    let led : led_by a (runs table (a + 1) (suc n)) ≡ run_of a (suc l) ∷ next.0 =
    ap (led_by a) next.1 ∙ ap (λ k. run_of a k ∷ next.0) (omega arith) in
    elim (go_together (table a) (table (a + 1))) as (λ b. (rest : List IovaRange) ×
    ((if b then led_by a (runs table (a + 1) (suc n)) else run_of a 1 ∷ runs table (a + 1) (suc n))
    ≡ run_of a (if b then suc l else 1) ∷ rest)) [
      | true ↦ (next.0, led)
      | false ↦ (runs table (a + 1) (suc n), refl)
    ]

-- the first piece that some addresses are mapped to
pub first_piece : (n a : ℕ) (table : Table) (piece : MappedRange) (rest : List MappedRange) → 0 < n → pieces table a n ≡ piece ∷ rest →
    (piece.base.0 ≡ target_of (table a)) × (piece.length ≡ run_len table a n)
unfolding pieces
first_piece zero a table piece rest some is = absurd (omega arith)
first_piece (suc n) a table piece rest some is =
    let head = runs_head n a table in
    let same : piece_of table (run_of a (run_len table a (suc n))) ∷ map (piece_of table) head.0 ≡ piece ∷ rest =
    sym (ap (map (piece_of table)) head.1) ∙ is in
    let one : piece_of table (run_of a (run_len table a (suc n))) ≡ piece = cc in
    (sym (ap (λ (p : MappedRange). p.base.0) one), sym (ap (λ (p : MappedRange). p.length) one))

pub run_len-min : (n m a : ℕ) (table : Table) → n ≤ m → run_len table a n ≡ min n (run_len table a m)
unfolding run_len
run_len-min zero m a table le = omega arith
run_len-min (suc n) zero a table le = absurd (omega arith)
run_len-min (suc n) (suc m) a table le =
    let rest = run_len-min n m (a + 1) table (omega arith) in
    elim (go_together (table a) (table (a + 1)))
    as (λ b. (if b then suc (run_len table (a + 1) n) else 1) ≡ min (suc n) (if b then suc (run_len table (a + 1) m) else 1)) [
      | true ↦ omega (arith, rest)
      | false ↦ omega arith
    ]

pub run_len-some : (n a : ℕ) (table : Table) → 0 < n → 0 < run_len table a n
unfolding run_len
run_len-some zero a table some = absurd (omega arith)
run_len-some (suc n) a table some =
    elim (go_together (table a) (table (a + 1))) as (λ b. 0 < (if b then suc (run_len table (a + 1) n) else 1)) [
      | true ↦ omega arith
      | false ↦ omega arith
    ]

pub run_len-most : (n a : ℕ) (table : Table) → run_len table a n ≤ n
run_len-most n a table = omega (arith, run_len-min n n a table (omega arith))

-- ---- what is left of pieces

both_true : (x y : Bool) → (x && y) ≡ true → (x ≡ true) × (y ≡ true)
both_true true y e = (refl, e)
both_true false y e = absurd (cc)

next_target : (o next : Option Mapping) (access : Permissions) → may_pass access o ≡ true → go_together o next ≡ true →
    target_of next ≡ target_of o + 1
next_target None next access pass e = absurd (cc)
next_target (Some to) None access pass e = absurd (cc)
next_target (Some to) (Some next) access pass e =
    let same = both_true (eqb (to.target + 1) next.target) (allows to.perm next.perm && allows next.perm to.perm) e in
    sym (eqb-true (to.target + 1) next.target same.0)

-- what follows the first k addresses of a piece
abbrev pub past : ℕ → MappedRange → MappedRange
past k p = record { base = record { 0 = p.base.0 + k }; length = p.length - k }

abbrev Remain : Table → (a n : ℕ) → MappedRange → List MappedRange → Type 0
Remain table a n p rest = (0 < p.length → pieces table a n ≡ p ∷ rest) × (p.length ≡ 0 → pieces table a n ≡ rest)

abbrev of_target : (t n : ℕ) → MappedRange
of_target t n = record { base = record { 0 = t }; length = n }

-- a piece of one address, and the pieces of those that follow
one_left : (p : MappedRange) (rest all : List MappedRange) (t : ℕ) → of_target t 1 ∷ all ≡ p ∷ rest →
    (0 < (past 1 p).length → all ≡ past 1 p ∷ rest) × ((past 1 p).length ≡ 0 → all ≡ rest)
one_left p rest all t e =
    let head : of_target t 1 ≡ p = cc in
    let tail : all ≡ rest = cc in
    let len = ap (λ (q : MappedRange). q.length) head in
    (λ some. absurd (omega (arith, len, some)), λ none. tail)

-- a longer piece
more_left : (p : MappedRange) (rest more : List MappedRange) (t u l : ℕ) → 0 < l → u ≡ t + 1 → of_target t (l + 1) ∷ more ≡ p ∷ rest →
    (0 < (past 1 p).length → of_target u l ∷ more ≡ past 1 p ∷ rest) × ((past 1 p).length ≡ 0 → of_target u l ∷ more ≡ rest)
more_left p rest more t u l some next e =
    let head : of_target t (l + 1) ≡ p = cc in
    let tail : more ≡ rest = cc in
    let len : l ≡ p.length - 1 = omega (arith, ap (λ (q : MappedRange). q.length) head) in
    let base : u ≡ p.base.0 + 1 = omega (arith, next, ap (λ (q : MappedRange). q.base.0) head) in (
      λ _. ap (λ k. of_target k l ∷ more) base ∙ ap (λ k. of_target (p.base.0 + 1) k ∷ more) len
          ∙ ap (λ (q : List MappedRange). past 1 p ∷ q) tail,
      λ none. absurd (omega (arith, len, none, some)),
    )

-- the first address of a piece taken away
step_left :
    (n a : ℕ) (table : Table) (access : Permissions) (p : MappedRange) (rest : List MappedRange) → may_all table access a (suc n) ≡ true →
    pieces table a (suc n) ≡ p ∷ rest → Remain table (a + 1) n (past 1 p) rest
unfolding pieces runs may_all
step_left zero a table access p rest all is =
    elim (go_together (table a) (table (a + 1))) as (λ b. map (piece_of table) (if b then run_of a 1 ∷ [] else run_of a 1 ∷ []) ≡ p ∷ rest →
    (0 < (past 1 p).length → [] ≡ past 1 p ∷ rest) × ((past 1 p).length ≡ 0 → [] ≡ rest)) [
      | true ↦ λ e. one_left p rest [] (target_of (table a)) e
      | false ↦ λ e. one_left p rest [] (target_of (table a)) e
    ] is
step_left (suc n) a table access p rest all is =
    let next = runs_head n (a + 1) table in
    let here = both_true (may_pass access (table a)) (may_all table access (a + 1) (suc n)) all in
    let l : ℕ = run_len table (a + 1) (suc n) in
    let led : led_by a (runs table (a + 1) (suc n)) ≡ run_of a (l + 1) ∷ next.0 = ap (led_by a) next.1 in
    elim (go_together (table a) (table (a + 1))) as (λ b. go_together (table a) (table (a + 1)) ≡ b →
    map (piece_of table) (if b then led_by a (runs table (a + 1) (suc n)) else run_of a 1 ∷ runs table (a + 1) (suc n)) ≡ p ∷ rest →
    (0 < (past 1 p).length → map (piece_of table) (runs table (a + 1) (suc n)) ≡ past 1 p ∷ rest)
    × ((past 1 p).length ≡ 0 → map (piece_of table) (runs table (a + 1) (suc n)) ≡ rest)) [
      | true ↦ λ joins e.
          let more = more_left p rest (map (piece_of table) next.0) (target_of (table a)) (target_of (table (a + 1))) l
          (run_len-some (suc n) (a + 1) table (omega arith))
          (next_target (table a) (table (a + 1)) access here.0 joins) (sym (ap (map (piece_of table)) led) ∙ e) in
          (λ some. ap (map (piece_of table)) next.1 ∙ more.0 some, λ none. ap (map (piece_of table)) next.1 ∙ more.1 none)
      | false ↦ λ parts e. one_left p rest (map (piece_of table) (runs table (a + 1) (suc n))) (target_of (table a)) e
    ] refl is

past_none : (p : MappedRange) → past 0 p ≡ p
past_none p =
    let base : p.base.0 + 0 ≡ p.base.0 = omega arith in
    let len : p.length - 0 ≡ p.length = omega arith in
    ap (λ k. of_target k (p.length - 0)) base ∙ ap (of_target p.base.0) len

past_step : (k : ℕ) (p : MappedRange) → past k (past 1 p) ≡ past (suc k) p
past_step k p =
    let base : p.base.0 + 1 + k ≡ p.base.0 + suc k = omega arith in
    let len : p.length - 1 - k ≡ p.length - suc k = omega arith in
    ap (λ x. of_target x (p.length - 1 - k)) base ∙ ap (of_target (p.base.0 + suc k)) len

remain : (k n a : ℕ) (table : Table) (access : Permissions) (p : MappedRange) (rest : List MappedRange) → k ≤ n → k ≤ p.length →
    may_all table access a n ≡ true → Remain table a n p rest →
    Remain table (a + k) (n - k) (past k p) rest
unfolding may_all
remain zero n a table access p rest le within all left =
    let at : a + 0 ≡ a = omega arith in
    let count : n - 0 ≡ n = omega arith in
    subst (λ (q : MappedRange). Remain table (a + 0) (n - 0) q rest) (sym (past_none p))
    (subst (λ x. Remain table x (n - 0) p rest) (sym at) (subst (λ m. Remain table a m p rest) (sym count) left))
remain (suc k) zero a table access p rest le within all left = absurd (omega arith)
remain (suc k) (suc n) a table access p rest le within all left =
    let here = both_true (may_pass access (table a)) (may_all table access (a + 1) n) all in
    let one = step_left n a table access p rest all (left.0 (omega arith)) in
    let more = remain k n (a + 1) table access (past 1 p) rest (omega arith) (omega arith) here.1 one in
    let at : a + 1 + k ≡ a + suc k = omega arith in
    let count : n - k ≡ suc n - suc k = omega arith in
    subst (λ (q : MappedRange). Remain table (a + suc k) (suc n - suc k) q rest) (past_step k p)
    (subst (λ x. Remain table x (suc n - suc k) (past k (past 1 p)) rest) at
    (subst (λ m. Remain table (a + 1 + k) m (past k (past 1 p)) rest) count more))

-- the first k addresses of a piece taken away
pub pieces_left : (k n a : ℕ) (table : Table) (access : Permissions) (p : MappedRange) (rest : List MappedRange) → k ≤ n → k ≤ p.length →
    0 < p.length → p.base.0 + p.length < 2 ^ 64 →
    may_all table access a n ≡ true → pieces table a n ≡ p ∷ rest → AreLeft table (a + k) (n - k) (past k p) rest
pieces_left k n a table access p rest le within some fits all is =
    let left = remain k n a table access p rest le within all (λ _. is, λ none. absurd (omega (arith, none, some))) in
    (omega (arith, within, fits), left.0, left.1)

-- the first of them
pub first_left : (table : Table) (a n : ℕ) (rest more : List MappedRange) (r : Option MappedRange) → 0 < n → pieces table a n ≡ rest →
    MatchOption r ((rest ≡ []) × (more ≡ [])) (λ x. (rest ≡ x ∷ more) × (x.base.0 + x.length < 2 ^ 64)) →
    MatchOption r ⊥ (λ p. pieces table a n ≡ p ∷ more)
unfolding pieces
first_left table a zero rest more r some is gives = absurd (omega arith)
first_left table a (suc n) rest more None some is gives =
    let head = runs_head n a table in
    let none : piece_of table (run_of a (run_len table a (suc n))) ∷ map (piece_of table) head.0 ≡ [] =
    sym (ap (map (piece_of table)) head.1) ∙ is ∙ gives.0 in
    absurd (cc)
first_left table a (suc n) rest more (Some p) some is gives = is ∙ gives.0

-- ---- where the addresses of a run are

behind : (l : List Region) (access : Permissions) (o : Option Mapping) → may_pass access o ≡ true →
    place_behind l access o ≡ place l (target_of o)
behind l access None e = absurd (cc)
behind l access (Some to) e = rw e refl

next_place : (l : List Region) (o : Option Place) (t u j : ℕ) → o ≡ place l (u + j) → u ≡ t + 1 → o ≡ place l (t + suc j)
next_place l o t u j e is = let same : u + j ≡ t + suc j = omega arith in e ∙ ap (place l) same

-- the addresses of a run are mapped to those that follow its target
pub run_place :
    (n a : ℕ) (table : Table) (access : Permissions) (l : List Region) → may_all table access a n ≡ true → (k : ℕ) → k < run_len table a n →
    place_behind l access (table (a + k)) ≡ place l (target_of (table a) + k)
unfolding may_all run_len
run_place zero a table access l all k below = absurd (omega arith)
run_place (suc n) a table access l all zero below =
    let here = both_true (may_pass access (table a)) (may_all table access (a + 1) n) all in
    let at : a + 0 ≡ a = omega arith in
    let to : target_of (table a) + 0 ≡ target_of (table a) = omega arith in
    rw (at, to) (behind l access (table a) here.0)
run_place (suc n) a table access l all (suc j) below =
    let here = both_true (may_pass access (table a)) (may_all table access (a + 1) n) all in
    let at : a + suc j ≡ a + 1 + j = omega arith in
    ap (λ x. place_behind l access (table x)) at ∙
    elim (go_together (table a) (table (a + 1)))
    as (λ b. go_together (table a) (table (a + 1)) ≡ b → suc j < (if b then suc (run_len table (a + 1) n) else 1) →
    place_behind l access (table (a + 1 + j)) ≡ place l (target_of (table a) + suc j)) [
      | true ↦ λ joins more. next_place l (place_behind l access (table (a + 1 + j))) (target_of (table a)) (target_of (table (a + 1))) j
          (run_place n (a + 1) table access l here.1 j (omega arith))
          (next_target (table a) (table (a + 1)) access here.0 joins)
      | false ↦ λ parts more. absurd (omega arith)
    ] refl below

-- ---- places that mark I/O pages

-- addresses whose places are those of others, each marking its own I/O page
located_io : (n a t : ℕ) (f p : Where) (set : ℕ) (ps : List Place) → ((k : ℕ) → k < n → f (a + k) ≡ for_io set (a + k) (p (t + k))) →
    located p (addresses t n) ≡ Some ps →
    located f (addresses a n) ≡ Some (with_io set a ps)
unfolding located addresses
located_io zero a t f p set ps each e = let none : [] ≡ ps = cc in rw (← none) refl
located_io (suc n) a t f p set ps each e =
    let s = parts (p t) (located p (addresses (t + 1) n)) ps e in
    let at : a + 0 ≡ a = omega arith in
    let to : t + 0 ≡ t = omega arith in
    let first : f a ≡ for_io set a (p t) = rw (at, to) at (each 0 (omega arith)) in
    let more : located f (addresses (a + 1) n) ≡ Some (with_io set (a + 1) s.1) =
    located_io n (a + 1) (t + 1) f p set s.1 (λ k h.
    let x : a + 1 + k ≡ a + (k + 1) = omega arith in
    let y : t + 1 + k ≡ t + (k + 1) = omega arith in
    rw (x, y) (each (k + 1) (omega arith))) s.3 in
    let marked : f a ≡ Some (record s.0 { io = Some (record { set = set; address = a }) }) = first ∙ ap (for_io set a) s.2 in
    let here : located f (addresses a (suc n)) ≡ Some (with_io set a (s.0 ∷ s.1)) = rw (marked, more) refl in
    here ∙ ap (λ (l : List Place). Some (with_io set a l)) (sym s.4)

-- a window of what addresses are mapped to is one of these addresses
pub window_translated : (n a len : ℕ) (table : Table) (access : Permissions) (l : List Region) (set : ℕ) (w : Window) →
    may_all table access a n ≡ true → len ≤ run_len table a n → w.len ≡ len →
    located (place l) (addresses (target_of (table a)) len) ≡ Some (places_of w) →
    located (translated l table set access) (addresses a len) ≡ Some (places_of (record w { io = Some (io_from set a w.offset) }))
window_translated n a len table access l set w all le is there =
    located_io len a (target_of (table a)) (translated l table set access) (place l) set (places_of w)
    (λ k below. ap (for_io set (a + k)) (run_place n a table access l all k (omega arith))) there
    ∙ ap Some (places_replaced w set a)

-- the first address, where it is mapped to one without a place
pub first_lost : (n a : ℕ) (table : Table) (access : Permissions) (l : List Region) (set : ℕ) → 0 < n → may_all table access a n ≡ true →
    place l (target_of (table a)) ≡ None →
    translated l table set access a ≡ None
unfolding may_all
first_lost zero a table access l set some all none = absurd (omega arith)
first_lost (suc n) a table access l set some all none =
    let here = both_true (may_pass access (table a)) (may_all table access (a + 1) n) all in
    ap (for_io set a) (behind l access (table a) here.0 ∙ none)

-- how long such a window is
pub translated_len : (n a len left : ℕ) (table : Table) (l : List Region) → a + n ≤ 2 ^ 64 → left ≡ left_at l (target_of (table a)) →
    len ≡ min (run_len table a n) left → len ≡ min n (translated_left l table a)
translated_len n a len left table l fits is e =
    let most = run_len-min n (2 ^ 64 - a) a table (omega arith) in
    omega (arith, most, is, e)

-- what is left of addresses that are mapped throughout is so too
pub may_all-rest : (k n a : ℕ) (table : Table) (access : Permissions) → k ≤ n → may_all table access a n ≡ true →
    may_all table access (a + k) (n - k) ≡ true
unfolding may_all
may_all-rest zero n a table access le all =
    let at : a + 0 ≡ a = omega arith in
    let count : n - 0 ≡ n = omega arith in
    rw (at, count) all
may_all-rest (suc k) zero a table access le all = absurd (omega arith)
may_all-rest (suc k) (suc n) a table access le all =
    let here = both_true (may_pass access (table a)) (may_all table access (a + 1) n) all in
    let at : a + suc k ≡ a + 1 + k = omega arith in
    let count : suc n - suc k ≡ n - k = omega arith in
    ap (λ x. may_all table access x (suc n - suc k)) at ∙ ap (may_all table access (a + 1 + k)) count
    ∙ may_all-rest k n (a + 1) table access (omega arith) here.1

pub may_all-none : (a : ℕ) (table : Table) (access : Permissions) → may_all table access a 0 ≡ true
unfolding may_all
may_all-none a table access = refl

-- ---- loops over what is left

-- before the first window all pieces are left
pub all_left :
    (table : Table) (a n : ℕ) (all : List MappedRange) → all ≡ pieces table a n → AreLeft table (a + 0) (n - 0) (of_target 0 0) all
all_left table a n all is =
    let at : a ≡ a + 0 = omega arith in
    let count : n ≡ n - 0 = omega arith in
    (omega arith, λ some. absurd (omega (arith, some)), λ none. sym (is ∙ ap (λ x. pieces table x n) at ∙ ap (pieces table (a + 0)) count))

pub mapped_left : (table : Table) (access : Permissions) (addr done len : ℕ) (piece : MappedRange) (rest : List MappedRange) → done < len →
    addr + len < 2 ^ 64 → may_all table access addr len ≡ true →
    AreLeft table (addr + done) (len - done) piece rest → MappedLeft table access (addr + done) (len - done) piece rest
mapped_left table access addr done len piece rest below fits all left =
    (omega (arith, below), omega (arith, below, fits), may_all-rest done len addr table access (omega (arith, below)) all, left)

pub left_step : (table : Table) (addr done len n : ℕ) (piece : MappedRange) (rest : List MappedRange) →
    AreLeft table (addr + done + n) (len - done - n) piece rest →
    AreLeft table (addr + (done + n)) (len - (done + n)) piece rest
left_step table addr done len n piece rest left =
    let at : addr + done + n ≡ addr + (done + n) = omega arith in
    let count : len - done - n ≡ len - (done + n) = omega arith in
    subst (λ x. AreLeft table x (len - (done + n)) piece rest) at (subst (λ k. AreLeft table (addr + done + n) k piece rest) count left)

-- what is mapped has a table
pub no_table : (t : Option (List IotlbRange)) (a n : ℕ) (access : Permissions) → t ≡ None → 0 < n →
    may_all (table_held (unwrap_or t [])) access a n ≡ true → ⊥
no_table t a n access none some all =
    let not = nothing_passes t a n access none some in let same : false ≡ true = sym not ∙ all in absurd (cc)
