-- writing the pages of a range byte by byte writes a run of pages
use Rattle.std.proofs.Common.{◌≡◌, ℕ, ◌+◌, ◌*◌, ◌/◌, ◌^◌, ◌<◌, ◌≤◌, inl, inr, Bool, true, false, cond, ltb, List, [], length, get_or, set}
use Rattle.std.proofs.Common.{refl, ap, sym, ◌∙◌, arith, zero, suc}
use Rattle.std.proofs.lemmas.List.{set_past, length-set, get_or-set_same, get_or-set_other, ext_get_or, nil_from_length}
use Rattle.std.proofs.lemmas.Nat.{div-mul-add, le-div, mul-le}
use Rattle.std.proofs.Math.Nat.{div-mul-le_self}
use Rattle.std.proofs.lemmas.Bool.{cases_lt, cases_eq, lt-ltb, le-ltb, cond-true, cond-false}
use Rattle.vm_bitmaps.specs.Pages.{marked_at, marked_range, cleared_at, cleared_range}

-- the pages with that of one byte below top written, and with those of a range of bytes
abbrev written_at : Bool → (top size : ℕ) → List Bool → (offset : ℕ) → List Bool
written_at v top size marks offset = cond (ltb offset top) (set marks (offset / size) v) marks

unfoldable pub written_range : Bool → (top size : ℕ) → List Bool → (offset n : ℕ) → List Bool
written_range v top size marks offset zero = marks
written_range v top size marks offset (suc n) = written_range v top size (written_at v top size marks offset) (offset + 1) n

pub marked_range-is :
    (n size : ℕ) (marks : List Bool) (offset : ℕ) → marked_range size marks offset n ≡ written_range true (2 ^ 64) size marks offset n
unfolding marked_range written_range
marked_range-is zero size marks offset = refl
marked_range-is (suc n) size marks offset = marked_range-is n size (marked_at size marks offset) (offset + 1)

pub cleared_range-is :
    (n size : ℕ) (marks : List Bool) (offset : ℕ) → cleared_range size marks offset n ≡ written_range false (2 ^ 64) size marks offset n
unfolding cleared_range written_range
cleared_range-is zero size marks offset = refl
cleared_range-is (suc n) size marks offset = cleared_range-is n size (cleared_at size marks offset) (offset + 1)

pub div-le-div : (a b s : ℕ) → 0 < s → a ≤ b → a / s ≤ b / s
div-le-div a b s h le = let k = div-mul-le_self a s in le-div (a / s) b s h (omega arith)

-- the marks after a write of either kind
pub chosen_range-is : (mark : Bool) (size : ℕ) (marks : List Bool) (offset n : ℕ) →
    cond mark (marked_range size marks offset n) (cleared_range size marks offset n) ≡ written_range mark (2 ^ 64) size marks offset n
chosen_range-is true size marks offset n = marked_range-is n size marks offset
chosen_range-is false size marks offset n = cleared_range-is n size marks offset

at_below : (v : Bool) (top s : ℕ) (m : List Bool) (o : ℕ) → o < top → written_at v top s m o ≡ set m (o / s) v
at_below v top s m o l = cond-true (ltb o top) (set m (o / s) v) m (lt-ltb o top l)

at_past : (v : Bool) (top s : ℕ) (m : List Bool) (o : ℕ) → top ≤ o → written_at v top s m o ≡ m
at_past v top s m o g = cond-false (ltb o top) (set m (o / s) v) m (le-ltb o top g)

length-at : (v : Bool) (top s : ℕ) (m : List Bool) (o : ℕ) → length (written_at v top s m o) ≡ length m
length-at v top s m o = elim (cases_lt o top) [
  | inl l ↦ ap length (at_below v top s m o l) ∙ length-set m (o / s) v
  | inr g ↦ ap length (at_past v top s m o g)
]

pub length-range : (n : ℕ) (v : Bool) (top s : ℕ) (m : List Bool) (o : ℕ) → length (written_range v top s m o n) ≡ length m
unfolding written_range
length-range zero v top s m o = refl
length-range (suc n) v top s m o = length-range n v top s (written_at v top s m o) (o + 1) ∙ length-at v top s m o

-- bytes that do not exist
pub range_past : (n : ℕ) (v : Bool) (top s : ℕ) (m : List Bool) (o : ℕ) → top ≤ o → written_range v top s m o n ≡ m
unfolding written_range
range_past zero v top s m o g = refl
range_past (suc n) v top s m o g =
    range_past n v top s (written_at v top s m o) (o + 1) (omega arith) ∙ at_past v top s m o g

-- bytes past the last page
pub range_beyond : (n : ℕ) (v : Bool) (top s : ℕ) (m : List Bool) (o : ℕ) → 0 < s → length m ≤ o / s → written_range v top s m o n ≡ m
unfolding written_range
range_beyond zero v top s m o h g = refl
range_beyond (suc n) v top s m o h g =
    let more = div-le-div o (o + 1) s h (omega arith) in
    let same : written_at v top s m o ≡ m = elim (cases_lt o top) [
      | inl l ↦ at_below v top s m o l ∙ set_past m (o / s) v g
      | inr past ↦ at_past v top s m o past
    ] in
    range_beyond n v top s (written_at v top s m o) (o + 1) h (omega (arith, length-at v top s m o)) ∙ same

-- a page that no byte of the range lies in
preserved_at : (v : Bool) (top s : ℕ) (m : List Bool) (o p : ℕ) (d : Bool) → (o < top → o / s ≡ p → ⊥) →
    get_or (written_at v top s m o) p d ≡ get_or m p d
preserved_at v top s m o p d none = elim (cases_lt o top) [
  | inl l ↦ ap (λ m'. get_or m' p d) (at_below v top s m o l) ∙ get_or-set_other m (o / s) p v d (λ e. none l (sym e))
  | inr g ↦ ap (λ m'. get_or m' p d) (at_past v top s m o g)
]

preserved : (n : ℕ) (v : Bool) (top s : ℕ) (m : List Bool) (o p : ℕ) (d : Bool) →
    ((b : ℕ) → o ≤ b → b < o + n → b < top → b / s ≡ p → ⊥) → get_or (written_range v top s m o n) p d ≡ get_or m p d
unfolding written_range
preserved zero v top s m o p d none = refl
preserved (suc n) v top s m o p d none =
    preserved n v top s (written_at v top s m o) (o + 1) p d (λ b low high l e. none b (omega arith) (omega arith) l e) ∙
    preserved_at v top s m o p d (λ l e. none o (omega arith) (omega arith) l e)

-- a page once written stays so
stays_at :
    (v : Bool) (top s : ℕ) (m : List Bool) (o p : ℕ) (d : Bool) → p < length m → get_or m p d ≡ v → get_or (written_at v top s m o) p d ≡ v
stays_at v top s m o p d w e = elim (cases_eq (o / s) p) [
  | inl same ↦ elim (cases_lt o top) [
    | inl l ↦ ap (λ m'. get_or m' p d) (at_below v top s m o l ∙ ap (λ i. set m i v) same) ∙ get_or-set_same m p v d w
    | inr g ↦ ap (λ m'. get_or m' p d) (at_past v top s m o g) ∙ e
  ]
  | inr ne ↦ preserved_at v top s m o p d (λ l f. ne f) ∙ e
]

stays : (n : ℕ) (v : Bool) (top s : ℕ) (m : List Bool) (o p : ℕ) (d : Bool) → p < length m → get_or m p d ≡ v →
    get_or (written_range v top s m o n) p d ≡ v
unfolding written_range
stays zero v top s m o p d w e = e
stays (suc n) v top s m o p d w e =
    let k = length-at v top s m o in
    stays n v top s (written_at v top s m o) (o + 1) p d (omega arith) (stays_at v top s m o p d w e)

-- a page that a byte of the range lies in
hit : (n : ℕ) (v : Bool) (top s : ℕ) (m : List Bool) (o p : ℕ) (d : Bool) (b : ℕ) →
    o ≤ b → b < o + n → b < top → b / s ≡ p → p < length m → get_or (written_range v top s m o n) p d ≡ v
unfolding written_range
hit zero v top s m o p d b low high l e w = absurd (omega arith)
hit (suc n) v top s m o p d b low high l e w =
    let k = length-at v top s m o in
    elim (cases_eq o b) [
      | inl same ↦
          let at : o / s ≡ p = ap (λ i. i / s) same ∙ e in
          let now : get_or (written_at v top s m o) p d ≡ v =
          ap (λ m'. get_or m' p d) (at_below v top s m o (omega arith) ∙ ap (λ i. set m i v) at) ∙ get_or-set_same m p v d w in
          stays n v top s (written_at v top s m o) (o + 1) p d (omega arith) now
      | inr ne ↦ hit n v top s (written_at v top s m o) (o + 1) p d b (omega arith) (omega arith) l e (omega arith)
    ]

-- the first byte of a page after that of o is past o
page_after : (o s p : ℕ) → 0 < s → o / s < p → o ≤ p * s
page_after o s p h l = elim (cases_lt (p * s) o) [
  | inl small ↦ let k = le-div p o s h (omega arith) in absurd (omega arith)
  | inr large ↦ large
]

mul-div : (p s : ℕ) → 0 < s → p * s / s ≡ p
mul-div p s h = ap (λ m. m / s) (omega arith) ∙ div-mul-add p s 0 h

mul_mono : (a b c : ℕ) → a ≤ b → a * c ≤ b * c
mul_mono a b c l = mul-le a c b c l (omega arith)

-- a page between that of the first byte and that of the last has a byte of the range
byte_of : (o final s p : ℕ) → 0 < s → o ≤ final → o / s ≤ p → p ≤ final / s → (b : ℕ) × (o ≤ b) × (b ≤ final) × (b / s ≡ p)
byte_of o final s p h le low high = elim (cases_eq (o / s) p) [
  | inl same ↦ (o, omega arith, le, same)
  | inr ne ↦
      let past = page_after o s p h (omega arith) in
      let inside : p * s ≤ final = elim (cases_lt final (p * s)) [
        | inl over ↦ absurd (let k = div-mul-le_self final s in let more = mul_mono p (final / s) s high in omega arith)
        | inr fine ↦ fine
      ] in
      (p * s, past, inside, mul-div p s h)
]

-- a list whose pages from that of the first byte to that of the last are written, and the others are as they were
pub run_is : (v : Bool) (top s : ℕ) (m new : List Bool) (o n final : ℕ) → 0 < s → o ≤ final → final < o + n → final < top →
    ((b : ℕ) → b < o + n → b < top → b ≤ final) → length new ≡ length m →
    ((p : ℕ) → p < length m → o / s ≤ p → p ≤ final / s → get_or new p false ≡ v) →
    ((p : ℕ) → p < length m → p < o / s → get_or new p false ≡ get_or m p false) →
    ((p : ℕ) → p < length m → final / s < p → get_or new p false ≡ get_or m p false) →
    new ≡ written_range v top s m o n
run_is v top s m new o n final h le fits below last count inside before after =
    let k = length-range n v top s m o in
    ext_get_or false new (written_range v top s m o n) (omega arith) (λ p w.
    elim (cases_lt p (o / s)) [
      | inl low ↦ before p (omega arith) low
          ∙ sym (preserved n v top s m o p false (λ b bl bh bt e. let g = div-le-div o b s h bl in absurd (omega arith)))
      | inr from ↦ elim (cases_lt (final / s) p) [
        | inl high ↦ after p (omega arith) high
            ∙ sym (preserved n v top s m o p false (λ b bl bh bt e. let g = div-le-div b final s h (last b bh bt) in absurd (omega arith)))
        | inr to ↦
            let b = byte_of o final s p h le from to in
            inside p (omega arith) from to ∙ sym (hit n v top s m o p false b.0 b.1 (omega arith) (omega arith) b.3 (omega arith))
      ]
    ])

-- if there are no pages, or no byte of the range exists, nothing is marked
nil_from : (m : List Bool) → length m ≡ 0 → ◌≡◌ {A = List Bool} [] m
nil_from m e = sym (nil_from_length m e)

pub marked_none : (n s o : ℕ) → ◌≡◌ {A = List Bool} [] (marked_range s [] o n)
marked_none n s o = nil_from (marked_range s [] o n) (ap length (marked_range-is n s [] o) ∙ length-range n true (2 ^ 64) s [] o)

pub marked_past : (n s : ℕ) (m : List Bool) (o : ℕ) → 2 ^ 64 ≤ o → m ≡ marked_range s m o n
marked_past n s m o g = sym (marked_range-is n s m o ∙ range_past n true (2 ^ 64) s m o g)
