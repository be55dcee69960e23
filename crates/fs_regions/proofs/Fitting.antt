-- A chain whose buffers are mapped and short enough, and whose push can be made.
use Rattle.std.proofs.Common.{◌≡◌, ◌∙◌, ℕ, Bool, true, false, ◌+◌, ◌-◌, ◌*◌, ◌^◌, ◌<◌, ◌≤◌, List, [], ◌∷◌, None}
use Rattle.std.proofs.Common.{ap, refl, sym, subst, arith}
use Rattle.std.specs.Prelude.{is_some, nat_lt}
use Rattle.std.specs.List.{list_all}
use Rattle.std.proofs.lemmas.Bool.{and_parts, ltb-true}
use Rattle.std.proofs.Math.Nat.{mod-lt}
use Rattle.vm_iotlb.specs.declared.permissions.Permissions.{Permissions}
use Rattle.vm_iotlb.specs.declared.permissions.Permissions.TheVariants.{Read, Write}
use Rattle.vm_memory.specs.Memory.{Memory, addresses, location, reach}
use Rattle.fs_queue.specs.declared.layout.QueueLayout.{QueueLayout}
use Rattle.fs_queue.specs.Chain.{Descriptor, is_writable}
use Rattle.fs_queue.specs.Queue.{element_at, index_at}
use Rattle.fs_queue.specs.Taking.{access_of, all_reach, readable, return_fault, total_len, writable}
use Rattle.fs_queue.specs.WalkingView.{at_position}
use Rattle.fs_queue.proofs.TakeLemmas.{reach-each}
use Rattle.fs_regions.specs.Pieces.{HasDescriptor, IsPiece}
use Rattle.fs_regions.specs.Windows.{HavePlaces}
use Rattle.fs_regions.specs.declared.fits.Piece.{Piece}
use Rattle.fs_regions.proofs.Mapping.{cut}

-- ---- the buffers

-- a descriptor whose bytes are mapped for the device's access
pub reads_by : (m : Memory) (d : Descriptor) (b : Bool) → is_writable d ≡ b → reach m (access_of b) d.addr d.len ≡ true
    → all_reach m Read (readable (d ∷ [])) ≡ true
reads_by m d true is there = rw is refl
reads_by m d false is there = rw is (rw there refl)

pub writes_by : (m : Memory) (d : Descriptor) (b : Bool) → is_writable d ≡ b → reach m (access_of b) d.addr d.len ≡ true
    → all_reach m Write (writable (d ∷ [])) ≡ true
writes_by m d true is there = rw is (rw there refl)
writes_by m d false is there = rw is refl

-- these descriptors' buffers are mapped, the device reads no more than so many bytes of them, and writes no
-- more than so many
pub record Fits (m : Memory) (request reply : ℕ) (ds : List Descriptor) : Type 0 where
  pub few_read : total_len (readable ds) ≤ request
  pub few_written : total_len (writable ds) ≤ reply
  pub reads : all_reach m Read (readable ds) ≡ true
  pub writes : all_reach m Write (writable ds) ≡ true

-- ---- pieces

-- a part of some addresses that are mapped
pub part_reached : (m : Memory) (access : Permissions) (a n b k : ℕ) → a + n < 2 ^ 64 → reach m access a n ≡ true → a ≤ b
    → b + k ≤ a + n → reach m access b k ≡ true
part_reached m access a n b k fits whole after within =
    let has = λ (j : ℕ). location m access j in
    let front : a + (b - a) ≡ b = omega (arith, after) in
    let left : b - a ≤ n = omega (arith, after, within) in
    let short : k ≤ n - (b - a) = omega (arith, after, within) in
    let ends : b + k < 2 ^ 64 = omega (arith, fits, within) in
    let each = sym (reach-each m access a n fits) ∙ whole in
    let behind = (and_parts (list_all (λ x. is_some (has x)) (addresses a (b - a)))
    (list_all (λ x. is_some (has x)) (addresses (a + (b - a)) (n - (b - a)))) (sym (cut a n (b - a) has left) ∙ each)).1 in
    let from : list_all (λ x. is_some (has x)) (addresses b (n - (b - a))) ≡ true =
    subst (λ j. list_all (λ x. is_some (has x)) (addresses j (n - (b - a))) ≡ true) front behind in
    let mine = (and_parts (list_all (λ x. is_some (has x)) (addresses b k))
    (list_all (λ x. is_some (has x)) (addresses (b + k) (n - (b - a) - k))) (sym (cut b (n - (b - a)) k has short) ∙ from)).0 in
    reach-each m access b k ends ∙ mine

-- so many addresses are a piece
pub piece_found : (m : Memory) (b w : Bool) (access : Permissions) (a n end : ℕ) → access ≡ access_of w → b ≡ w → end ≡ a + n
    → HavePlaces (location m access) a n → reach m (access_of b) a (end - a) ≡ true
piece_found m b w access a n end is same at have =
    let len : n ≡ end - a = omega (arith, at) in
    subst (λ k. reach m (access_of b) a k ≡ true) len
    (subst (λ x. reach m x a n ≡ true) (is ∙ ap access_of (sym same)) (reach-each m access a n have.0 ∙ have.1))

-- no addresses
pub no_piece : (m : Memory) (access : Permissions) → reach m access 0 0 ≡ true
unfolding addresses
no_piece m access = refl

-- a descriptor in a piece
in_piece : (m : Memory) (p : Piece) (d : Descriptor) → IsPiece m p → HasDescriptor p d
    → reach m (access_of (is_writable d)) d.addr d.len ≡ true
in_piece m p d piece has =
    let ends = ltb-true (p.from + (p.end - p.from)) (2 ^ 64) (and_parts (nat_lt (p.from + (p.end - p.from)) (2 ^ 64))
    (list_all (λ x. is_some (location m (access_of p.write_only) x)) (addresses p.from (p.end - p.from))) piece).0 in
    let after = has.1 in
    let before = has.2 in
    subst (λ b. reach m (access_of b) d.addr d.len ≡ true) has.0
    (part_reached m (access_of p.write_only) p.from (p.end - p.from) d.addr d.len ends piece after (omega (arith, after, before)))

pub piece_reads : (m : Memory) (p : Piece) (d : Descriptor) → IsPiece m p → HasDescriptor p d
    → all_reach m Read (readable (d ∷ [])) ≡ true
piece_reads m p d piece has = reads_by m d (is_writable d) refl (in_piece m p d piece has)

pub piece_writes : (m : Memory) (p : Piece) (d : Descriptor) → IsPiece m p → HasDescriptor p d
    → all_reach m Write (writable (d ∷ [])) ≡ true
piece_writes m p d piece has = writes_by m d (is_writable d) refl (in_piece m p d piece has)

-- ---- the push

-- the used ring is mapped, and the available ring's flags are
pub push_made : (m : Memory) (layout : QueueLayout) (position ring : ℕ) → ring ≡ 4 + 8 * layout.size
    → reach m Write layout.used ring ≡ true → reach m Read layout.avail 2 ≡ true
    → return_fault m (at_position layout position) ≡ None
push_made m layout position ring is used flags =
    let sized = layout.sized in
    let ends = layout.used_ring in
    let inside = mod-lt position sized in
    let fits : layout.used + ring < 2 ^ 64 = omega (arith, is, ends) in
    let element : reach m Write (element_at (at_position layout position)) 8 ≡ true =
    part_reached m Write layout.used ring (element_at (at_position layout position)) 8 fits used (omega arith)
    (omega (arith, is, inside)) in
    let index : reach m Write (index_at (at_position layout position)) 2 ≡ true =
    part_reached m Write layout.used ring (index_at (at_position layout position)) 2 fits used (omega arith)
    (omega (arith, is, sized)) in
    rw (element, index, flags) refl
