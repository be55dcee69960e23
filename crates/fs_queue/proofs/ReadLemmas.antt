-- reads of ranges, by the addresses that were reached
use Rattle.std.proofs.Common.{◌≡◌, ℕ, Bool, false, ◌+◌, ◌^◌, ◌<◌, List, [], ◌∷◌, ◌++◌, length, map, take, drop, ap, sym, ◌∙◌, None}
use Rattle.std.specs.Prelude.{is_some, IsTrue, if◌then◌else◌}
use Rattle.std.specs.Int.{w16, w32, w64, from_le_bytes, to_le_bytes}
use Rattle.std.proofs.lemmas.Nat.{from_le_bytes-to_le_bytes_2, from_le_bytes-to_le_bytes_4, from_le_bytes-to_le_bytes_8}
use Rattle.std.proofs.lemmas.List.{take_at, drop_at, map-append, length-map}
use Rattle.vm_values.specs.Fields.{AllFit, spelled}
use Rattle.vm_values.specs.Fields as fields
use Rattle.vm_iotlb.specs.declared.permissions.Permissions.{Permissions}
use Rattle.vm_memory.specs.Memory.{Memory, addresses, circular, located, is_mapped, location, reach, byte, bytes, number}
use Rattle.vm_memory.proofs.Places.{circular-is, length-addresses, addresses-append}
use Rattle.vm_memory.proofs.RangeLemmas.{reach-from}
use Rattle.fs_queue.specs.Records.{descriptor}
use Rattle.fs_queue.specs.Chain.{Descriptor, descriptor_at}

-- it wants memory only of a range that isn't mapped throughout, so not each address has a place
pub unreached : (m : Memory) (access : Permissions) (a n : ℕ) → a + n < 2 ^ 64 → is_mapped m access a n ≡ false → false ≡ reach m access a n
unreached m access a n fits un =
    sym (ap (λ b. is_some (if b then located (location m access) (circular a n) else None)) un) ∙ reach-from m access a n fits

-- what is read of a range that ends below 2^64
pub have_read : (m : Memory) (a n : ℕ) (found : Bool) (new : List ℕ) → a + n < 2 ^ 64 → (IsTrue found → new ≡ map (byte m) (circular a n)) →
    IsTrue found → new ≡ bytes m a n
have_read m a n found new fits h all = h all ∙ ap (map (byte m)) (circular-is n a fits)

-- the front and the rest of a range's bytes
bytes-append : (m : Memory) (a j k : ℕ) → bytes m a (j + k) ≡ bytes m a j ++ bytes m (a + j) k
bytes-append m a j k = ap (map (byte m)) (addresses-append j k a) ∙ map-append (byte m) (addresses a j) (addresses (a + j) k)

pub length-bytes : (m : Memory) (a n : ℕ) → length (bytes m a n) ≡ n
length-bytes m a n = length-map (addresses a n) (byte m) ∙ length-addresses n a

pub front_bytes : (m : Memory) (a j k : ℕ) → take j (bytes m a (j + k)) ≡ bytes m a j
front_bytes m a j k = ap (take j) (bytes-append m a j k) ∙ take_at (bytes m a j) (bytes m (a + j) k) j (length-bytes m a j)

pub back_bytes : (m : Memory) (a j k : ℕ) → drop j (bytes m a (j + k)) ≡ bytes m (a + j) k
back_bytes m a j k = ap (drop j) (bytes-append m a j k) ∙ drop_at (bytes m a j) (bytes m (a + j) k) j (length-bytes m a j)

abbrev entry : (addr len flags next : ℕ) → Descriptor
entry addr len flags next = record { addr = addr; len = len; flags = flags; next = next }

-- the descriptor that is spelled by the sixteen bytes at an address
pub decoded : (m : Memory) (a : ℕ) (r : Descriptor) → spelled (descriptor r) ≡ bytes m a 16 → AllFit (descriptor r) → r ≡ descriptor_at m a
unfolding fields.field_bytes fields.Fits
decoded m a r is fits =
    let p1 : to_le_bytes w64 r.addr ≡ bytes m a 8 = ap (take 8) is ∙ front_bytes m a 8 8 in
    let p2 : to_le_bytes w32 r.len ≡ bytes m (a + 8) 4 =
    ap (λ (l : List ℕ). take 4 (drop 8 l)) is ∙ ap (take 4) (back_bytes m a 8 8) ∙ front_bytes m (a + 8) 4 4 in
    let p3 : to_le_bytes w16 r.flags ≡ bytes m (a + 12) 2 =
    ap (λ (l : List ℕ). take 2 (drop 12 l)) is ∙ ap (take 2) (back_bytes m a 12 4) ∙ front_bytes m (a + 12) 2 2 in
    let p4 : to_le_bytes w16 r.next ≡ bytes m (a + 14) 2 = ap (drop 14) is ∙ back_bytes m a 14 2 in
    let n1 : r.addr ≡ number m w64 a = sym (from_le_bytes-to_le_bytes_8 r.addr fits.0) ∙ ap (from_le_bytes w64) p1 in
    let n2 : r.len ≡ number m w32 (a + 8) = sym (from_le_bytes-to_le_bytes_4 r.len fits.1.0) ∙ ap (from_le_bytes w32) p2 in
    let n3 : r.flags ≡ number m w16 (a + 12) = sym (from_le_bytes-to_le_bytes_2 r.flags fits.1.1.0) ∙ ap (from_le_bytes w16) p3 in
    let n4 : r.next ≡ number m w16 (a + 14) = sym (from_le_bytes-to_le_bytes_2 r.next fits.1.1.1.0) ∙ ap (from_le_bytes w16) p4 in
    ap (λ (n : ℕ). entry n r.len r.flags r.next) n1
    ∙ ap (λ (n : ℕ). entry (number m w64 a) n r.flags r.next) n2
    ∙ ap (λ (n : ℕ). entry (number m w64 a) (number m w32 (a + 8)) n r.next) n3
    ∙ ap (λ (n : ℕ). entry (number m w64 a) (number m w32 (a + 8)) (number m w16 (a + 12)) n) n4

-- the number that two bytes spell
pub spelled_number : (bs : List ℕ) (n : ℕ) → bs ≡ spelled (fields.w n ∷ []) → AllFit (fields.w n ∷ []) → n ≡ from_le_bytes w16 bs
unfolding fields.field_bytes fields.Fits
spelled_number bs n is fits = sym (from_le_bytes-to_le_bytes_2 n fits.0) ∙ ap (from_le_bytes w16) (sym is)
