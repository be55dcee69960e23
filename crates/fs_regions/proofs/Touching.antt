-- addresses that descriptors don't use
use Rattle.std.proofs.Common.{◌≡◌, ℕ, false, ◌+◌, ◌<◌, [], ◌∷◌, inl, inr, refl}
use Rattle.std.proofs.lemmas.Bool.{cases_lt, le-leb, le-ltb, lt-leb}
use Rattle.std.proofs.lemmas.List.Elements.{All-cons, All-head, All-nil, All-tail}
use Rattle.vm_iotlb.specs.declared.permissions.Permissions.{Permissions}
use Rattle.vm_iotlb.specs.Table.{Table, is_within, mapped, unmapped}
use Rattle.fs_queue.specs.Chain.{Descriptor}
use Rattle.fs_regions.specs.Using.{IsUntouched, OthersStay, StaysFor}

outside : (iova n : ℕ) (d : Descriptor) (k : ℕ) → IsUntouched iova n d → k < d.len → is_within iova n (d.addr + k) ≡ false
outside iova n d k apart less =
    elim (cases_lt (d.addr + k) iova) [
      | inl below ↦ let test = lt-leb iova (d.addr + k) below in rw test refl
      | inr low ↦ elim (cases_lt (d.addr + k) (iova + n)) [
        | inl high ↦ absurd (apart (k, less, low, high))
        | inr over ↦ let first = le-leb iova (d.addr + k) low in let test = le-ltb (d.addr + k) (iova + n) over in rw (first, test) refl
      ]
    ]

taken_out : (iova n : ℕ) (table : Table) (d : Descriptor) → IsUntouched iova n d → StaysFor table (unmapped iova n table) d
taken_out iova n table d apart = λ k less. let test = outside iova n d k apart less in rw test refl

mapped_anew : (iova n target : ℕ) (perm : Permissions) (table : Table) (d : Descriptor) → IsUntouched iova n d →
    StaysFor table (mapped iova target n perm table) d
mapped_anew iova n target perm table d apart = λ k less. let test = outside iova n d k apart less in rw test refl

pub others_stay : OthersStay
others_stay iova n target perm table [] all =
    (All-nil (StaysFor table (unmapped iova n table)), All-nil (StaysFor table (mapped iova target n perm table)))
others_stay iova n target perm table (d ∷ ds) all =
    let first = All-head (IsUntouched iova n) d ds all in
    let rest = others_stay iova n target perm table ds (All-tail (IsUntouched iova n) d ds all) in (
      All-cons (StaysFor table (unmapped iova n table)) d ds (taken_out iova n table d first) rest.0,
      All-cons (StaysFor table (mapped iova target n perm table)) d ds (mapped_anew iova n target perm table d first) rest.1,
    )
