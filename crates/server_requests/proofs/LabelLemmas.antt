-- Where a label lies among the extensions that were read.
use Rattle.std.proofs.Common.{◌≡◌, ◌≢◌, ◌∙◌, ℕ, suc, ◌+◌, ◌-◌, ◌<◌, ◌≤◌, Bool, true, false, not, List, ◌++◌, length, take, drop}
use Rattle.std.proofs.Common.{Result, Some, None, Ok, Err, refl, ap, sym, subst, arith, true≢false, ⊎_elim}
use Rattle.std.specs.Prelude.{◌&&◌, IfOk, nat_le, nat_lt}
use Rattle.std.proofs.lemmas.Bool.{cases_lt}
use Rattle.std.proofs.lemmas.Bool.Decides.{nat_tests}
use Rattle.std.proofs.lemmas.List.{drop_at, take-append-le}
use Rattle.fuse_in.specs.Shapes.{made}
use Rattle.fuse_wire.specs.declared.others.ExtHeader.{ExtHeader}
use Rattle.fuse_wire.specs.Records.{ext_header}
use Rattle.fuse_values.specs.declared.placed.Placed.{Placed}
use Rattle.fuse_values.specs.declared.received.Label.{Label}
use Rattle.fuse_values.specs.Places.{LabelStandsAt, LabelStandsIn, NoLabelBefore, StandsIn}
use Rattle.fuse_values.specs.Places.{extension_at, extension_start, extension_type}
use Rattle.server_segments.specs.declared.error.Error.{Error}
use Rattle.server_requests.specs.declared.extensions.SoFar.{SoFar}
use Rattle.server_requests.specs.Reading.{record_parser}
use Rattle.server_requests.specs.Labels.{LabelSoFar, ReadSoFar}
use Rattle.server_requests.proofs.PlaceLemmas.{record_by}

-- the header that was read is the one that lies in the request
header_read : (request more : List ℕ) (p : Placed) (r : ExtHeader) → StandsIn request p
    → Ok (r, more) ≡ record_parser ext_header p.bytes.now → extension_at request p.at ≡ r
unfolding StandsIn extension_at record_parser
header_read request more p r here e =
    let bytes = p.bytes.now in
    let is = record_by (nat_lt (length bytes) 8) 8 (made ext_header.parts ext_header.make) bytes more r refl e in
    let rest : drop p.at request ≡ bytes ++ here.1 = rw here.2 (drop_at here.0 (bytes ++ here.1) p.at here.3) in
    let front : take 8 (drop p.at request) ≡ take 8 bytes = rw rest (take-append-le 8 bytes here.1 is.2) in
    ap (made ext_header.parts ext_header.make) front ∙ sym is.0

-- no extension was read
pub none_read : (request : List ℕ) (bytes : Placed) (sent : SoFar) → sent.received.secctx ≡ None
    → StandsIn request bytes → ReadSoFar request bytes.at 0 sent bytes
unfolding ReadSoFar LabelSoFar NoLabelBefore extension_start
none_read request bytes sent none here = (here, refl, (rw none tt, λ unsent m few is. absurd (omega (arith, few))))

pub bytes_here : (request : List ℕ) (start n : ℕ) (sent : SoFar) (rest : Placed) → ReadSoFar request start n sent rest
    → StandsIn request rest
unfolding ReadSoFar
bytes_here request start n sent rest so_far = so_far.0

-- where the label of those that were read lies
pub label_read : (request : List ℕ) (start n : ℕ) (sent : SoFar) (rest : Placed) → ReadSoFar request start n sent rest
    → LabelStandsIn request start sent.received.secctx
unfolding ReadSoFar LabelSoFar
label_read request start n sent rest so_far = so_far.2.0

-- one more without a label
one_more : (request : List ℕ) (start n : ℕ) → NoLabelBefore request start n → extension_type request start n ≢ 1
    → NoLabelBefore request start (suc n)
unfolding NoLabelBefore
one_more request start n none other m h is =
    ⊎_elim
    (λ (l : m < n). none m l is)
    (λ (l : n ≤ m).
    let same : m ≡ n = omega (arith, h, l) in other (subst (λ (k : ℕ). extension_type request start k ≡ 1) same is))
    (cases_lt m n)

-- an empty context
pub empty_sent : (request : List ℕ) (start n : ℕ) (sent x : SoFar) → x.was_sent ≡ true → x.received.secctx ≡ sent.received.secctx
    → LabelSoFar request start n sent → LabelSoFar request start (suc n) x
unfolding LabelSoFar
empty_sent request start n sent x was same before =
    (rw same before.0, λ unsent. absurd (true≢false (sym was ∙ unsent)))

-- another extension
pub other_sent : (request : List ℕ) (start n kind : ℕ) (sent x : SoFar) → x.was_sent ≡ sent.was_sent
    → x.received.secctx ≡ sent.received.secctx → extension_type request start n ≡ kind → kind ≢ 1
    → LabelSoFar request start n sent → LabelSoFar request start (suc n) x
unfolding LabelSoFar
other_sent request start n kind sent x was same is other before = (
  rw same before.0,
  λ unsent. one_more request start n (before.1 (sym was ∙ unsent)) (λ one. other (sym is ∙ one)),
)

-- a group
pub group_kept : (result : Result SoFar Error) (sent : SoFar) (bytes : Placed) (kind : ℕ)
    → IfOk result (λ x. (x.was_sent ≡ sent.was_sent) × (x.received.secctx ≡ sent.received.secctx)) → kind ≡ 32
    → IfOk result (λ x. (request : List ℕ) (start n : ℕ) → StandsIn request bytes → bytes.at ≡ extension_start request start n + 8
    → extension_type request start n ≡ kind → LabelSoFar request start n sent → LabelSoFar request start (suc n) x)
group_kept (Ok x) sent bytes kind same group = λ request start n here place is before.
    other_sent request start n kind sent x same.0 same.1 is (λ one. absurd (omega (arith, group, one))) before
group_kept (Err e) sent bytes kind same group = tt

-- the first context, and it isn't empty
first_context : (t s k : Bool) → (t && not s && k) ≡ true → (s ≡ false) × (k ≡ true)
first_context true false true e = (refl, refl)
first_context true false false e = absurd (cc)
first_context true true k e = absurd (cc)
first_context false s k e = absurd (cc)

pub label_sent : (request : List ℕ) (start n at kind : ℕ) (takes : Bool) (sent x : SoFar) (l : Label)
    → (takes && not sent.was_sent && nat_le kind 1) ≡ true → kind ≢ 0
    → x.was_sent ≡ true → x.received.secctx ≡ Some l
    → at ≡ extension_start request start n + 8 → extension_type request start n ≡ kind
    → LabelStandsAt request l (at + 8) → LabelSoFar request start n sent → LabelSoFar request start (suc n) x
unfolding LabelSoFar
label_sent request start n at kind takes sent x l e z was found place is there before =
    let first = first_context takes sent.was_sent (nat_le kind 1) e in
    let one : kind ≡ 1 = grind (arith, nat_tests, first.1, z) in
    let name : l.name.at ≡ extension_start request start n + 16 = omega (arith, there.0.1, place) in
    let whole : LabelStandsIn request start (Some l) =
    (n, before.1 first.0, is ∙ one, ((there.0.0, name), there.1, there.2)) in
    (rw found whole, λ unsent. absurd (true≢false (sym was ∙ unsent)))

-- where the body of an extension lies, and what lies behind it
pub body_at : (request more : List ℕ) (start n : ℕ) (sent : SoFar) (bytes body : Placed) (r : ExtHeader) (kind : ℕ)
    → ReadSoFar request start n sent bytes → Ok (r, more) ≡ record_parser ext_header bytes.bytes.now
    → kind ≡ r.ext_type → body.at ≡ bytes.at + 8
    → (body.at ≡ extension_start request start n + 8) × (extension_type request start n ≡ kind) × LabelSoFar request start n sent
unfolding ReadSoFar
body_at request more start n sent bytes body r kind so_far e is place =
    let head = header_read request more bytes r so_far.0 e in (
      omega (arith, so_far.1, place),
      ap (λ (k : ℕ). (extension_at request k).ext_type) (sym so_far.1) ∙ ap (λ (h : ExtHeader). h.ext_type) head ∙ sym is,
      so_far.2,
    )

pub one_read : (request more : List ℕ) (start n : ℕ) (sent x : SoFar) (bytes rest : Placed) (r : ExtHeader)
    → ReadSoFar request start n sent bytes → Ok (r, more) ≡ record_parser ext_header bytes.bytes.now → 8 ≤ r.size
    → rest.at ≡ bytes.at + 8 + (r.size - 8) → StandsIn request rest → LabelSoFar request start (suc n) x
    → ReadSoFar request start (suc n) x rest
unfolding ReadSoFar extension_start
one_read request more start n sent x bytes rest r so_far e long place there after =
    let head = header_read request more bytes r so_far.0 e in
    let next : (extension_at request (extension_start request start n)).size ≡ r.size =
    ap (λ (k : ℕ). (extension_at request k).size) (sym so_far.1) ∙ ap (λ (h : ExtHeader). h.size) head in
    (there, omega (arith, next, place, so_far.1, long), after)
