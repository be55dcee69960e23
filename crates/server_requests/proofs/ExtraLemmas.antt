-- The extensions of a request, by what was read.
use Rattle.std.proofs.Common.{◌≡◌, ◌≢◌, ℕ, zero, suc, ◌-◌, ◌<◌, ◌≤◌, Bool, true, false, not, List, [], ◌∷◌, ◌++◌, length, take, drop}
use Rattle.std.proofs.Common.{Result, Ok, Err, Some, None, refl, sym, ap, ◌∙◌, arith}
use Rattle.std.specs.Prelude.{◌==◌, ◌&&◌, ◌||◌, nat_le, is_none}
use Rattle.std.specs.Int.{w32}
use Rattle.std.proofs.lemmas.Bool.{lt-ltb, le-ltb}
use Rattle.std.proofs.lemmas.Bool.Decides.{nat_tests}
use Rattle.vm_values.specs.Fields.{unsigned, spelled, AllFit}
use Rattle.fuse_wire.specs.declared.others.Secctx.{Secctx}
use Rattle.fuse_wire.specs.declared.others.SuppGroups.{SuppGroups}
use Rattle.fuse_wire.specs.declared.others.ExtHeader.{ExtHeader}
use Rattle.fuse_wire.specs.Records.{ext_header, secctx, supp_groups}
use Rattle.fuse_fs.specs.Calls.{SecurityContext, Extra}
use Rattle.server_segments.specs.declared.error.Error.{Error}
use Rattle.server_segments.specs.declared.error.Error.TheVariants.{DecodeMessage, MissingParameter, MissingExtension, InvalidHeaderLength}
use Rattle.server_segments.specs.declared.error.Error.TheVariants.{InvalidCString}
use Rattle.server_requests.specs.Reading.{Parsed, ReadFailure, Faults, and_then, at_zero, record_parser, value_of, front_name}
use Rattle.server_requests.specs.Extras.{SentParts, takes_security, takes_group, security_context, group_number, one_group, security_part}
use Rattle.server_requests.specs.Extras.{group_part, part, extension, extensions, extra_in, parts_of, nothing_sent, new_name, new_link}
use Rattle.server_requests.proofs.RecordLemmas.{read_front}

-- a label that isn't whole
pub label_short :
    (bytes : List ℕ) (e : Error) → Err (Faults e) ≡ record_parser secctx bytes → value_of (security_context bytes) ≡ Err (Faults e)
unfolding security_context
label_short bytes e h = rw (← h) refl

pub label_empty : (bytes more : List ℕ) (r : Secctx) → Ok (r, more) ≡ record_parser secctx bytes → r.size ≡ 0 →
    value_of (security_context bytes) ≡ Err (Faults DecodeMessage)
unfolding security_context
label_empty bytes more r h z =
    let test : (r.size == 0) ≡ true = grind (arith, nat_tests, z) in
    rw (← h, test) refl

pub label_nothing : (bytes more : List ℕ) (r : Secctx) → Ok (r, more) ≡ record_parser secctx bytes → r.size ≢ 0 → length more ≡ 0
    → value_of (security_context bytes) ≡ Err (Faults MissingParameter)
unfolding security_context
label_nothing bytes more r h z l =
    let test : (r.size == 0) ≡ false = grind (arith, nat_tests, z) in
    let none : (length more == 0) ≡ true = grind (arith, nat_tests, l) in
    rw (← h, test, none) refl

pub label_unnamed :
    (bytes more : List ℕ) (r : Secctx) → Ok (r, more) ≡ record_parser secctx bytes → r.size ≢ 0 → length more ≢ 0 → at_zero more ≡ None
    → value_of (security_context bytes) ≡ Err (Faults DecodeMessage)
unfolding security_context
label_unnamed bytes more r h z l a =
    let test : (r.size == 0) ≡ false = grind (arith, nat_tests, z) in
    let some : (length more == 0) ≡ false = grind (arith, nat_tests, l) in
    rw (← h, test, some, a) refl

pub label_cut : (bytes more name others : List ℕ) (r : Secctx) → Ok (r, more) ≡ record_parser secctx bytes → r.size ≢ 0 → length more ≢ 0
    → at_zero more ≡ Some (name, others) → length others < r.size → value_of (security_context bytes) ≡ Err (Faults DecodeMessage)
unfolding security_context
label_cut bytes more name others r h z l a s =
    let test : (r.size == 0) ≡ false = grind (arith, nat_tests, z) in
    let some : (length more == 0) ≡ false = grind (arith, nat_tests, l) in
    rw (← h, test, some, a, lt-ltb (length others) r.size s) refl

pub label_whole : (bytes more name others : List ℕ) (r : Secctx) → Ok (r, more) ≡ record_parser secctx bytes → r.size ≢ 0 → length more ≢ 0
    → at_zero more ≡ Some (name, others) → r.size ≤ length others
    → value_of (security_context bytes) ≡ Ok (record { name = name; label = take r.size others })
unfolding security_context
label_whole bytes more name others r h z l a s =
    let test : (r.size == 0) ≡ false = grind (arith, nat_tests, z) in
    let some : (length more == 0) ≡ false = grind (arith, nat_tests, l) in
    rw (← h, test, some, a, le-ltb (length others) r.size s) refl

-- a group
pub group_short : (bytes : List ℕ) (e : Error) → Err (Faults e) ≡ record_parser supp_groups bytes
    → value_of (one_group bytes) ≡ Err (Faults e)
unfolding one_group
group_short bytes e h = rw (← h) refl

pub group_many : (bytes more : List ℕ) (r : SuppGroups) → Ok (r, more) ≡ record_parser supp_groups bytes → r.nr_groups ≢ 1 →
    value_of (one_group bytes) ≡ Err (Faults DecodeMessage)
unfolding one_group
group_many bytes more r h n =
    let test : (r.nr_groups == 1) ≡ false = grind (arith, nat_tests, n) in
    rw (← h, test) refl

pub group_cut : (bytes more : List ℕ) (r : SuppGroups) → Ok (r, more) ≡ record_parser supp_groups bytes → r.nr_groups ≡ 1 → length more < 4
    → value_of (one_group bytes) ≡ Err (Faults DecodeMessage)
unfolding one_group record_parser
group_cut bytes more r h n s =
    let test : (r.nr_groups == 1) ≡ true = grind (arith, nat_tests, n) in
    rw (← h, test, lt-ltb (length more) 4 s) refl

number_read : (all front more : List ℕ) (n : ℕ) → all ≡ front ++ more → front ≡ spelled (unsigned w32 n ∷ []) →
    AllFit (unsigned w32 n ∷ []) → Ok (n, more) ≡ record_parser group_number all
number_read all front more n e s f =
    read_front group_number (λ k. unsigned w32 k ∷ []) 4 (λ k. refl, λ k. refl, refl) n all more (e ∙ ap (λ b. b ++ more) s) f

pub group_whole : (bytes more front others : List ℕ) (r : SuppGroups) (n : ℕ) → Ok (r, more) ≡ record_parser supp_groups bytes
    → r.nr_groups ≡ 1 → more ≡ front ++ others
    → front ≡ spelled (unsigned w32 n ∷ []) → AllFit (unsigned w32 n ∷ []) → value_of (one_group bytes) ≡ Ok n
unfolding one_group
group_whole bytes more front others r n h t e s f =
    let test : (r.nr_groups == 1) ≡ true = grind (arith, nat_tests, t) in
    rw (← h, test, ← number_read more front others n e s f) refl

-- a context's extension
pub security_refused :
    (options kind : ℕ) (sent : SentParts) (bytes : List ℕ) → (takes_security options && not sent.was_sent && nat_le kind 1) ≡ false
    → value_of (security_part options sent kind bytes) ≡ Err (Faults DecodeMessage)
security_refused options kind sent bytes e = rw e refl

pub security_empty : (options kind : ℕ) (sent : SentParts) (bytes : List ℕ)
    → (takes_security options && not sent.was_sent && nat_le kind 1) ≡ true → kind ≡ 0
    → value_of (security_part options sent kind bytes) ≡ Ok (record { was_sent = true; security = sent.security; group = sent.group })
security_empty options kind sent bytes e z =
    let test : (kind == 0) ≡ true = grind (arith, nat_tests, z) in
    rw (e, test) refl

abbrev sent_pair : SentParts → List ℕ → SentParts × List ℕ
sent_pair sent more = (sent, more)

abbrev with_label : SentParts → Result SecurityContext ReadFailure → Result SentParts ReadFailure
with_label sent (Ok x) = Ok (record { was_sent = true; security = Some x; group = sent.group })
with_label sent (Err r) = Err r

label_by : (sent : SentParts) (r : Parsed SecurityContext) → value_of (and_then r
    (λ x. Ok (sent_pair (record { was_sent = true; security = Some x.0; group = sent.group }) x.1))) ≡ with_label sent (value_of r)
label_by sent (Ok x) = refl
label_by sent (Err r) = refl

security_by : (options kind : ℕ) (sent : SentParts) (bytes : List ℕ)
    → (takes_security options && not sent.was_sent && nat_le kind 1) ≡ true → kind ≢ 0
    → value_of (security_part options sent kind bytes) ≡ with_label sent (value_of (security_context bytes))
security_by options kind sent bytes e z =
    let test : (kind == 0) ≡ false = grind (arith, nat_tests, z) in
    rw (e, test) (label_by sent (security_context bytes))

pub security_given : (options kind : ℕ) (sent : SentParts) (bytes : List ℕ) (x : SecurityContext)
    → (takes_security options && not sent.was_sent && nat_le kind 1) ≡ true → kind ≢ 0
    → Ok x ≡ value_of (security_context bytes)
    → value_of (security_part options sent kind bytes) ≡ Ok (record { was_sent = true; security = Some x; group = sent.group })
security_given options kind sent bytes x e z h = security_by options kind sent bytes e z ∙ ap (with_label sent) (sym h)

pub security_fault : (options kind : ℕ) (sent : SentParts) (bytes : List ℕ) (f : Error)
    → (takes_security options && not sent.was_sent && nat_le kind 1) ≡ true → kind ≢ 0
    → Err (Faults f) ≡ value_of (security_context bytes) → value_of (security_part options sent kind bytes) ≡ Err (Faults f)
security_fault options kind sent bytes f e z h = security_by options kind sent bytes e z ∙ ap (with_label sent) (sym h)

-- a group's extension
pub group_refused : (options : ℕ) (sent : SentParts) (bytes : List ℕ) → (takes_group options && is_none sent.group) ≡ false →
    value_of (group_part options sent bytes) ≡ Err (Faults DecodeMessage)
group_refused options sent bytes e = rw e refl

abbrev with_group : SentParts → Result ℕ ReadFailure → Result SentParts ReadFailure
with_group sent (Ok n) = Ok (record { was_sent = sent.was_sent; security = sent.security; group = Some n })
with_group sent (Err r) = Err r

group_by : (sent : SentParts) (r : Parsed ℕ) →
    value_of (and_then r (λ x. Ok (sent_pair (record { was_sent = sent.was_sent; security = sent.security; group = Some x.0 }) x.1)))
    ≡ with_group sent (value_of r)
group_by sent (Ok x) = refl
group_by sent (Err r) = refl

group_part_by : (options : ℕ) (sent : SentParts) (bytes : List ℕ) → (takes_group options && is_none sent.group) ≡ true
    → value_of (group_part options sent bytes) ≡ with_group sent (value_of (one_group bytes))
group_part_by options sent bytes e = rw e (group_by sent (one_group bytes))

pub group_given : (options n : ℕ) (sent : SentParts) (bytes : List ℕ) → (takes_group options && is_none sent.group) ≡ true
    → Ok n ≡ value_of (one_group bytes)
    → value_of (group_part options sent bytes) ≡ Ok (record { was_sent = sent.was_sent; security = sent.security; group = Some n })
group_given options n sent bytes e h = group_part_by options sent bytes e ∙ ap (with_group sent) (sym h)

pub group_fault : (options : ℕ) (sent : SentParts) (bytes : List ℕ) (f : Error) → (takes_group options && is_none sent.group) ≡ true
    → Err (Faults f) ≡ value_of (one_group bytes)
    → value_of (group_part options sent bytes) ≡ Err (Faults f)
group_fault options sent bytes f e h = group_part_by options sent bytes e ∙ ap (with_group sent) (sym h)

-- one more extension
pub extension_short : (options : ℕ) (sent : SentParts) (bytes : List ℕ) (e : Error) → Err (Faults e) ≡ record_parser ext_header bytes →
    extension options sent bytes ≡ Err (Faults e)
unfolding extension
extension_short options sent bytes e h = rw (← h) refl

pub extension_small :
    (options : ℕ) (sent : SentParts) (bytes more : List ℕ) (r : ExtHeader) → Ok (r, more) ≡ record_parser ext_header bytes → r.size < 8
    → extension options sent bytes ≡ Err (Faults InvalidHeaderLength)
unfolding extension
extension_small options sent bytes more r h s =
    let test : nat_le 8 r.size ≡ false = grind (arith, nat_tests) in
    rw (← h, test) refl

pub extension_cut : (options : ℕ) (sent : SentParts) (bytes more : List ℕ) (r : ExtHeader) → Ok (r, more) ≡ record_parser ext_header bytes
    → 8 ≤ r.size → length more < r.size - 8
    → extension options sent bytes ≡ Err (Faults DecodeMessage)
unfolding extension
extension_cut options sent bytes more r h s l =
    let test : nat_le 8 r.size ≡ true = grind (arith, nat_tests) in
    rw (← h, test, lt-ltb (length more) (r.size - 8) l) refl

abbrev with_others : List ℕ → Result SentParts ReadFailure → Result (SentParts × List ℕ) ReadFailure
with_others others (Ok sent) = Ok (sent, others)
with_others others (Err r) = Err r

part_by : (others : List ℕ) (r : Parsed SentParts) → and_then r (λ x. Ok (x.0, others)) ≡ with_others others (value_of r)
part_by others (Ok x) = refl
part_by others (Err r) = refl

extension_by : (options : ℕ) (sent : SentParts) (bytes more : List ℕ) (r : ExtHeader) → Ok (r, more) ≡ record_parser ext_header bytes
    → 8 ≤ r.size → r.size - 8 ≤ length more
    → extension options sent bytes ≡ with_others (drop (r.size - 8) more) (value_of (part options sent r.ext_type (take (r.size - 8) more)))
unfolding extension
extension_by options sent bytes more r h s l =
    let test : nat_le 8 r.size ≡ true = grind (arith, nat_tests) in
    rw (← h, test, le-ltb (length more) (r.size - 8) l)
    (part_by (drop (r.size - 8) more) (part options sent r.ext_type (take (r.size - 8) more)))

pub extension_given : (options : ℕ) (sent after : SentParts) (bytes more body others : List ℕ) (r : ExtHeader)
    → Ok (r, more) ≡ record_parser ext_header bytes → 8 ≤ r.size → r.size - 8 ≤ length more
    → body ≡ take (r.size - 8) more → others ≡ drop (r.size - 8) more → Ok after ≡ value_of (part options sent r.ext_type body)
    → extension options sent bytes ≡ Ok (after, others)
extension_given options sent after bytes more body others r h s l b o p =
    extension_by options sent bytes more r h s l ∙ ap (with_others (drop (r.size - 8) more)) (sym (rw b at p))
    ∙ ap (λ (d : List ℕ). Ok (after, d)) (sym o)

pub extension_fault : (options : ℕ) (sent : SentParts) (bytes more body : List ℕ) (r : ExtHeader) (e : Error)
    → Ok (r, more) ≡ record_parser ext_header bytes → 8 ≤ r.size → r.size - 8 ≤ length more
    → body ≡ take (r.size - 8) more → Err (Faults e) ≡ value_of (part options sent r.ext_type body)
    → extension options sent bytes ≡ Err (Faults e)
extension_fault options sent bytes more body r e h s l b p =
    extension_by options sent bytes more r h s l ∙ ap (with_others (drop (r.size - 8) more)) (sym (rw b at p))

-- what is left to be read leads on to all of it
abbrev pub ToGo : (options : ℕ) → Result SentParts ReadFailure → SentParts → List ℕ → Type 0
ToGo options whole sent left = (n : ℕ) × (length left ≤ n) × (whole ≡ extensions options n sent left)

more_by : (options n : ℕ) (whole : Result SentParts ReadFailure) (sent after : SentParts) (left others : List ℕ) → length left ≢ 0
    → Ok (after, others) ≡ extension options sent left
    → length others < length left → length left ≤ n → whole ≡ extensions options n sent left → ToGo options whole after others
unfolding extensions
more_by options n whole sent after [] others z h s l e = absurd (omega (arith, s))
more_by options zero whole sent after (b ∷ left) others z h s l e = absurd (omega (arith, l))
more_by options (suc n) whole sent after (b ∷ left) others z h s l e = (n, omega (arith, l, s), e ∙ rw (← h) refl)

pub more_left : (options : ℕ) (whole : Result SentParts ReadFailure) (sent after : SentParts) (left others : List ℕ) → length left ≢ 0
    → Ok (after, others) ≡ extension options sent left
    → length others < length left → ToGo options whole sent left → ToGo options whole after others
more_left options whole sent after left others z h s t = more_by options t.0 whole sent after left others z h s t.1 t.2

fault_by : (options n : ℕ) (sent : SentParts) (left : List ℕ) (f : Error) → length left ≢ 0 → Err (Faults f) ≡ extension options sent left
    → length left ≤ n
    → extensions options n sent left ≡ Err (Faults f)
unfolding extensions
fault_by options n sent [] f z h l = absurd (z refl)
fault_by options zero sent (b ∷ left) f z h l = absurd (omega (arith, l))
fault_by options (suc n) sent (b ∷ left) f z h l = rw (← h) refl

pub fault_left : (options : ℕ) (whole : Result SentParts ReadFailure) (sent : SentParts) (left : List ℕ) (f : Error) → length left ≢ 0
    → Err (Faults f) ≡ extension options sent left
    → ToGo options whole sent left → Err (Faults f) ≡ whole
fault_left options whole sent left f z h t = sym (t.2 ∙ fault_by options t.0 sent left f z h t.1)

end_by : (options n : ℕ) (sent : SentParts) (left : List ℕ) → length left ≡ 0 → extensions options n sent left ≡ Ok sent
unfolding extensions
end_by options zero sent [] z = refl
end_by options (suc n) sent [] z = refl
end_by options n sent (b ∷ left) z = absurd (omega (arith, z))

pub none_left : (options : ℕ) (whole : Result SentParts ReadFailure) (sent : SentParts) (left : List ℕ) → length left ≡ 0 →
    ToGo options whole sent left → Ok sent ≡ whole
none_left options whole sent left z t = sym (t.2 ∙ end_by options t.0 sent left z)

-- all extensions
pub extra_ignored : (options : ℕ) (bytes : List ℕ) → (takes_security options || takes_group options) ≡ false →
    extra_in options bytes ≡ Ok (parts_of nothing_sent)
unfolding extra_in
extra_ignored options bytes e = rw e refl

pub extra_fault : (options : ℕ) (bytes : List ℕ) (f : Error) → (takes_security options || takes_group options) ≡ true
    → Err (Faults f) ≡ extensions options (length bytes) nothing_sent bytes → extra_in options bytes ≡ Err (Faults f)
unfolding extra_in
extra_fault options bytes f e h = rw (e, ← h) refl

pub extra_missing : (options : ℕ) (bytes : List ℕ) (sent : SentParts) → (takes_security options || takes_group options) ≡ true
    → Ok sent ≡ extensions options (length bytes) nothing_sent bytes → (takes_security options && not sent.was_sent) ≡ true
    → extra_in options bytes ≡ Err (Faults MissingExtension)
unfolding extra_in
extra_missing options bytes sent e h m = rw (e, ← h, m) refl

pub extra_given : (options : ℕ) (bytes : List ℕ) (sent : SentParts) → (takes_security options || takes_group options) ≡ true
    → Ok sent ≡ extensions options (length bytes) nothing_sent bytes → (takes_security options && not sent.was_sent) ≡ false
    → extra_in options bytes ≡ Ok (parts_of sent)
unfolding extra_in
extra_given options bytes sent e h m = rw (e, ← h, m) refl

-- the name of a node that is made, and what comes with it
pub new_given : (options : ℕ) (bytes name left : List ℕ) (ends : Bool) (x : Extra) → Ok ((name, ends), left) ≡ front_name bytes
    → Ok x ≡ extra_in options left → ends ≡ true
    → value_of (new_name options bytes) ≡ Ok (name, x)
unfolding new_name
new_given options bytes name left ends x h k e = rw (← h, ← k, e) refl

pub new_endless : (options : ℕ) (bytes name left : List ℕ) (ends : Bool) (x : Extra) → Ok ((name, ends), left) ≡ front_name bytes
    → Ok x ≡ extra_in options left → ends ≡ false
    → value_of (new_name options bytes) ≡ Err (Faults InvalidCString)
unfolding new_name
new_endless options bytes name left ends x h k e = rw (← h, ← k, e) refl

pub new_refused : (options : ℕ) (bytes name left : List ℕ) (ends : Bool) (f : Error) → Ok ((name, ends), left) ≡ front_name bytes
    → Err (Faults f) ≡ extra_in options left
    → value_of (new_name options bytes) ≡ Err (Faults f)
unfolding new_name
new_refused options bytes name left ends f h k = rw (← h, ← k) refl

pub new_unnamed :
    (options : ℕ) (bytes : List ℕ) (f : Error) → Err (Faults f) ≡ front_name bytes → value_of (new_name options bytes) ≡ Err (Faults f)
unfolding new_name
new_unnamed options bytes f h = rw (← h) refl

-- the same of a symbolic link
pub link_given : (options : ℕ) (bytes name left link more : List ℕ) (ends over : Bool) (x : Extra)
    → Ok ((name, ends), left) ≡ front_name bytes → Ok ((link, over), more) ≡ front_name left
    → Ok x ≡ extra_in options more → (ends && over) ≡ true
    → value_of (new_link options bytes) ≡ Ok (record { name = name; link = link; extra = x })
unfolding new_link
link_given options bytes name left link more ends over x h l k e = rw (← h, ← l, ← k, e) refl

pub link_endless : (options : ℕ) (bytes name left link more : List ℕ) (ends over : Bool) (x : Extra)
    → Ok ((name, ends), left) ≡ front_name bytes → Ok ((link, over), more) ≡ front_name left
    → Ok x ≡ extra_in options more → (ends && over) ≡ false → value_of (new_link options bytes) ≡ Err (Faults InvalidCString)
unfolding new_link
link_endless options bytes name left link more ends over x h l k e = rw (← h, ← l, ← k, e) refl

pub link_refused : (options : ℕ) (bytes name left link more : List ℕ) (ends over : Bool) (f : Error)
    → Ok ((name, ends), left) ≡ front_name bytes → Ok ((link, over), more) ≡ front_name left
    → Err (Faults f) ≡ extra_in options more → value_of (new_link options bytes) ≡ Err (Faults f)
unfolding new_link
link_refused options bytes name left link more ends over f h l k = rw (← h, ← l, ← k) refl

pub link_unlinked : (options : ℕ) (bytes name left : List ℕ) (ends : Bool) (f : Error) → Ok ((name, ends), left) ≡ front_name bytes
    → Err (Faults f) ≡ front_name left
    → value_of (new_link options bytes) ≡ Err (Faults f)
unfolding new_link
link_unlinked options bytes name left ends f h l = rw (← h, ← l) refl

pub link_unnamed :
    (options : ℕ) (bytes : List ℕ) (f : Error) → Err (Faults f) ≡ front_name bytes → value_of (new_link options bytes) ≡ Err (Faults f)
unfolding new_link
link_unnamed options bytes f h = rw (← h) refl

-- ---- what each function is proved by, case by case

pub ruleset label_cases = (label_empty, label_nothing, label_unnamed, label_cut, label_whole, label_short)

pub ruleset one_group_cases = (group_short, group_many, group_cut, group_whole)

pub ruleset security_cases = (security_refused, security_empty, security_given, security_fault)

pub ruleset extension_cases = (extension_short, extension_small, extension_cut, extension_given, extension_fault)

pub ruleset new_name_cases = (new_given, new_endless, new_refused, new_unnamed)

pub ruleset new_link_cases = (link_given, link_endless, link_refused, link_unlinked, link_unnamed)
