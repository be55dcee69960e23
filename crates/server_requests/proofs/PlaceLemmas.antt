-- Where parts of a request lie.
use Rattle.std.proofs.Common.{◌≡◌, ◌∙◌, ℕ, ◌+◌, ◌≤◌, All, Bool, true, false, cond, List, [], ◌∷◌, ◌++◌, append_assoc, length, take, drop}
use Rattle.std.proofs.Common.{Option, Some, None, Ok, Err, refl, ap, sym, subst, arith, true≢false}
use Rattle.std.specs.Prelude.{◌==◌, nat_lt}
use Rattle.std.proofs.lemmas.Bool.{eq-eqb, eqb-true, ltb-false}
use Rattle.std.proofs.lemmas.List.{append-nil, length-append, length-take-le, take-append-drop}
use Rattle.std.proofs.lemmas.List.Elements.{All-cons, All-nil}
use Rattle.fuse_in.specs.Shapes.{RecordShape, size, made}
use Rattle.fuse_values.specs.declared.placed.Placed.{Placed}
use Rattle.fuse_values.specs.Places.{At, IsNotZero, NameStandsIn, StandsIn}
use Rattle.server_segments.specs.declared.error.Error.TheVariants.{DecodeMessage}
use Rattle.server_requests.specs.Reading.{Faults, Parsed, and_then, at_zero, before_zero, record_parser}

-- some of the bytes that lie in a request
inner : (request all a b c : List ℕ) (k m : ℕ) → At request k all → all ≡ a ++ (b ++ c) → m ≡ k + length a → At request m b
inner request all a b c k m here is place =
    let e = here.3 in (
      here.0 ++ a,
      c ++ here.1,
      here.2 ∙ ap (λ (x : List ℕ). here.0 ++ (x ++ here.1)) is ∙ simp append_assoc,
      length-append here.0 a ∙ ap (λ (n : ℕ). n + length a) e ∙ sym place,
    )

parts_at : (request all front rest : List ℕ) (k m : ℕ) → At request k all → all ≡ front ++ rest → m ≡ k + length front
    → At request k front × At request m rest
parts_at request all front rest k m here is place = (
  inner request all [] front rest k k here is (omega arith),
  inner request all front rest [] k m here (is ∙ ap (λ (l : List ℕ). front ++ l) (sym (append-nil rest))) place,
)

pub parts_in : (request : List ℕ) (all front rest : Placed) (n : ℕ) → front.bytes.now ≡ take n all.bytes.now
    → rest.bytes.now ≡ drop n all.bytes.now → n ≤ length all.bytes.now
    → front.at ≡ all.at → rest.at ≡ all.at + n → StandsIn request all → StandsIn request front × StandsIn request rest
unfolding StandsIn
parts_in request all front rest n f r fits at place here =
    let bytes = all.bytes.now in
    let whole : bytes ≡ front.bytes.now ++ rest.bytes.now = rw (f, r) (sym (take-append-drop n bytes)) in
    let len : length front.bytes.now ≡ n = ap length f ∙ length-take-le n bytes fits in
    let next = place ∙ ap (λ (k : ℕ). all.at + k) (sym len) in
    let h = parts_at request bytes front.bytes.now rest.bytes.now all.at rest.at here whole next in
    (rw at h.0, h.1)

-- the bytes before the first zero byte, and those behind it
abbrev IsSplit : List ℕ → Option (List ℕ × List ℕ) → Type 0
IsSplit bytes None = Unit {0}
IsSplit bytes (Some s) = (bytes ≡ (s.0 ++ (0 ∷ [])) ++ s.1) × All IsNotZero s.0

one_more : (test : Bool) (b : ℕ) (bytes : List ℕ) (split : Option (List ℕ × List ℕ)) → (b == 0) ≡ test → IsSplit bytes split
    → IsSplit (b ∷ bytes) (cond test (Some ([], bytes)) (before_zero b split))
one_more true b bytes split is h = (ap (λ (n : ℕ). n ∷ bytes) (eqb-true b 0 is), All-nil IsNotZero)
one_more false b bytes None is h = tt
one_more false b bytes (Some s) is h =
    let not_zero : IsNotZero b = λ zero. true≢false (sym (eq-eqb b 0 zero) ∙ is) in
    (ap (λ (l : List ℕ). b ∷ l) h.0, All-cons IsNotZero b s.0 not_zero h.1)

is_split : (bytes : List ℕ) → IsSplit bytes (at_zero bytes)
is_split [] = tt
is_split (b ∷ bytes) = one_more (b == 0) b bytes (at_zero bytes) refl (is_split bytes)

pub name_in : (request : List ℕ) (all name rest : Placed) → at_zero all.bytes.now ≡ Some (name.bytes.now, rest.bytes.now)
    → name.at ≡ all.at → rest.at ≡ all.at + length name.bytes.now + 1 → StandsIn request all
    → NameStandsIn request name × StandsIn request rest
unfolding StandsIn NameStandsIn
name_in request all name rest e at place here =
    let ended = name.bytes.now ++ (0 ∷ []) in
    let is : IsSplit all.bytes.now (Some (name.bytes.now, rest.bytes.now)) = subst (IsSplit all.bytes.now) e (is_split all.bytes.now) in
    let len : length ended ≡ length name.bytes.now + 1 = length-append name.bytes.now (0 ∷ []) in
    let h = parts_at request all.bytes.now ended rest.bytes.now all.at rest.at here is.0 (omega (arith, len, place)) in
    ((rw at h.0, is.1), h.1)

-- the first of the bytes behind a front
pub front_in : (front all more : List ℕ) (p : Placed) → all ≡ p.bytes.now ++ more → length front ≡ p.at → StandsIn (front ++ all) p
unfolding StandsIn
front_in front all more p e h = (front, more, ap (λ (l : List ℕ). front ++ l) e, h)

pub taken_in : (front all : List ℕ) (n : ℕ) (p : Placed) → p.bytes.now ≡ take n all → length front ≡ p.at → StandsIn (front ++ all) p
taken_in front all n p e h =
    front_in front all (drop n all) p (sym (take-append-drop n all) ∙ ap (λ (l : List ℕ). l ++ drop n all) (sym e)) h

-- a record that was read, or another one, and the bytes behind it
abbrev record_of : {R : Type 0} → R → Parsed R → R
record_of other (Ok x) = x.0
record_of other (Err e) = other

abbrev rest_of : {R : Type 0} → Parsed R → List ℕ
rest_of (Ok x) = x.1
rest_of (Err e) = []

pub record_by : {R : Type 0} (test : Bool) (n : ℕ) (f : List ℕ → R) (all more : List ℕ) (r : R) → nat_lt (length all) n ≡ test
    → Ok (r, more) ≡ and_then {A = List ℕ × List ℕ} {B = R × List ℕ} (cond test (Err (Faults DecodeMessage)) (Ok (take n all, drop n all)))
    (λ x. Ok (f x.0, x.1)) → (r ≡ f (take n all)) × (more ≡ drop n all) × (n ≤ length all)
record_by true n f all more r is e = absurd (cc)
record_by false n f all more r is e = (ap (record_of r) e, ap rest_of e, ltb-false (length all) n is)

-- the bytes of a record that was read
pub record_front : {R : Type 0} (s : RecordShape R) (all more : List ℕ) (r : R) → Ok (r, more) ≡ record_parser s all
    → (front : List ℕ) × (length front ≡ size s.parts) × (front ++ more ≡ all)
unfolding record_parser
record_front s all more r e =
    let k = size s.parts in
    let is = record_by (nat_lt (length all) k) k (made s.parts s.make) all more r refl e in
    (take k all, length-take-le k all is.2, ap (λ (l : List ℕ). take k all ++ l) is.1 ∙ take-append-drop k all)

pub behind_record : {R : Type 0} (s : RecordShape R) (n : ℕ) → size s.parts ≡ n → (all more : List ℕ) (r : R) (p : Placed)
    → Ok (r, more) ≡ record_parser s all → ((front : List ℕ) → length front ≡ 40 + n → StandsIn (front ++ more) p)
    → (header : List ℕ) → length header ≡ 40 → StandsIn (header ++ all) p
behind_record s n law all more r p e there header h =
    let is = record_front s all more r e in
    let long : length (header ++ is.0) ≡ 40 + n =
    length-append header is.0 ∙ ap (λ (m : ℕ). m + length is.0) h ∙ ap (λ (m : ℕ). 40 + m) (is.1 ∙ law) in
    let whole : (header ++ is.0) ++ more ≡ header ++ all = append_assoc header is.0 more ∙ ap (λ (l : List ℕ). header ++ l) is.2 in
    subst (λ (l : List ℕ). StandsIn l p) whole (there (header ++ is.0) long)
