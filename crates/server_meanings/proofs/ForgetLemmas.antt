-- BATCH_FORGET, by its pairs.
use Rattle.std.proofs.Common.{◌≡◌, ℕ, ◌*◌, ◌<◌, ◌≤◌, ◌^◌, true, false, List, Ok, Err, refl, arith}
use Rattle.std.specs.Prelude.{nat_le}
use Rattle.std.proofs.lemmas.Bool.Decides.{nat_tests}
use Rattle.fuse_in.specs.Records.{batch_forget_in}
use Rattle.server_segments.specs.declared.error.Error.{Error}
use Rattle.server_requests.specs.Reading.{Faults, many, record_parser}
use Rattle.server_requests.specs.Fronts.{forget_pair}
use Rattle.server_calls.specs.Requests.{batch_forget_call}
use Rattle.server_replies.specs.WholeReplies.{error_bytes}
use Rattle.server_meanings.specs.Grammar.{IsFault, Replies, Asks, One, Given, ended, forgets_asked, batch_forget_row}

-- a BATCH_FORGET, by how many pairs it says
pub forgets_long : (count : ℕ) (g : Given) (bytes : List ℕ) → 65536 < count →
    ended g.header.unique (forgets_asked count g bytes) ≡ Replies (error_bytes g.header.unique 12)
forgets_long count g bytes h =
    let test : nat_le (count * 16) (2 ^ 20) ≡ false = grind (arith, nat_tests) in
    rw test refl

pub forgets_ask :
    (count : ℕ) (g : Given) (bytes more : List ℕ) (pairs : List (ℕ × ℕ)) → count ≤ 65536 → Ok (pairs, more) ≡ many count forget_pair bytes
    → ended g.header.unique (forgets_asked count g bytes) ≡ Asks (One g.header.unique (batch_forget_call g.header pairs))
forgets_ask count g bytes more pairs h e =
    let test : nat_le (count * 16) (2 ^ 20) ≡ true = grind (arith, nat_tests) in
    rw (test, ← e) refl

pub forgets_short : (count : ℕ) (g : Given) (bytes : List ℕ) (e : Error) → count ≤ 65536 → Err (Faults e) ≡ many count forget_pair bytes
    → ended g.header.unique (forgets_asked count g bytes) ≡ IsFault e
forgets_short count g bytes e h k =
    let test : nat_le (count * 16) (2 ^ 20) ≡ true = grind (arith, nat_tests) in
    rw (test, ← k) refl

pub batch_short : (g : Given) (bytes : List ℕ) (e : Error) → Err (Faults e) ≡ record_parser batch_forget_in bytes →
    ended g.header.unique (batch_forget_row g bytes) ≡ IsFault e
batch_short g bytes e h = rw (← h) refl
