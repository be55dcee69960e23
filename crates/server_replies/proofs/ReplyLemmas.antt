-- Replies that have room, and those that have none.
use Rattle.std.proofs.Common.{◌≡◌, ℕ, Bool, ◌+◌, ◌<◌, ◌≤◌, List, ◌++◌, length, Ok, Err, refl, ap, ◌∙◌, arith, length-append, drop}
use Rattle.std.specs.Prelude.{◌^◌, false, true, pos, neg_ℤ}
use Rattle.std.proofs.lemmas.Bool.{lt-ltb, le-ltb}
use Rattle.std.proofs.lemmas.List.{length-drop}
use Rattle.vm_values.specs.Fields.{field_bytes, spelled}
use Rattle.fuse_wire.specs.Records.{out_header}
use Rattle.fuse_wire.specs.declared.replies.OutHeader.{OutHeader}
use Rattle.fuse_fs.specs.Calls.{FileAnswer, Failed, Bytes}
use Rattle.server_replies.specs.WholeReplies.{reply_bytes, error_bytes, whole_or_none, bytes_of_answer, data_of_answer}
use Rattle.server_segments.specs.declared.error.Error.TheVariants.{EncodeMessage}

pub length_header : (h : OutHeader) → length (spelled (out_header h)) ≡ 16
unfolding field_bytes
length_header h = refl

pub length_reply : (unique : ℕ) (body : List ℕ) → length (reply_bytes unique body) ≡ 16 + length body
unfolding reply_bytes
length_reply unique body =
    length-append (spelled (out_header (record { len = 16 + length body; error = pos 0; unique = unique }))) body
    ∙ ap (λ n. n + length body) (length_header (record { len = 16 + length body; error = pos 0; unique = unique }))

pub length_error : (unique errno : ℕ) → length (error_bytes unique errno) ≡ 16
unfolding error_bytes
length_error unique errno = length_header (record { len = 16; error = neg_ℤ (pos errno); unique = unique })

pub sent_long : (room : ℕ) (bytes : List ℕ) → room < length bytes → whole_or_none room bytes ≡ Err EncodeMessage
sent_long room bytes h = rw (lt-ltb room (length bytes) h) refl

pub sent_fits : (room : ℕ) (bytes : List ℕ) → length bytes ≤ room → whole_or_none room bytes ≡ Ok bytes
sent_fits room bytes h = rw (le-ltb room (length bytes) h) refl

-- the reply to an answer that says an error
pub failure_bytes : (silent : Bool) (unique errno : ℕ) (answer : FileAnswer) → answer ≡ Failed errno →
    bytes_of_answer silent unique answer ≡ error_bytes unique errno
failure_bytes silent unique errno answer e = rw e refl

none_long : 2 ^ 32 ≤ 16 → ⊥
none_long h = omega (arith, h)

-- data whose length no header tells
pub answer_long :
    (room : ℕ) (silent : Bool) (unique : ℕ) (answer : FileAnswer) → room < 2 ^ 32 → 2 ^ 32 ≤ 16 + length (data_of_answer silent answer)
    → whole_or_none room (bytes_of_answer silent unique answer) ≡ Err EncodeMessage
answer_long room false unique (Bytes bytes) r h =
    let long : 2 ^ 32 ≤ 16 + length bytes = h in
    sent_long room (reply_bytes unique bytes) (omega (arith, length_reply unique bytes, r, long))
answer_long room true unique (Bytes bytes) r h = absurd (none_long h)
answer_long room silent unique answer r h = absurd (none_long h)

-- a header and a record behind it
pub record_put : (unique len : ℕ) (front back body : List ℕ)
    → front ≡ spelled (out_header (record { len = len; error = pos 0; unique = unique })) → back ≡ body → len ≡ 16 + length body
    → front ++ back ≡ reply_bytes unique body
unfolding reply_bytes
record_put unique len front back body a b c = rw (a, b, c) refl

-- a header, over the front of what was written
pub data_put :
    (unique len n : ℕ) (w0 w1 header : List ℕ) → header ≡ spelled (out_header (record { len = len; error = pos 0; unique = unique }))
    → w1 ≡ header ++ drop (length header) w0 → len ≡ 16 + n → 16 + n ≡ length w0 → w1 ≡ reply_bytes unique (drop 16 w0)
unfolding reply_bytes
data_put unique len n w0 w1 header a b c d =
    let long : length header ≡ 16 = ap length a ∙ length_header (record { len = len; error = pos 0; unique = unique }) in
    let count : len ≡ 16 + length (drop 16 w0) = simp length-drop (omega (arith, c, d)) in
    rw (b, long, a, count) refl
