-- The bytes that a read moves into host memory.
use Rattle.std.specs.Prelude.{ℕ, List, take, Result, Ok, Err}

-- the number of bytes that a read moved; 0 with an error
abbrev pub moved : {E : Type 0} → Result ℕ E → ℕ
moved (Ok n) = n
moved (Err e) = 0

-- the bytes that a read returned, from the front of the buffer after it, or its error
abbrev pub bytes_answer : {E : Type 0} → Result ℕ E → List ℕ → Result (List ℕ) E
bytes_answer (Ok n) buf = Ok (take n buf)
bytes_answer (Err e) buf = Err e

-- the bytes that a read returned, or its error
abbrev pub read_answer : {E : Type 0} → Result ℕ E → List ℕ → Result (List ℕ) E
read_answer (Ok n) bytes = Ok bytes
read_answer (Err e) bytes = Err e
