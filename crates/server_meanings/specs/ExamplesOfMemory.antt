-- Worked examples of requests that need memory, and of requests that don't.
use Rattle.std.specs.Prelude.{◌≡◌, ℕ, ◌^◌, true, false, List, [], ◌∷◌, ◌++◌, refl}
use Rattle.fuse_fs.specs.Lengths.{past}
use Rattle.server_segments.specs.ReaderAndWriterView.{ReaderView}
use Rattle.server_requests.specs.Reading.{record_parser, many, front_name}
use Rattle.server_requests.specs.Fronts.{counted, with_bytes}
use Rattle.server_requests.specs.Extras.{security_context, part, extension, extensions, extra_in, new_name}
use Rattle.server_meanings.specs.Grammar.{row}
use Rattle.server_meanings.specs.WantOfMemory.{may_take_memory}
use Rattle.server_meanings.specs.Examples.{in_header_bytes, le32, le64}

-- a request in these segments
abbrev in_segments : List ℕ → List ℕ → ReaderView
in_segments segments bytes = record { left = bytes; segments = segments; read = 0 }

-- LOOKUP of `a`
abbrev lookup : List ℕ
lookup = in_header_bytes 42 1 1 1 ++ 97 ∷ 0 ∷ []

-- the name lies behind the header, or in a segment of its own
name_behind : may_take_memory 0 (in_segments (42 ∷ []) lookup) 143 ≡ false
unfolding record_parser past
name_behind = refl

name_apart : may_take_memory 0 (in_segments (40 ∷ 2 ∷ []) lookup) 143 ≡ false
unfolding record_parser past
name_apart = refl

-- the name lies in two segments
name_split : may_take_memory 0 (in_segments (41 ∷ 1 ∷ []) lookup) 143 ≡ true
unfolding record_parser past
name_split = refl

-- the second of the two segments is missing
name_short : may_take_memory 0 (in_segments (41 ∷ []) (in_header_bytes 42 1 1 1 ++ 97 ∷ [])) 143 ≡ false
unfolding record_parser past
name_short = refl

-- BATCH_FORGET of `count` pairs, with one pair behind its record
abbrev forgets : (count : ℕ) → List ℕ
forgets count = in_header_bytes 64 42 2 0 ++ le32 count ++ le32 0 ++ le64 5 ++ le64 3

no_pairs : may_take_memory 0 (in_segments (64 ∷ []) (forgets 0)) 0 ≡ false
unfolding record_parser past row many
no_pairs = refl

one_pair : may_take_memory 0 (in_segments (64 ∷ []) (forgets 1)) 0 ≡ true
unfolding record_parser past row many
one_pair = refl

-- the second pair is missing
two_pairs : may_take_memory 0 (in_segments (64 ∷ []) (forgets 2)) 0 ≡ false
unfolding record_parser past row many
two_pairs = refl

-- MKDIR of `d`, `len` bytes long, with an extension
abbrev mkdir : (len : ℕ) → List ℕ → List ℕ
mkdir len extension = in_header_bytes len 9 1 1 ++ le32 511 ++ le32 18 ++ 100 ∷ 0 ∷ extension

-- an empty security context
context_empty : may_take_memory (2 ^ 32) (in_segments (58 ∷ []) (mkdir 58 (le32 8 ++ le32 0))) 0 ≡ false
unfolding record_parser past row counted with_bytes front_name new_name extra_in extensions extension part
context_empty = refl

-- a security context with the name `s` and the label `x`
context_given : may_take_memory (2 ^ 32)
    (in_segments (69 ∷ []) (mkdir 69 (le32 19 ++ le32 1 ++ le32 1 ++ le32 0 ++ 115 ∷ 0 ∷ 120 ∷ []))) 0 ≡ true
unfolding record_parser past row counted with_bytes front_name new_name extra_in extensions extension part
    security_context
context_given = refl
