-- The accounts of a node over whole runs: how often the file system gave it out and was sent it back,
-- and the same by the bytes of requests and replies.
use Rattle.std.specs.Prelude.{◌≡◌, ◌≢◌, ℕ, zero, suc, ◌+◌, Bool, true, false, ◌==◌, List, [], ◌∷◌, length}
use Rattle.std.specs.Prelude.{take, drop, Option, Some, None, if◌then◌else◌, sum_by, count_by}
use Rattle.std.specs.Int.{Width, w32, w64, byte_len, from_le_bytes}
use Rattle.fuse_wire.specs.declared.opcodes.Opcode.{Opcode}
use Rattle.fuse_wire.specs.declared.opcodes.Opcode.TheVariants as op
use Rattle.fuse_wire.specs.Opcodes.{opcode_of}
use Rattle.fuse_fs.specs.Calls.{FileCall, FileAnswer, Forget, BatchForget, HasEntry, Created}
use Rattle.server_replies.specs.Entries.{entry_len}
use Rattle.server_meanings.specs.Grammar.{Meaning, Asks, One, meaning}
use Rattle.server_meanings.specs.Serving.{May}
use Rattle.plain_machine.specs.Step.{State}
use Rattle.plain_machine.specs.Run.{Turn, Turns, Command, Answer, RunReported}

-- ---- the file system's calls and answers

-- the number of entries of a node in an answer
abbrev pub entry_count : (node : ℕ) → FileAnswer → ℕ
entry_count n (HasEntry e) = if e.inode == n then 1 else 0
entry_count n (Created e handle options) = if e.inode == n then 1 else 0
entry_count n _ = 0

-- the count of a pair, if it is the node's; else 0
abbrev pub pair_count : (node : ℕ) → ℕ × ℕ → ℕ
pair_count n pair = if pair.0 == n then pair.1 else 0

-- the number of counts of a node that a call sends back
abbrev pub forget_count : (node : ℕ) → FileCall → ℕ
forget_count n (Forget who node count) = pair_count n (node, count)
forget_count n (BatchForget who counts) = sum_by (pair_count n) counts
forget_count n _ = 0

-- the entries of a node in the file system's answers
abbrev pub answered : (node : ℕ) → Turn → ℕ
answered n t = sum_by (λ step. entry_count n step.1) t.calls

-- the counts of a node that the file system was sent back
abbrev pub sent : (node : ℕ) → Turn → ℕ
sent n t = sum_by (λ step. forget_count n step.0) t.calls

-- ---- the bytes of requests and replies (linux/fuse.h)

-- the number at an offset of some bytes, least significant byte first
abbrev pub number_at : Width → List ℕ → (place : ℕ) → ℕ
number_at w bytes place = from_le_bytes w (take (byte_len w) (drop place bytes))

-- the request of the opcode in a header: four bytes after the length
abbrev pub opcode_in : (request : List ℕ) → Option Opcode
opcode_in request = opcode_of (number_at w32 request 4)

-- the requests whose successful reply begins with struct fuse_entry_out
abbrev pub replies_entry : Opcode → Bool
replies_entry op.Lookup = true
replies_entry op.Symlink = true
replies_entry op.Mknod = true
replies_entry op.Mkdir = true
replies_entry op.Link = true
replies_entry op.Create = true
replies_entry _ = false

-- the request whose successful reply is a list of struct fuse_direntplus
abbrev pub lists_nodes : Opcode → Bool
lists_nodes op.Readdirplus = true
lists_nodes _ = false

-- the node at the beginning of a struct fuse_entry_out or struct fuse_direntplus
abbrev pub first_node : List ℕ → ℕ
first_node bytes = number_at w64 bytes 0

-- the length of the name in a struct fuse_direntplus
abbrev pub name_len_of : List ℕ → ℕ
name_len_of bytes = number_at w32 bytes 144

-- the nodes of a list of struct fuse_direntplus, each followed by its name; there are no more nodes
-- than bytes
unfoldable pub nodes_listed : (most : ℕ) → List ℕ → List ℕ
nodes_listed zero bytes = []
nodes_listed (suc most) bytes =
    if length bytes == 0 then []
    else first_node bytes ∷ nodes_listed most (drop (entry_len true (name_len_of bytes)) bytes)

-- the nodes of the entries behind the header of a reply; an error has nothing behind its header
abbrev pub nodes_of : Opcode → (body : List ℕ) → List ℕ
nodes_of opcode body =
    if length body == 0 then []
    else if replies_entry opcode then first_node body ∷ []
    else if lists_nodes opcode then nodes_listed (length body) body
    else []

-- the nodes in the reply to a request; an unknown opcode has none
abbrev pub nodes_in : Option Opcode → (body : List ℕ) → List ℕ
nodes_in None body = []
nodes_in (Some opcode) body = nodes_of opcode body

-- the entries of a node that were written, by the bytes of request and reply alone; struct
-- fuse_out_header has 16 bytes
abbrev pub written : (node : ℕ) → Turn → ℕ
written n t = count_by (λ k. k == n) (nodes_in (opcode_in t.exchange.request) (drop 16 t.exchange.reply))

-- the counts of a node that a request sends back, by its meaning
abbrev pub forgets_meant : (node : ℕ) → Meaning → ℕ
forgets_meant n (Asks (One unique call)) = forget_count n call
forgets_meant n _ = 0

-- the counts of a node that the driver sent back by FORGET and BATCH_FORGET, if their call was made.
-- The agreed options and the reply buffer don't matter to them
abbrev pub accepted : (node : ℕ) → Turn → ℕ
accepted n t = if length t.calls == 0 then 0 else forgets_meant n (meaning 0 t.exchange.request 0)

-- ---- over whole runs

-- the sum of an amount over all exchanges of a run
abbrev pub over : (Turn → ℕ) → List Turns → ℕ
over amount all_turns = sum_by (λ turns. sum_by amount turns) all_turns

-- the accounts of a node balance: answered less sent is written less accepted
abbrev pub IsBalanced : (node : ℕ) → List Turns → Type 0
IsBalanced n all_turns =
    over (answered n) all_turns + over (accepted n) all_turns ≡ over (written n) all_turns + over
    (sent n) all_turns

-- theorem: each run from any state balances for each node but 0, which means no node
abbrev pub Balances : {F : Type 0} → May F → Type 0
Balances {F} may =
    (s after : State F) (events : List (Command × Answer)) (all_turns : List Turns) (n : ℕ) →
    n ≢ 0 →
    RunReported may s events all_turns after →
    IsBalanced n all_turns

-- a run that balances for each node but 0
abbrev pub BalancedRun : {F : Type 0} → May F → State F → List (Command × Answer) → State F → Type 0
BalancedRun may s events after =
    (all_turns : List Turns) × RunReported may s events all_turns after
    × ((n : ℕ) → n ≢ 0 → IsBalanced n all_turns)
