-- Pages as numbers.
use Rattle.std.proofs.Common.{ℕ, ◌≤◌, arith}
use Rattle.std.specs.Prelude.{IsTrue}
use Rattle.std.proofs.lemmas.Bool.Decides.{nat_tests}
use Rattle.server_replies.specs.PageSizes.{is_page_size}

pub page_least : (n : ℕ) → IsTrue (is_page_size n) → 4096 ≤ n
page_least n h = grind (arith, nat_tests, h)
