-- The commands and the results behind a driver's calls stay.
use Rattle.std.proofs.Common.{◌≡◌, ◌+◌, ◌<◌, ◌≤◌, ℕ, zero, suc, List, [], ◌∷◌, arith, length, refl, subst, ◌∙◌, zero-le}
use Rattle.std.specs.Prelude.{slice_set, drop}
use Rattle.fs_driven.specs.declared.commands.DriverCall.{DriverCall}
use Rattle.fs_driven.specs.declared.commands.Results.{Results}
use Rattle.fs_driven.proofs.Lists.{set_length}

-- n calls by these lists: the commands and the results behind the first n are as they were
pub record LeavesRest (places : List ℕ) (before left : List DriverCall) (old now : List Results) (n : ℕ) : Type 0 where
  pub same : (m : ℕ) → n ≤ m → drop m now ≡ drop m old
  pub same_commands : (m : ℕ) → n ≤ m → drop m left ≡ drop m before
  pub whole : length now ≡ length old
  pub in_places : n ≤ length places
  pub in_commands : n ≤ length before
  pub in_results : n ≤ length old

pub none_yet : (places : List ℕ) (commands : List DriverCall) (rs : List Results) → LeavesRest places commands commands rs rs 0
none_yet places commands rs = record {
  same = λ m behind. refl;
  same_commands = λ m behind. refl;
  whole = refl;
  in_places = zero-le;
  in_commands = zero-le;
  in_results = zero-le;
}

behind_set : {A : Type 0} (rs : List A) (n m : ℕ) (r : A) → n < m → drop m (slice_set rs n r) ≡ drop m rs
behind_set [] n m r less = refl
behind_set (s ∷ rs) n zero r less = absurd (omega arith)
behind_set (s ∷ rs) zero (suc m) r less = refl
behind_set (s ∷ rs) (suc n) (suc m) r less = let before : n < m = omega arith in behind_set rs n m r before

pub one_more : (places : List ℕ) (before left : List DriverCall) (old now : List Results) (n : ℕ) (y : DriverCall)
    (r : Results) → LeavesRest places before left old now n → n < length places → n < length before → n < length now
    → LeavesRest places before (slice_set left n y) old (slice_set now n r) (n + 1)
one_more places before left old now n y r rest in_places in_commands in_now =
    let in_old : n < length old = subst (λ (k : ℕ). n < k) rest.whole in_now in
    record {
      same = λ m behind.
          let less : n < m = omega arith in
          let first : n ≤ m = omega arith in behind_set now n m r less ∙ rest.same m first;
      same_commands = λ m behind.
          let less : n < m = omega arith in
          let first : n ≤ m = omega arith in behind_set left n m y less ∙ rest.same_commands m first;
      whole = set_length now n r ∙ rest.whole;
      in_places = omega arith;
      in_commands = omega arith;
      in_results = omega arith;
    }

pub behind_places : (places : List ℕ) (before left : List DriverCall) (old now : List Results) (n : ℕ)
    → LeavesRest places before left old now n → drop (length places) now ≡ drop (length places) old
behind_places places before left old now n rest = rest.same (length places) rest.in_places

pub behind_commands : (places : List ℕ) (before left : List DriverCall) (old now : List Results) (n : ℕ)
    → LeavesRest places before left old now n → drop (length before) now ≡ drop (length before) old
behind_commands places before left old now n rest = rest.same (length before) rest.in_commands

pub left_places : (places : List ℕ) (before left : List DriverCall) (old now : List Results) (n : ℕ)
    → LeavesRest places before left old now n → drop (length places) left ≡ drop (length places) before
left_places places before left old now n rest = rest.same_commands (length places) rest.in_places

pub left_results : (places : List ℕ) (before left : List DriverCall) (old now : List Results) (n : ℕ)
    → LeavesRest places before left old now n → drop (length old) left ≡ drop (length old) before
left_results places before left old now n rest = rest.same_commands (length old) rest.in_results
