use Rattle.std.proofs.Common.{◌≡◌, ℕ, List, [], ◌∷◌, true, sym, subst}
use Rattle.fuse_values.specs.Answers.{answer_of}
use Rattle.server_meanings.specs.Serving.{setting, commanded}
use Rattle.server_phases.specs.Waiting.{first_call}
use Rattle.server_phases.specs.Answering.{ReportsBytes, takes, leaves_options, served_by, forget_calls}
use Rattle.server_phases.proofs.Suiting.{no_data, single_gives}
use Rattle.server_phases.proofs.session.Session.answer_single.Goals as goal

pub returns-clause-gives : goal.returns-clause-gives
returns-clause-gives c = λ command bytes waits t taken.
    let s = setting c.args.self.now.page_size c.args.self.now.options.0 c.args.waiting.now.room in
    let w = c.args.waiting.now in
    let answer = c.args.answer in
    let given = c.answered_without_data.result in
    let options = leaves_options c.args.self.now.options.0 w.awaits in
    let none = no_data bytes answer t c.requires.without_data in
    let P : List ℕ → Type 0 =
    λ b. commanded s command (answer_of b answer ∷ []) ≡ served_by (first_call command ∷ forget_calls given.forget) options given.sent b in
    let gives : P [] = single_gives s w command [] answer
    (served_by (first_call command ∷ forget_calls given.forget) options given.sent []) waits
    (subst (λ (b : List ℕ). ReportsBytes b answer) none t) (subst (λ (b : List ℕ). takes w.awaits (answer_of b answer) ≡ true) none taken)
    c.requires.without_data c.requires.single (c.answered_without_data.ensures options (first_call command)) in
    rw c.left_options-self.ensures.options (subst P (sym none) gives)
