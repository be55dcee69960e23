use Rattle.std.proofs.Common.{rules}
use Rattle.fs_chain.proofs.Passing.{end_passed, no_window_passed, windows_passed}
use Rattle.fs_chain.proofs.chain_handle.ChainHandle.next_window.Goals as goal

pub returns-clause-some : goal.returns-clause-some
returns-clause-some c =
    windows_passed c.args.self.now.regions c.args.write_only c.args.self.now.descriptors.items c.left-left.result.now c.pass_to.new.self
    c.args.from c.window_from.result (search rules)
    c.pass_to.ensures.below (search rules) c.window_from.ensures.some

pub returns-clause-none : goal.returns-clause-none
returns-clause-none c = λ none out all.
    end_passed c.args.self.now.regions c.args.write_only c.args.self.now.descriptors.items c.left-left.result.now c.pass_to.new.self
    c.args.from (search rules) c.pass_to.ensures.below
    (search rules) (c.window_from.ensures.none none) all

pub returns-clause-unmapped : goal.returns-clause-unmapped
returns-clause-unmapped c = λ none out.
    no_window_passed c.args.self.now.regions c.args.write_only c.args.self.now.descriptors.items c.left-left.result.now c.pass_to.new.self
    c.args.from (search rules) c.pass_to.ensures.below
    (search rules) (c.window_from.ensures.unmapped none)
