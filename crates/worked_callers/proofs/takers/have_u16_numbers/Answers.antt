use Rattle.worked_callers.proofs.takers.have_u16_numbers.Goals as goal

pub returns : goal.returns
returns c = (Prim.search, Prim.search, Prim.search)
