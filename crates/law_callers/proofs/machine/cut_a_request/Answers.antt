use Rattle.std.proofs.Common.{refl, sym}
use Rattle.vm_memory.specs.Memory.{addresses}
use Rattle.plain_machine.specs.Examples.{queue, request, with_one_request}
use Rattle.law_callers.specs.Worked.{three_descriptors, two_descriptors, with_three}
use Rattle.law_callers.proofs.Steps.{fetches_three, fetches_two, joined_three, joined_two, offers_three, offers_two}
use Rattle.law_callers.proofs.machine.cut_a_request.Goals as goal

pub returns-clause-cuts : goal.returns-clause-cuts
returns-clause-cuts g c page_size options before after calls given =
    c.law_cuts.ensures.cuts with_one_request with_three 0x101000 0x101000 two_descriptors three_descriptors
    request (addresses 0x2000 16) request (addresses 0x2800 16) fetches_two fetches_three (rw joined_two (sym joined_three)) refl
    page_size options before after calls given

pub returns-clause-offers : goal.returns-clause-offers
returns-clause-offers g c page_size options before after calls given =
    c.law_cuts.ensures.offers with_one_request with_three 0x101000 0x101000 queue queue two_descriptors three_descriptors
    request (addresses 0x2000 16) request (addresses 0x2800 16) offers_two offers_three (rw joined_two (sym joined_three)) refl
    page_size options before after calls given
