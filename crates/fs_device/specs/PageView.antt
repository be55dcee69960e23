-- A harvested page, in the definitions' terms.
use Rattle.fs_device.specs.declared.harvested.HarvestedPage.{HarvestedPage}
use Rattle.plain_machine.specs.Harvested.{Page}

-- a harvested page, in the definitions' terms
abbrev pub page_view : HarvestedPage → Page
page_view p = record { block = p.block; offset = p.offset; bytes = p.bytes.items }
