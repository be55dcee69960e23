use Rattle.std.proofs.Common.{rules, Ok, Err}
use Rattle.fs_chain.specs.declared.listing.AddOutcome.TheVariants as added
use Rattle.fs_driven.proofs.Bringing.{brings_more, brings_none, brings_not, ok_is}
use Rattle.fs_driven.proofs.entries.+bring_all.Goals as goal

pub returns-in-None : goal.returns-in-None
returns-in-None t c =
    record { all = brings_none c.args.handle.now c.args.ticket c.args.list.now c.args.names.now c.args.entries.now (search rules) }

pub returns-in-Ok-In : goal.returns-in-Ok-In
returns-in-Ok-In t c = record {
  all = brings_more c.args.handle.now c.bring.new.handle c.bring_all-added.new.handle c.args.ticket c.args.list.now
      c.bring.new.list c.bring_all-added.new.list c.args.entries.now c.in-Some.entry.now c.in-Some.more.now
      c.args.names.now c.name_of.result.0.now c.name_of.result.1.now c.bring.result c.bring_all-added.result.0
      c.bring_all-added.result.1 (search rules) c.name_of.ensures.first c.name_of.ensures.others c.bring.ensures.one
      (ok_is c.bring.result c.in-Ok-In.field-0 added.In c.in-Ok-In.is c.in-Ok-In.field-0-is)
      c.bring_all-added.ensures.all;
}

pub returns-in-Ok-Full : goal.returns-in-Ok-Full
returns-in-Ok-Full t c = record {
  all = brings_not c.args.handle.now c.bring.new.handle c.args.ticket c.args.list.now c.bring.new.list c.args.entries.now
      c.in-Some.entry.now c.in-Some.more.now c.args.names.now c.name_of.result.0.now c.bring.result (Ok added.Full)
      (search rules) c.name_of.ensures.first c.bring.ensures.one
      (ok_is c.bring.result c.in-Ok-Full.field-0 added.Full c.in-Ok-Full.is c.in-Ok-Full.field-0-is) tt;
}

pub returns-in-Ok-NoRoom : goal.returns-in-Ok-NoRoom
returns-in-Ok-NoRoom t c = record {
  all = brings_not c.args.handle.now c.bring.new.handle c.args.ticket c.args.list.now c.bring.new.list c.args.entries.now
      c.in-Some.entry.now c.in-Some.more.now c.args.names.now c.name_of.result.0.now c.bring.result (Ok added.NoRoom)
      (search rules) c.name_of.ensures.first c.bring.ensures.one
      (ok_is c.bring.result c.in-Ok-NoRoom.field-0 added.NoRoom c.in-Ok-NoRoom.is c.in-Ok-NoRoom.field-0-is) tt;
}

pub returns-in-Ok-TooLong : goal.returns-in-Ok-TooLong
returns-in-Ok-TooLong t c = record {
  all = brings_not c.args.handle.now c.bring.new.handle c.args.ticket c.args.list.now c.bring.new.list c.args.entries.now
      c.in-Some.entry.now c.in-Some.more.now c.args.names.now c.name_of.result.0.now c.bring.result (Ok added.TooLong)
      (search rules) c.name_of.ensures.first c.bring.ensures.one
      (ok_is c.bring.result c.in-Ok-TooLong.field-0 added.TooLong c.in-Ok-TooLong.is c.in-Ok-TooLong.field-0-is) tt;
}

pub returns-in-Err : goal.returns-in-Err
returns-in-Err t c = record {
  all = brings_not c.args.handle.now c.bring.new.handle c.args.ticket c.args.list.now c.bring.new.list c.args.entries.now
      c.in-Some.entry.now c.in-Some.more.now c.args.names.now c.name_of.result.0.now c.bring.result (Err c.in-Err.e)
      (search rules) c.name_of.ensures.first c.bring.ensures.one c.in-Err.is tt;
}
