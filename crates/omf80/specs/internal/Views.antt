-- What a record of the code is.
use Rattle.omf80.specs.Records.{Record}
use Rattle.omf80.specs.declared.record.Record.{Record as CodeRecord}

abbrev pub record_view : CodeRecord → Record
record_view read = record { kind = read.kind; body = read.body.now }
