-- The declared type, read as what is written. Assumes nothing: these are definitions.
use Rattle.std.specs.Prelude.{[]}
use Rattle.party.specs.Read.{machine_of}
use Rattle.printing.specs.declared.printed.Printed.{Printed}
use Rattle.printing.specs.Rest as rest

abbrev pub printed_of : Printed → rest.Printed
printed_of t = record {
  machine = machine_of t.plan.now.encoder t.plan.now.shared t.plan.now.source [] t.bounds.now t.clauses.now;
  asked = t.asked.now;
  lines = t.lines;
}
