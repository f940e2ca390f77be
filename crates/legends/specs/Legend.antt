-- The declared type, read as what a legend is written from. Assumes nothing: these are definitions.
use Rattle.std.specs.Prelude.{[]}
use Rattle.party.specs.Read.{machine_of}
use Rattle.legends.specs.declared.legend.Legend.{Legend}
use Rattle.legends.specs.Rest as rest

abbrev pub legend_of : Legend → rest.Legend
legend_of t = record {
  machine = machine_of t.plan.now.encoder t.plan.now.shared t.plan.now.source t.nodes.now t.bounds.now [];
  asked = t.asked.now;
  lines = t.lines;
  terms = t.terms.now;
  count = t.count;
  bits = t.bits.now;
}
