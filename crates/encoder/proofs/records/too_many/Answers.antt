-- `too_many` tells whether the records after the call exceed the table. Assumes nothing.
use Rattle.std.proofs.Common.{arith}
use Rattle.party.specs.Read.{machine_of}
use Rattle.encoder.proofs.Ranges.{many-asked, many-counted, kept-inside, kept-few, few-missing}
use Rattle.encoder.proofs.records.too_many.Goals as goal

pub returns-then-room-max : goal.returns-then-room-max
returns-then-room-max c = λ shared next t ws.
    many-asked (machine_of c.args.encoder.now shared next t c.args.bounds.now ws) c.args.up c.args.down c.kept_bounds-old.ensures.wide _ c.min-room.ensures
    (omega (arith, c.if-room-max.true, c.max.ensures))

pub without_record-requires : goal.without_record-requires
without_record-requires c =
    record {
      inside = kept-inside _ _ _ _ _ c.requires c.kept_bounds-old.ensures.kept;
      ups = omega (arith, c.min-room.ensures, c.max.ensures, c.if-room-max.false);
      first = c.requires.first;
      downs = omega (arith, c.min-room.ensures, c.max.ensures, c.if-room-max.false);
      low = c.requires.low;
    }

pub overflow_add-result : goal.overflow_add-result
overflow_add-result c =
    let k = few-missing _ c.args.up c.args.down _ c.without_record.ensures in
    record { fits = omega (arith, k, c.min-room.ensures, c.max.ensures, c.if-room-max.false, kept-few _ c.kept_bounds-old.result c.requires.bounds c.kept_bounds-old.ensures.kept) }

pub returns : goal.returns
returns c = λ shared next t ws.
    many-counted (machine_of c.args.encoder.now shared next t c.args.bounds.now ws) c.args.up c.args.down c.kept_bounds-old.ensures.wide _ _ _ c.min-room.ensures
    c.kept_bounds-old.ensures.kept c.without_record.ensures
