use Rattle.std.proofs.Common.{◌∙◌, sym, arith, rules}
use Rattle.csv.specs.Records.{fields_of}
use Rattle.rt_load.proofs.LoadLemmas.{field-there, header-length, header-step}
use Rattle.rt_load.proofs.header.is_header.Goals as goal

pub returns-then-len-columns : goal.returns-then-len-columns
returns-then-len-columns c = sym (header-length c.args.columns.now (fields_of c.args.fields.now) (search rules))

pub unreachable-requires : goal.unreachable-requires
unreachable-requires c = field-there (fields_of c.args.fields.now) c.loop-i.i (omega arith) (sym c.in_default.ensures.value)

pub returns-then-not-is_name : goal.returns-then-not-is_name
returns-then-not-is_name c =
    let step = header-step c.args.columns.now c.loop-i.i c.index-columns-i.result (fields_of c.args.fields.now) c.in-Some.field.now (omega arith) c.index-columns-i.is (sym c.in-Some.ensures.value) in
    sym (rw (← c.if-not-is_name.ensures) at step) ∙ c.loop-i.invariant

pub loop-i-preserved : goal.loop-i-preserved
loop-i-preserved c =
    let step = header-step c.args.columns.now c.loop-i.i c.index-columns-i.result (fields_of c.args.fields.now) c.in-Some.field.now (omega arith) c.index-columns-i.is (sym c.in-Some.ensures.value) in
    sym (rw (← c.if-not-is_name.ensures) at step) ∙ c.loop-i.invariant
