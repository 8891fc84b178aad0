use Rattle.std.proofs.Common.{arith, ap, ap₂, subst, length, List, IfOk, ◌∙◌, []}
use Rattle.rt_noted.specs.Entries.{Entry}
use Rattle.rt_noted.specs.Annotated.{Reads, placed}
use Rattle.rt_noted.proofs.Walking.{base_within}
use Rattle.rt_noted.proofs.rows.table.Goals as goal

pub placed-requires : goal.placed-requires
placed-requires c =
    let found = c.in-Some.ensures.lookup.3 in
    let room = base_within c.args.given.now c.args.number in
    let rows = ap length (c.as_slice.ensures ∙ found.1 []) in
    let base = c.first_place-base.ensures in
    let total = c.requires in
    omega (arith, room, rows, base, total)

pub returns-in-Some-clause-reads : goal.returns-in-Some-clause-reads
returns-in-Some-clause-reads c =
    let R : List Entry → Type 0 = λ es. IfOk c.placed.result (λ out. Reads c.placed.new.dag out es) in
    subst R (ap₂ placed c.first_place-base.ensures (c.as_slice.ensures ∙ c.in-Some.ensures.lookup.3.1 [])) c.placed.ensures.reads
