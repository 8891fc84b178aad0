use Rattle.std.proofs.Common.{◌≡◌, ◌≤◌, ◌+◌, ◌++◌, ◌∷◌, [], ◌∙◌, arith, length, length-append}
use Rattle.std.proofs.lemmas.Result.{err_from_is_err_and}
use Rattle.csv.specs.Records.{fields_of}
use Rattle.rt_schema.specs.Given.{row_limit}
use Rattle.rt_load.specs.Records.{left_of}
use Rattle.rt_load.proofs.LoadLemmas.{passes, rows-end, rows-fault, rows-step}
use Rattle.rt_load.proofs.file.rows_left.Goals as goal

pub returns-in_err-row : goal.returns-in_err-row
returns-in_err-row c =
    let p = err_from_is_err_and c.from_residual-in_err-row.result c.from_residual-in_err-row.ensures.1 in
    let next = rw c.if-branch.true at c.in_ok-read_next.ensures.next in
    rw (p.1, p.2) (passes c.in_err-row.field-0.0 _ _
    (λ h. c.rows.invariant.so_far ∙ rw next.1 (rows-fault c.args.columns.now (length c.rows.rows + 2) (c.args.before + length c.rows.rows) (fields_of c.read_next.new.fields) (left_of c.read_next.new.reader) c.rows.rows
    c.in_err-row.field-0.0 h))
    (rw (c.len.ensures, c.len-in-rows.ensures) at c.in_err-row.ensures.value))

pub rows-preserved : goal.rows-preserved
rows-preserved c =
    let next = rw c.if-branch.true at c.in_ok-read_next.ensures.next in
    let l = length-append c.rows.rows (c.in_ok-row.row ∷ []) in
    let n : length (c.rows.rows ++ c.in_ok-row.row ∷ []) + 2 ≡ length c.rows.rows + 2 + 1 = omega (arith, l) in
    let b : c.args.before + length (c.rows.rows ++ c.in_ok-row.row ∷ []) ≡ c.args.before + length c.rows.rows + 1 = omega (arith, l) in
    let w : length (c.rows.rows ++ c.in_ok-row.row ∷ []) ≤ row_limit = omega (arith, l, rw c.len-in-rows.ensures at c.in_ok-row.ensures.room) in
    rw c.in_ok-push.ensures.ok (record {
      reading = next.0;
      so_far = rw (n, b) (c.rows.invariant.so_far ∙ rw next.1 (rows-step c.args.columns.now (length c.rows.rows + 2) (c.args.before + length c.rows.rows) (fields_of c.read_next.new.fields) (left_of c.read_next.new.reader) c.rows.rows
          c.in_ok-row.row (rw (c.len.ensures, c.len-in-rows.ensures) at c.in_ok-row.ensures.value)));
      within = w;
    })

pub returns : goal.returns
returns c =
    let none = rw c.if-branch.false at c.in_ok-read_next.ensures.next in
    c.rows.invariant.so_far ∙ rw none (rows-end c.args.columns.now _ _ c.rows.rows)
