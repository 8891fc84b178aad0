use Rattle.std.proofs.Common.{◌∙◌, sym}
use Rattle.csv.specs.Records.{fields_of}
use Rattle.rt_load.specs.Records.{left_of}
use Rattle.rt_load.proofs.LoadLemmas.{loaded-bad, loaded-good, loaded-marked, loaded-none}
use Rattle.rt_load.proofs.file.rows_of.Goals.{then-not-branch-via-then-not-branch, then-not-branch-via-else-not-branch+then-not-is_header}
use Rattle.rt_load.proofs.file.rows_of.Goals as goal

pub returns-then-begins_with_mark : goal.returns-then-begins_with_mark
returns-then-begins_with_mark c = loaded-marked c.args.columns.now c.args.bytes.now c.args.before (sym c.begins_with_mark.ensures ∙ c.if-begins_with_mark.true)

pub returns-then-not-branch : goal.returns-then-not-branch
returns-then-not-branch c =
    let plain = sym c.begins_with_mark.ensures ∙ c.if-begins_with_mark.false in
    elim c.then-not-branch.branch [
      | then-not-branch-via-then-not-branch w ↦
          loaded-none c.args.columns.now c.args.bytes.now c.args.before (left_of c.reader_of-reader.result) plain c.reader_of-reader.ensures.left (rw w.if-not-branch.true at c.in_ok-read_next.ensures.next)
      | then-not-branch-via-else-not-branch+then-not-is_header w ↦
          let next = rw w.if-not-branch.false at c.in_ok-read_next.ensures.next in
          loaded-bad c.args.columns.now c.args.bytes.now c.args.before (left_of c.reader_of-reader.result) (left_of c.read_next.new.reader) (fields_of c.read_next.new.fields) plain c.reader_of-reader.ensures.left next.1
          (sym w.if-not-is_header.ensures)
    ]

pub returns : goal.returns
returns c =
    let plain = sym c.begins_with_mark.ensures ∙ c.if-begins_with_mark.false in
    let next = rw c.if-not-branch.false at c.in_ok-read_next.ensures.next in
    rw (loaded-good c.args.columns.now c.args.bytes.now c.args.before (left_of c.reader_of-reader.result) (left_of c.read_next.new.reader) (fields_of c.read_next.new.fields) plain c.reader_of-reader.ensures.left next.1
    (sym c.if-not-is_header.ensures)) c.rows_left.ensures
