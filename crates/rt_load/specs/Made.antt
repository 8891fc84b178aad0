-- A generated input: the texts of a schema, of its tables' files and of two queries. Student i of n
-- has the courses i and n + i, the first of department CS, the second too where 3 divides i.
use Rattle.std.specs.Prelude.{ℕ, zero, suc, ◌+◌, ◌-◌, ◌*◌, ◌%◌, ◌==◌, if◌then◌else◌, List, [], ◌∷◌, ◌++◌, codes}
use Rattle.std.specs.Fmt.{decimal}
use Rattle.rt_value.specs.Bytes.{line_feed}
use Rattle.rt_load.specs.declared.input.Made.{Made}

abbrev pub Text : Type 0
Text = List ℕ

abbrev pub line : Text → Text
line text = text ++ line_feed ∷ []

-- the texts of the numbers from 1 to n
abbrev pub up_to : ℕ → (ℕ → Text) → Text
up_to zero text_of = []
up_to (suc n) text_of = up_to n text_of ++ text_of (suc n)

-- ---- the schema and the queries

abbrev pub schema_text : Text
schema_text =
    line (codes "CREATE TABLE student (id INTEGER PRIMARY KEY);") ++
    (line (codes "CREATE TABLE reg (id INTEGER REFERENCES student, num INTEGER, dept TEXT, PRIMARY KEY (id, num));") ++
    line (codes "CREATE TABLE room (num INTEGER PRIMARY KEY, id INTEGER REFERENCES student);"))

-- students with a course of CS
abbrev pub query1_text : Text
query1_text = line (codes "SELECT id FROM reg WHERE dept = 'CS'")

-- students with just one course of CS
abbrev pub query2_text : Text
query2_text =
    line (codes "SELECT id FROM reg WHERE dept = 'CS' EXCEPT SELECT r.id FROM reg r, reg s WHERE r.id = s.id AND r.num < s.num AND r.dept = 'CS' AND s.dept = 'CS'")

-- ---- the tables

abbrev pub student_line : ℕ → Text
student_line i = line (decimal i)

abbrev pub department : ℕ → Text
department i = if i % 3 == 0 then codes "CS" else codes "MA"

-- the two courses of student i
abbrev pub reg_lines : ℕ → ℕ → Text
reg_lines n i =
    line (decimal i ++ (codes "," ++ (decimal i ++ codes ",CS"))) ++
    line (decimal i ++ (codes "," ++ (decimal (n + i) ++ (codes "," ++ department i))))

-- room j, and its student; the students take the rooms in turn
abbrev pub room_line : ℕ → ℕ → Text
room_line n j = line (decimal j ++ (codes "," ++ decimal ((j - 1) % n + 1)))

abbrev pub student_file : ℕ → Text
student_file n = line (codes "id") ++ up_to n student_line

abbrev pub reg_file : ℕ → Text
reg_file n = line (codes "id,num,dept") ++ up_to n (reg_lines n)

abbrev pub room_file : ℕ → Text
room_file n = line (codes "num,id") ++ up_to (2 * n) (room_line n)

-- the texts for n students; the files are in the order of the schema's tables
abbrev pub made : ℕ → Made
made n = record {
  schema = schema_text;
  files = student_file n ∷ reg_file n ∷ room_file n ∷ [];
  query1 = query1_text;
  query2 = query2_text;
}
