-- The clauses of a formula, entry by entry (Tseitin's encoding).
use Rattle.std.specs.Prelude.{ℕ, ◌+◌, Bool, true, false, List, [], ◌∷◌, ◌++◌, map, slice_index_or}
use Rattle.rt_clause.specs.Literal.{Literal, negated}
use Rattle.rt_clause.specs.Gates.{gate}
use Rattle.rt_formula.specs.declared.entry.Entry.{Entry}
use Rattle.rt_formula.specs.declared.entry.Entry.TheVariants.{Yes, No, Row, Not, All, Any}

-- a literal for each entry so far, the first unused variable, and the lines
pub record Written : Type 0 where
  pub names : List Literal
  pub next : ℕ
  pub lines : List (List Literal)

abbrev pub written : List Literal → ℕ → List (List Literal) → Written
written names next lines = record { names = names; next = next; lines = lines }

-- the literal of a node
abbrev pub name_at : List Literal → ℕ → Literal
name_at names k = slice_index_or names k (record { var = 0; on = false })

-- it, or its negation
abbrev pub named_by : List Literal → Bool → ℕ → Literal
named_by names true k = name_at names k
named_by names false k = negated (name_at names k)

-- a node that needs no variable of its own
abbrev pub with_name : Written → Literal → Written
with_name w l = written (w.names ++ l ∷ []) w.next w.lines

-- a node with a variable of its own: the variable is on exactly where all of the literals are true
abbrev pub with_gate : Written → Bool → List Literal → Written
with_gate w on lits = written (w.names ++ record { var = w.next; on = true } ∷ []) (w.next + 1) (w.lines ++ gate (record { var = w.next; on = on }) lits)

abbrev pub with_entry : Written → Entry → Written
with_entry w Yes = with_gate w true []
with_entry w No = with_gate w false []
with_entry w (Row v) = with_name w (record { var = v; on = true })
with_entry w (Not a) = with_name w (negated (name_at w.names a))
with_entry w (All of) = with_gate w true (map (named_by w.names true) of)
with_entry w (Any of) = with_gate w false (map (named_by w.names false) of)

-- a node that is not marked gets a literal that nothing reads
abbrev pub with_node : Bool → Written → Entry → Written
with_node true w e = with_entry w e
with_node false w e = with_name w (record { var = 0; on = false })
