-- What reading the tree of tokens answers.
use Rattle.std.specs.Prelude.{◌≡◌, true, List, Result, Ok, Err}
use Rattle.rt_token.specs.Words.{all_formed, kinds}
use Rattle.rt_token.specs.declared.read_fault.ReadFault.{ReadFault}
use Rattle.rt_token.specs.declared.read_fault.ReadFault.TheVariants.{Syntax, NoMemory}
use Rattle.rt_sql.specs.Formed.{IsTreeOf, spelled_kinds}
use Rattle.rt_token.specs.declared.token.Token.{Token}
use Rattle.rt_tree.specs.Spelled.{spelled_sql}
use Rattle.rt_tree.specs.declared.tree.Sql.{Sql}

-- the tokens are those of the tree, however deep
abbrev pub Spells : List Token → Sql → Type 0
Spells tokens t = (all_formed (spelled_sql t) ≡ true) × (spelled_kinds t ≡ kinds tokens)

abbrev pub TreeRead : List Token → Result Sql ReadFault → Type 0
TreeRead tokens (Ok t) = Spells tokens t
TreeRead tokens (Err (Syntax left)) = (t : Sql) → ¬ Spells tokens t
TreeRead tokens (Err NoMemory) = Unit {0}
