-- What reading the tree of tokens answers.
use Rattle.std.specs.Prelude.{◌≡◌, true, List, Result, Ok, Err}
use Rattle.rt_token.specs.Words.{all_formed, kinds}
use Rattle.rt_token.specs.declared.read_fault.ReadFault.{ReadFault}
use Rattle.rt_token.specs.declared.read_fault.ReadFault.TheVariants.{Syntax, NoMemory}
use Rattle.rt_ra_tree.specs.Formed.{spelled_kinds}
use Rattle.rt_token.specs.declared.token.Token.{Token}
use Rattle.rt_ra_tree.specs.Spelled.{spelled_text}
use Rattle.rt_ra_tree.specs.declared.tree.RaText.{RaText}

-- the tokens are those of the tree, however deep
abbrev pub Spells : List Token → RaText → Type 0
Spells tokens t = (all_formed (spelled_text t) ≡ true) × (spelled_kinds t ≡ kinds tokens)

abbrev pub TreeRead : List Token → Result RaText ReadFault → Type 0
TreeRead tokens (Ok t) = Spells tokens t
TreeRead tokens (Err (Syntax left)) = (t : RaText) → ¬ Spells tokens t
TreeRead tokens (Err NoMemory) = Unit {0}
