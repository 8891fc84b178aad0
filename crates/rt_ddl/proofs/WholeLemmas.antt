-- The tree that is read is the one that the tokens have, and so the answer is what the text makes.
use Rattle.std.proofs.Common.{◌≡◌, ◌∙◌, ap, subst, ℕ, List, refl, Option, Some, None, Ok, Err}
use Rattle.rt_token.specs.declared.read_fault.ReadFault.{ReadFault}
use Rattle.rt_token.specs.declared.read_fault.ReadFault.TheVariants.{Syntax}
use Rattle.rt_token.specs.Lexed.{Text, lexed}
use Rattle.rt_token.specs.declared.token.Token.{Token}
use Rattle.rt_value.specs.Gives.{Gives}
use Rattle.rt_ddl.specs.Meaning.{is_memory}
use Rattle.rt_ddl.specs.Read.{Answer, HasTree, IsAnswer}
use Rattle.rt_ddl_tree.specs.Spelled.{IsTreeOf}
use Rattle.rt_ddl_tree.specs.Trees.{TreeRead, tree_read}
use Rattle.rt_ddl.specs.Whole.{of_tokens, of_tree, placeless, schema_read}
use Rattle.rt_ddl.specs.declared.fault.SchemaFault.TheVariants as fault
use Rattle.rt_ddl_tree.specs.declared.tree.SchemaText.{SchemaText}
use Rattle.rt_ddl_tree.proofs.TreeLemmas.{read-is-tree, tree-is-read}

has-tree : (text : Text) (a : Answer) → HasTree text a → schema_read text ≡ a
has-tree text a h = ap of_tokens h.2 ∙ ap of_tree (tree-is-read h.0 h.1 h.3) ∙ h.4

none-read : (tokens : List Token) (o : Option SchemaText) → tree_read tokens ≡ o → ((t : SchemaText) → ¬ IsTreeOf tokens t) → of_tree o ≡ Err (fault.Syntax 0)
none-read tokens None r n = refl
none-read tokens (Some t) r n = absurd (n t (read-is-tree tokens t r))

pub no-tree-read : (text : Text) (tokens : List Token) → lexed text ≡ Ok tokens → ((t : SchemaText) → ¬ IsTreeOf tokens t) → schema_read text ≡ Err (fault.Syntax 0)
no-tree-read text tokens l n = ap of_tokens l ∙ none-read tokens (tree_read tokens) refl n

-- what the reader of trees says where it reads none
pub syntax-none : (tokens : List Token) (e : ReadFault) (left : ℕ) → e ≡ Syntax left → TreeRead tokens (Err e) → (t : SchemaText) → ¬ IsTreeOf tokens t
syntax-none tokens e left p r = subst (λ (e : ReadFault). TreeRead tokens (Err e)) p r

pub answer-read : (text : Text) (r : Answer) → IsAnswer text r → Gives is_memory (placeless r) (schema_read text)
answer-read text (Ok tables) h = has-tree text (Ok tables) h
answer-read text (Err (fault.Lex f)) h = ap of_tokens h
answer-read text (Err (fault.Syntax at)) h = no-tree-read text h.0 h.1 h.2
answer-read text (Err (fault.DuplicateName n)) h = has-tree text (Err (fault.DuplicateName n)) h
answer-read text (Err (fault.UnknownName n)) h = has-tree text (Err (fault.UnknownName n)) h
answer-read text (Err (fault.KeyTypes n)) h = has-tree text (Err (fault.KeyTypes n)) h
answer-read text (Err (fault.TooMany e)) h = has-tree text (Err (fault.TooMany e)) h
answer-read text (Err (fault.CheckTypes n)) h = has-tree text (Err (fault.CheckTypes n)) h
answer-read text (Err fault.NoMemory) h = tt
