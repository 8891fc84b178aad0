-- The answers of reading a schema.
use Rattle.std.proofs.Common.{◌≡◌, ◌∙◌, sym, subst, ℕ, List, [], ◌∷◌, Bool, true, false, refl, Option, Some, None, Ok, Err}
use Rattle.rt_schema.specs.declared.table.Table.{Table}
use Rattle.rt_token.specs.Lexed.{Text, lexed}
use Rattle.rt_token.specs.declared.token.Token.{Token}
use Rattle.rt_value.specs.Gives.{Gives}
use Rattle.rt_ddl.specs.Meaning.{excess_of, fault_of, given, is_memory, is_ruled, is_wide, mismatched, named, or_else, schema_of, table_excess, tables_excess, tables_of, tables_twice, tables_unknown, unless, untyped}
use Rattle.rt_ddl.specs.Parts.{table_texts}
use Rattle.rt_ddl.specs.Read.{Answer, IsAnswer, TreeAnswer}
use Rattle.rt_ddl_tree.specs.Spelled.{IsTreeOf}
use Rattle.rt_ddl.specs.declared.fault.SchemaFault.{SchemaFault}
use Rattle.rt_ddl.specs.declared.fault.SchemaFault.TheVariants as fault
use Rattle.rt_ddl.specs.declared.parts.TableText.{TableText}
use Rattle.rt_ddl_tree.specs.declared.tree.SchemaText.{SchemaText}
use Rattle.rt_ddl_tree.proofs.TreeLemmas.{one_tree}

-- the errors that a tree can have
abbrev of_tree : SchemaFault → Bool
of_tree (fault.Lex f) = false
of_tree (fault.Syntax at) = false
of_tree (fault.DuplicateName n) = true
of_tree (fault.UnknownName n) = true
of_tree (fault.KeyTypes n) = true
of_tree (fault.TooMany e) = true
of_tree (fault.CheckTypes n) = true
of_tree fault.NoMemory = false

abbrev OfTree : Option SchemaFault → Type 0
OfTree None = Unit {0}
OfTree (Some f) = of_tree f ≡ true

either-of : (a b : Option SchemaFault) → OfTree a → OfTree b → OfTree (or_else a b)
either-of None b p q = q
either-of (Some f) b p q = p

given-of : (b : Bool) (f : SchemaFault) → of_tree f ≡ true → OfTree (given b f)
given-of true f p = p
given-of false f p = tt

tables-of : (ts : List Table) → OfTree (tables_excess ts)
tables-of [] = tt
tables-of (t ∷ ts) = either-of (table_excess t) (tables_excess ts) (either-of (given (is_wide t) _) (given (is_ruled t) _) (given-of (is_wide t) _ refl) (given-of (is_ruled t) _ refl)) (tables-of ts)

named-of : (f : List ℕ → SchemaFault) → ((n : List ℕ) → of_tree (f n) ≡ true) → (o : Option (List ℕ)) → OfTree (named f o)
named-of f p None = tt
named-of f p (Some n) = p n

fault-of : (texts : List TableText) (tables : List Table) → OfTree (fault_of texts tables)
fault-of texts tables =
    either-of (named (λ n. fault.DuplicateName n) (tables_twice [] texts)) _ (named-of (λ n. fault.DuplicateName n) (λ n. refl) (tables_twice [] texts))
    (either-of (named (λ n. fault.UnknownName n) (tables_unknown texts texts)) _ (named-of (λ n. fault.UnknownName n) (λ n. refl) (tables_unknown texts texts))
    (either-of (named (λ n. fault.KeyTypes n) (mismatched tables tables)) _ (named-of (λ n. fault.KeyTypes n) (λ n. refl) (mismatched tables tables))
    (either-of (excess_of tables) _ (either-of (given _ _) (tables_excess tables) (given-of _ _ refl) (tables-of tables))
    (named-of (λ n. fault.CheckTypes n) (λ n. refl) (untyped tables)))))

unless-of : (o : Option SchemaFault) (ts : List Table) (f : SchemaFault) → OfTree o → unless o ts ≡ Err f → of_tree f ≡ true
unless-of None ts f p e = cc e
unless-of (Some g) ts f p e = let h : g ≡ f = cc in subst (λ (f : SchemaFault). of_tree f ≡ true) h p

schema-fault : (texts : List TableText) (f : SchemaFault) → schema_of texts ≡ Err f → of_tree f ≡ true
schema-fault texts f e = unless-of (fault_of texts (tables_of texts)) (tables_of texts) f (fault-of texts (tables_of texts)) e

pub answer-of : (text : Text) (tokens : List Token) (tree : SchemaText) (r : Answer) → lexed text ≡ Ok tokens → IsTreeOf tokens tree → Gives is_memory r (schema_of (table_texts tree)) → IsAnswer text r
answer-of text tokens tree (Ok ts) l t g = (tokens, tree, l, t, g)
answer-of text tokens tree (Err (fault.Lex f)) l t g = let h = schema-fault (table_texts tree) (fault.Lex f) g in cc h
answer-of text tokens tree (Err (fault.Syntax at)) l t g = let h = schema-fault (table_texts tree) (fault.Syntax at) g in cc h
answer-of text tokens tree (Err (fault.DuplicateName n)) l t g = (tokens, tree, l, t, g)
answer-of text tokens tree (Err (fault.UnknownName n)) l t g = (tokens, tree, l, t, g)
answer-of text tokens tree (Err (fault.KeyTypes n)) l t g = (tokens, tree, l, t, g)
answer-of text tokens tree (Err (fault.TooMany e)) l t g = (tokens, tree, l, t, g)
answer-of text tokens tree (Err (fault.CheckTypes n)) l t g = (tokens, tree, l, t, g)
answer-of text tokens tree (Err fault.NoMemory) l t g = tt

same-tokens : (text : Text) (tokens others : List Token) → lexed text ≡ Ok tokens → lexed text ≡ Ok others → others ≡ tokens
same-tokens text tokens others l m = let h : Ok tokens ≡ Ok others = sym l ∙ m in cc

pub tree-answer : (text : Text) (tokens : List Token) (tree : SchemaText) (r : Answer) → lexed text ≡ Ok tokens → IsTreeOf tokens tree → Gives is_memory r (schema_of (table_texts tree)) → TreeAnswer text (Gives is_memory r)
tree-answer text tokens tree r l t g others other m u =
    let same : IsTreeOf tokens other = subst (λ (ts : List Token). IsTreeOf ts other) (same-tokens text tokens others l m) u in
    subst (λ (x : SchemaText). Gives is_memory r (schema_of (table_texts x))) (one_tree tokens tree other t same) g
