-- Foreign keys match by the names of their columns just where the keys that are made match.
use Rattle.std.proofs.Common.{◌≡◌, ◌∙◌, sym, ap, ap₂, ℕ, suc, List, [], ◌∷◌, refl, Bool, true, false, cond, map, Option, Some, None}
use Rattle.std.proofs.lemmas.List.Folds.{list_all-append}
use Rattle.std.specs.List.{flat_map, list_all}
use Rattle.std.specs.Prelude.{◌&&◌, bytes_eq, option_map, slice_get}
use Rattle.rt_token.specs.Terminals.{Word}
use Rattle.rt_schema.specs.Schema.{foreign_sound}
use Rattle.rt_schema.specs.declared.table.Column.{Column}
use Rattle.rt_schema.specs.declared.table.Rule.TheVariants as made
use Rattle.rt_schema.specs.declared.table.Table.{Table}
use Rattle.rt_ddl.specs.Matches.{part_matches, rules_match, target_matches}
use Rattle.rt_ddl.specs.Meaning.{columns_at, columns_of, key_matches, keys_match, part_rules, rules_made, table_at, table_named, table_of, tables_of, target}
use Rattle.rt_ddl.specs.declared.parts.Part.{Part}
use Rattle.rt_ddl.specs.declared.parts.Part.TheVariants as part
use Rattle.rt_ddl.specs.declared.parts.RuleText.TheVariants as rule
use Rattle.rt_ddl.specs.declared.parts.TableText.{TableText}

-- ---- a rule

made-more : (b : Bool) (f : TableText → Table) (t : TableText) (ts : List TableText) (k : ℕ) (o : Option TableText)
    → slice_get (map f ts) k ≡ option_map f o → slice_get (f t ∷ map f ts) (cond {A = ℕ} b 0 (suc k)) ≡ option_map f (cond b (Some t) o)
made-more true f t ts k o h = refl
made-more false f t ts k o h = h

table-made : (f : TableText → Table) (ts : List TableText) (n : Word) → slice_get (map f ts) (table_at ts n) ≡ option_map f (table_named ts n)
table-made f [] n = refl
table-made f (t ∷ ts) n = made-more (bytes_eq t.name n) f t ts (table_at ts n) (table_named ts n) (table-made f ts n)

found : (ts : List TableText) (cs : List Column) (from : List Word) (at : ℕ) (to : Option (List Word)) (o : Option TableText)
    → target_matches cs from o to ≡ foreign_sound cs (option_map (table_of ts) o) (record { from = columns_at cs from; table = at; to = target o to })
found ts cs from at to None = refl
found ts cs from at to (Some t) = refl

and-true : (b : Bool) → (b && true) ≡ b
and-true true = refl
and-true false = refl

pub foreign-matches : (ts : List TableText) (cs : List Column) (from : List Word) (n : Word) (to : Option (List Word))
    → rules_match ts cs (rules_made ts cs (rule.Foreign from n to)) ≡ target_matches cs from (table_named ts n) to
foreign-matches ts cs from n to =
    and-true _
    ∙ ap (λ (o : Option Table). foreign_sound cs o (record { from = columns_at cs from; table = table_at ts n; to = target (table_named ts n) to })) (table-made (table_of ts) ts n)
    ∙ sym (found ts cs from (table_at ts n) to (table_named ts n))

pub not-nulls-match : (ts : List TableText) (cs : List Column) (ns : List ℕ) → rules_match ts cs (map (λ c. made.NotNull c) ns) ≡ true
not-nulls-match ts cs [] = refl
not-nulls-match ts cs (n ∷ ns) = not-nulls-match ts cs ns

-- ---- a table

part-both : (ts : List TableText) (cs : List Column) (p : Part) → (rules_match ts cs (part_rules false ts cs p) && rules_match ts cs (part_rules true ts cs p)) ≡ part_matches ts cs p
part-both ts cs (part.Column c) = refl
part-both ts cs (part.Rule true r) = refl
part-both ts cs (part.Rule false r) = and-true (rules_match ts cs (rules_made ts cs r))

swapped : (a b c d : Bool) → ((a && b) && (c && d)) ≡ ((a && c) && (b && d))
swapped true true c d = refl
swapped true false true d = refl
swapped true false false d = refl
swapped false b c d = refl

parts-both : (ts : List TableText) (cs : List Column) (ps : List Part)
    → (rules_match ts cs (flat_map (part_rules false ts cs) ps) && rules_match ts cs (flat_map (part_rules true ts cs) ps)) ≡ list_all (part_matches ts cs) ps
parts-both ts cs [] = refl
parts-both ts cs (p ∷ ps) =
    let K = key_matches (tables_of ts) cs in
    let a = part_rules false ts cs p in
    let b = part_rules true ts cs p in
    let more = flat_map (part_rules false ts cs) ps in
    let others = flat_map (part_rules true ts cs) ps in
    ap₂ (λ (x y : Bool). x && y) (list_all-append K a more) (list_all-append K b others)
    ∙ swapped (list_all K a) (list_all K more) (list_all K b) (list_all K others)
    ∙ ap₂ (λ (x y : Bool). x && y) (part-both ts cs p) (parts-both ts cs ps)

pub table-matches : (ts : List TableText) (t : TableText) → keys_match (tables_of ts) (table_of ts t) ≡ list_all (part_matches ts (columns_of t.parts)) t.parts
table-matches ts t =
    let cs = columns_of t.parts in
    list_all-append (key_matches (tables_of ts) cs) (flat_map (part_rules false ts cs) t.parts) (flat_map (part_rules true ts cs) t.parts)
    ∙ parts-both ts cs t.parts
