-- The items of a SELECT: their expressions, kinds, bounds and names (ISO/IEC 9075-2, select list).
use Rattle.std.specs.Prelude.{ℕ, ◌+◌, ◌==◌, List, [], ◌∷◌, ◌++◌, Option, Some, None, Result, Ok, Err, if◌then◌else◌}
use Rattle.rt_algebra.specs.declared.expr.Expr.{Expr}
use Rattle.rt_algebra.specs.declared.expr.Expr.TheVariants as e
use Rattle.rt_schema.specs.declared.table.ColKind.{ColKind}
use Rattle.rt_scope.specs.Fault.{◌>>=◌}
use Rattle.rt_scope.specs.Lookup.{Scopes, Text, source_named}
use Rattle.rt_scope.specs.Sums.{has_more, sum}
use Rattle.rt_scope.specs.declared.column.Column.{Column}
use Rattle.rt_scope.specs.declared.fault.NameFault.{NameFault}
use Rattle.rt_scope.specs.declared.fault.NameFault.TheVariants.{TypeMismatch, UnknownTable}
use Rattle.rt_scope.specs.declared.scalar.Scalar.{Scalar}
use Rattle.rt_scope.specs.declared.select.SelectList.{SelectList}
use Rattle.rt_scope.specs.declared.source.Source.{Source}
use Rattle.rt_tree.specs.declared.tree.Alias.{Alias}
use Rattle.rt_tree.specs.declared.tree.Factor.{Factor}
use Rattle.rt_tree.specs.declared.tree.Item.{Item}
use Rattle.rt_tree.specs.declared.tree.Item.TheVariants as item
use Rattle.rt_tree.specs.declared.tree.Items.{Items}
use Rattle.rt_tree.specs.declared.tree.Items.TheVariants as items
use Rattle.rt_tree.specs.declared.tree.Leaf.{Leaf}
use Rattle.rt_tree.specs.declared.tree.Mul.{Mul}
use Rattle.rt_tree.specs.declared.tree.Sum.{Sum}
use Rattle.rt_tree.specs.declared.tree.Leaf.TheOpen.{Sum-F, SumLink-F, Mul-F, Factor-F, Leaf-F, Number, Str, Null, Col, Paren}
use Rattle.rt_tree.specs.declared.tree.Leaf.TheFolds.{fold-Leaf, fold-Factor, fold-Mul, fold-Sum}

abbrev pub no_items : SelectList
no_items = record { exprs = []; columns = [] }

abbrev pub with_column : SelectList → Expr → Column → SelectList
with_column list x c = record { exprs = list.exprs ++ x ∷ []; columns = list.columns ++ c ∷ [] }

-- the columns of a source, the first one being at `at` in the row
abbrev pub with_columns : SelectList → ℕ → List Column → SelectList
with_columns list at [] = list
with_columns list at (c ∷ cs) = with_columns (with_column list (e.Col 0 at) c) (at + 1) cs

abbrev pub with_sources : SelectList → List Source → SelectList
with_sources list [] = list
with_sources list (s ∷ ss) = with_sources (with_columns list s.start s.columns) ss

abbrev pub with_source : SelectList → Text → Option Source → Result SelectList NameFault
with_source list name None = Err (UnknownTable name)
with_source list name (Some s) = Ok (with_columns list s.start s.columns)

-- ---- output names

-- a plain column has its own name: without parentheses, and no part of a sum
abbrev pub leaf_name_step : Leaf-F (Option Text) (Option Text) (Option Text) (Option Text) (Option Text) → Option Text
leaf_name_step (Number n) = None
leaf_name_step (Str t) = None
leaf_name_step Null = None
leaf_name_step (Col source name) = Some name.text
leaf_name_step (Paren s) = None

abbrev pub factor_name_step : Factor-F (Option Text) (Option Text) (Option Text) (Option Text) (Option Text) → Option Text
factor_name_step f = if f.minuses == 0 then f.of else None

abbrev pub mul_name_step : Mul-F (Option Text) (Option Text) (Option Text) (Option Text) (Option Text) → Option Text
mul_name_step m = if has_more m.tail then None else m.head

abbrev pub sum_name_step : Sum-F (Option Text) (Option Text) (Option Text) (Option Text) (Option Text) → Option Text
sum_name_step s = if has_more s.tail then None else s.head

abbrev pub link_name_step : SumLink-F (Option Text) (Option Text) (Option Text) (Option Text) (Option Text) → Option Text
link_name_step l = None

abbrev pub leaf_name : Leaf → Option Text
leaf_name = fold-Leaf (Option Text) (Option Text) (Option Text) (Option Text) (Option Text) leaf_name_step factor_name_step mul_name_step sum_name_step link_name_step

abbrev pub factor_name : Factor → Option Text
factor_name = fold-Factor (Option Text) (Option Text) (Option Text) (Option Text) (Option Text) leaf_name_step factor_name_step mul_name_step sum_name_step link_name_step

abbrev pub mul_name : Mul → Option Text
mul_name = fold-Mul (Option Text) (Option Text) (Option Text) (Option Text) (Option Text) leaf_name_step factor_name_step mul_name_step sum_name_step link_name_step

abbrev pub sum_name : Sum → Option Text
sum_name = fold-Sum (Option Text) (Option Text) (Option Text) (Option Text) (Option Text) leaf_name_step factor_name_step mul_name_step sum_name_step link_name_step

-- an alias, else the name of a plain column, else none
abbrev pub item_name : Option Alias → Sum → Option Text
item_name None s = sum_name s
item_name (Some a) s = Some a.name.text

-- ---- items

-- an item needs a kind
abbrev pub with_value : SelectList → Option Text → Scalar → Option ColKind → Result SelectList NameFault
with_value list name x None = Err TypeMismatch
with_value list name x (Some k) = Ok (with_column list x.expr (record { name = name; kind = k; bound = x.bound }))

abbrev pub with_item : SelectList → Item → List Source → Scopes → Result SelectList NameFault
with_item list (item.All n) own scopes = with_source list n.text (source_named n.text own)
with_item list (item.One s a) own scopes = sum s scopes >>= λ x. with_value list (item_name a s) x x.kind

abbrev pub with_items : SelectList → List Item → List Source → Scopes → Result SelectList NameFault
with_items list [] own scopes = Ok list
with_items list (i ∷ is) own scopes = with_item list i own scopes >>= λ more. with_items more is own scopes

-- over the sources of its own SELECT, and over all scopes
abbrev pub select_list : Items → List Source → Scopes → Result SelectList NameFault
select_list items.Star own scopes = Ok (with_sources no_items own)
select_list (items.Some head tail) own scopes = with_item no_items head own scopes >>= λ first. with_items first tail own scopes
