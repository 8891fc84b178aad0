-- The terminals of a query's tree (ISO/IEC 9075-2, query expression). The grammar is in the
-- comments of the tree's types.
--
-- The types of conditions and chains are recursive, so each spelling is given for one layer, with
-- the terminals of its parts, and folded over the tree.
use Rattle.std.specs.Prelude.{Bool, true, false, List, [], ◌∷◌, ◌++◌, Option, Some, None, replicate}
use Rattle.std.specs.List.{flat_map}
use Rattle.rt_token.specs.declared.fixed.Fixed.{Fixed}
use Rattle.rt_token.specs.declared.fixed.Fixed.TheVariants as fixed
use Rattle.rt_token.specs.declared.terminal.Name.{Name}
use Rattle.rt_token.specs.declared.terminal.Terminal.TheVariants as terminal
use Rattle.rt_token.specs.Terminals.{Kinds, flag, in_paren, maybe}
use Rattle.rt_tree.specs.declared.tree.Alias.{Alias}
use Rattle.rt_tree.specs.declared.tree.Item.{Item}
use Rattle.rt_tree.specs.declared.tree.Item.TheVariants as item
use Rattle.rt_tree.specs.declared.tree.Items.{Items}
use Rattle.rt_tree.specs.declared.tree.Items.TheVariants as items
use Rattle.rt_tree.specs.declared.tree.Op.{Op}
use Rattle.rt_tree.specs.declared.tree.Op.TheVariants as op
use Rattle.rt_tree.specs.declared.tree.Sql.{Sql}
use Rattle.rt_tree.specs.declared.tree.Leaf.TheOpen as open_sum
use Rattle.rt_tree.specs.declared.tree.Atom.TheOpen as open_
use Rattle.rt_tree.specs.declared.tree.Leaf.{Leaf, fold-Leaf}
use Rattle.rt_tree.specs.declared.tree.Factor.{Factor, fold-Factor}
use Rattle.rt_tree.specs.declared.tree.Mul.{Mul, fold-Mul}
use Rattle.rt_tree.specs.declared.tree.Sum.{Sum, fold-Sum}
use Rattle.rt_tree.specs.declared.tree.SumLink.{SumLink, fold-SumLink}
use Rattle.rt_tree.specs.declared.tree.Atom.{Atom, fold-Atom}
use Rattle.rt_tree.specs.declared.tree.Base.{Base, fold-Base}
use Rattle.rt_tree.specs.declared.tree.Join.{Join, fold-Join}
use Rattle.rt_tree.specs.declared.tree.Primary.{Primary, fold-Primary}
use Rattle.rt_tree.specs.declared.tree.Chain.{Chain, fold-Chain}
use Rattle.rt_tree.specs.declared.tree.ChainLink.{ChainLink, fold-ChainLink}
use Rattle.rt_tree.specs.declared.tree.Cond.{Cond, fold-Cond}
use Rattle.rt_tree.specs.declared.tree.Conj.{Conj, fold-Conj}
use Rattle.rt_tree.specs.declared.tree.Meet.{Meet, fold-Meet}
use Rattle.rt_tree.specs.declared.tree.MeetLink.{MeetLink, fold-MeetLink}
use Rattle.rt_tree.specs.declared.tree.Neg.{Neg, fold-Neg}
use Rattle.rt_tree.specs.declared.tree.Pick.{Pick, fold-Pick}
use Rattle.rt_tree.specs.declared.tree.Source.{Source, fold-Source}

abbrev pub joined : List Kinds → Kinds
joined [] = []
joined (x ∷ xs) = x ++ joined xs

-- each after the terminal
abbrev pub led : Fixed → List Kinds → Kinds
led f [] = []
led f (x ∷ xs) = terminal.Fixed f ∷ (x ++ led f xs)

abbrev pub spelled_name : Name → Kinds
spelled_name n = terminal.Name n ∷ []

abbrev pub spelled_alias : Alias → Kinds
spelled_alias a = flag fixed.As a.as_word ++ spelled_name a.name

-- ---- sums: one level of each tree, with the terminals of its parts

abbrev pub spelled_col : Option Name → Name → Kinds
spelled_col None n = spelled_name n
spelled_col (Some q) n = terminal.Name q ∷ (terminal.Fixed fixed.Dot ∷ spelled_name n)

abbrev pub leaf_step : open_sum.Leaf-F Kinds Kinds Kinds Kinds Kinds → Kinds
leaf_step (open_sum.Number n) = terminal.Number n ∷ []
leaf_step (open_sum.Str t) = terminal.Str t ∷ []
leaf_step open_sum.Null = terminal.Fixed fixed.Null ∷ []
leaf_step (open_sum.Col q n) = spelled_col q n
leaf_step (open_sum.Paren s) = in_paren s

abbrev pub factor_step : open_sum.Factor-F Kinds Kinds Kinds Kinds Kinds → Kinds
factor_step r = replicate r.minuses (terminal.Fixed fixed.Minus) ++ r.of

abbrev pub mul_step : open_sum.Mul-F Kinds Kinds Kinds Kinds Kinds → Kinds
mul_step r = r.head ++ led fixed.Star r.tail

abbrev pub sign : Bool → Fixed
sign true = fixed.Minus
sign false = fixed.Plus

abbrev pub sum_link_step : open_sum.SumLink-F Kinds Kinds Kinds Kinds Kinds → Kinds
sum_link_step r = terminal.Fixed (sign r.minus) ∷ r.of

abbrev pub sum_step : open_sum.Sum-F Kinds Kinds Kinds Kinds Kinds → Kinds
sum_step r = r.head ++ joined r.tail

unfoldable pub spelled_leaf : Leaf → Kinds
spelled_leaf = fold-Leaf Kinds Kinds Kinds Kinds Kinds leaf_step factor_step mul_step sum_step sum_link_step

unfoldable pub spelled_factor : Factor → Kinds
spelled_factor = fold-Factor Kinds Kinds Kinds Kinds Kinds leaf_step factor_step mul_step sum_step sum_link_step

unfoldable pub spelled_mul : Mul → Kinds
spelled_mul = fold-Mul Kinds Kinds Kinds Kinds Kinds leaf_step factor_step mul_step sum_step sum_link_step

unfoldable pub spelled_sum : Sum → Kinds
spelled_sum = fold-Sum Kinds Kinds Kinds Kinds Kinds leaf_step factor_step mul_step sum_step sum_link_step

unfoldable pub spelled_sum_link : SumLink → Kinds
spelled_sum_link = fold-SumLink Kinds Kinds Kinds Kinds Kinds leaf_step factor_step mul_step sum_step sum_link_step

-- ---- items

abbrev pub spelled_item : Item → Kinds
spelled_item (item.All n) = terminal.Name n ∷ (terminal.Fixed fixed.Dot ∷ (terminal.Fixed fixed.Star ∷ []))
spelled_item (item.One s a) = spelled_sum s ++ maybe spelled_alias a

abbrev pub spelled_items : Items → Kinds
spelled_items items.Star = terminal.Fixed fixed.Star ∷ []
spelled_items (items.Some i is) = spelled_item i ++ flat_map (λ j. terminal.Fixed fixed.Comma ∷ spelled_item j) is

-- ---- conditions and chains

abbrev pub op_sign : Op → Fixed
op_sign op.Eq = fixed.Equal
op_sign op.Ne = fixed.NotEqual
op_sign op.Lt = fixed.Below
op_sign op.Le = fixed.AtMost
op_sign op.Gt = fixed.Above
op_sign op.Ge = fixed.AtLeast

abbrev pub spelled_sums : Sum → List Sum → Kinds
spelled_sums s ss = spelled_sum s ++ flat_map (λ t. terminal.Fixed fixed.Comma ∷ spelled_sum t) ss

abbrev pub atom_step : open_.Atom-F Kinds Kinds Kinds Kinds Kinds Kinds Kinds Kinds Kinds Kinds Kinds Kinds Kinds → Kinds
atom_step (open_.Cmp a o b) = spelled_sum a ++ (terminal.Fixed (op_sign o) ∷ spelled_sum b)
atom_step (open_.IsNull a n) = spelled_sum a ++ (terminal.Fixed fixed.Is ∷ (flag fixed.Not n ++ terminal.Fixed fixed.Null ∷ []))
atom_step (open_.InChain a n q) = spelled_sum a ++ (flag fixed.Not n ++ terminal.Fixed fixed.In ∷ in_paren q)
atom_step (open_.InList a n s ss) = spelled_sum a ++ (flag fixed.Not n ++ terminal.Fixed fixed.In ∷ in_paren (spelled_sums s ss))
atom_step (open_.Between a n b c) = spelled_sum a ++ (flag fixed.Not n ++ terminal.Fixed fixed.Between ∷ (spelled_sum b ++ terminal.Fixed fixed.And ∷ spelled_sum c))
atom_step (open_.Exists q) = terminal.Fixed fixed.Exists ∷ in_paren q
atom_step (open_.Atom::Paren c) = in_paren c

abbrev pub neg_step : open_.Neg-F Kinds Kinds Kinds Kinds Kinds Kinds Kinds Kinds Kinds Kinds Kinds Kinds Kinds → Kinds
neg_step r = replicate r.nots (terminal.Fixed fixed.Not) ++ r.atom

abbrev pub conj_step : open_.Conj-F Kinds Kinds Kinds Kinds Kinds Kinds Kinds Kinds Kinds Kinds Kinds Kinds Kinds → Kinds
conj_step r = r.head ++ led fixed.And r.tail

abbrev pub cond_step : open_.Cond-F Kinds Kinds Kinds Kinds Kinds Kinds Kinds Kinds Kinds Kinds Kinds Kinds Kinds → Kinds
cond_step r = r.head ++ led fixed.Or r.tail

abbrev pub base_step : open_.Base-F Kinds Kinds Kinds Kinds Kinds Kinds Kinds Kinds Kinds Kinds Kinds Kinds Kinds → Kinds
base_step (open_.Named n a) = terminal.Name n ∷ maybe spelled_alias a
base_step (open_.Sub q a) = in_paren q ++ spelled_alias a

abbrev pub join_step : open_.Join-F Kinds Kinds Kinds Kinds Kinds Kinds Kinds Kinds Kinds Kinds Kinds Kinds Kinds → Kinds
join_step (open_.Plain b c) = terminal.Fixed fixed.Join ∷ (b ++ terminal.Fixed fixed.On ∷ c)
join_step (open_.Inner b c) = terminal.Fixed fixed.Inner ∷ (terminal.Fixed fixed.Join ∷ (b ++ terminal.Fixed fixed.On ∷ c))
join_step (open_.Cross b) = terminal.Fixed fixed.Cross ∷ (terminal.Fixed fixed.Join ∷ b)

abbrev pub source_step : open_.Source-F Kinds Kinds Kinds Kinds Kinds Kinds Kinds Kinds Kinds Kinds Kinds Kinds Kinds → Kinds
source_step r = r.head ++ joined r.joins

abbrev pub where_of : Option Kinds → Kinds
where_of None = []
where_of (Some ks) = terminal.Fixed fixed.Where ∷ ks

abbrev pub pick_step : open_.Pick-F Kinds Kinds Kinds Kinds Kinds Kinds Kinds Kinds Kinds Kinds Kinds Kinds Kinds → Kinds
pick_step r = terminal.Fixed fixed.Select ∷ (flag fixed.Distinct r.distinct ++ (spelled_items r.items ++ terminal.Fixed fixed.From ∷ ((r.head ++ led fixed.Comma r.tail) ++ where_of r.cond)))

abbrev pub primary_step : open_.Primary-F Kinds Kinds Kinds Kinds Kinds Kinds Kinds Kinds Kinds Kinds Kinds Kinds Kinds → Kinds
primary_step (open_.One p) = p
primary_step (open_.Primary::Paren c) = in_paren c

abbrev pub meet_link_step : open_.MeetLink-F Kinds Kinds Kinds Kinds Kinds Kinds Kinds Kinds Kinds Kinds Kinds Kinds Kinds → Kinds
meet_link_step r = terminal.Fixed fixed.Intersect ∷ (flag fixed.Distinct r.distinct ++ r.of)

abbrev pub meet_step : open_.Meet-F Kinds Kinds Kinds Kinds Kinds Kinds Kinds Kinds Kinds Kinds Kinds Kinds Kinds → Kinds
meet_step r = r.head ++ joined r.tail

abbrev pub union_word : Bool → Fixed
union_word true = fixed.Except
union_word false = fixed.Union

abbrev pub chain_link_step : open_.ChainLink-F Kinds Kinds Kinds Kinds Kinds Kinds Kinds Kinds Kinds Kinds Kinds Kinds Kinds → Kinds
chain_link_step r = terminal.Fixed (union_word r.except) ∷ (flag fixed.Distinct r.distinct ++ r.of)

abbrev pub chain_step : open_.Chain-F Kinds Kinds Kinds Kinds Kinds Kinds Kinds Kinds Kinds Kinds Kinds Kinds Kinds → Kinds
chain_step r = r.head ++ joined r.tail

unfoldable pub spelled_atom : Atom → Kinds
spelled_atom = fold-Atom Kinds Kinds Kinds Kinds Kinds Kinds Kinds Kinds Kinds Kinds Kinds Kinds Kinds atom_step base_step join_step primary_step chain_step chain_link_step cond_step conj_step meet_step meet_link_step neg_step pick_step source_step

unfoldable pub spelled_base : Base → Kinds
spelled_base = fold-Base Kinds Kinds Kinds Kinds Kinds Kinds Kinds Kinds Kinds Kinds Kinds Kinds Kinds atom_step base_step join_step primary_step chain_step chain_link_step cond_step conj_step meet_step meet_link_step neg_step pick_step source_step

unfoldable pub spelled_join : Join → Kinds
spelled_join = fold-Join Kinds Kinds Kinds Kinds Kinds Kinds Kinds Kinds Kinds Kinds Kinds Kinds Kinds atom_step base_step join_step primary_step chain_step chain_link_step cond_step conj_step meet_step meet_link_step neg_step pick_step source_step

unfoldable pub spelled_primary : Primary → Kinds
spelled_primary = fold-Primary Kinds Kinds Kinds Kinds Kinds Kinds Kinds Kinds Kinds Kinds Kinds Kinds Kinds atom_step base_step join_step primary_step chain_step chain_link_step cond_step conj_step meet_step meet_link_step neg_step pick_step source_step

unfoldable pub spelled_chain : Chain → Kinds
spelled_chain = fold-Chain Kinds Kinds Kinds Kinds Kinds Kinds Kinds Kinds Kinds Kinds Kinds Kinds Kinds atom_step base_step join_step primary_step chain_step chain_link_step cond_step conj_step meet_step meet_link_step neg_step pick_step source_step

unfoldable pub spelled_chain_link : ChainLink → Kinds
spelled_chain_link = fold-ChainLink Kinds Kinds Kinds Kinds Kinds Kinds Kinds Kinds Kinds Kinds Kinds Kinds Kinds atom_step base_step join_step primary_step chain_step chain_link_step cond_step conj_step meet_step meet_link_step neg_step pick_step source_step

unfoldable pub spelled_cond : Cond → Kinds
spelled_cond = fold-Cond Kinds Kinds Kinds Kinds Kinds Kinds Kinds Kinds Kinds Kinds Kinds Kinds Kinds atom_step base_step join_step primary_step chain_step chain_link_step cond_step conj_step meet_step meet_link_step neg_step pick_step source_step

unfoldable pub spelled_conj : Conj → Kinds
spelled_conj = fold-Conj Kinds Kinds Kinds Kinds Kinds Kinds Kinds Kinds Kinds Kinds Kinds Kinds Kinds atom_step base_step join_step primary_step chain_step chain_link_step cond_step conj_step meet_step meet_link_step neg_step pick_step source_step

unfoldable pub spelled_meet : Meet → Kinds
spelled_meet = fold-Meet Kinds Kinds Kinds Kinds Kinds Kinds Kinds Kinds Kinds Kinds Kinds Kinds Kinds atom_step base_step join_step primary_step chain_step chain_link_step cond_step conj_step meet_step meet_link_step neg_step pick_step source_step

unfoldable pub spelled_meet_link : MeetLink → Kinds
spelled_meet_link = fold-MeetLink Kinds Kinds Kinds Kinds Kinds Kinds Kinds Kinds Kinds Kinds Kinds Kinds Kinds atom_step base_step join_step primary_step chain_step chain_link_step cond_step conj_step meet_step meet_link_step neg_step pick_step source_step

unfoldable pub spelled_neg : Neg → Kinds
spelled_neg = fold-Neg Kinds Kinds Kinds Kinds Kinds Kinds Kinds Kinds Kinds Kinds Kinds Kinds Kinds atom_step base_step join_step primary_step chain_step chain_link_step cond_step conj_step meet_step meet_link_step neg_step pick_step source_step

unfoldable pub spelled_pick : Pick → Kinds
spelled_pick = fold-Pick Kinds Kinds Kinds Kinds Kinds Kinds Kinds Kinds Kinds Kinds Kinds Kinds Kinds atom_step base_step join_step primary_step chain_step chain_link_step cond_step conj_step meet_step meet_link_step neg_step pick_step source_step

unfoldable pub spelled_source : Source → Kinds
spelled_source = fold-Source Kinds Kinds Kinds Kinds Kinds Kinds Kinds Kinds Kinds Kinds Kinds Kinds Kinds atom_step base_step join_step primary_step chain_step chain_link_step cond_step conj_step meet_step meet_link_step neg_step pick_step source_step

abbrev pub spelled_sql : Sql → Kinds
spelled_sql t = spelled_chain t.chain ++ flag fixed.Semicolon t.semi

abbrev pub spelled_where : Option Cond → Kinds
spelled_where o = maybe (λ c. terminal.Fixed fixed.Where ∷ spelled_cond c) o
