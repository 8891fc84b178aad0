-- The grammar of queries above sums and items, as readers of terminals from the left.
--
-- They define what the reading of a query answers. By the law `read_is_tree` that is the tree that
-- the tokens spell.
use Rattle.std.specs.Prelude.{ℕ, zero, suc, ◌+◌, ◌==◌, nat_le, ◌&&◌, ◌||◌, Bool, true, false, if◌then◌else◌, List, [], ◌∷◌, length, Option, Some, None, option_map}
use Rattle.rt_token.specs.Readers.{Parser, Step, both, done, either, flagged, lead, list_of, made, optional, paren, read_end, read_name, repeated, starts, starts_name, step_after, step_when, ◌>>=◌}
use Rattle.rt_token.specs.Terminals.{Kinds, after, code, code_of, front, skip, tail_of}
use Rattle.rt_token.specs.declared.fixed.Fixed.TheVariants as fixed
use Rattle.rt_token.specs.declared.terminal.Name.{Name}
use Rattle.rt_tree.specs.Reads.{is_alias, read_alias, read_items, sum_at}
use Rattle.rt_tree.specs.declared.tree.Alias.{Alias}
use Rattle.rt_sql.specs.declared.tested.Range.{Range}
use Rattle.rt_sql.specs.declared.tested.Range.TheVariants.{OfChain, OfList, OfBounds}
use Rattle.rt_sql.specs.declared.tested.Test.{Test}
use Rattle.rt_sql.specs.declared.tested.Test.TheVariants.{Compared, Null, Ranged}
use Rattle.rt_tree.specs.declared.tree.Items.{Items}
use Rattle.rt_tree.specs.declared.tree.Op.{Op}
use Rattle.rt_tree.specs.declared.tree.Op.TheVariants as op
use Rattle.rt_tree.specs.declared.tree.Sql.{Sql}
use Rattle.rt_tree.specs.declared.tree.Sum.{Sum}
use Rattle.rt_tree.specs.declared.tree.Atom.{Atom}
use Rattle.rt_tree.specs.declared.tree.Atom.TheVariants as atom
use Rattle.rt_tree.specs.declared.tree.Neg.{Neg, roll-Neg}
use Rattle.rt_tree.specs.declared.tree.Conj.{Conj, roll-Conj}
use Rattle.rt_tree.specs.declared.tree.Cond.{Cond, roll-Cond}
use Rattle.rt_tree.specs.declared.tree.Base.{Base}
use Rattle.rt_tree.specs.declared.tree.Base.TheVariants as base
use Rattle.rt_tree.specs.declared.tree.Join.{Join}
use Rattle.rt_tree.specs.declared.tree.Join.TheVariants as join
use Rattle.rt_tree.specs.declared.tree.Source.{Source, roll-Source}
use Rattle.rt_tree.specs.declared.tree.Pick.{Pick, roll-Pick}
use Rattle.rt_tree.specs.declared.tree.Primary.{Primary}
use Rattle.rt_tree.specs.declared.tree.Primary.TheVariants as primary
use Rattle.rt_tree.specs.declared.tree.MeetLink.{MeetLink, roll-MeetLink}
use Rattle.rt_tree.specs.declared.tree.Meet.{Meet, roll-Meet}
use Rattle.rt_tree.specs.declared.tree.ChainLink.{ChainLink, roll-ChainLink}
use Rattle.rt_tree.specs.declared.tree.Chain.{Chain, roll-Chain}

-- ---- conditions, over readers of what is in parentheses

pub record Inner : Type 0 where
  pub cond : Parser Cond
  pub chain : Parser Chain

abbrev pub ranged : Sum → Bool → Range → Atom
ranged a n (OfChain q) = atom.InChain a n q
ranged a n (OfList s ss) = atom.InList a n s ss
ranged a n (OfBounds b c) = atom.Between a n b c

abbrev pub atom_of : Sum → Test → Atom
atom_of a (Compared o b) = atom.Cmp a o b
atom_of a (Null n) = atom.IsNull a n
atom_of a (Ranged n r) = ranged a n r

-- whether SELECT is the first terminal after the opening parentheses
abbrev pub begins_chain : Kinds → Bool
begins_chain [] = false
begins_chain (k ∷ ks) = if code_of k == code fixed.OpenParen then begins_chain ks else code_of k == code fixed.Select

-- whether the parenthesis at the front holds a condition: what follows it is no sign of a sum or of
-- a test
abbrev pub is_group : Kinds → Bool
is_group ks = starts fixed.OpenParen ks && nat_le (code fixed.And) (front (skip (tail_of ks) 0))

abbrev pub comma_sum_step : Step Sum
comma_sum_step = step_after fixed.Comma sum_at

unfoldable pub read_sums : Parser (Sum × List Sum)
read_sums = both sum_at (list_of comma_sum_step)

abbrev pub list_range : Sum × List Sum → Range
list_range x = OfList x.0 x.1

abbrev pub bounds : Sum × Sum → Range
bounds x = OfBounds x.0 x.1

abbrev pub is_in_chain : Kinds → Bool
is_in_chain ks = starts fixed.In ks && begins_chain (tail_of ks)

abbrev pub read_in_list : Parser Range
read_in_list = made list_range (lead fixed.In (paren read_sums))

abbrev pub read_between : Parser Range
read_between = made bounds (lead fixed.Between (both sum_at (lead fixed.And sum_at)))

abbrev pub read_plain_range : Parser Range
read_plain_range = either (starts fixed.In) read_in_list read_between

unfoldable pub read_range : Inner → Parser Range
read_range inner = either is_in_chain (made OfChain (lead fixed.In (paren inner.chain))) read_plain_range

abbrev pub op_at : ℕ → Option Op
op_at c =
    if c == code fixed.Equal then Some op.Eq else if c == code fixed.NotEqual then Some op.Ne
    else if c == code fixed.Below then Some op.Lt else if c == code fixed.AtMost then Some op.Le
    else if c == code fixed.Above then Some op.Gt else if c == code fixed.AtLeast then Some op.Ge else None

abbrev pub is_op : Kinds → Bool
is_op ks = nat_le (code fixed.Equal) (front ks) && nat_le (front ks) (code fixed.AtLeast)

abbrev pub read_op : Parser Op
read_op ks = option_map (λ o. (o, tail_of ks)) (op_at (front ks))

abbrev pub compared : Op × Sum → Test
compared x = Compared x.0 x.1

abbrev pub read_null : Parser (Unit {0})
read_null = lead fixed.Null done

abbrev pub null_of : Bool × Unit {0} → Test
null_of x = Null x.0

abbrev pub ranged_of : Bool × Range → Test
ranged_of x = Ranged x.0 x.1

abbrev pub read_compared : Parser Test
read_compared = made compared (both read_op sum_at)

abbrev pub read_is_null : Parser Test
read_is_null = made null_of (lead fixed.Is (flagged fixed.Not read_null))

unfoldable pub read_test : Inner → Parser Test
read_test inner = either is_op read_compared (either (starts fixed.Is) read_is_null (made ranged_of (flagged fixed.Not (read_range inner))))

abbrev pub tested : Sum × Test → Atom
tested x = atom_of x.0 x.1

abbrev pub read_exists : Inner → Parser Atom
read_exists inner = made atom.Exists (lead fixed.Exists (paren inner.chain))

abbrev pub read_group : Inner → Parser Atom
read_group inner = made atom.Paren (paren inner.cond)

unfoldable pub read_atom : Inner → Parser Atom
read_atom inner = either (starts fixed.Exists) (read_exists inner) (either is_group (read_group inner) (made tested (both sum_at (read_test inner))))

abbrev pub neg_of : ℕ × Atom → Neg
neg_of x = roll-Neg (record { nots = x.0; atom = x.1 })

unfoldable pub read_neg : Inner → Parser Neg
read_neg inner = made neg_of (repeated fixed.Not (read_atom inner))

abbrev pub conj_of : Neg × List Neg → Conj
conj_of x = roll-Conj (record { head = x.0; tail = x.1 })

abbrev pub neg_step : Inner → Step Neg
neg_step inner = step_after fixed.And (read_neg inner)

unfoldable pub read_conj : Inner → Parser Conj
read_conj inner = made conj_of (both (read_neg inner) (list_of (neg_step inner)))

abbrev pub cond_of : Conj × List Conj → Cond
cond_of x = roll-Cond (record { head = x.0; tail = x.1 })

abbrev pub conj_step : Inner → Step Conj
conj_step inner = step_after fixed.Or (read_conj inner)

unfoldable pub read_cond : Inner → Parser Cond
read_cond inner = made cond_of (both (read_conj inner) (list_of (conj_step inner)))

-- ---- sources

abbrev pub named : Name × Option Alias → Base
named x = base.Named x.0 x.1

abbrev pub sub : Chain × Alias → Base
sub x = base.Sub x.0 x.1

abbrev pub read_named : Parser Base
read_named = made named (both read_name (optional is_alias read_alias))

unfoldable pub read_base : Inner → Parser Base
read_base inner = either starts_name read_named (made sub (both (paren inner.chain) read_alias))

abbrev pub joined : Bool × (Base × Cond) → Join
joined x = if x.0 then join.Inner x.1.0 x.1.1 else join.Plain x.1.0 x.1.1

unfoldable pub read_on : Inner → Parser (Base × Cond)
read_on inner = both (read_base inner) (lead fixed.On (read_cond inner))

unfoldable pub read_join : Inner → Parser Join
read_join inner = either (starts fixed.Cross) (made join.Cross (lead fixed.Cross (lead fixed.Join (read_base inner)))) (made joined (flagged fixed.Inner (lead fixed.Join (read_on inner))))

abbrev pub is_join : Kinds → Bool
is_join ks = starts fixed.Inner ks || (starts fixed.Join ks || starts fixed.Cross ks)

abbrev pub join_step : Inner → Step Join
join_step inner = step_when is_join (read_join inner)

abbrev pub source_of : Base × List Join → Source
source_of x = roll-Source (record { head = x.0; joins = x.1 })

unfoldable pub read_source : Inner → Parser Source
read_source inner = made source_of (both (read_base inner) (list_of (join_step inner)))

-- ---- chains

abbrev pub source_step : Inner → Step Source
source_step inner = step_after fixed.Comma (read_source inner)

unfoldable pub read_sources : Inner → Parser (Source × List Source)
read_sources inner = both (read_source inner) (list_of (source_step inner))

unfoldable pub read_where : Inner → Parser (Option Cond)
read_where inner = optional (starts fixed.Where) (lead fixed.Where (read_cond inner))

-- SELECT and the items, and FROM after them
abbrev pub read_select_from : Parser (Bool × Items)
read_select_from ks = lead fixed.Select (flagged fixed.Distinct read_items) ks >>= λ a. after fixed.From a.1 >>= λ r. Some (a.0, r)

abbrev pub pick_of : Bool × (Items × ((Source × List Source) × Option Cond)) → Pick
pick_of x = roll-Pick (record { distinct = x.0; items = x.1.0; head = x.1.1.0.0; tail = x.1.1.0.1; cond = x.1.1.1 })

unfoldable pub read_pick : Inner → Parser Pick
read_pick inner = made pick_of (lead fixed.Select (flagged fixed.Distinct (both read_items (lead fixed.From (both (read_sources inner) (read_where inner))))))

unfoldable pub read_primary : Inner → Parser Primary
read_primary inner = either (starts fixed.OpenParen) (made primary.Paren (paren inner.chain)) (made primary.One (read_pick inner))

abbrev pub meet_link_of : Bool × Primary → MeetLink
meet_link_of x = roll-MeetLink (record { distinct = x.0; of = x.1 })

unfoldable pub read_meet_link : Inner → Parser MeetLink
read_meet_link inner = made meet_link_of (lead fixed.Intersect (flagged fixed.Distinct (read_primary inner)))

abbrev pub meet_step : Inner → Step MeetLink
meet_step inner = step_when (starts fixed.Intersect) (read_meet_link inner)

abbrev pub meet_of : Primary × List MeetLink → Meet
meet_of x = roll-Meet (record { head = x.0; tail = x.1 })

unfoldable pub read_meet : Inner → Parser Meet
read_meet inner = made meet_of (both (read_primary inner) (list_of (meet_step inner)))

abbrev pub chain_link_of : Bool → Bool × Meet → ChainLink
chain_link_of e x = roll-ChainLink (record { except = e; distinct = x.0; of = x.1 })

abbrev pub is_union : Kinds → Bool
is_union ks = starts fixed.Union ks || starts fixed.Except ks

unfoldable pub read_chain_link : Inner → Parser ChainLink
read_chain_link inner = either (starts fixed.Except) (made (chain_link_of true) (lead fixed.Except (flagged fixed.Distinct (read_meet inner))))
    (made (chain_link_of false) (lead fixed.Union (flagged fixed.Distinct (read_meet inner))))

abbrev pub chain_step : Inner → Step ChainLink
chain_step inner = step_when is_union (read_chain_link inner)

abbrev pub chain_of : Meet × List ChainLink → Chain
chain_of x = roll-Chain (record { head = x.0; tail = x.1 })

unfoldable pub read_chain : Inner → Parser Chain
read_chain inner = made chain_of (both (read_meet inner) (list_of (chain_step inner)))

-- with at most n parentheses in one another
unfoldable pub level : ℕ → Inner
level zero = record { cond = λ ks. None; chain = λ ks. None }
level (suc n) = record { cond = read_cond (level n); chain = read_chain (level n) }

-- ---- all the terminals

abbrev pub sql_of : Chain × Bool → Sql
sql_of x = record { chain = x.0; semi = x.1 }

unfoldable pub read_sql : Kinds → Option Sql
read_sql ks = (level (length ks + 1)).chain ks >>= λ c. read_end c.1 >>= λ b. Some (sql_of (c.0, b))
