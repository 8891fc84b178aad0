-- What each part of a query becomes in the algebra (ISO/IEC 9075-2, query expression, query
-- specification, joined table, search condition), or its first error.
--
-- The walk goes from the left and the first error ends it. The trees reach themselves, so each
-- meaning is defined for one layer, with the meanings of its parts, and folded over the tree.
use Rattle.std.specs.Prelude.{ℕ, Bool, length, drop, List, [], ◌∷◌, Option, Some, None, Result, Ok}
use Rattle.rt_algebra.specs.declared.query.Pred.{Pred}
use Rattle.rt_algebra.specs.declared.query.Pred.TheVariants as p
use Rattle.rt_algebra.specs.declared.typed.Typed.{Typed}
use Rattle.rt_algebra.specs.Parts.{all_of, any_of}
use Rattle.rt_scope.specs.Conditions.{between_test, comparison, list_test, member, null_test, one_more, only}
use Rattle.rt_scope.specs.Relations.{Tables, alias_or, intersected, table_named, typed_of, united}
use Rattle.rt_scope.specs.Sources.{no_sources, select_of, with_base, with_cond}
use Rattle.rt_scope.specs.declared.condition.Members.{Members}
use Rattle.rt_scope.specs.declared.from.FromClause.{FromClause}
use Rattle.rt_scope.specs.declared.relation.Relation.{Relation}
use Rattle.rt_scope.specs.declared.relation.TableRef.{TableRef}
use Rattle.rt_scope.specs.Compare.{negated}
use Rattle.rt_scope.specs.Fault.{◌>>=◌}
use Rattle.rt_scope.specs.Lookup.{Scopes}
use Rattle.rt_scope.specs.Select.{select_list}
use Rattle.rt_scope.specs.Sums.{is_odd, sum}
use Rattle.rt_scope.specs.declared.fault.NameFault.{NameFault}
use Rattle.rt_tree.specs.declared.tree.Sql.{Sql}
use Rattle.rt_tree.specs.declared.tree.Sum.{Sum}
use Rattle.rt_tree.specs.declared.tree.Atom.{Atom}
use Rattle.rt_tree.specs.declared.tree.Base.{Base}
use Rattle.rt_tree.specs.declared.tree.Join.{Join}
use Rattle.rt_tree.specs.declared.tree.Primary.{Primary}
use Rattle.rt_tree.specs.declared.tree.Chain.{Chain}
use Rattle.rt_tree.specs.declared.tree.ChainLink.{ChainLink}
use Rattle.rt_tree.specs.declared.tree.Cond.{Cond}
use Rattle.rt_tree.specs.declared.tree.Conj.{Conj}
use Rattle.rt_tree.specs.declared.tree.Meet.{Meet}
use Rattle.rt_tree.specs.declared.tree.MeetLink.{MeetLink}
use Rattle.rt_tree.specs.declared.tree.Neg.{Neg}
use Rattle.rt_tree.specs.declared.tree.Pick.{Pick}
use Rattle.rt_tree.specs.declared.tree.Source.{Source}
use Rattle.rt_tree.specs.declared.tree.Atom.TheOpen.{Atom-F, Base-F, Join-F, Primary-F, Chain-F, ChainLink-F, Cond-F, Conj-F, Meet-F, MeetLink-F, Neg-F, Pick-F, Source-F}
use Rattle.rt_tree.specs.declared.tree.Atom.TheOpen as open_
use Rattle.rt_tree.specs.declared.tree.Atom.TheFolds.{fold-Atom, fold-Base, fold-Join, fold-Primary, fold-Chain, fold-ChainLink, fold-Cond, fold-Conj, fold-Meet, fold-MeetLink, fold-Neg, fold-Pick, fold-Source}

-- what the parts of a query mean, over the tables and the sources in scope
abbrev pub Meaning : Type 0
Meaning = Tables → Scopes → Result Relation NameFault

-- the query so far, with one more operand
abbrev pub LinkOf : Type 0
LinkOf = Relation → Tables → Scopes → Result Relation NameFault

abbrev pub Condition : Type 0
Condition = Tables → Scopes → Result Pred NameFault

abbrev pub BaseOf : Type 0
BaseOf = Tables → Scopes → Result TableRef NameFault

-- the sources so far with one join more; the number is where its own sources begin
abbrev pub JoinOf : Type 0
JoinOf = FromClause → ℕ → Tables → Scopes → Result FromClause NameFault

abbrev pub SourceOf : Type 0
SourceOf = FromClause → Tables → Scopes → Result FromClause NameFault

-- ---- conditions

-- IN with a query, whose walk comes after that of the expression
abbrev pub member_test : Sum → Bool → Meaning → Condition
member_test a n of db scopes = sum a scopes >>= λ x. of db scopes >>= λ t. member x t >>= λ c. Ok (negated n c)

abbrev pub atom_step : Atom-F Condition BaseOf JoinOf Meaning Meaning LinkOf Condition Condition Meaning LinkOf Condition Meaning SourceOf → Condition
atom_step (open_.Cmp a o b) db scopes = comparison a o b scopes
atom_step (open_.IsNull a n) db scopes = null_test a n scopes
atom_step (open_.InChain a n of) db scopes = member_test a n of db scopes
atom_step (open_.InList a n head tail) db scopes = list_test a n head tail scopes
atom_step (open_.Between a n b c) db scopes = between_test a n b c scopes
atom_step (open_.Exists of) db scopes = of db scopes >>= λ t. Ok (p.Exists t.query)
atom_step (open_.Atom::Paren c) db scopes = c db scopes

abbrev pub neg_step : Neg-F Condition BaseOf JoinOf Meaning Meaning LinkOf Condition Condition Meaning LinkOf Condition Meaning SourceOf → Condition
neg_step r db scopes = r.atom db scopes >>= λ c. Ok (negated (is_odd r.nots) c)

-- the members after those so far
abbrev pub gathered : Members → List Condition → Tables → Scopes → Result Members NameFault
gathered all [] db scopes = Ok all
gathered all (f ∷ fs) db scopes = f db scopes >>= λ c. gathered (one_more all c) fs db scopes

abbrev pub conj_step : Conj-F Condition BaseOf JoinOf Meaning Meaning LinkOf Condition Condition Meaning LinkOf Condition Meaning SourceOf → Condition
conj_step r db scopes = r.head db scopes >>= λ c. gathered (only c) r.tail db scopes >>= λ all. Ok (all_of all.conds)

abbrev pub cond_step : Cond-F Condition BaseOf JoinOf Meaning Meaning LinkOf Condition Condition Meaning LinkOf Condition Meaning SourceOf → Condition
cond_step r db scopes = r.head db scopes >>= λ c. gathered (only c) r.tail db scopes >>= λ all. Ok (any_of all.conds)

-- ---- sources

-- a derived table sees the scopes around its SELECT, and not the other sources
abbrev pub base_step : Base-F Condition BaseOf JoinOf Meaning Meaning LinkOf Condition Condition Meaning LinkOf Condition Meaning SourceOf → BaseOf
base_step (open_.Named n a) db scopes = table_named n.text (alias_or a n.text) 0 db
base_step (open_.Sub of a) db scopes = of db scopes >>= λ t. Ok (record { name = a.name.text; relation = t })

-- ON sees the sources from number `own` on, and the scopes around the SELECT
abbrev pub with_on : FromClause → ℕ → Condition → Tables → Scopes → Result FromClause NameFault
with_on from own c db scopes = c db (drop own from.sources ∷ scopes) >>= λ cond. Ok (with_cond from cond)

-- the sources so far with one more
abbrev pub based : FromClause → BaseOf → Tables → Scopes → Result FromClause NameFault
based from b db scopes = b db scopes >>= λ t. with_base from t

abbrev pub joined_on : FromClause → ℕ → BaseOf → Condition → Tables → Scopes → Result FromClause NameFault
joined_on from own b c db scopes = based from b db scopes >>= λ more. with_on more own c db scopes

abbrev pub join_step : Join-F Condition BaseOf JoinOf Meaning Meaning LinkOf Condition Condition Meaning LinkOf Condition Meaning SourceOf → JoinOf
join_step (open_.Plain b c) from own db scopes = joined_on from own b c db scopes
join_step (open_.Inner b c) from own db scopes = joined_on from own b c db scopes
join_step (open_.Cross b) from own db scopes = based from b db scopes

abbrev pub joined_all : FromClause → ℕ → List JoinOf → Tables → Scopes → Result FromClause NameFault
joined_all from own [] db scopes = Ok from
joined_all from own (j ∷ js) db scopes = j from own db scopes >>= λ more. joined_all more own js db scopes

abbrev pub source_step : Source-F Condition BaseOf JoinOf Meaning Meaning LinkOf Condition Condition Meaning LinkOf Condition Meaning SourceOf → SourceOf
source_step r from db scopes = based from r.head db scopes >>= λ more. joined_all more (length from.sources) r.joins db scopes

abbrev pub sources_all : FromClause → List SourceOf → Tables → Scopes → Result FromClause NameFault
sources_all from [] db scopes = Ok from
sources_all from (s ∷ ss) db scopes = s from db scopes >>= λ more. sources_all more ss db scopes

-- ---- one SELECT

-- WHERE sees all sources of its SELECT
abbrev pub where_on : FromClause → Option Condition → Tables → Scopes → Result FromClause NameFault
where_on from None db scopes = Ok from
where_on from (Some c) db scopes = c db (from.sources ∷ scopes) >>= λ cond. Ok (with_cond from cond)

abbrev pub pick_step : Pick-F Condition BaseOf JoinOf Meaning Meaning LinkOf Condition Condition Meaning LinkOf Condition Meaning SourceOf → Meaning
pick_step r db scopes =
    r.head no_sources db scopes >>= λ first. sources_all first r.tail db scopes >>= λ from. where_on from r.cond db scopes >>= λ all.
    select_list r.items all.sources (all.sources ∷ scopes) >>= λ list. Ok (select_of all list)

-- ---- chains

abbrev pub primary_step : Primary-F Condition BaseOf JoinOf Meaning Meaning LinkOf Condition Condition Meaning LinkOf Condition Meaning SourceOf → Meaning
primary_step (open_.One of) db scopes = of db scopes
primary_step (open_.Primary::Paren of) db scopes = of db scopes

abbrev pub linked_all : Relation → List LinkOf → Tables → Scopes → Result Relation NameFault
linked_all t [] db scopes = Ok t
linked_all t (l ∷ ls) db scopes = l t db scopes >>= λ more. linked_all more ls db scopes

abbrev pub meet_link_step : MeetLink-F Condition BaseOf JoinOf Meaning Meaning LinkOf Condition Condition Meaning LinkOf Condition Meaning SourceOf → LinkOf
meet_link_step r t db scopes = r.of db scopes >>= λ u. intersected t u

abbrev pub meet_step : Meet-F Condition BaseOf JoinOf Meaning Meaning LinkOf Condition Condition Meaning LinkOf Condition Meaning SourceOf → Meaning
meet_step r db scopes = r.head db scopes >>= λ t. linked_all t r.tail db scopes

abbrev pub chain_link_step : ChainLink-F Condition BaseOf JoinOf Meaning Meaning LinkOf Condition Condition Meaning LinkOf Condition Meaning SourceOf → LinkOf
chain_link_step r t db scopes = r.of db scopes >>= λ u. united r.except t u

abbrev pub chain_step : Chain-F Condition BaseOf JoinOf Meaning Meaning LinkOf Condition Condition Meaning LinkOf Condition Meaning SourceOf → Meaning
chain_step r db scopes = r.head db scopes >>= λ t. linked_all t r.tail db scopes

-- ---- the meaning of each part

abbrev pub atom : Atom → Condition
atom = fold-Atom Condition BaseOf JoinOf Meaning Meaning LinkOf Condition Condition Meaning LinkOf Condition Meaning SourceOf atom_step base_step join_step primary_step chain_step chain_link_step cond_step conj_step meet_step meet_link_step neg_step pick_step source_step

abbrev pub base : Base → BaseOf
base = fold-Base Condition BaseOf JoinOf Meaning Meaning LinkOf Condition Condition Meaning LinkOf Condition Meaning SourceOf atom_step base_step join_step primary_step chain_step chain_link_step cond_step conj_step meet_step meet_link_step neg_step pick_step source_step

abbrev pub join : Join → JoinOf
join = fold-Join Condition BaseOf JoinOf Meaning Meaning LinkOf Condition Condition Meaning LinkOf Condition Meaning SourceOf atom_step base_step join_step primary_step chain_step chain_link_step cond_step conj_step meet_step meet_link_step neg_step pick_step source_step

abbrev pub primary : Primary → Meaning
primary = fold-Primary Condition BaseOf JoinOf Meaning Meaning LinkOf Condition Condition Meaning LinkOf Condition Meaning SourceOf atom_step base_step join_step primary_step chain_step chain_link_step cond_step conj_step meet_step meet_link_step neg_step pick_step source_step

abbrev pub chain : Chain → Meaning
chain = fold-Chain Condition BaseOf JoinOf Meaning Meaning LinkOf Condition Condition Meaning LinkOf Condition Meaning SourceOf atom_step base_step join_step primary_step chain_step chain_link_step cond_step conj_step meet_step meet_link_step neg_step pick_step source_step

abbrev pub chain_link : ChainLink → LinkOf
chain_link = fold-ChainLink Condition BaseOf JoinOf Meaning Meaning LinkOf Condition Condition Meaning LinkOf Condition Meaning SourceOf atom_step base_step join_step primary_step chain_step chain_link_step cond_step conj_step meet_step meet_link_step neg_step pick_step source_step

abbrev pub cond : Cond → Condition
cond = fold-Cond Condition BaseOf JoinOf Meaning Meaning LinkOf Condition Condition Meaning LinkOf Condition Meaning SourceOf atom_step base_step join_step primary_step chain_step chain_link_step cond_step conj_step meet_step meet_link_step neg_step pick_step source_step

abbrev pub conj : Conj → Condition
conj = fold-Conj Condition BaseOf JoinOf Meaning Meaning LinkOf Condition Condition Meaning LinkOf Condition Meaning SourceOf atom_step base_step join_step primary_step chain_step chain_link_step cond_step conj_step meet_step meet_link_step neg_step pick_step source_step

abbrev pub meet : Meet → Meaning
meet = fold-Meet Condition BaseOf JoinOf Meaning Meaning LinkOf Condition Condition Meaning LinkOf Condition Meaning SourceOf atom_step base_step join_step primary_step chain_step chain_link_step cond_step conj_step meet_step meet_link_step neg_step pick_step source_step

abbrev pub meet_link : MeetLink → LinkOf
meet_link = fold-MeetLink Condition BaseOf JoinOf Meaning Meaning LinkOf Condition Condition Meaning LinkOf Condition Meaning SourceOf atom_step base_step join_step primary_step chain_step chain_link_step cond_step conj_step meet_step meet_link_step neg_step pick_step source_step

abbrev pub neg : Neg → Condition
neg = fold-Neg Condition BaseOf JoinOf Meaning Meaning LinkOf Condition Condition Meaning LinkOf Condition Meaning SourceOf atom_step base_step join_step primary_step chain_step chain_link_step cond_step conj_step meet_step meet_link_step neg_step pick_step source_step

abbrev pub pick : Pick → Meaning
pick = fold-Pick Condition BaseOf JoinOf Meaning Meaning LinkOf Condition Condition Meaning LinkOf Condition Meaning SourceOf atom_step base_step join_step primary_step chain_step chain_link_step cond_step conj_step meet_step meet_link_step neg_step pick_step source_step

abbrev pub source_of : Source → SourceOf
source_of = fold-Source Condition BaseOf JoinOf Meaning Meaning LinkOf Condition Condition Meaning LinkOf Condition Meaning SourceOf atom_step base_step join_step primary_step chain_step chain_link_step cond_step conj_step meet_step meet_link_step neg_step pick_step source_step

-- the meaning of a query over the tables of a schema, with no scope around it
abbrev pub lowered : Sql → Tables → Result Typed NameFault
lowered sql db = chain sql.chain db [] >>= λ r. Ok (typed_of r)
