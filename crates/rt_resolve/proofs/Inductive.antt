-- Each part of a query that has a meaning is typed, by induction over the tree.
use Rattle.std.proofs.Common.{◌≡◌, ℕ, Bool, List, [], ◌∷◌, ◌++◌, map, length, drop, Option, None, Some, Ok, sym, subst}
use Rattle.std.specs.Prelude.{IfOk}
use Rattle.std.proofs.lemmas.List.{append-nil}
use Rattle.rt_algebra.specs.Columns as algebra
use Rattle.rt_algebra.specs.declared.query.Pred.{Pred}
use Rattle.rt_algebra.specs.declared.query.Pred.TheVariants as pred
use Rattle.rt_algebra.specs.declared.set_op.SetOp.TheVariants as sets
use Rattle.rt_algebra.proofs.Combining.{all-of-typed, any-of-typed}
use Rattle.rt_scope.specs.Sources.{no_sources, select_of, with_base, with_cond}
use Rattle.rt_resolve.specs.Chains.{BaseOf, Condition, JoinOf, LinkOf, Meaning, SourceOf, atom, atom_step, base, base_step, based, chain, chain_link, chain_link_step, chain_step, cond, cond_step, conj, conj_step, gathered, join, join_step, joined_all, linked_all, meet, meet_link, meet_link_step, meet_step, member_test, neg, neg_step, pick, pick_step, primary, primary_step, source_of, source_step, sources_all, where_on, with_on}
use Rattle.rt_algebra.specs.Parts.{all_of, any_of}
use Rattle.rt_scope.specs.Conditions.{member, one_more, only}
use Rattle.rt_scope.specs.Relations.{Tables, alias_or, intersected, union_or_except, united}
use Rattle.rt_scope.specs.declared.condition.Members.{Members}
use Rattle.rt_scope.specs.declared.from.FromClause.{FromClause}
use Rattle.rt_scope.specs.declared.relation.Relation.{Relation}
use Rattle.rt_scope.proofs.Sets.{IsTypedRelation, related-typed}
use Rattle.rt_scope.proofs.FromLaws.{IsTypedFrom, IsTypedTable, drop-stands, no-sources-typed, select-of-typed, table-named-typed, tables-from-first, tables_of, with-base-typed, with-cond-typed}
use Rattle.rt_scope.proofs.Tested.{AreTyped, between-test-typed, comparison-typed, exists-typed, list-test-typed, member-typed, null-test-typed, only-typed, put-typed}
use Rattle.rt_scope.specs.Compare.{negated}
use Rattle.rt_scope.specs.Fault.{◌>>=◌}
use Rattle.rt_scope.specs.Lookup.{Scopes}
use Rattle.rt_scope.specs.Select.{select_list}
use Rattle.rt_scope.specs.Sums.{is_odd, sum}
use Rattle.rt_scope.proofs.Comparing.{IsTypedPred, negated-typed}
use Rattle.rt_scope.proofs.Listing.{IsTypedList, select-list-typed}
use Rattle.rt_scope.proofs.Standing.{IsTypedScalar, ScopesStand, SourcesStand}
use Rattle.rt_scope.proofs.Steps.{each-ok, then-ok}
use Rattle.rt_scope.proofs.Summing.{sum-typed}
use Rattle.rt_tree.specs.declared.tree.Items.{Items}
use Rattle.rt_tree.specs.declared.tree.Sum.{Sum}
use Rattle.rt_tree.specs.declared.tree.Atom.{Atom}
use Rattle.rt_tree.specs.declared.tree.Base.{Base}
use Rattle.rt_tree.specs.declared.tree.Join.{Join}
use Rattle.rt_tree.specs.declared.tree.Primary.{Primary}
use Rattle.rt_tree.specs.declared.tree.Chain.{Chain}
use Rattle.rt_tree.specs.declared.tree.ChainLink.{ChainLink}
use Rattle.rt_tree.specs.declared.tree.Cond.{Cond}
use Rattle.rt_tree.specs.declared.tree.Conj.{Conj}
use Rattle.rt_tree.specs.declared.tree.Meet.{Meet}
use Rattle.rt_tree.specs.declared.tree.MeetLink.{MeetLink}
use Rattle.rt_tree.specs.declared.tree.Neg.{Neg}
use Rattle.rt_tree.specs.declared.tree.Pick.{Pick}
use Rattle.rt_tree.specs.declared.tree.Source.{Source}
use Rattle.rt_tree.specs.declared.tree.Atom.TheOpen.{Atom-F, Base-F, Join-F, Primary-F, Chain-F, ChainLink-F, Cond-F, Conj-F, Meet-F, MeetLink-F, Neg-F, Pick-F, Source-F}
use Rattle.rt_tree.specs.declared.tree.Atom.TheOpen as open_
use Rattle.rt_tree.specs.declared.tree.Atom.TheViews.{roll-Atom, roll-Base, roll-Join, roll-Primary, roll-Chain, roll-ChainLink, roll-Cond, roll-Conj, roll-Meet, roll-MeetLink, roll-Neg, roll-Pick, roll-Source}
use Rattle.rt_tree.specs.declared.tree.Atom.TheFolds.{ind-Chain, map-Atom, map-Base, map-Join, map-Primary, map-Chain, map-ChainLink, map-Cond, map-Conj, map-Meet, map-MeetLink, map-Neg, map-Pick, map-Source, fold-roll-Atom, fold-roll-Base, fold-roll-Join, fold-roll-Primary, fold-roll-Chain, fold-roll-ChainLink, fold-roll-Cond, fold-roll-Conj, fold-roll-Meet, fold-roll-MeetLink, fold-roll-Neg, fold-roll-Pick, fold-roll-Source}

module _ (db : Tables) where
  abbrev tables : List algebra.Columns
  tables = tables_of db

  -- ---- what each kind of part owes

  abbrev pub IsTypedMeaning : Meaning → Type 0
  IsTypedMeaning f = (scopes : Scopes) (rows : algebra.Scopes) → ScopesStand scopes rows → IfOk (f db scopes) (IsTypedRelation tables rows)

  abbrev IsTypedLink : LinkOf → Type 0
  IsTypedLink f = (t : Relation) (scopes : Scopes) (rows : algebra.Scopes) → ScopesStand scopes rows → IsTypedRelation tables rows t → IfOk (f t db scopes) (IsTypedRelation tables rows)

  abbrev IsTypedCondition : Condition → Type 0
  IsTypedCondition f = (scopes : Scopes) (rows : algebra.Scopes) → ScopesStand scopes rows → IfOk (f db scopes) (IsTypedPred tables rows)

  abbrev IsTypedBase : BaseOf → Type 0
  IsTypedBase f = (scopes : Scopes) (rows : algebra.Scopes) → ScopesStand scopes rows → IfOk (f db scopes) (IsTypedTable tables rows)

  abbrev IsTypedJoin : JoinOf → Type 0
  IsTypedJoin f = (from : FromClause) (own : ℕ) (scopes : Scopes) (rows : algebra.Scopes) → ScopesStand scopes rows → IsTypedFrom tables rows from → IfOk (f from own db scopes) (IsTypedFrom tables rows)

  abbrev IsTypedSource : SourceOf → Type 0
  IsTypedSource f = (from : FromClause) (scopes : Scopes) (rows : algebra.Scopes) → ScopesStand scopes rows → IsTypedFrom tables rows from → IfOk (f from db scopes) (IsTypedFrom tables rows)

  abbrev AtomLaw : Atom → Type 0
  AtomLaw t = IsTypedCondition (atom t)

  abbrev BaseLaw : Base → Type 0
  BaseLaw t = IsTypedBase (base t)

  abbrev JoinLaw : Join → Type 0
  JoinLaw t = IsTypedJoin (join t)

  abbrev PrimaryLaw : Primary → Type 0
  PrimaryLaw t = IsTypedMeaning (primary t)

  abbrev ChainLaw : Chain → Type 0
  ChainLaw t = IsTypedMeaning (chain t)

  abbrev ChainLinkLaw : ChainLink → Type 0
  ChainLinkLaw t = IsTypedLink (chain_link t)

  abbrev CondLaw : Cond → Type 0
  CondLaw t = IsTypedCondition (cond t)

  abbrev ConjLaw : Conj → Type 0
  ConjLaw t = IsTypedCondition (conj t)

  abbrev MeetLaw : Meet → Type 0
  MeetLaw t = IsTypedMeaning (meet t)

  abbrev MeetLinkLaw : MeetLink → Type 0
  MeetLinkLaw t = IsTypedLink (meet_link t)

  abbrev NegLaw : Neg → Type 0
  NegLaw t = IsTypedCondition (neg t)

  abbrev PickLaw : Pick → Type 0
  PickLaw t = IsTypedMeaning (pick t)

  abbrev SourceLaw : Source → Type 0
  SourceLaw t = IsTypedSource (source_of t)

  abbrev SuchAtom : Type 0
  SuchAtom = (t : Atom) × AtomLaw t

  abbrev SuchBase : Type 0
  SuchBase = (t : Base) × BaseLaw t

  abbrev SuchJoin : Type 0
  SuchJoin = (t : Join) × JoinLaw t

  abbrev SuchPrimary : Type 0
  SuchPrimary = (t : Primary) × PrimaryLaw t

  abbrev SuchChain : Type 0
  SuchChain = (t : Chain) × ChainLaw t

  abbrev SuchChainLink : Type 0
  SuchChainLink = (t : ChainLink) × ChainLinkLaw t

  abbrev SuchCond : Type 0
  SuchCond = (t : Cond) × CondLaw t

  abbrev SuchConj : Type 0
  SuchConj = (t : Conj) × ConjLaw t

  abbrev SuchMeet : Type 0
  SuchMeet = (t : Meet) × MeetLaw t

  abbrev SuchMeetLink : Type 0
  SuchMeetLink = (t : MeetLink) × MeetLinkLaw t

  abbrev SuchNeg : Type 0
  SuchNeg = (t : Neg) × NegLaw t

  abbrev SuchPick : Type 0
  SuchPick = (t : Pick) × PickLaw t

  abbrev SuchSource : Type 0
  SuchSource = (t : Source) × SourceLaw t

  abbrev below_atom : Atom-F SuchAtom SuchBase SuchJoin SuchPrimary SuchChain SuchChainLink SuchCond SuchConj SuchMeet SuchMeetLink SuchNeg SuchPick SuchSource → Atom-F Atom Base Join Primary Chain ChainLink Cond Conj Meet MeetLink Neg Pick Source
  below_atom = map-Atom SuchAtom SuchBase SuchJoin SuchPrimary SuchChain SuchChainLink SuchCond SuchConj SuchMeet SuchMeetLink SuchNeg SuchPick SuchSource Atom Base Join Primary Chain ChainLink Cond Conj Meet MeetLink Neg Pick Source (λ t. t.0) (λ t. t.0) (λ t. t.0) (λ t. t.0) (λ t. t.0) (λ t. t.0) (λ t. t.0) (λ t. t.0) (λ t. t.0) (λ t. t.0) (λ t. t.0) (λ t. t.0) (λ t. t.0)

  abbrev below_base : Base-F SuchAtom SuchBase SuchJoin SuchPrimary SuchChain SuchChainLink SuchCond SuchConj SuchMeet SuchMeetLink SuchNeg SuchPick SuchSource → Base-F Atom Base Join Primary Chain ChainLink Cond Conj Meet MeetLink Neg Pick Source
  below_base = map-Base SuchAtom SuchBase SuchJoin SuchPrimary SuchChain SuchChainLink SuchCond SuchConj SuchMeet SuchMeetLink SuchNeg SuchPick SuchSource Atom Base Join Primary Chain ChainLink Cond Conj Meet MeetLink Neg Pick Source (λ t. t.0) (λ t. t.0) (λ t. t.0) (λ t. t.0) (λ t. t.0) (λ t. t.0) (λ t. t.0) (λ t. t.0) (λ t. t.0) (λ t. t.0) (λ t. t.0) (λ t. t.0) (λ t. t.0)

  abbrev below_join : Join-F SuchAtom SuchBase SuchJoin SuchPrimary SuchChain SuchChainLink SuchCond SuchConj SuchMeet SuchMeetLink SuchNeg SuchPick SuchSource → Join-F Atom Base Join Primary Chain ChainLink Cond Conj Meet MeetLink Neg Pick Source
  below_join = map-Join SuchAtom SuchBase SuchJoin SuchPrimary SuchChain SuchChainLink SuchCond SuchConj SuchMeet SuchMeetLink SuchNeg SuchPick SuchSource Atom Base Join Primary Chain ChainLink Cond Conj Meet MeetLink Neg Pick Source (λ t. t.0) (λ t. t.0) (λ t. t.0) (λ t. t.0) (λ t. t.0) (λ t. t.0) (λ t. t.0) (λ t. t.0) (λ t. t.0) (λ t. t.0) (λ t. t.0) (λ t. t.0) (λ t. t.0)

  abbrev below_primary : Primary-F SuchAtom SuchBase SuchJoin SuchPrimary SuchChain SuchChainLink SuchCond SuchConj SuchMeet SuchMeetLink SuchNeg SuchPick SuchSource → Primary-F Atom Base Join Primary Chain ChainLink Cond Conj Meet MeetLink Neg Pick Source
  below_primary = map-Primary SuchAtom SuchBase SuchJoin SuchPrimary SuchChain SuchChainLink SuchCond SuchConj SuchMeet SuchMeetLink SuchNeg SuchPick SuchSource Atom Base Join Primary Chain ChainLink Cond Conj Meet MeetLink Neg Pick Source (λ t. t.0) (λ t. t.0) (λ t. t.0) (λ t. t.0) (λ t. t.0) (λ t. t.0) (λ t. t.0) (λ t. t.0) (λ t. t.0) (λ t. t.0) (λ t. t.0) (λ t. t.0) (λ t. t.0)

  abbrev below_chain : Chain-F SuchAtom SuchBase SuchJoin SuchPrimary SuchChain SuchChainLink SuchCond SuchConj SuchMeet SuchMeetLink SuchNeg SuchPick SuchSource → Chain-F Atom Base Join Primary Chain ChainLink Cond Conj Meet MeetLink Neg Pick Source
  below_chain = map-Chain SuchAtom SuchBase SuchJoin SuchPrimary SuchChain SuchChainLink SuchCond SuchConj SuchMeet SuchMeetLink SuchNeg SuchPick SuchSource Atom Base Join Primary Chain ChainLink Cond Conj Meet MeetLink Neg Pick Source (λ t. t.0) (λ t. t.0) (λ t. t.0) (λ t. t.0) (λ t. t.0) (λ t. t.0) (λ t. t.0) (λ t. t.0) (λ t. t.0) (λ t. t.0) (λ t. t.0) (λ t. t.0) (λ t. t.0)

  abbrev below_chain_link : ChainLink-F SuchAtom SuchBase SuchJoin SuchPrimary SuchChain SuchChainLink SuchCond SuchConj SuchMeet SuchMeetLink SuchNeg SuchPick SuchSource → ChainLink-F Atom Base Join Primary Chain ChainLink Cond Conj Meet MeetLink Neg Pick Source
  below_chain_link = map-ChainLink SuchAtom SuchBase SuchJoin SuchPrimary SuchChain SuchChainLink SuchCond SuchConj SuchMeet SuchMeetLink SuchNeg SuchPick SuchSource Atom Base Join Primary Chain ChainLink Cond Conj Meet MeetLink Neg Pick Source (λ t. t.0) (λ t. t.0) (λ t. t.0) (λ t. t.0) (λ t. t.0) (λ t. t.0) (λ t. t.0) (λ t. t.0) (λ t. t.0) (λ t. t.0) (λ t. t.0) (λ t. t.0) (λ t. t.0)

  abbrev below_cond : Cond-F SuchAtom SuchBase SuchJoin SuchPrimary SuchChain SuchChainLink SuchCond SuchConj SuchMeet SuchMeetLink SuchNeg SuchPick SuchSource → Cond-F Atom Base Join Primary Chain ChainLink Cond Conj Meet MeetLink Neg Pick Source
  below_cond = map-Cond SuchAtom SuchBase SuchJoin SuchPrimary SuchChain SuchChainLink SuchCond SuchConj SuchMeet SuchMeetLink SuchNeg SuchPick SuchSource Atom Base Join Primary Chain ChainLink Cond Conj Meet MeetLink Neg Pick Source (λ t. t.0) (λ t. t.0) (λ t. t.0) (λ t. t.0) (λ t. t.0) (λ t. t.0) (λ t. t.0) (λ t. t.0) (λ t. t.0) (λ t. t.0) (λ t. t.0) (λ t. t.0) (λ t. t.0)

  abbrev below_conj : Conj-F SuchAtom SuchBase SuchJoin SuchPrimary SuchChain SuchChainLink SuchCond SuchConj SuchMeet SuchMeetLink SuchNeg SuchPick SuchSource → Conj-F Atom Base Join Primary Chain ChainLink Cond Conj Meet MeetLink Neg Pick Source
  below_conj = map-Conj SuchAtom SuchBase SuchJoin SuchPrimary SuchChain SuchChainLink SuchCond SuchConj SuchMeet SuchMeetLink SuchNeg SuchPick SuchSource Atom Base Join Primary Chain ChainLink Cond Conj Meet MeetLink Neg Pick Source (λ t. t.0) (λ t. t.0) (λ t. t.0) (λ t. t.0) (λ t. t.0) (λ t. t.0) (λ t. t.0) (λ t. t.0) (λ t. t.0) (λ t. t.0) (λ t. t.0) (λ t. t.0) (λ t. t.0)

  abbrev below_meet : Meet-F SuchAtom SuchBase SuchJoin SuchPrimary SuchChain SuchChainLink SuchCond SuchConj SuchMeet SuchMeetLink SuchNeg SuchPick SuchSource → Meet-F Atom Base Join Primary Chain ChainLink Cond Conj Meet MeetLink Neg Pick Source
  below_meet = map-Meet SuchAtom SuchBase SuchJoin SuchPrimary SuchChain SuchChainLink SuchCond SuchConj SuchMeet SuchMeetLink SuchNeg SuchPick SuchSource Atom Base Join Primary Chain ChainLink Cond Conj Meet MeetLink Neg Pick Source (λ t. t.0) (λ t. t.0) (λ t. t.0) (λ t. t.0) (λ t. t.0) (λ t. t.0) (λ t. t.0) (λ t. t.0) (λ t. t.0) (λ t. t.0) (λ t. t.0) (λ t. t.0) (λ t. t.0)

  abbrev below_meet_link : MeetLink-F SuchAtom SuchBase SuchJoin SuchPrimary SuchChain SuchChainLink SuchCond SuchConj SuchMeet SuchMeetLink SuchNeg SuchPick SuchSource → MeetLink-F Atom Base Join Primary Chain ChainLink Cond Conj Meet MeetLink Neg Pick Source
  below_meet_link = map-MeetLink SuchAtom SuchBase SuchJoin SuchPrimary SuchChain SuchChainLink SuchCond SuchConj SuchMeet SuchMeetLink SuchNeg SuchPick SuchSource Atom Base Join Primary Chain ChainLink Cond Conj Meet MeetLink Neg Pick Source (λ t. t.0) (λ t. t.0) (λ t. t.0) (λ t. t.0) (λ t. t.0) (λ t. t.0) (λ t. t.0) (λ t. t.0) (λ t. t.0) (λ t. t.0) (λ t. t.0) (λ t. t.0) (λ t. t.0)

  abbrev below_neg : Neg-F SuchAtom SuchBase SuchJoin SuchPrimary SuchChain SuchChainLink SuchCond SuchConj SuchMeet SuchMeetLink SuchNeg SuchPick SuchSource → Neg-F Atom Base Join Primary Chain ChainLink Cond Conj Meet MeetLink Neg Pick Source
  below_neg = map-Neg SuchAtom SuchBase SuchJoin SuchPrimary SuchChain SuchChainLink SuchCond SuchConj SuchMeet SuchMeetLink SuchNeg SuchPick SuchSource Atom Base Join Primary Chain ChainLink Cond Conj Meet MeetLink Neg Pick Source (λ t. t.0) (λ t. t.0) (λ t. t.0) (λ t. t.0) (λ t. t.0) (λ t. t.0) (λ t. t.0) (λ t. t.0) (λ t. t.0) (λ t. t.0) (λ t. t.0) (λ t. t.0) (λ t. t.0)

  abbrev below_pick : Pick-F SuchAtom SuchBase SuchJoin SuchPrimary SuchChain SuchChainLink SuchCond SuchConj SuchMeet SuchMeetLink SuchNeg SuchPick SuchSource → Pick-F Atom Base Join Primary Chain ChainLink Cond Conj Meet MeetLink Neg Pick Source
  below_pick = map-Pick SuchAtom SuchBase SuchJoin SuchPrimary SuchChain SuchChainLink SuchCond SuchConj SuchMeet SuchMeetLink SuchNeg SuchPick SuchSource Atom Base Join Primary Chain ChainLink Cond Conj Meet MeetLink Neg Pick Source (λ t. t.0) (λ t. t.0) (λ t. t.0) (λ t. t.0) (λ t. t.0) (λ t. t.0) (λ t. t.0) (λ t. t.0) (λ t. t.0) (λ t. t.0) (λ t. t.0) (λ t. t.0) (λ t. t.0)

  abbrev below_source : Source-F SuchAtom SuchBase SuchJoin SuchPrimary SuchChain SuchChainLink SuchCond SuchConj SuchMeet SuchMeetLink SuchNeg SuchPick SuchSource → Source-F Atom Base Join Primary Chain ChainLink Cond Conj Meet MeetLink Neg Pick Source
  below_source = map-Source SuchAtom SuchBase SuchJoin SuchPrimary SuchChain SuchChainLink SuchCond SuchConj SuchMeet SuchMeetLink SuchNeg SuchPick SuchSource Atom Base Join Primary Chain ChainLink Cond Conj Meet MeetLink Neg Pick Source (λ t. t.0) (λ t. t.0) (λ t. t.0) (λ t. t.0) (λ t. t.0) (λ t. t.0) (λ t. t.0) (λ t. t.0) (λ t. t.0) (λ t. t.0) (λ t. t.0) (λ t. t.0) (λ t. t.0)

  -- ---- conditions

  member-test-typed : (a : Sum) (n : Bool) (of : Meaning) → IsTypedMeaning of → IsTypedCondition (member_test a n of)
  member-test-typed a n of t scopes rows s =
      then-ok (IsTypedScalar rows) (IsTypedPred tables rows) (sum a scopes) (λ x. of db scopes >>= λ r. member x r >>= λ c. Ok (negated n c)) (sum-typed a scopes rows s)
      (λ x h. then-ok (IsTypedRelation tables rows) (IsTypedPred tables rows) (of db scopes) (λ r. member x r >>= λ c. Ok (negated n c)) (t scopes rows s)
      (λ r k. then-ok (IsTypedPred tables rows) (IsTypedPred tables rows) (member x r) (λ c. Ok (negated n c)) (member-typed tables rows x r h k) (λ c q. negated-typed tables rows n c q)))

  atom-layer : (y : Atom-F SuchAtom SuchBase SuchJoin SuchPrimary SuchChain SuchChainLink SuchCond SuchConj SuchMeet SuchMeetLink SuchNeg SuchPick SuchSource) → IsTypedCondition (atom_step (map-Atom Atom Base Join Primary Chain ChainLink Cond Conj Meet MeetLink Neg Pick Source Condition BaseOf JoinOf Meaning Meaning LinkOf Condition Condition Meaning LinkOf Condition Meaning SourceOf atom base join primary chain chain_link cond conj meet meet_link neg pick source_of (below_atom y)))
  atom-layer (open_.Cmp a o b) scopes rows s = comparison-typed tables rows scopes s a o b
  atom-layer (open_.IsNull a n) scopes rows s = null-test-typed tables rows scopes s a n
  atom-layer (open_.InChain a n of) scopes rows s = member-test-typed a n (chain of.0) of.1 scopes rows s
  atom-layer (open_.InList a n head tail) scopes rows s = list-test-typed tables rows scopes s a n head tail
  atom-layer (open_.Between a n b c) scopes rows s = between-test-typed tables rows scopes s a n b c
  atom-layer (open_.Exists of) scopes rows s =
      then-ok (IsTypedRelation tables rows) (IsTypedPred tables rows) (chain of.0 db scopes) (λ t. Ok (pred.Exists t.query)) (of.1 scopes rows s) (λ t h. exists-typed tables rows t h)
  atom-layer (open_.Atom::Paren c) scopes rows s = c.1 scopes rows s

  neg-layer : (y : Neg-F SuchAtom SuchBase SuchJoin SuchPrimary SuchChain SuchChainLink SuchCond SuchConj SuchMeet SuchMeetLink SuchNeg SuchPick SuchSource) → IsTypedCondition (neg_step (map-Neg Atom Base Join Primary Chain ChainLink Cond Conj Meet MeetLink Neg Pick Source Condition BaseOf JoinOf Meaning Meaning LinkOf Condition Condition Meaning LinkOf Condition Meaning SourceOf atom base join primary chain chain_link cond conj meet meet_link neg pick source_of (below_neg y)))
  neg-layer y scopes rows s =
      then-ok (IsTypedPred tables rows) (IsTypedPred tables rows) (atom y.atom.0 db scopes) (λ c. Ok (negated (is_odd y.nots) c)) (y.atom.1 scopes rows s)
      (λ c h. negated-typed tables rows (is_odd y.nots) c h)

  abbrev AreTypedConditions : List Condition → Type 0
  AreTypedConditions [] = Unit {0}
  AreTypedConditions (f ∷ fs) = IsTypedCondition f × AreTypedConditions fs

  abbrev AreTypedMembers : algebra.Scopes → Members → Type 0
  AreTypedMembers rows all = AreTyped tables rows all.conds

  gathered-typed : (fs : List Condition) → AreTypedConditions fs → (all : Members) (scopes : Scopes) (rows : algebra.Scopes) → ScopesStand scopes rows → AreTypedMembers rows all
      → IfOk (gathered all fs db scopes) (AreTypedMembers rows)
  gathered-typed [] t all scopes rows s h = h
  gathered-typed (f ∷ fs) t all scopes rows s h =
      then-ok (IsTypedPred tables rows) (AreTypedMembers rows) (f db scopes) (λ c. gathered (one_more all c) fs db scopes) (t.0 scopes rows s)
      (λ c k. gathered-typed fs t.1 (one_more all c) scopes rows s (put-typed tables rows all.conds c h k))

  all-typed : (f : Condition) (fs : List Condition) → IsTypedCondition f → AreTypedConditions fs → IsTypedCondition (λ db scopes. f db scopes >>= λ c. gathered (only c) fs db scopes >>= λ all. Ok (all_of all.conds))
  all-typed f fs t ts scopes rows s =
      then-ok (IsTypedPred tables rows) (IsTypedPred tables rows) (f db scopes) (λ c. gathered (only c) fs db scopes >>= λ all. Ok (all_of all.conds)) (t scopes rows s)
      (λ c h. then-ok (AreTypedMembers rows) (IsTypedPred tables rows) (gathered (only c) fs db scopes) (λ all. Ok (all_of all.conds))
      (gathered-typed fs ts (only c) scopes rows s (only-typed tables rows c h)) (λ all k. all-of-typed tables rows all.conds k))

  any-typed : (f : Condition) (fs : List Condition) → IsTypedCondition f → AreTypedConditions fs → IsTypedCondition (λ db scopes. f db scopes >>= λ c. gathered (only c) fs db scopes >>= λ all. Ok (any_of all.conds))
  any-typed f fs t ts scopes rows s =
      then-ok (IsTypedPred tables rows) (IsTypedPred tables rows) (f db scopes) (λ c. gathered (only c) fs db scopes >>= λ all. Ok (any_of all.conds)) (t scopes rows s)
      (λ c h. then-ok (AreTypedMembers rows) (IsTypedPred tables rows) (gathered (only c) fs db scopes) (λ all. Ok (any_of all.conds))
      (gathered-typed fs ts (only c) scopes rows s (only-typed tables rows c h)) (λ all k. any-of-typed tables rows all.conds k))

  such-negs : (ts : List SuchNeg) → AreTypedConditions (map neg (map (λ t. t.0) ts))
  such-negs [] = tt
  such-negs (t ∷ ts) = (t.1, such-negs ts)

  conj-layer : (y : Conj-F SuchAtom SuchBase SuchJoin SuchPrimary SuchChain SuchChainLink SuchCond SuchConj SuchMeet SuchMeetLink SuchNeg SuchPick SuchSource) → IsTypedCondition (conj_step (map-Conj Atom Base Join Primary Chain ChainLink Cond Conj Meet MeetLink Neg Pick Source Condition BaseOf JoinOf Meaning Meaning LinkOf Condition Condition Meaning LinkOf Condition Meaning SourceOf atom base join primary chain chain_link cond conj meet meet_link neg pick source_of (below_conj y)))
  conj-layer y = all-typed (neg y.head.0) (map neg (map (λ (t : SuchNeg). t.0) y.tail)) y.head.1 (such-negs y.tail)

  such-conjs : (ts : List SuchConj) → AreTypedConditions (map conj (map (λ t. t.0) ts))
  such-conjs [] = tt
  such-conjs (t ∷ ts) = (t.1, such-conjs ts)

  cond-layer : (y : Cond-F SuchAtom SuchBase SuchJoin SuchPrimary SuchChain SuchChainLink SuchCond SuchConj SuchMeet SuchMeetLink SuchNeg SuchPick SuchSource) → IsTypedCondition (cond_step (map-Cond Atom Base Join Primary Chain ChainLink Cond Conj Meet MeetLink Neg Pick Source Condition BaseOf JoinOf Meaning Meaning LinkOf Condition Condition Meaning LinkOf Condition Meaning SourceOf atom base join primary chain chain_link cond conj meet meet_link neg pick source_of (below_cond y)))
  cond-layer y = any-typed (conj y.head.0) (map conj (map (λ (t : SuchConj). t.0) y.tail)) y.head.1 (such-conjs y.tail)

  -- ---- sources

  base-layer : (y : Base-F SuchAtom SuchBase SuchJoin SuchPrimary SuchChain SuchChainLink SuchCond SuchConj SuchMeet SuchMeetLink SuchNeg SuchPick SuchSource) → IsTypedBase (base_step (map-Base Atom Base Join Primary Chain ChainLink Cond Conj Meet MeetLink Neg Pick Source Condition BaseOf JoinOf Meaning Meaning LinkOf Condition Condition Meaning LinkOf Condition Meaning SourceOf atom base join primary chain chain_link cond conj meet meet_link neg pick source_of (below_base y)))
  base-layer (open_.Named n a) scopes rows s = table-named-typed tables rows n.text (alias_or a n.text) 0 db (tables-from-first db)
  base-layer (open_.Sub of a) scopes rows s =
      then-ok (IsTypedRelation tables rows) (IsTypedTable tables rows) (chain of.0 db scopes) (λ t. Ok (record { name = a.name.text; relation = t })) (of.1 scopes rows s) (λ t h. h)

  joined-typed : (f : BaseOf) → IsTypedBase f → (from : FromClause) (scopes : Scopes) (rows : algebra.Scopes) → ScopesStand scopes rows → IsTypedFrom tables rows from
      → IfOk (based from f db scopes) (IsTypedFrom tables rows)
  joined-typed f t from scopes rows s h =
      then-ok (IsTypedTable tables rows) (IsTypedFrom tables rows) (f db scopes) (λ b. with_base from b) (t scopes rows s) (λ b k. with-base-typed tables rows from b h k)

  with-on-typed : (from : FromClause) (own : ℕ) (c : Condition) → IsTypedCondition c → (scopes : Scopes) (rows : algebra.Scopes) → ScopesStand scopes rows → IsTypedFrom tables rows from
      → IfOk (with_on from own c db scopes) (IsTypedFrom tables rows)
  with-on-typed from own c t scopes rows s h =
      then-ok (λ p. (more : algebra.Columns) → IsTypedPred tables ((h.0 ++ more) ∷ rows) p) (IsTypedFrom tables rows) (c db (drop own from.sources ∷ scopes)) (λ p. Ok (with_cond from p))
      (each-ok (λ (more : algebra.Columns) (p : Pred). IsTypedPred tables ((h.0 ++ more) ∷ rows) p) (c db (drop own from.sources ∷ scopes))
      (λ more. t (drop own from.sources ∷ scopes) ((h.0 ++ more) ∷ rows) (drop-stands own from.sources (h.0 ++ more) (h.1.stand more), s)))
      (λ p k. with-cond-typed tables rows from h p k)

  joined-on-typed : (f : BaseOf) (c : Condition) → IsTypedBase f → IsTypedCondition c → (from : FromClause) (own : ℕ) (scopes : Scopes) (rows : algebra.Scopes) → ScopesStand scopes rows → IsTypedFrom tables rows from
      → IfOk (based from f db scopes >>= λ more. with_on more own c db scopes) (IsTypedFrom tables rows)
  joined-on-typed f c t q from own scopes rows s h =
      then-ok (IsTypedFrom tables rows) (IsTypedFrom tables rows) (based from f db scopes) (λ more. with_on more own c db scopes) (joined-typed f t from scopes rows s h)
      (λ more m. with-on-typed more own c q scopes rows s m)

  join-layer : (y : Join-F SuchAtom SuchBase SuchJoin SuchPrimary SuchChain SuchChainLink SuchCond SuchConj SuchMeet SuchMeetLink SuchNeg SuchPick SuchSource) → IsTypedJoin (join_step (map-Join Atom Base Join Primary Chain ChainLink Cond Conj Meet MeetLink Neg Pick Source Condition BaseOf JoinOf Meaning Meaning LinkOf Condition Condition Meaning LinkOf Condition Meaning SourceOf atom base join primary chain chain_link cond conj meet meet_link neg pick source_of (below_join y)))
  join-layer (open_.Plain b c) from own scopes rows s h = joined-on-typed (base b.0) (cond c.0) b.1 c.1 from own scopes rows s h
  join-layer (open_.Inner b c) from own scopes rows s h = joined-on-typed (base b.0) (cond c.0) b.1 c.1 from own scopes rows s h
  join-layer (open_.Cross b) from own scopes rows s h = joined-typed (base b.0) b.1 from scopes rows s h

  abbrev AreTypedJoins : List JoinOf → Type 0
  AreTypedJoins [] = Unit {0}
  AreTypedJoins (f ∷ fs) = IsTypedJoin f × AreTypedJoins fs

  joined-all-typed : (fs : List JoinOf) → AreTypedJoins fs → (from : FromClause) (own : ℕ) (scopes : Scopes) (rows : algebra.Scopes) → ScopesStand scopes rows → IsTypedFrom tables rows from
      → IfOk (joined_all from own fs db scopes) (IsTypedFrom tables rows)
  joined-all-typed [] t from own scopes rows s h = h
  joined-all-typed (f ∷ fs) t from own scopes rows s h =
      then-ok (IsTypedFrom tables rows) (IsTypedFrom tables rows) (f from own db scopes) (λ more. joined_all more own fs db scopes) (t.0 from own scopes rows s h)
      (λ more m. joined-all-typed fs t.1 more own scopes rows s m)

  such-joins : (ts : List SuchJoin) → AreTypedJoins (map join (map (λ t. t.0) ts))
  such-joins [] = tt
  such-joins (t ∷ ts) = (t.1, such-joins ts)

  source-layer : (y : Source-F SuchAtom SuchBase SuchJoin SuchPrimary SuchChain SuchChainLink SuchCond SuchConj SuchMeet SuchMeetLink SuchNeg SuchPick SuchSource) → IsTypedSource (source_step (map-Source Atom Base Join Primary Chain ChainLink Cond Conj Meet MeetLink Neg Pick Source Condition BaseOf JoinOf Meaning Meaning LinkOf Condition Condition Meaning LinkOf Condition Meaning SourceOf atom base join primary chain chain_link cond conj meet meet_link neg pick source_of (below_source y)))
  source-layer y from scopes rows s h =
      let fs : List JoinOf = map join (map (λ (t : SuchJoin). t.0) y.joins) in
      then-ok (IsTypedFrom tables rows) (IsTypedFrom tables rows) (based from (base y.head.0) db scopes) (λ more. joined_all more (length from.sources) fs db scopes) (joined-typed (base y.head.0) y.head.1 from scopes rows s h)
      (λ more m. joined-all-typed fs (such-joins y.joins) more (length from.sources) scopes rows s m)

  abbrev AreTypedSources : List SourceOf → Type 0
  AreTypedSources [] = Unit {0}
  AreTypedSources (f ∷ fs) = IsTypedSource f × AreTypedSources fs

  sources-all-typed : (fs : List SourceOf) → AreTypedSources fs → (from : FromClause) (scopes : Scopes) (rows : algebra.Scopes) → ScopesStand scopes rows → IsTypedFrom tables rows from
      → IfOk (sources_all from fs db scopes) (IsTypedFrom tables rows)
  sources-all-typed [] t from scopes rows s h = h
  sources-all-typed (f ∷ fs) t from scopes rows s h =
      then-ok (IsTypedFrom tables rows) (IsTypedFrom tables rows) (f from db scopes) (λ more. sources_all more fs db scopes) (t.0 from scopes rows s h)
      (λ more m. sources-all-typed fs t.1 more scopes rows s m)

  such-sources : (ts : List SuchSource) → AreTypedSources (map source_of (map (λ t. t.0) ts))
  such-sources [] = tt
  such-sources (t ∷ ts) = (t.1, such-sources ts)

  -- ---- one SELECT

  abbrev IsTypedMaybe : Option Condition → Type 0
  IsTypedMaybe None = Unit {0}
  IsTypedMaybe (Some c) = IsTypedCondition c

  where-on-typed : (o : Option Condition) → IsTypedMaybe o → (from : FromClause) (scopes : Scopes) (rows : algebra.Scopes) → ScopesStand scopes rows → IsTypedFrom tables rows from
      → IfOk (where_on from o db scopes) (IsTypedFrom tables rows)
  where-on-typed None t from scopes rows s h = h
  where-on-typed (Some c) t from scopes rows s h =
      then-ok (λ p. (more : algebra.Columns) → IsTypedPred tables ((h.0 ++ more) ∷ rows) p) (IsTypedFrom tables rows) (c db (from.sources ∷ scopes)) (λ p. Ok (with_cond from p))
      (each-ok (λ (more : algebra.Columns) (p : Pred). IsTypedPred tables ((h.0 ++ more) ∷ rows) p) (c db (from.sources ∷ scopes))
      (λ more. t (from.sources ∷ scopes) ((h.0 ++ more) ∷ rows) (h.1.stand more, s)))
      (λ p k. with-cond-typed tables rows from h p k)

  items-typed : (items : Items) (from : FromClause) (scopes : Scopes) (rows : algebra.Scopes) → ScopesStand scopes rows → IsTypedFrom tables rows from
      → IfOk (select_list items from.sources (from.sources ∷ scopes) >>= λ list. Ok (select_of from list)) (IsTypedRelation tables rows)
  items-typed items from scopes rows s h =
      let row : algebra.Columns = h.0 in
      let whole : row ++ [] ≡ row = append-nil row in
      let stands : SourcesStand from.sources row = subst (SourcesStand from.sources) whole (h.1.stand []) in
      let conds : AreTyped tables (row ∷ rows) from.conds = subst (λ (r : algebra.Columns). AreTyped tables (r ∷ rows) from.conds) whole (h.1.conds []) in
      then-ok (IsTypedList (row ∷ rows)) (IsTypedRelation tables rows) (select_list items from.sources (from.sources ∷ scopes)) (λ list. Ok (select_of from list))
      (select-list-typed row rows from.sources (from.sources ∷ scopes) stands (stands, s) items)
      (λ list l. select-of-typed tables rows from list row h.1.queries conds l)

  -- the WHERE condition, if there is one
  abbrev mapped_cond : Pick-F SuchAtom SuchBase SuchJoin SuchPrimary SuchChain SuchChainLink SuchCond SuchConj SuchMeet SuchMeetLink SuchNeg SuchPick SuchSource → Option Condition
  mapped_cond y = (map-Pick Atom Base Join Primary Chain ChainLink Cond Conj Meet MeetLink Neg Pick Source Condition BaseOf JoinOf Meaning Meaning LinkOf Condition Condition Meaning LinkOf Condition Meaning SourceOf atom base join primary chain chain_link cond conj meet meet_link neg pick source_of (below_pick y)).cond

  such-cond : (y : Pick-F SuchAtom SuchBase SuchJoin SuchPrimary SuchChain SuchChainLink SuchCond SuchConj SuchMeet SuchMeetLink SuchNeg SuchPick SuchSource) (o : Option SuchCond) → IsTypedMaybe (mapped_cond (record y { cond = o }))
  such-cond y None = tt
  such-cond y (Some t) = t.1

  pick-layer : (y : Pick-F SuchAtom SuchBase SuchJoin SuchPrimary SuchChain SuchChainLink SuchCond SuchConj SuchMeet SuchMeetLink SuchNeg SuchPick SuchSource) → IsTypedMeaning (pick_step (map-Pick Atom Base Join Primary Chain ChainLink Cond Conj Meet MeetLink Neg Pick Source Condition BaseOf JoinOf Meaning Meaning LinkOf Condition Condition Meaning LinkOf Condition Meaning SourceOf atom base join primary chain chain_link cond conj meet meet_link neg pick source_of (below_pick y)))
  pick-layer y scopes rows s =
      let fs : List SourceOf = map source_of (map (λ (t : SuchSource). t.0) y.tail) in
      let o : Option Condition = mapped_cond y in
      then-ok (IsTypedFrom tables rows) (IsTypedRelation tables rows) (source_of y.head.0 no_sources db scopes)
      (λ first. sources_all first fs db scopes >>= λ from. where_on from o db scopes >>= λ all. select_list y.items all.sources (all.sources ∷ scopes) >>= λ list. Ok (select_of all list))
      (y.head.1 no_sources scopes rows s (no-sources-typed tables rows))
      (λ first f. then-ok (IsTypedFrom tables rows) (IsTypedRelation tables rows) (sources_all first fs db scopes)
      (λ from. where_on from o db scopes >>= λ all. select_list y.items all.sources (all.sources ∷ scopes) >>= λ list. Ok (select_of all list))
      (sources-all-typed fs (such-sources y.tail) first scopes rows s f)
      (λ from k. then-ok (IsTypedFrom tables rows) (IsTypedRelation tables rows) (where_on from o db scopes) (λ all. select_list y.items all.sources (all.sources ∷ scopes) >>= λ list. Ok (select_of all list))
      (where-on-typed o (such-cond y y.cond) from scopes rows s k) (λ all a. items-typed y.items all scopes rows s a)))

  -- ---- chains

  primary-layer : (y : Primary-F SuchAtom SuchBase SuchJoin SuchPrimary SuchChain SuchChainLink SuchCond SuchConj SuchMeet SuchMeetLink SuchNeg SuchPick SuchSource) → IsTypedMeaning (primary_step (map-Primary Atom Base Join Primary Chain ChainLink Cond Conj Meet MeetLink Neg Pick Source Condition BaseOf JoinOf Meaning Meaning LinkOf Condition Condition Meaning LinkOf Condition Meaning SourceOf atom base join primary chain chain_link cond conj meet meet_link neg pick source_of (below_primary y)))
  primary-layer (open_.One of) scopes rows s = of.1 scopes rows s
  primary-layer (open_.Primary::Paren of) scopes rows s = of.1 scopes rows s

  abbrev AreTypedLinks : List LinkOf → Type 0
  AreTypedLinks [] = Unit {0}
  AreTypedLinks (f ∷ fs) = IsTypedLink f × AreTypedLinks fs

  linked-all-typed : (fs : List LinkOf) → AreTypedLinks fs → IsTypedLink (λ t. linked_all t fs)
  linked-all-typed [] ts t scopes rows s h = h
  linked-all-typed (f ∷ fs) ts t scopes rows s h =
      then-ok (IsTypedRelation tables rows) (IsTypedRelation tables rows) (f t db scopes) (λ more. linked_all more fs db scopes) (ts.0 t scopes rows s h)
      (λ more m. linked-all-typed fs ts.1 more scopes rows s m)

  chained-typed : (f : Meaning) (fs : List LinkOf) → IsTypedMeaning f → AreTypedLinks fs → IsTypedMeaning (λ db scopes. f db scopes >>= λ t. linked_all t fs db scopes)
  chained-typed f fs h ts scopes rows s =
      then-ok (IsTypedRelation tables rows) (IsTypedRelation tables rows) (f db scopes) (λ t. linked_all t fs db scopes) (h scopes rows s) (λ t k. linked-all-typed fs ts t scopes rows s k)

  meet-link-layer : (y : MeetLink-F SuchAtom SuchBase SuchJoin SuchPrimary SuchChain SuchChainLink SuchCond SuchConj SuchMeet SuchMeetLink SuchNeg SuchPick SuchSource) → IsTypedLink (meet_link_step (map-MeetLink Atom Base Join Primary Chain ChainLink Cond Conj Meet MeetLink Neg Pick Source Condition BaseOf JoinOf Meaning Meaning LinkOf Condition Condition Meaning LinkOf Condition Meaning SourceOf atom base join primary chain chain_link cond conj meet meet_link neg pick source_of (below_meet_link y)))
  meet-link-layer y t scopes rows s h =
      then-ok (IsTypedRelation tables rows) (IsTypedRelation tables rows) (primary y.of.0 db scopes) (λ u. intersected t u) (y.of.1 scopes rows s) (λ u k. related-typed tables rows sets.Intersect t u h k)

  such-meet-links : (ts : List SuchMeetLink) → AreTypedLinks (map meet_link (map (λ t. t.0) ts))
  such-meet-links [] = tt
  such-meet-links (t ∷ ts) = (t.1, such-meet-links ts)

  meet-layer : (y : Meet-F SuchAtom SuchBase SuchJoin SuchPrimary SuchChain SuchChainLink SuchCond SuchConj SuchMeet SuchMeetLink SuchNeg SuchPick SuchSource) → IsTypedMeaning (meet_step (map-Meet Atom Base Join Primary Chain ChainLink Cond Conj Meet MeetLink Neg Pick Source Condition BaseOf JoinOf Meaning Meaning LinkOf Condition Condition Meaning LinkOf Condition Meaning SourceOf atom base join primary chain chain_link cond conj meet meet_link neg pick source_of (below_meet y)))
  meet-layer y = chained-typed (primary y.head.0) (map meet_link (map (λ (t : SuchMeetLink). t.0) y.tail)) y.head.1 (such-meet-links y.tail)

  chain-link-layer : (y : ChainLink-F SuchAtom SuchBase SuchJoin SuchPrimary SuchChain SuchChainLink SuchCond SuchConj SuchMeet SuchMeetLink SuchNeg SuchPick SuchSource) → IsTypedLink (chain_link_step (map-ChainLink Atom Base Join Primary Chain ChainLink Cond Conj Meet MeetLink Neg Pick Source Condition BaseOf JoinOf Meaning Meaning LinkOf Condition Condition Meaning LinkOf Condition Meaning SourceOf atom base join primary chain chain_link cond conj meet meet_link neg pick source_of (below_chain_link y)))
  chain-link-layer y t scopes rows s h =
      then-ok (IsTypedRelation tables rows) (IsTypedRelation tables rows) (meet y.of.0 db scopes) (λ u. united y.except t u) (y.of.1 scopes rows s) (λ u k. related-typed tables rows (union_or_except y.except) t u h k)

  such-chain-links : (ts : List SuchChainLink) → AreTypedLinks (map chain_link (map (λ t. t.0) ts))
  such-chain-links [] = tt
  such-chain-links (t ∷ ts) = (t.1, such-chain-links ts)

  chain-layer : (y : Chain-F SuchAtom SuchBase SuchJoin SuchPrimary SuchChain SuchChainLink SuchCond SuchConj SuchMeet SuchMeetLink SuchNeg SuchPick SuchSource) → IsTypedMeaning (chain_step (map-Chain Atom Base Join Primary Chain ChainLink Cond Conj Meet MeetLink Neg Pick Source Condition BaseOf JoinOf Meaning Meaning LinkOf Condition Condition Meaning LinkOf Condition Meaning SourceOf atom base join primary chain chain_link cond conj meet meet_link neg pick source_of (below_chain y)))
  chain-layer y = chained-typed (meet y.head.0) (map chain_link (map (λ (t : SuchChainLink). t.0) y.tail)) y.head.1 (such-chain-links y.tail)

  -- ---- the induction

  atom-rolls : (x : Atom-F Atom Base Join Primary Chain ChainLink Cond Conj Meet MeetLink Neg Pick Source) → IsTypedCondition (atom_step (map-Atom Atom Base Join Primary Chain ChainLink Cond Conj Meet MeetLink Neg Pick Source Condition BaseOf JoinOf Meaning Meaning LinkOf Condition Condition Meaning LinkOf Condition Meaning SourceOf atom base join primary chain chain_link cond conj meet meet_link neg pick source_of x)) → AtomLaw (roll-Atom x)
  atom-rolls x h = subst IsTypedCondition (sym (fold-roll-Atom Condition BaseOf JoinOf Meaning Meaning LinkOf Condition Condition Meaning LinkOf Condition Meaning SourceOf atom_step base_step join_step primary_step chain_step chain_link_step cond_step conj_step meet_step meet_link_step neg_step pick_step source_step x)) h

  base-rolls : (x : Base-F Atom Base Join Primary Chain ChainLink Cond Conj Meet MeetLink Neg Pick Source) → IsTypedBase (base_step (map-Base Atom Base Join Primary Chain ChainLink Cond Conj Meet MeetLink Neg Pick Source Condition BaseOf JoinOf Meaning Meaning LinkOf Condition Condition Meaning LinkOf Condition Meaning SourceOf atom base join primary chain chain_link cond conj meet meet_link neg pick source_of x)) → BaseLaw (roll-Base x)
  base-rolls x h = subst IsTypedBase (sym (fold-roll-Base Condition BaseOf JoinOf Meaning Meaning LinkOf Condition Condition Meaning LinkOf Condition Meaning SourceOf atom_step base_step join_step primary_step chain_step chain_link_step cond_step conj_step meet_step meet_link_step neg_step pick_step source_step x)) h

  join-rolls : (x : Join-F Atom Base Join Primary Chain ChainLink Cond Conj Meet MeetLink Neg Pick Source) → IsTypedJoin (join_step (map-Join Atom Base Join Primary Chain ChainLink Cond Conj Meet MeetLink Neg Pick Source Condition BaseOf JoinOf Meaning Meaning LinkOf Condition Condition Meaning LinkOf Condition Meaning SourceOf atom base join primary chain chain_link cond conj meet meet_link neg pick source_of x)) → JoinLaw (roll-Join x)
  join-rolls x h = subst IsTypedJoin (sym (fold-roll-Join Condition BaseOf JoinOf Meaning Meaning LinkOf Condition Condition Meaning LinkOf Condition Meaning SourceOf atom_step base_step join_step primary_step chain_step chain_link_step cond_step conj_step meet_step meet_link_step neg_step pick_step source_step x)) h

  primary-rolls : (x : Primary-F Atom Base Join Primary Chain ChainLink Cond Conj Meet MeetLink Neg Pick Source) → IsTypedMeaning (primary_step (map-Primary Atom Base Join Primary Chain ChainLink Cond Conj Meet MeetLink Neg Pick Source Condition BaseOf JoinOf Meaning Meaning LinkOf Condition Condition Meaning LinkOf Condition Meaning SourceOf atom base join primary chain chain_link cond conj meet meet_link neg pick source_of x)) → PrimaryLaw (roll-Primary x)
  primary-rolls x h = subst IsTypedMeaning (sym (fold-roll-Primary Condition BaseOf JoinOf Meaning Meaning LinkOf Condition Condition Meaning LinkOf Condition Meaning SourceOf atom_step base_step join_step primary_step chain_step chain_link_step cond_step conj_step meet_step meet_link_step neg_step pick_step source_step x)) h

  chain-rolls : (x : Chain-F Atom Base Join Primary Chain ChainLink Cond Conj Meet MeetLink Neg Pick Source) → IsTypedMeaning (chain_step (map-Chain Atom Base Join Primary Chain ChainLink Cond Conj Meet MeetLink Neg Pick Source Condition BaseOf JoinOf Meaning Meaning LinkOf Condition Condition Meaning LinkOf Condition Meaning SourceOf atom base join primary chain chain_link cond conj meet meet_link neg pick source_of x)) → ChainLaw (roll-Chain x)
  chain-rolls x h = subst IsTypedMeaning (sym (fold-roll-Chain Condition BaseOf JoinOf Meaning Meaning LinkOf Condition Condition Meaning LinkOf Condition Meaning SourceOf atom_step base_step join_step primary_step chain_step chain_link_step cond_step conj_step meet_step meet_link_step neg_step pick_step source_step x)) h

  chain-link-rolls : (x : ChainLink-F Atom Base Join Primary Chain ChainLink Cond Conj Meet MeetLink Neg Pick Source) → IsTypedLink (chain_link_step (map-ChainLink Atom Base Join Primary Chain ChainLink Cond Conj Meet MeetLink Neg Pick Source Condition BaseOf JoinOf Meaning Meaning LinkOf Condition Condition Meaning LinkOf Condition Meaning SourceOf atom base join primary chain chain_link cond conj meet meet_link neg pick source_of x)) → ChainLinkLaw (roll-ChainLink x)
  chain-link-rolls x h = subst IsTypedLink (sym (fold-roll-ChainLink Condition BaseOf JoinOf Meaning Meaning LinkOf Condition Condition Meaning LinkOf Condition Meaning SourceOf atom_step base_step join_step primary_step chain_step chain_link_step cond_step conj_step meet_step meet_link_step neg_step pick_step source_step x)) h

  cond-rolls : (x : Cond-F Atom Base Join Primary Chain ChainLink Cond Conj Meet MeetLink Neg Pick Source) → IsTypedCondition (cond_step (map-Cond Atom Base Join Primary Chain ChainLink Cond Conj Meet MeetLink Neg Pick Source Condition BaseOf JoinOf Meaning Meaning LinkOf Condition Condition Meaning LinkOf Condition Meaning SourceOf atom base join primary chain chain_link cond conj meet meet_link neg pick source_of x)) → CondLaw (roll-Cond x)
  cond-rolls x h = subst IsTypedCondition (sym (fold-roll-Cond Condition BaseOf JoinOf Meaning Meaning LinkOf Condition Condition Meaning LinkOf Condition Meaning SourceOf atom_step base_step join_step primary_step chain_step chain_link_step cond_step conj_step meet_step meet_link_step neg_step pick_step source_step x)) h

  conj-rolls : (x : Conj-F Atom Base Join Primary Chain ChainLink Cond Conj Meet MeetLink Neg Pick Source) → IsTypedCondition (conj_step (map-Conj Atom Base Join Primary Chain ChainLink Cond Conj Meet MeetLink Neg Pick Source Condition BaseOf JoinOf Meaning Meaning LinkOf Condition Condition Meaning LinkOf Condition Meaning SourceOf atom base join primary chain chain_link cond conj meet meet_link neg pick source_of x)) → ConjLaw (roll-Conj x)
  conj-rolls x h = subst IsTypedCondition (sym (fold-roll-Conj Condition BaseOf JoinOf Meaning Meaning LinkOf Condition Condition Meaning LinkOf Condition Meaning SourceOf atom_step base_step join_step primary_step chain_step chain_link_step cond_step conj_step meet_step meet_link_step neg_step pick_step source_step x)) h

  meet-rolls : (x : Meet-F Atom Base Join Primary Chain ChainLink Cond Conj Meet MeetLink Neg Pick Source) → IsTypedMeaning (meet_step (map-Meet Atom Base Join Primary Chain ChainLink Cond Conj Meet MeetLink Neg Pick Source Condition BaseOf JoinOf Meaning Meaning LinkOf Condition Condition Meaning LinkOf Condition Meaning SourceOf atom base join primary chain chain_link cond conj meet meet_link neg pick source_of x)) → MeetLaw (roll-Meet x)
  meet-rolls x h = subst IsTypedMeaning (sym (fold-roll-Meet Condition BaseOf JoinOf Meaning Meaning LinkOf Condition Condition Meaning LinkOf Condition Meaning SourceOf atom_step base_step join_step primary_step chain_step chain_link_step cond_step conj_step meet_step meet_link_step neg_step pick_step source_step x)) h

  meet-link-rolls : (x : MeetLink-F Atom Base Join Primary Chain ChainLink Cond Conj Meet MeetLink Neg Pick Source) → IsTypedLink (meet_link_step (map-MeetLink Atom Base Join Primary Chain ChainLink Cond Conj Meet MeetLink Neg Pick Source Condition BaseOf JoinOf Meaning Meaning LinkOf Condition Condition Meaning LinkOf Condition Meaning SourceOf atom base join primary chain chain_link cond conj meet meet_link neg pick source_of x)) → MeetLinkLaw (roll-MeetLink x)
  meet-link-rolls x h = subst IsTypedLink (sym (fold-roll-MeetLink Condition BaseOf JoinOf Meaning Meaning LinkOf Condition Condition Meaning LinkOf Condition Meaning SourceOf atom_step base_step join_step primary_step chain_step chain_link_step cond_step conj_step meet_step meet_link_step neg_step pick_step source_step x)) h

  neg-rolls : (x : Neg-F Atom Base Join Primary Chain ChainLink Cond Conj Meet MeetLink Neg Pick Source) → IsTypedCondition (neg_step (map-Neg Atom Base Join Primary Chain ChainLink Cond Conj Meet MeetLink Neg Pick Source Condition BaseOf JoinOf Meaning Meaning LinkOf Condition Condition Meaning LinkOf Condition Meaning SourceOf atom base join primary chain chain_link cond conj meet meet_link neg pick source_of x)) → NegLaw (roll-Neg x)
  neg-rolls x h = subst IsTypedCondition (sym (fold-roll-Neg Condition BaseOf JoinOf Meaning Meaning LinkOf Condition Condition Meaning LinkOf Condition Meaning SourceOf atom_step base_step join_step primary_step chain_step chain_link_step cond_step conj_step meet_step meet_link_step neg_step pick_step source_step x)) h

  pick-rolls : (x : Pick-F Atom Base Join Primary Chain ChainLink Cond Conj Meet MeetLink Neg Pick Source) → IsTypedMeaning (pick_step (map-Pick Atom Base Join Primary Chain ChainLink Cond Conj Meet MeetLink Neg Pick Source Condition BaseOf JoinOf Meaning Meaning LinkOf Condition Condition Meaning LinkOf Condition Meaning SourceOf atom base join primary chain chain_link cond conj meet meet_link neg pick source_of x)) → PickLaw (roll-Pick x)
  pick-rolls x h = subst IsTypedMeaning (sym (fold-roll-Pick Condition BaseOf JoinOf Meaning Meaning LinkOf Condition Condition Meaning LinkOf Condition Meaning SourceOf atom_step base_step join_step primary_step chain_step chain_link_step cond_step conj_step meet_step meet_link_step neg_step pick_step source_step x)) h

  source-rolls : (x : Source-F Atom Base Join Primary Chain ChainLink Cond Conj Meet MeetLink Neg Pick Source) → IsTypedSource (source_step (map-Source Atom Base Join Primary Chain ChainLink Cond Conj Meet MeetLink Neg Pick Source Condition BaseOf JoinOf Meaning Meaning LinkOf Condition Condition Meaning LinkOf Condition Meaning SourceOf atom base join primary chain chain_link cond conj meet meet_link neg pick source_of x)) → SourceLaw (roll-Source x)
  source-rolls x h = subst IsTypedSource (sym (fold-roll-Source Condition BaseOf JoinOf Meaning Meaning LinkOf Condition Condition Meaning LinkOf Condition Meaning SourceOf atom_step base_step join_step primary_step chain_step chain_link_step cond_step conj_step meet_step meet_link_step neg_step pick_step source_step x)) h

  -- a query over sources that are in the rows has its columns under the rows
  pub chain-typed : (t : Chain) → IsTypedMeaning (chain t)
  chain-typed = ind-Chain AtomLaw BaseLaw JoinLaw PrimaryLaw ChainLaw ChainLinkLaw CondLaw ConjLaw MeetLaw MeetLinkLaw NegLaw PickLaw SourceLaw
      (λ x y is. subst (λ z. AtomLaw (roll-Atom z)) is (atom-rolls (below_atom y) (atom-layer y)))
      (λ x y is. subst (λ z. BaseLaw (roll-Base z)) is (base-rolls (below_base y) (base-layer y)))
      (λ x y is. subst (λ z. JoinLaw (roll-Join z)) is (join-rolls (below_join y) (join-layer y)))
      (λ x y is. subst (λ z. PrimaryLaw (roll-Primary z)) is (primary-rolls (below_primary y) (primary-layer y)))
      (λ x y is. subst (λ z. ChainLaw (roll-Chain z)) is (chain-rolls (below_chain y) (chain-layer y)))
      (λ x y is. subst (λ z. ChainLinkLaw (roll-ChainLink z)) is (chain-link-rolls (below_chain_link y) (chain-link-layer y)))
      (λ x y is. subst (λ z. CondLaw (roll-Cond z)) is (cond-rolls (below_cond y) (cond-layer y)))
      (λ x y is. subst (λ z. ConjLaw (roll-Conj z)) is (conj-rolls (below_conj y) (conj-layer y)))
      (λ x y is. subst (λ z. MeetLaw (roll-Meet z)) is (meet-rolls (below_meet y) (meet-layer y)))
      (λ x y is. subst (λ z. MeetLinkLaw (roll-MeetLink z)) is (meet-link-rolls (below_meet_link y) (meet-link-layer y)))
      (λ x y is. subst (λ z. NegLaw (roll-Neg z)) is (neg-rolls (below_neg y) (neg-layer y)))
      (λ x y is. subst (λ z. PickLaw (roll-Pick z)) is (pick-rolls (below_pick y) (pick-layer y)))
      (λ x y is. subst (λ z. SourceLaw (roll-Source z)) is (source-rolls (below_source y) (source-layer y)))
