-- What one step of a walk gives: one more link, one more source, one more condition, or an error.
use Rattle.std.proofs.Common.{◌≡◌, ◌∙◌, ℕ, ◌+◌, ◌<◌, Bool, true, false, List, ◌∷◌, [], length, map, drop, get_or, sym, ap, ap₂, add-one, Option, None, Some, Result, Ok, Err, option_map, refl, subst}
use Rattle.std.proofs.Math.Seq.{drop-cons}
use Rattle.std.proofs.lemmas.Result.{err_from_is_err_and}
use Rattle.std.specs.Prelude.{IsErrAnd, MatchBool}
use Rattle.rt_algebra.specs.Parts.{all_of, any_of}
use Rattle.rt_scope.specs.Conditions.{one_more, only}
use Rattle.rt_scope.specs.Relations.{Tables, intersected, united}
use Rattle.rt_scope.specs.Sources.{no_sources, select_of}
use Rattle.rt_scope.specs.declared.condition.Members.{Members}
use Rattle.rt_scope.specs.declared.from.FromClause.{FromClause}
use Rattle.rt_scope.specs.declared.relation.Relation.{Relation}
use Rattle.rt_algebra.specs.declared.query.Pred.{Pred}
use Rattle.rt_scope.specs.Fault.{◌>>=◌, is_memory}
use Rattle.rt_scope.specs.Compare.{negated}
use Rattle.rt_scope.specs.Sums.{is_odd}
use Rattle.rt_scope.specs.Lookup.{Scopes}
use Rattle.rt_scope.specs.Select.{select_list}
use Rattle.rt_scope.specs.declared.select.SelectList.{SelectList}
use Rattle.rt_scope.specs.declared.fault.NameFault.{NameFault}
use Rattle.rt_scope.specs.declared.source.Source.{Source as Named}
use Rattle.rt_value.specs.Gives.{Gives}
use Rattle.rt_tree.specs.declared.tree.Atom.TheFolds.{map-Pick, fold_out-Chain, fold_out-ChainLink, fold_out-Cond, fold_out-Conj, fold_out-Meet, fold_out-MeetLink, fold_out-Neg, fold_out-Pick, fold_out-Source}
use Rattle.rt_tree.specs.declared.tree.Atom.TheViews.{out-Chain, out-ChainLink, out-Cond, out-Conj, out-Meet, out-MeetLink, out-Neg, out-Pick, out-Source}
use Rattle.rt_tree.specs.declared.tree.Atom.{Atom}
use Rattle.rt_tree.specs.declared.tree.Base.{Base}
use Rattle.rt_tree.specs.declared.tree.Join.{Join}
use Rattle.rt_tree.specs.declared.tree.Primary.{Primary}
use Rattle.rt_tree.specs.declared.tree.Items.{Items}
use Rattle.rt_tree.specs.declared.tree.Chain.{Chain}
use Rattle.rt_tree.specs.declared.tree.ChainLink.{ChainLink}
use Rattle.rt_tree.specs.declared.tree.Cond.{Cond}
use Rattle.rt_tree.specs.declared.tree.Conj.{Conj}
use Rattle.rt_tree.specs.declared.tree.Meet.{Meet}
use Rattle.rt_tree.specs.declared.tree.MeetLink.{MeetLink}
use Rattle.rt_tree.specs.declared.tree.Neg.{Neg}
use Rattle.rt_tree.specs.declared.tree.Pick.{Pick}
use Rattle.rt_tree.specs.declared.tree.Source.{Source}
use Rattle.rt_resolve.specs.Chains.{BaseOf, Condition, JoinOf, LinkOf, Meaning, SourceOf, atom, atom_step, base, base_step, based, chain, chain_link, chain_link_step, chain_step, cond, cond_step, conj, conj_step, gathered, join, join_step, joined_all, linked_all, meet, meet_link, meet_link_step, meet_step, neg, neg_step, pick, pick_step, primary, primary_step, source_of, source_step, sources_all, where_on}

next_is : {X : Type 0} (xs : List X) (i : ℕ) (x : X) → i < length xs → x ≡ get_or xs i x → drop i xs ≡ x ∷ drop (i + 1) xs
next_is xs i x l e = drop-cons xs i x l ∙ ap₂ ◌∷◌ (sym e) (ap (λ k. drop k xs) (sym (add-one i)))

-- ---- an error ends all

-- an error other than out of memory is the definition's
abbrev Fails : {A : Type 0} → NameFault → Result A NameFault → Type 0
Fails e d = MatchBool (is_memory e) (Unit {0}) (d ≡ Err e)

becomes : {A : Type 0} (b : Bool) (e : NameFault) (d m : Result A NameFault) → d ≡ m → MatchBool b (Unit {0}) (m ≡ Err e) → MatchBool b (Unit {0}) (d ≡ Err e)
becomes true e d m p h = tt
becomes false e d m p h = p ∙ h

bound : {A B : Type 0} (b : Bool) (e : NameFault) (m : Result A NameFault) (f : A → Result B NameFault) → MatchBool b (Unit {0}) (m ≡ Err e) → MatchBool b (Unit {0}) ((m >>= f) ≡ Err e)
bound true e m f h = tt
bound false e m f h = ap (λ r. r >>= f) h

-- a whole that begins with a step that fails
begun : {A B : Type 0} (e : NameFault) (d : Result B NameFault) (m : Result A NameFault) (f : A → Result B NameFault) → d ≡ (m >>= f) → Fails e m → Fails e d
begun e d m f p h = becomes (is_memory e) e d (m >>= f) p (bound (is_memory e) e m f h)

-- the error that `?` returns is the one that it met
settled : {A : Type 0} (r : Result A NameFault) (e : NameFault) (d : Result A NameFault) → IsErrAnd r (λ x. x ≡ e) → Fails e d → Gives is_memory r d
settled r e d g h = let p = err_from_is_err_and r g in rw (p.1, p.2) h

fails : {A B : Type 0} (r : Result B NameFault) (e : NameFault) (d : Result B NameFault) (m : Result A NameFault) (f : A → Result B NameFault) → IsErrAnd r (λ x. x ≡ e) → d ≡ (m >>= f) → Fails e m → Gives is_memory r d
fails r e d m f g p h = settled r e d g (begun e d m f p h)

given : {A : Type 0} (r d m : Result A NameFault) → d ≡ m → Gives is_memory r m → Gives is_memory r d
given r d m p h = subst (λ k. Gives is_memory r k) (sym p) h

-- a whole whose first step is done goes on with the second
goes : {A B : Type 0} (d : Result B NameFault) (m : Result A NameFault) (f : A → Result B NameFault) (x : A) → d ≡ (m >>= f) → m ≡ Ok x → d ≡ f x
goes d m f x p h = p ∙ ap (λ r. r >>= f) h

-- what is left of a loop, with its next item in front
left : {X S : Type 0} (run : List X → Result S NameFault) (xs : List X) (i : ℕ) (x : X) (whole : Result S NameFault) → i < length xs → x ≡ get_or xs i x → run (drop i xs) ≡ whole → whole ≡ run (x ∷ drop (i + 1) xs)
left run xs i x whole l e h = sym h ∙ ap run (next_is xs i x l e)

-- ---- links

pub next_linked : {X : Type 0} (link : X → LinkOf) (xs : List X) (i : ℕ) (x : X) (db : Tables) (scopes : Scopes) (t more : Relation) (whole : Result Relation NameFault)
    → i < length xs → x ≡ get_or xs i x → link x t db scopes ≡ Ok more
    → linked_all t (map link (drop i xs)) db scopes ≡ whole
    → linked_all more (map link (drop (i + 1) xs)) db scopes ≡ whole
next_linked link xs i x db scopes t more whole l e step h =
    sym (goes whole (link x t db scopes) (λ m. linked_all m (map link (drop (i + 1) xs)) db scopes) more (left (λ ys. linked_all t (map link ys) db scopes) xs i x whole l e h) step)

pub linked_fails : {X : Type 0} (link : X → LinkOf) (xs : List X) (i : ℕ) (x : X) (db : Tables) (scopes : Scopes) (t : Relation) (whole r : Result Relation NameFault) (fault : NameFault)
    → i < length xs → x ≡ get_or xs i x → linked_all t (map link (drop i xs)) db scopes ≡ whole
    → IsErrAnd r (λ y. y ≡ fault) → Fails fault (link x t db scopes) → Gives is_memory r whole
linked_fails link xs i x db scopes t whole r fault l e h g k =
    fails r fault whole (link x t db scopes) (λ m. linked_all m (map link (drop (i + 1) xs)) db scopes) g (left (λ ys. linked_all t (map link ys) db scopes) xs i x whole l e h) k

chain_link_is : (x : ChainLink) (t : Relation) (db : Tables) (scopes : Scopes) → chain_link x t db scopes ≡ (meet (out-ChainLink x).of db scopes >>= λ u. united (out-ChainLink x).except t u)
chain_link_is x t db scopes = ap (λ (f : LinkOf). f t db scopes) (fold_out-ChainLink Condition BaseOf JoinOf Meaning Meaning LinkOf Condition Condition Meaning LinkOf Condition Meaning SourceOf atom_step base_step join_step primary_step chain_step chain_link_step cond_step conj_step meet_step meet_link_step neg_step pick_step source_step x)

pub chain_linked : (x : ChainLink) (t u more : Relation) (db : Tables) (scopes : Scopes)
    → meet (out-ChainLink x).of db scopes ≡ Ok u → united (out-ChainLink x).except t u ≡ Ok more → chain_link x t db scopes ≡ Ok more
chain_linked x t u more db scopes e h = goes (chain_link x t db scopes) (meet (out-ChainLink x).of db scopes) (λ o. united (out-ChainLink x).except t o) u (chain_link_is x t db scopes) e ∙ h

pub chain_unread : (x : ChainLink) (t : Relation) (db : Tables) (scopes : Scopes) (fault : NameFault) → Fails fault (meet (out-ChainLink x).of db scopes) → Fails fault (chain_link x t db scopes)
chain_unread x t db scopes fault h = begun fault (chain_link x t db scopes) (meet (out-ChainLink x).of db scopes) (λ o. united (out-ChainLink x).except t o) (chain_link_is x t db scopes) h

pub chain_unlinked : (x : ChainLink) (t u : Relation) (db : Tables) (scopes : Scopes) (fault : NameFault)
    → meet (out-ChainLink x).of db scopes ≡ Ok u → Fails fault (united (out-ChainLink x).except t u) → Fails fault (chain_link x t db scopes)
chain_unlinked x t u db scopes fault e h = becomes (is_memory fault) fault (chain_link x t db scopes) (united (out-ChainLink x).except t u)
    (goes (chain_link x t db scopes) (meet (out-ChainLink x).of db scopes) (λ o. united (out-ChainLink x).except t o) u (chain_link_is x t db scopes) e) h

meet_link_is : (x : MeetLink) (t : Relation) (db : Tables) (scopes : Scopes) → meet_link x t db scopes ≡ (primary (out-MeetLink x).of db scopes >>= λ u. intersected t u)
meet_link_is x t db scopes = ap (λ (f : LinkOf). f t db scopes) (fold_out-MeetLink Condition BaseOf JoinOf Meaning Meaning LinkOf Condition Condition Meaning LinkOf Condition Meaning SourceOf atom_step base_step join_step primary_step chain_step chain_link_step cond_step conj_step meet_step meet_link_step neg_step pick_step source_step x)

pub meet_linked : (x : MeetLink) (t u more : Relation) (db : Tables) (scopes : Scopes)
    → primary (out-MeetLink x).of db scopes ≡ Ok u → intersected t u ≡ Ok more → meet_link x t db scopes ≡ Ok more
meet_linked x t u more db scopes e h = goes (meet_link x t db scopes) (primary (out-MeetLink x).of db scopes) (λ o. intersected t o) u (meet_link_is x t db scopes) e ∙ h

pub meet_unread : (x : MeetLink) (t : Relation) (db : Tables) (scopes : Scopes) (fault : NameFault) → Fails fault (primary (out-MeetLink x).of db scopes) → Fails fault (meet_link x t db scopes)
meet_unread x t db scopes fault h = begun fault (meet_link x t db scopes) (primary (out-MeetLink x).of db scopes) (λ o. intersected t o) (meet_link_is x t db scopes) h

pub meet_unlinked : (x : MeetLink) (t u : Relation) (db : Tables) (scopes : Scopes) (fault : NameFault)
    → primary (out-MeetLink x).of db scopes ≡ Ok u → Fails fault (intersected t u) → Fails fault (meet_link x t db scopes)
meet_unlinked x t u db scopes fault e h = becomes (is_memory fault) fault (meet_link x t db scopes) (intersected t u)
    (goes (meet_link x t db scopes) (primary (out-MeetLink x).of db scopes) (λ o. intersected t o) u (meet_link_is x t db scopes) e) h

-- ---- sources and joins

pub next_joined : {X : Type 0} (join : X → JoinOf) (xs : List X) (i : ℕ) (x : X) (own : ℕ) (db : Tables) (scopes : Scopes) (t more : FromClause) (whole : Result FromClause NameFault)
    → i < length xs → x ≡ get_or xs i x → joined_all t own (map join (drop i xs)) db scopes ≡ whole
    → join x t own db scopes ≡ Ok more → joined_all more own (map join (drop (i + 1) xs)) db scopes ≡ whole
next_joined join xs i x own db scopes t more whole l e h step =
    sym (goes whole (join x t own db scopes) (λ m. joined_all m own (map join (drop (i + 1) xs)) db scopes) more (left (λ ys. joined_all t own (map join ys) db scopes) xs i x whole l e h) step)

pub joined_fails : {X : Type 0} (join : X → JoinOf) (xs : List X) (i : ℕ) (x : X) (own : ℕ) (db : Tables) (scopes : Scopes) (t : FromClause) (whole r : Result FromClause NameFault) (fault : NameFault)
    → i < length xs → x ≡ get_or xs i x → joined_all t own (map join (drop i xs)) db scopes ≡ whole
    → IsErrAnd r (λ y. y ≡ fault) → Fails fault (join x t own db scopes) → Gives is_memory r whole
joined_fails join xs i x own db scopes t whole r fault l e h g k =
    fails r fault whole (join x t own db scopes) (λ m. joined_all m own (map join (drop (i + 1) xs)) db scopes) g (left (λ ys. joined_all t own (map join ys) db scopes) xs i x whole l e h) k

pub next_sourced : {X : Type 0} (source : X → SourceOf) (xs : List X) (i : ℕ) (x : X) (db : Tables) (scopes : Scopes) (t more : FromClause) (whole : Result FromClause NameFault)
    → i < length xs → x ≡ get_or xs i x → sources_all t (map source (drop i xs)) db scopes ≡ whole
    → source x t db scopes ≡ Ok more → sources_all more (map source (drop (i + 1) xs)) db scopes ≡ whole
next_sourced source xs i x db scopes t more whole l e h step =
    sym (goes whole (source x t db scopes) (λ m. sources_all m (map source (drop (i + 1) xs)) db scopes) more (left (λ ys. sources_all t (map source ys) db scopes) xs i x whole l e h) step)

pub sources_fail : {X : Type 0} (source : X → SourceOf) (xs : List X) (i : ℕ) (x : X) (db : Tables) (scopes : Scopes) (t : FromClause) (whole r : Result FromClause NameFault) (fault : NameFault)
    → i < length xs → x ≡ get_or xs i x → sources_all t (map source (drop i xs)) db scopes ≡ whole
    → IsErrAnd r (λ y. y ≡ fault) → Fails fault (source x t db scopes) → Gives is_memory r whole
sources_fail source xs i x db scopes t whole r fault l e h g k =
    fails r fault whole (source x t db scopes) (λ m. sources_all m (map source (drop (i + 1) xs)) db scopes) g (left (λ ys. sources_all t (map source ys) db scopes) xs i x whole l e h) k

-- ---- members of a condition

pub next_gathered : {X : Type 0} (member : X → Condition) (xs : List X) (i : ℕ) (x : X) (c : Pred) (db : Tables) (scopes : Scopes) (t more : Members) (whole : Result Members NameFault)
    → i < length xs → x ≡ get_or xs i x → gathered t (map member (drop i xs)) db scopes ≡ whole
    → member x db scopes ≡ Ok c → more ≡ one_more t c → gathered more (map member (drop (i + 1) xs)) db scopes ≡ whole
next_gathered member xs i x c db scopes t more whole l e h step grows =
    ap (λ m. gathered m (map member (drop (i + 1) xs)) db scopes) grows
    ∙ sym (goes whole (member x db scopes) (λ c. gathered (one_more t c) (map member (drop (i + 1) xs)) db scopes) c (left (λ ys. gathered t (map member ys) db scopes) xs i x whole l e h) step)

member_fails : {X : Type 0} (member : X → Condition) (xs : List X) (i : ℕ) (x : X) (db : Tables) (scopes : Scopes) (t : Members) (whole : Result Members NameFault) (fault : NameFault)
    → i < length xs → x ≡ get_or xs i x → gathered t (map member (drop i xs)) db scopes ≡ whole → Fails fault (member x db scopes) → Fails fault whole
member_fails member xs i x db scopes t whole fault l e h k =
    begun fault whole (member x db scopes) (λ c. gathered (one_more t c) (map member (drop (i + 1) xs)) db scopes) (left (λ ys. gathered t (map member ys) db scopes) xs i x whole l e h) k

pub gathered_fails : {X : Type 0} (member : X → Condition) (xs : List X) (i : ℕ) (x : X) (db : Tables) (scopes : Scopes) (t : Members) (whole r : Result Members NameFault) (fault : NameFault)
    → i < length xs → x ≡ get_or xs i x → gathered t (map member (drop i xs)) db scopes ≡ whole
    → IsErrAnd r (λ y. y ≡ fault) → Fails fault (member x db scopes) → Gives is_memory r whole
gathered_fails member xs i x db scopes t whole r fault l e h g k = settled r fault whole g (member_fails member xs i x db scopes t whole fault l e h k)

conj_is : (x : Conj) (db : Tables) (scopes : Scopes) → conj x db scopes ≡ (neg (out-Conj x).head db scopes >>= λ c. gathered (only c) (map neg (out-Conj x).tail) db scopes >>= λ all. Ok (all_of all.conds))
conj_is x db scopes = ap (λ (f : Condition). f db scopes) (fold_out-Conj Condition BaseOf JoinOf Meaning Meaning LinkOf Condition Condition Meaning LinkOf Condition Meaning SourceOf atom_step base_step join_step primary_step chain_step chain_link_step cond_step conj_step meet_step meet_link_step neg_step pick_step source_step x)

-- a conjunction whose first member is done
conj_begun : (x : Conj) (c : Pred) (start : Members) (members : List Neg) (db : Tables) (scopes : Scopes)
    → neg (out-Conj x).head db scopes ≡ Ok c → start ≡ only c → members ≡ (out-Conj x).tail
    → conj x db scopes ≡ (gathered start (map neg members) db scopes >>= λ all. Ok (all_of all.conds))
conj_begun x c start members db scopes h s m =
    goes (conj x db scopes) (neg (out-Conj x).head db scopes) (λ c. gathered (only c) (map neg (out-Conj x).tail) db scopes >>= λ all. Ok (all_of all.conds)) c (conj_is x db scopes) h
    ∙ ap₂ (λ (a : Members) (ns : List Neg). gathered a (map neg ns) db scopes >>= λ all. Ok (all_of all.conds)) (sym s) (sym m)

pub conj_head_fails : (x : Conj) (db : Tables) (scopes : Scopes) (r : Result Pred NameFault) (fault : NameFault)
    → IsErrAnd r (λ y. y ≡ fault) → Fails fault (neg (out-Conj x).head db scopes) → Gives is_memory r (conj x db scopes)
conj_head_fails x db scopes r fault g k =
    fails r fault (conj x db scopes) (neg (out-Conj x).head db scopes) (λ c. gathered (only c) (map neg (out-Conj x).tail) db scopes >>= λ all. Ok (all_of all.conds)) g (conj_is x db scopes) k

pub conj_fails : (x : Conj) (c : Pred) (start t : Members) (members : List Neg) (i : ℕ) (n : Neg) (db : Tables) (scopes : Scopes) (r : Result Pred NameFault) (fault : NameFault)
    → neg (out-Conj x).head db scopes ≡ Ok c → start ≡ only c → members ≡ (out-Conj x).tail
    → i < length members → n ≡ get_or members i n → gathered t (map neg (drop i members)) db scopes ≡ gathered start (map neg members) db scopes
    → IsErrAnd r (λ y. y ≡ fault) → Fails fault (neg n db scopes) → Gives is_memory r (conj x db scopes)
conj_fails x c start t members i n db scopes r fault h s m l e inv g k =
    fails r fault (conj x db scopes) (gathered start (map neg members) db scopes) (λ all. Ok (all_of all.conds)) g (conj_begun x c start members db scopes h s m)
    (member_fails neg members i n db scopes t (gathered start (map neg members) db scopes) fault l e inv k)

pub conj_ends : (x : Conj) (c : Pred) (start t : Members) (members : List Neg) (i : ℕ) (db : Tables) (scopes : Scopes) (whole : Pred)
    → neg (out-Conj x).head db scopes ≡ Ok c → start ≡ only c → members ≡ (out-Conj x).tail
    → drop i members ≡ [] → gathered t (map neg (drop i members)) db scopes ≡ gathered start (map neg members) db scopes
    → whole ≡ all_of t.conds → conj x db scopes ≡ Ok whole
conj_ends x c start t members i db scopes whole h s m e inv w =
    goes (conj x db scopes) (gathered start (map neg members) db scopes) (λ all. Ok (all_of all.conds)) t (conj_begun x c start members db scopes h s m)
    (sym inv ∙ ap (λ ns. gathered t (map neg ns) db scopes) e)
    ∙ ap (λ (p : Pred). Ok p) (sym w)

-- ---- one SELECT

-- what follows the sources, and what follows the condition
abbrev listed : Pick → Scopes → FromClause → Result Relation NameFault
listed x scopes all = select_list (out-Pick x).items all.sources (all.sources ∷ scopes) >>= λ list. Ok (select_of all list)

abbrev kept : Pick → Tables → Scopes → FromClause → Result Relation NameFault
kept x db scopes from = where_on from (option_map cond (out-Pick x).cond) db scopes >>= listed x scopes

abbrev sourced : Pick → Tables → Scopes → FromClause → Result Relation NameFault
sourced x db scopes first = sources_all first (map source_of (out-Pick x).tail) db scopes >>= kept x db scopes

-- by the fields, since a condition may be left out
pick_step_is : (distinct : Bool) (items : Items) (head : Source) (tail : List Source) (at : Option Cond) (db : Tables) (scopes : Scopes)
    → pick_step (map-Pick Atom Base Join Primary Chain ChainLink Cond Conj Meet MeetLink Neg Pick Source Condition BaseOf JoinOf Meaning Meaning LinkOf Condition Condition Meaning LinkOf Condition Meaning SourceOf atom base join primary chain chain_link cond conj meet meet_link neg pick source_of (record { distinct = distinct; items = items; head = head; tail = tail; cond = at })) db scopes
    ≡ (source_of head no_sources db scopes >>= λ first. sources_all first (map source_of tail) db scopes >>= λ from. where_on from (option_map cond at) db scopes >>= λ all.
    select_list items all.sources (all.sources ∷ scopes) >>= λ list. Ok (select_of all list))
pick_step_is distinct items head tail None db scopes = refl
pick_step_is distinct items head tail (Some c) db scopes = refl

pick_is : (x : Pick) (none : FromClause) (db : Tables) (scopes : Scopes) → none ≡ no_sources → pick x db scopes ≡ (source_of (out-Pick x).head none db scopes >>= sourced x db scopes)
pick_is x none db scopes n = ap (λ (f : Meaning). f db scopes) (fold_out-Pick Condition BaseOf JoinOf Meaning Meaning LinkOf Condition Condition Meaning LinkOf Condition Meaning SourceOf atom_step base_step join_step primary_step chain_step chain_link_step cond_step conj_step meet_step meet_link_step neg_step pick_step source_step x)
    ∙ pick_step_is (out-Pick x).distinct (out-Pick x).items (out-Pick x).head (out-Pick x).tail (out-Pick x).cond db scopes
    ∙ ap (λ (f : FromClause). source_of (out-Pick x).head f db scopes >>= sourced x db scopes) (sym n)

pick_first : (x : Pick) (none first : FromClause) (members : List Source) (db : Tables) (scopes : Scopes)
    → none ≡ no_sources → source_of (out-Pick x).head none db scopes ≡ Ok first → members ≡ (out-Pick x).tail
    → pick x db scopes ≡ (sources_all first (map source_of members) db scopes >>= kept x db scopes)
pick_first x none first members db scopes n h m =
    goes (pick x db scopes) (source_of (out-Pick x).head none db scopes) (sourced x db scopes) first (pick_is x none db scopes n) h
    ∙ ap (λ (ss : List Source). sources_all first (map source_of ss) db scopes >>= kept x db scopes) (sym m)

pick_from : (x : Pick) (none first from : FromClause) (members : List Source) (db : Tables) (scopes : Scopes)
    → none ≡ no_sources → source_of (out-Pick x).head none db scopes ≡ Ok first → members ≡ (out-Pick x).tail
    → sources_all first (map source_of members) db scopes ≡ Ok from
    → pick x db scopes ≡ (where_on from (option_map cond (out-Pick x).cond) db scopes >>= listed x scopes)
pick_from x none first from members db scopes n h m k =
    goes (pick x db scopes) (sources_all first (map source_of members) db scopes) (kept x db scopes) from (pick_first x none first members db scopes n h m) k

pick_all : (x : Pick) (none first from all : FromClause) (members : List Source) (own : List Named) (db : Tables) (scopes : Scopes)
    → none ≡ no_sources → source_of (out-Pick x).head none db scopes ≡ Ok first → members ≡ (out-Pick x).tail
    → sources_all first (map source_of members) db scopes ≡ Ok from → where_on from (option_map cond (out-Pick x).cond) db scopes ≡ Ok all → own ≡ all.sources
    → pick x db scopes ≡ (select_list (out-Pick x).items own (own ∷ scopes) >>= λ list. Ok (select_of all list))
pick_all x none first from all members own db scopes n h m k w o =
    goes (pick x db scopes) (where_on from (option_map cond (out-Pick x).cond) db scopes) (listed x scopes) all (pick_from x none first from members db scopes n h m k) w
    ∙ ap (λ (ss : List Named). select_list (out-Pick x).items ss (ss ∷ scopes) >>= λ list. Ok (select_of all list)) (sym o)

pub pick_head_fails : (x : Pick) (none : FromClause) (db : Tables) (scopes : Scopes) (r : Result Relation NameFault) (fault : NameFault)
    → none ≡ no_sources → IsErrAnd r (λ y. y ≡ fault) → Fails fault (source_of (out-Pick x).head none db scopes) → Gives is_memory r (pick x db scopes)
pick_head_fails x none db scopes r fault n g k =
    fails r fault (pick x db scopes) (source_of (out-Pick x).head none db scopes) (sourced x db scopes) g (pick_is x none db scopes n) k

pub pick_tail_fails : (x : Pick) (none first : FromClause) (members : List Source) (db : Tables) (scopes : Scopes) (r : Result Relation NameFault) (fault : NameFault)
    → none ≡ no_sources → source_of (out-Pick x).head none db scopes ≡ Ok first → members ≡ (out-Pick x).tail
    → IsErrAnd r (λ y. y ≡ fault) → Fails fault (sources_all first (map source_of members) db scopes) → Gives is_memory r (pick x db scopes)
pick_tail_fails x none first members db scopes r fault n h m g k =
    fails r fault (pick x db scopes) (sources_all first (map source_of members) db scopes) (kept x db scopes) g (pick_first x none first members db scopes n h m) k

pub pick_where_fails : (x : Pick) (none first from : FromClause) (members : List Source) (db : Tables) (scopes : Scopes) (r : Result Relation NameFault) (fault : NameFault)
    → none ≡ no_sources → source_of (out-Pick x).head none db scopes ≡ Ok first → members ≡ (out-Pick x).tail
    → sources_all first (map source_of members) db scopes ≡ Ok from
    → IsErrAnd r (λ y. y ≡ fault) → Fails fault (where_on from (option_map cond (out-Pick x).cond) db scopes) → Gives is_memory r (pick x db scopes)
pick_where_fails x none first from members db scopes r fault n h m k g f =
    fails r fault (pick x db scopes) (where_on from (option_map cond (out-Pick x).cond) db scopes) (listed x scopes) g (pick_from x none first from members db scopes n h m k) f

pub pick_list_fails : (x : Pick) (none first from all : FromClause) (members : List Source) (own : List Named) (db : Tables) (scopes : Scopes) (r : Result Relation NameFault) (fault : NameFault)
    → none ≡ no_sources → source_of (out-Pick x).head none db scopes ≡ Ok first → members ≡ (out-Pick x).tail
    → sources_all first (map source_of members) db scopes ≡ Ok from → where_on from (option_map cond (out-Pick x).cond) db scopes ≡ Ok all → own ≡ all.sources
    → IsErrAnd r (λ y. y ≡ fault) → Fails fault (select_list (out-Pick x).items own (own ∷ scopes)) → Gives is_memory r (pick x db scopes)
pick_list_fails x none first from all members own db scopes r fault n h m k w o g f =
    fails r fault (pick x db scopes) (select_list (out-Pick x).items own (own ∷ scopes)) (λ list. Ok (select_of all list)) g (pick_all x none first from all members own db scopes n h m k w o) f

pub pick_done : (x : Pick) (none first from all : FromClause) (members : List Source) (own : List Named) (list : SelectList) (db : Tables) (scopes : Scopes) (r : Result Relation NameFault)
    → none ≡ no_sources → source_of (out-Pick x).head none db scopes ≡ Ok first → members ≡ (out-Pick x).tail
    → sources_all first (map source_of members) db scopes ≡ Ok from → where_on from (option_map cond (out-Pick x).cond) db scopes ≡ Ok all → own ≡ all.sources
    → select_list (out-Pick x).items own (own ∷ scopes) ≡ Ok list → Gives is_memory r (Ok (select_of all list)) → Gives is_memory r (pick x db scopes)
pick_done x none first from all members own list db scopes r n h m k w o l g =
    given r (pick x db scopes) (Ok (select_of all list)) (goes (pick x db scopes) (select_list (out-Pick x).items own (own ∷ scopes)) (λ list. Ok (select_of all list)) list (pick_all x none first from all members own db scopes n h m k w o) l) g

source_is : (x : Source) (from : FromClause) (db : Tables) (scopes : Scopes) → source_of x from db scopes ≡ (based from (base (out-Source x).head) db scopes >>= λ more. joined_all more (length from.sources) (map join (out-Source x).joins) db scopes)
source_is x from db scopes = ap (λ (f : SourceOf). f from db scopes) (fold_out-Source Condition BaseOf JoinOf Meaning Meaning LinkOf Condition Condition Meaning LinkOf Condition Meaning SourceOf atom_step base_step join_step primary_step chain_step chain_link_step cond_step conj_step meet_step meet_link_step neg_step pick_step source_step x)

pub source_base_fails : (x : Source) (from : FromClause) (db : Tables) (scopes : Scopes) (r : Result FromClause NameFault) (fault : NameFault)
    → IsErrAnd r (λ y. y ≡ fault) → Fails fault (based from (base (out-Source x).head) db scopes) → Gives is_memory r (source_of x from db scopes)
source_base_fails x from db scopes r fault g k =
    fails r fault (source_of x from db scopes) (based from (base (out-Source x).head) db scopes) (λ more. joined_all more (length from.sources) (map join (out-Source x).joins) db scopes) g (source_is x from db scopes) k

pub source_done : (x : Source) (from more : FromClause) (own : ℕ) (members : List Join) (db : Tables) (scopes : Scopes) (r : Result FromClause NameFault)
    → own ≡ length from.sources → based from (base (out-Source x).head) db scopes ≡ Ok more → members ≡ (out-Source x).joins
    → Gives is_memory r (joined_all more own (map join members) db scopes) → Gives is_memory r (source_of x from db scopes)
source_done x from more own members db scopes r o b m g =
    given r (source_of x from db scopes) (joined_all more own (map join members) db scopes)
    (goes (source_of x from db scopes) (based from (base (out-Source x).head) db scopes) (λ more. joined_all more (length from.sources) (map join (out-Source x).joins) db scopes) more (source_is x from db scopes) b
    ∙ ap₂ (λ (n : ℕ) (js : List Join). joined_all more n (map join js) db scopes) (sym o) (sym m)) g

-- ---- parts whose head fails, and a condition

pub neg_fails : (x : Neg) (db : Tables) (scopes : Scopes) (r : Result Pred NameFault) (fault : NameFault)
    → IsErrAnd r (λ y. y ≡ fault) → Fails fault (atom (out-Neg x).atom db scopes) → Gives is_memory r (neg x db scopes)
neg_fails x db scopes r fault g k =
    fails r fault (neg x db scopes) (atom (out-Neg x).atom db scopes) (λ c. Ok (negated (is_odd (out-Neg x).nots) c)) g (ap (λ (f : Condition). f db scopes) (fold_out-Neg Condition BaseOf JoinOf Meaning Meaning LinkOf Condition Condition Meaning LinkOf Condition Meaning SourceOf atom_step base_step join_step primary_step chain_step chain_link_step cond_step conj_step meet_step meet_link_step neg_step pick_step source_step x)) k

pub chain_fails : (x : Chain) (db : Tables) (scopes : Scopes) (r : Result Relation NameFault) (fault : NameFault)
    → IsErrAnd r (λ y. y ≡ fault) → Fails fault (meet (out-Chain x).head db scopes) → Gives is_memory r (chain x db scopes)
chain_fails x db scopes r fault g k =
    fails r fault (chain x db scopes) (meet (out-Chain x).head db scopes) (λ t. linked_all t (map chain_link (out-Chain x).tail) db scopes) g (ap (λ (f : Meaning). f db scopes) (fold_out-Chain Condition BaseOf JoinOf Meaning Meaning LinkOf Condition Condition Meaning LinkOf Condition Meaning SourceOf atom_step base_step join_step primary_step chain_step chain_link_step cond_step conj_step meet_step meet_link_step neg_step pick_step source_step x)) k

pub meet_fails : (x : Meet) (db : Tables) (scopes : Scopes) (r : Result Relation NameFault) (fault : NameFault)
    → IsErrAnd r (λ y. y ≡ fault) → Fails fault (primary (out-Meet x).head db scopes) → Gives is_memory r (meet x db scopes)
meet_fails x db scopes r fault g k =
    fails r fault (meet x db scopes) (primary (out-Meet x).head db scopes) (λ t. linked_all t (map meet_link (out-Meet x).tail) db scopes) g (ap (λ (f : Meaning). f db scopes) (fold_out-Meet Condition BaseOf JoinOf Meaning Meaning LinkOf Condition Condition Meaning LinkOf Condition Meaning SourceOf atom_step base_step join_step primary_step chain_step chain_link_step cond_step conj_step meet_step meet_link_step neg_step pick_step source_step x)) k

cond_is : (x : Cond) (db : Tables) (scopes : Scopes) → cond x db scopes ≡ (conj (out-Cond x).head db scopes >>= λ c. gathered (only c) (map conj (out-Cond x).tail) db scopes >>= λ all. Ok (any_of all.conds))
cond_is x db scopes = ap (λ (f : Condition). f db scopes) (fold_out-Cond Condition BaseOf JoinOf Meaning Meaning LinkOf Condition Condition Meaning LinkOf Condition Meaning SourceOf atom_step base_step join_step primary_step chain_step chain_link_step cond_step conj_step meet_step meet_link_step neg_step pick_step source_step x)

cond_begun : (x : Cond) (c : Pred) (start : Members) (members : List Conj) (db : Tables) (scopes : Scopes)
    → conj (out-Cond x).head db scopes ≡ Ok c → start ≡ only c → members ≡ (out-Cond x).tail
    → cond x db scopes ≡ (gathered start (map conj members) db scopes >>= λ all. Ok (any_of all.conds))
cond_begun x c start members db scopes h s m =
    goes (cond x db scopes) (conj (out-Cond x).head db scopes) (λ c. gathered (only c) (map conj (out-Cond x).tail) db scopes >>= λ all. Ok (any_of all.conds)) c (cond_is x db scopes) h
    ∙ ap₂ (λ (a : Members) (ns : List Conj). gathered a (map conj ns) db scopes >>= λ all. Ok (any_of all.conds)) (sym s) (sym m)

pub cond_head_fails : (x : Cond) (db : Tables) (scopes : Scopes) (r : Result Pred NameFault) (fault : NameFault)
    → IsErrAnd r (λ y. y ≡ fault) → Fails fault (conj (out-Cond x).head db scopes) → Gives is_memory r (cond x db scopes)
cond_head_fails x db scopes r fault g k =
    fails r fault (cond x db scopes) (conj (out-Cond x).head db scopes) (λ c. gathered (only c) (map conj (out-Cond x).tail) db scopes >>= λ all. Ok (any_of all.conds)) g (cond_is x db scopes) k

pub cond_tail_fails : (x : Cond) (c : Pred) (start : Members) (members : List Conj) (db : Tables) (scopes : Scopes) (r : Result Pred NameFault) (fault : NameFault)
    → conj (out-Cond x).head db scopes ≡ Ok c → start ≡ only c → members ≡ (out-Cond x).tail
    → IsErrAnd r (λ y. y ≡ fault) → Fails fault (gathered start (map conj members) db scopes) → Gives is_memory r (cond x db scopes)
cond_tail_fails x c start members db scopes r fault h s m g k =
    fails r fault (cond x db scopes) (gathered start (map conj members) db scopes) (λ all. Ok (any_of all.conds)) g (cond_begun x c start members db scopes h s m) k

-- ---- parts that end well

pub cond_done : (x : Cond) (c : Pred) (start all : Members) (members : List Conj) (whole : Pred) (db : Tables) (scopes : Scopes)
    → conj (out-Cond x).head db scopes ≡ Ok c → start ≡ only c → members ≡ (out-Cond x).tail
    → gathered start (map conj members) db scopes ≡ Ok all → whole ≡ any_of all.conds → cond x db scopes ≡ Ok whole
cond_done x c start all members whole db scopes h s m k w =
    goes (cond x db scopes) (gathered start (map conj members) db scopes) (λ all. Ok (any_of all.conds)) all (cond_begun x c start members db scopes h s m) k ∙ ap Ok (sym w)

pub chain_done : (x : Chain) (t : Relation) (members : List ChainLink) (db : Tables) (scopes : Scopes) (r : Result Relation NameFault)
    → meet (out-Chain x).head db scopes ≡ Ok t → members ≡ (out-Chain x).tail
    → Gives is_memory r (linked_all t (map chain_link members) db scopes) → Gives is_memory r (chain x db scopes)
chain_done x t members db scopes r h m g =
    given r (chain x db scopes) (linked_all t (map chain_link members) db scopes)
    (goes (chain x db scopes) (meet (out-Chain x).head db scopes) (λ t. linked_all t (map chain_link (out-Chain x).tail) db scopes) t
    (ap (λ (f : Meaning). f db scopes) (fold_out-Chain Condition BaseOf JoinOf Meaning Meaning LinkOf Condition Condition Meaning LinkOf Condition Meaning SourceOf atom_step base_step join_step primary_step chain_step chain_link_step cond_step conj_step meet_step meet_link_step neg_step pick_step source_step x)) h
    ∙ ap (λ (ls : List ChainLink). linked_all t (map chain_link ls) db scopes) (sym m)) g

pub meet_done : (x : Meet) (t : Relation) (members : List MeetLink) (db : Tables) (scopes : Scopes) (r : Result Relation NameFault)
    → primary (out-Meet x).head db scopes ≡ Ok t → members ≡ (out-Meet x).tail
    → Gives is_memory r (linked_all t (map meet_link members) db scopes) → Gives is_memory r (meet x db scopes)
meet_done x t members db scopes r h m g =
    given r (meet x db scopes) (linked_all t (map meet_link members) db scopes)
    (goes (meet x db scopes) (primary (out-Meet x).head db scopes) (λ t. linked_all t (map meet_link (out-Meet x).tail) db scopes) t
    (ap (λ (f : Meaning). f db scopes) (fold_out-Meet Condition BaseOf JoinOf Meaning Meaning LinkOf Condition Condition Meaning LinkOf Condition Meaning SourceOf atom_step base_step join_step primary_step chain_step chain_link_step cond_step conj_step meet_step meet_link_step neg_step pick_step source_step x)) h
    ∙ ap (λ (ls : List MeetLink). linked_all t (map meet_link ls) db scopes) (sym m)) g
