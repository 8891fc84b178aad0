-- What a tree's terminals are, one level at a time.
use Rattle.std.proofs.Common.{◌∙◌, ap, sym, refl}
use Rattle.std.specs.Prelude.{◌≡◌, ℕ, ℤ, Bool, List, [], ◌∷◌, ◌++◌, map, Option, Some, None, replicate}
use Rattle.std.specs.List.{flat_map}
use Rattle.rt_token.specs.declared.fixed.Fixed.{Fixed}
use Rattle.rt_token.specs.declared.fixed.Fixed.TheVariants as fixed
use Rattle.rt_token.specs.declared.terminal.Name.{Name}
use Rattle.rt_token.specs.declared.terminal.Terminal.TheVariants as terminal
use Rattle.rt_token.specs.Terminals.{Kinds, flag, in_paren, maybe}
use Rattle.rt_tree.specs.declared.tree.Alias.{Alias}
use Rattle.rt_tree.specs.declared.tree.Items.{Items}
use Rattle.rt_tree.specs.declared.tree.Op.{Op}
use Rattle.rt_tree.specs.declared.tree.Leaf.TheOpen as open_sum
use Rattle.rt_tree.specs.declared.tree.Atom.TheOpen as open_
use Rattle.rt_tree.specs.declared.tree.Leaf.{Leaf, fold-roll-Leaf}
use Rattle.rt_tree.specs.declared.tree.Factor.{Factor, fold-roll-Factor, roll-Factor}
use Rattle.rt_tree.specs.declared.tree.Mul.{Mul, fold-roll-Mul, roll-Mul}
use Rattle.rt_tree.specs.declared.tree.Sum.{Sum, fold-roll-Sum, roll-Sum}
use Rattle.rt_tree.specs.declared.tree.SumLink.{SumLink, fold-roll-SumLink, roll-SumLink}
use Rattle.rt_tree.specs.declared.tree.Atom.{Atom, fold-roll-Atom}
use Rattle.rt_tree.specs.declared.tree.Base.{Base, fold-roll-Base}
use Rattle.rt_tree.specs.declared.tree.Join.{Join, fold-roll-Join}
use Rattle.rt_tree.specs.declared.tree.Primary.{Primary, fold-roll-Primary}
use Rattle.rt_tree.specs.declared.tree.Chain.{Chain, fold-roll-Chain, roll-Chain}
use Rattle.rt_tree.specs.declared.tree.ChainLink.{ChainLink, fold-roll-ChainLink, roll-ChainLink}
use Rattle.rt_tree.specs.declared.tree.Cond.{Cond, fold-roll-Cond, roll-Cond}
use Rattle.rt_tree.specs.declared.tree.Conj.{Conj, fold-roll-Conj, roll-Conj}
use Rattle.rt_tree.specs.declared.tree.Meet.{Meet, fold-roll-Meet, roll-Meet}
use Rattle.rt_tree.specs.declared.tree.MeetLink.{MeetLink, fold-roll-MeetLink, roll-MeetLink}
use Rattle.rt_tree.specs.declared.tree.Neg.{Neg, fold-roll-Neg, roll-Neg}
use Rattle.rt_tree.specs.declared.tree.Pick.{Pick, fold-roll-Pick, roll-Pick}
use Rattle.rt_tree.specs.declared.tree.Source.{Source, fold-roll-Source, roll-Source}
use Rattle.rt_tree.specs.declared.tree.Leaf.TheVariants as leaf
use Rattle.rt_tree.specs.declared.tree.Atom.TheVariants as atom
use Rattle.rt_tree.specs.declared.tree.Base.TheVariants as base
use Rattle.rt_tree.specs.declared.tree.Join.TheVariants as join
use Rattle.rt_tree.specs.declared.tree.Primary.TheVariants as primary
use Rattle.rt_tree.specs.Spelled.{atom_step, base_step, chain_link_step, chain_step, cond_step, conj_step, factor_step, join_step, joined, leaf_step, led, meet_link_step, meet_step, mul_step, neg_step, op_sign, pick_step, primary_step, sign, source_step, spelled_alias, spelled_atom, spelled_base, spelled_chain, spelled_chain_link, spelled_col, spelled_cond, spelled_conj, spelled_factor, spelled_items, spelled_join, spelled_leaf, spelled_meet, spelled_meet_link, spelled_mul, spelled_neg, spelled_pick, spelled_primary, spelled_source, spelled_sum, spelled_sum_link, spelled_sums, spelled_where, sum_link_step, sum_step, union_word}

pub joined-map : {X : Type 0} (f : X → Kinds) (xs : List X) → joined (map f xs) ≡ flat_map f xs
joined-map f [] = refl
joined-map f (x ∷ xs) = ap (λ (ks : Kinds). f x ++ ks) (joined-map f xs)

pub led-map : {X : Type 0} (t : Fixed) (f : X → Kinds) (xs : List X) → led t (map f xs) ≡ flat_map (λ x. terminal.Fixed t ∷ f x) xs
led-map t f [] = refl
led-map t f (x ∷ xs) = ap (λ (ks : Kinds). terminal.Fixed t ∷ (f x ++ ks)) (led-map t f xs)

pub spelled-Number : (n : ℤ) → spelled_leaf (leaf.Number n) ≡ terminal.Number n ∷ []
unfolding spelled_leaf
spelled-Number n = ap (λ (x : Leaf). spelled_leaf x) (sym (leaf.rolls-Number n)) ∙ fold-roll-Leaf Kinds Kinds Kinds Kinds Kinds leaf_step factor_step mul_step sum_step sum_link_step (open_sum.Number n)

pub spelled-Str : (t : List ℕ) → spelled_leaf (leaf.Str t) ≡ terminal.Str t ∷ []
unfolding spelled_leaf
spelled-Str t = ap (λ (x : Leaf). spelled_leaf x) (sym (leaf.rolls-Str t)) ∙ fold-roll-Leaf Kinds Kinds Kinds Kinds Kinds leaf_step factor_step mul_step sum_step sum_link_step (open_sum.Str t)

pub spelled-Null : spelled_leaf leaf.Null ≡ terminal.Fixed fixed.Null ∷ []
unfolding spelled_leaf
spelled-Null = ap (λ (x : Leaf). spelled_leaf x) (sym leaf.rolls-Null) ∙ fold-roll-Leaf Kinds Kinds Kinds Kinds Kinds leaf_step factor_step mul_step sum_step sum_link_step open_sum.Null

pub spelled-Col : (q : Option Name) (n : Name) → spelled_leaf (leaf.Col q n) ≡ spelled_col q n
unfolding spelled_leaf
spelled-Col q n = ap (λ (x : Leaf). spelled_leaf x) (sym (leaf.rolls-Col q n)) ∙ fold-roll-Leaf Kinds Kinds Kinds Kinds Kinds leaf_step factor_step mul_step sum_step sum_link_step (open_sum.Col q n)

pub spelled-SumParen : (s : Sum) → spelled_leaf (leaf.Paren s) ≡ in_paren (spelled_sum s)
unfolding spelled_leaf spelled_sum
spelled-SumParen s = ap (λ (x : Leaf). spelled_leaf x) (sym (leaf.rolls-Paren s)) ∙ fold-roll-Leaf Kinds Kinds Kinds Kinds Kinds leaf_step factor_step mul_step sum_step sum_link_step (open_sum.Paren s)

pub spelled-Factor : (n : ℕ) (l : Leaf) → spelled_factor (roll-Factor (record { minuses = n; of = l })) ≡ replicate n (terminal.Fixed fixed.Minus) ++ spelled_leaf l
unfolding spelled_factor spelled_leaf
spelled-Factor n l = fold-roll-Factor Kinds Kinds Kinds Kinds Kinds leaf_step factor_step mul_step sum_step sum_link_step (record { minuses = n; of = l })

pub spelled-Mul : (u : Factor) (us : List Factor) → spelled_mul (roll-Mul (record { head = u; tail = us })) ≡ spelled_factor u ++ flat_map (λ v. terminal.Fixed fixed.Star ∷ spelled_factor v) us
unfolding spelled_mul spelled_factor
spelled-Mul u us = fold-roll-Mul Kinds Kinds Kinds Kinds Kinds leaf_step factor_step mul_step sum_step sum_link_step (record { head = u; tail = us }) ∙ ap (λ (ks : Kinds). spelled_factor u ++ ks) (led-map fixed.Star spelled_factor us)

pub spelled-SumLink : (b : Bool) (m : Mul) → spelled_sum_link (roll-SumLink (record { minus = b; of = m })) ≡ terminal.Fixed (sign b) ∷ spelled_mul m
unfolding spelled_sum_link spelled_mul
spelled-SumLink b m = fold-roll-SumLink Kinds Kinds Kinds Kinds Kinds leaf_step factor_step mul_step sum_step sum_link_step (record { minus = b; of = m })

pub spelled-Sum : (m : Mul) (ls : List SumLink) → spelled_sum (roll-Sum (record { head = m; tail = ls })) ≡ spelled_mul m ++ flat_map spelled_sum_link ls
unfolding spelled_sum spelled_mul spelled_sum_link
spelled-Sum m ls = fold-roll-Sum Kinds Kinds Kinds Kinds Kinds leaf_step factor_step mul_step sum_step sum_link_step (record { head = m; tail = ls }) ∙ ap (λ (ks : Kinds). spelled_mul m ++ ks) (joined-map spelled_sum_link ls)

pub spelled-Cmp : (a : Sum) (o : Op) (b : Sum) → spelled_atom (atom.Cmp a o b) ≡ spelled_sum a ++ (terminal.Fixed (op_sign o) ∷ spelled_sum b)
unfolding spelled_atom
spelled-Cmp a o b = ap (λ (x : Atom). spelled_atom x) (sym (atom.rolls-Cmp a o b)) ∙ fold-roll-Atom Kinds Kinds Kinds Kinds Kinds Kinds Kinds Kinds Kinds Kinds Kinds Kinds Kinds atom_step base_step join_step primary_step chain_step chain_link_step cond_step conj_step meet_step meet_link_step neg_step pick_step source_step (open_.Cmp a o b)

pub spelled-IsNull : (a : Sum) (n : Bool) → spelled_atom (atom.IsNull a n) ≡ spelled_sum a ++ (terminal.Fixed fixed.Is ∷ (flag fixed.Not n ++ terminal.Fixed fixed.Null ∷ []))
unfolding spelled_atom
spelled-IsNull a n = ap (λ (x : Atom). spelled_atom x) (sym (atom.rolls-IsNull a n)) ∙ fold-roll-Atom Kinds Kinds Kinds Kinds Kinds Kinds Kinds Kinds Kinds Kinds Kinds Kinds Kinds atom_step base_step join_step primary_step chain_step chain_link_step cond_step conj_step meet_step meet_link_step neg_step pick_step source_step (open_.IsNull a n)

pub spelled-InChain : (a : Sum) (n : Bool) (q : Chain) → spelled_atom (atom.InChain a n q) ≡ spelled_sum a ++ (flag fixed.Not n ++ terminal.Fixed fixed.In ∷ in_paren (spelled_chain q))
unfolding spelled_atom spelled_chain
spelled-InChain a n q = ap (λ (x : Atom). spelled_atom x) (sym (atom.rolls-InChain a n q)) ∙ fold-roll-Atom Kinds Kinds Kinds Kinds Kinds Kinds Kinds Kinds Kinds Kinds Kinds Kinds Kinds atom_step base_step join_step primary_step chain_step chain_link_step cond_step conj_step meet_step meet_link_step neg_step pick_step source_step (open_.InChain a n q)

pub spelled-InList : (a : Sum) (n : Bool) (s : Sum) (ss : List Sum) → spelled_atom (atom.InList a n s ss) ≡ spelled_sum a ++ (flag fixed.Not n ++ terminal.Fixed fixed.In ∷ in_paren (spelled_sums s ss))
unfolding spelled_atom
spelled-InList a n s ss = ap (λ (x : Atom). spelled_atom x) (sym (atom.rolls-InList a n s ss)) ∙ fold-roll-Atom Kinds Kinds Kinds Kinds Kinds Kinds Kinds Kinds Kinds Kinds Kinds Kinds Kinds atom_step base_step join_step primary_step chain_step chain_link_step cond_step conj_step meet_step meet_link_step neg_step pick_step source_step (open_.InList a n s ss)

pub spelled-Between : (a : Sum) (n : Bool) (b : Sum) (c : Sum) → spelled_atom (atom.Between a n b c) ≡ spelled_sum a ++ (flag fixed.Not n ++ terminal.Fixed fixed.Between ∷ (spelled_sum b ++ terminal.Fixed fixed.And ∷ spelled_sum c))
unfolding spelled_atom
spelled-Between a n b c = ap (λ (x : Atom). spelled_atom x) (sym (atom.rolls-Between a n b c)) ∙ fold-roll-Atom Kinds Kinds Kinds Kinds Kinds Kinds Kinds Kinds Kinds Kinds Kinds Kinds Kinds atom_step base_step join_step primary_step chain_step chain_link_step cond_step conj_step meet_step meet_link_step neg_step pick_step source_step (open_.Between a n b c)

pub spelled-Exists : (q : Chain) → spelled_atom (atom.Exists q) ≡ terminal.Fixed fixed.Exists ∷ in_paren (spelled_chain q)
unfolding spelled_atom spelled_chain
spelled-Exists q = ap (λ (x : Atom). spelled_atom x) (sym (atom.rolls-Exists q)) ∙ fold-roll-Atom Kinds Kinds Kinds Kinds Kinds Kinds Kinds Kinds Kinds Kinds Kinds Kinds Kinds atom_step base_step join_step primary_step chain_step chain_link_step cond_step conj_step meet_step meet_link_step neg_step pick_step source_step (open_.Exists q)

pub spelled-CondParen : (c : Cond) → spelled_atom (atom.Paren c) ≡ in_paren (spelled_cond c)
unfolding spelled_atom spelled_cond
spelled-CondParen c = ap (λ (x : Atom). spelled_atom x) (sym (atom.rolls-Paren c)) ∙ fold-roll-Atom Kinds Kinds Kinds Kinds Kinds Kinds Kinds Kinds Kinds Kinds Kinds Kinds Kinds atom_step base_step join_step primary_step chain_step chain_link_step cond_step conj_step meet_step meet_link_step neg_step pick_step source_step (open_.Atom::Paren c)

pub spelled-Neg : (n : ℕ) (a : Atom) → spelled_neg (roll-Neg (record { nots = n; atom = a })) ≡ replicate n (terminal.Fixed fixed.Not) ++ spelled_atom a
unfolding spelled_neg spelled_atom
spelled-Neg n a = fold-roll-Neg Kinds Kinds Kinds Kinds Kinds Kinds Kinds Kinds Kinds Kinds Kinds Kinds Kinds atom_step base_step join_step primary_step chain_step chain_link_step cond_step conj_step meet_step meet_link_step neg_step pick_step source_step (record { nots = n; atom = a })

pub spelled-Conj : (h : Neg) (t : List Neg) → spelled_conj (roll-Conj (record { head = h; tail = t })) ≡ spelled_neg h ++ flat_map (λ x. terminal.Fixed fixed.And ∷ spelled_neg x) t
unfolding spelled_conj spelled_neg
spelled-Conj h t = fold-roll-Conj Kinds Kinds Kinds Kinds Kinds Kinds Kinds Kinds Kinds Kinds Kinds Kinds Kinds atom_step base_step join_step primary_step chain_step chain_link_step cond_step conj_step meet_step meet_link_step neg_step pick_step source_step (record { head = h; tail = t }) ∙ ap (λ (ks : Kinds). spelled_neg h ++ ks) (led-map fixed.And spelled_neg t)

pub spelled-Cond : (h : Conj) (t : List Conj) → spelled_cond (roll-Cond (record { head = h; tail = t })) ≡ spelled_conj h ++ flat_map (λ x. terminal.Fixed fixed.Or ∷ spelled_conj x) t
unfolding spelled_cond spelled_conj
spelled-Cond h t = fold-roll-Cond Kinds Kinds Kinds Kinds Kinds Kinds Kinds Kinds Kinds Kinds Kinds Kinds Kinds atom_step base_step join_step primary_step chain_step chain_link_step cond_step conj_step meet_step meet_link_step neg_step pick_step source_step (record { head = h; tail = t }) ∙ ap (λ (ks : Kinds). spelled_conj h ++ ks) (led-map fixed.Or spelled_conj t)

pub spelled-Named : (n : Name) (a : Option Alias) → spelled_base (base.Named n a) ≡ terminal.Name n ∷ maybe spelled_alias a
unfolding spelled_base
spelled-Named n a = ap (λ (x : Base). spelled_base x) (sym (base.rolls-Named n a)) ∙ fold-roll-Base Kinds Kinds Kinds Kinds Kinds Kinds Kinds Kinds Kinds Kinds Kinds Kinds Kinds atom_step base_step join_step primary_step chain_step chain_link_step cond_step conj_step meet_step meet_link_step neg_step pick_step source_step (open_.Named n a)

pub spelled-Sub : (q : Chain) (a : Alias) → spelled_base (base.Sub q a) ≡ in_paren (spelled_chain q) ++ spelled_alias a
unfolding spelled_base spelled_chain
spelled-Sub q a = ap (λ (x : Base). spelled_base x) (sym (base.rolls-Sub q a)) ∙ fold-roll-Base Kinds Kinds Kinds Kinds Kinds Kinds Kinds Kinds Kinds Kinds Kinds Kinds Kinds atom_step base_step join_step primary_step chain_step chain_link_step cond_step conj_step meet_step meet_link_step neg_step pick_step source_step (open_.Sub q a)

pub spelled-Plain : (b : Base) (c : Cond) → spelled_join (join.Plain b c) ≡ terminal.Fixed fixed.Join ∷ (spelled_base b ++ terminal.Fixed fixed.On ∷ spelled_cond c)
unfolding spelled_join spelled_base spelled_cond
spelled-Plain b c = ap (λ (x : Join). spelled_join x) (sym (join.rolls-Plain b c)) ∙ fold-roll-Join Kinds Kinds Kinds Kinds Kinds Kinds Kinds Kinds Kinds Kinds Kinds Kinds Kinds atom_step base_step join_step primary_step chain_step chain_link_step cond_step conj_step meet_step meet_link_step neg_step pick_step source_step (open_.Plain b c)

pub spelled-Inner : (b : Base) (c : Cond) → spelled_join (join.Inner b c) ≡ terminal.Fixed fixed.Inner ∷ (terminal.Fixed fixed.Join ∷ (spelled_base b ++ terminal.Fixed fixed.On ∷ spelled_cond c))
unfolding spelled_join spelled_base spelled_cond
spelled-Inner b c = ap (λ (x : Join). spelled_join x) (sym (join.rolls-Inner b c)) ∙ fold-roll-Join Kinds Kinds Kinds Kinds Kinds Kinds Kinds Kinds Kinds Kinds Kinds Kinds Kinds atom_step base_step join_step primary_step chain_step chain_link_step cond_step conj_step meet_step meet_link_step neg_step pick_step source_step (open_.Inner b c)

pub spelled-Cross : (b : Base) → spelled_join (join.Cross b) ≡ terminal.Fixed fixed.Cross ∷ (terminal.Fixed fixed.Join ∷ spelled_base b)
unfolding spelled_join spelled_base
spelled-Cross b = ap (λ (x : Join). spelled_join x) (sym (join.rolls-Cross b)) ∙ fold-roll-Join Kinds Kinds Kinds Kinds Kinds Kinds Kinds Kinds Kinds Kinds Kinds Kinds Kinds atom_step base_step join_step primary_step chain_step chain_link_step cond_step conj_step meet_step meet_link_step neg_step pick_step source_step (open_.Cross b)

pub spelled-Source : (h : Base) (t : List Join) → spelled_source (roll-Source (record { head = h; joins = t })) ≡ spelled_base h ++ flat_map spelled_join t
unfolding spelled_source spelled_base spelled_join
spelled-Source h t = fold-roll-Source Kinds Kinds Kinds Kinds Kinds Kinds Kinds Kinds Kinds Kinds Kinds Kinds Kinds atom_step base_step join_step primary_step chain_step chain_link_step cond_step conj_step meet_step meet_link_step neg_step pick_step source_step (record { head = h; joins = t }) ∙ ap (λ (ks : Kinds). spelled_base h ++ ks) (joined-map spelled_join t)

pub spelled-Pick : (d : Bool) (i : Items) (h : Source) (t : List Source) (c : Option Cond) → spelled_pick (roll-Pick (record { distinct = d; items = i; head = h; tail = t; cond = c })) ≡ terminal.Fixed fixed.Select ∷ (flag fixed.Distinct d ++ (spelled_items i ++ terminal.Fixed fixed.From ∷ ((spelled_source h ++ flat_map (λ x. terminal.Fixed fixed.Comma ∷ spelled_source x) t) ++ spelled_where c)))
unfolding spelled_pick spelled_source spelled_cond
spelled-Pick d i h t None = fold-roll-Pick Kinds Kinds Kinds Kinds Kinds Kinds Kinds Kinds Kinds Kinds Kinds Kinds Kinds atom_step base_step join_step primary_step chain_step chain_link_step cond_step conj_step meet_step meet_link_step neg_step pick_step source_step (record { distinct = d; items = i; head = h; tail = t; cond = None }) ∙ ap (λ (ks : Kinds). terminal.Fixed fixed.Select ∷ (flag fixed.Distinct d ++ (spelled_items i ++ terminal.Fixed fixed.From ∷ ((spelled_source h ++ ks) ++ [])))) (led-map fixed.Comma spelled_source t)
spelled-Pick d i h t (Some c) = fold-roll-Pick Kinds Kinds Kinds Kinds Kinds Kinds Kinds Kinds Kinds Kinds Kinds Kinds Kinds atom_step base_step join_step primary_step chain_step chain_link_step cond_step conj_step meet_step meet_link_step neg_step pick_step source_step (record { distinct = d; items = i; head = h; tail = t; cond = Some c }) ∙ ap (λ (ks : Kinds). terminal.Fixed fixed.Select ∷ (flag fixed.Distinct d ++ (spelled_items i ++ terminal.Fixed fixed.From ∷ ((spelled_source h ++ ks) ++ (terminal.Fixed fixed.Where ∷ spelled_cond c))))) (led-map fixed.Comma spelled_source t)

pub spelled-One : (p : Pick) → spelled_primary (primary.One p) ≡ spelled_pick p
unfolding spelled_primary spelled_pick
spelled-One p = ap (λ (x : Primary). spelled_primary x) (sym (primary.rolls-One p)) ∙ fold-roll-Primary Kinds Kinds Kinds Kinds Kinds Kinds Kinds Kinds Kinds Kinds Kinds Kinds Kinds atom_step base_step join_step primary_step chain_step chain_link_step cond_step conj_step meet_step meet_link_step neg_step pick_step source_step (open_.One p)

pub spelled-ChainParen : (c : Chain) → spelled_primary (primary.Paren c) ≡ in_paren (spelled_chain c)
unfolding spelled_primary spelled_chain
spelled-ChainParen c = ap (λ (x : Primary). spelled_primary x) (sym (primary.rolls-Paren c)) ∙ fold-roll-Primary Kinds Kinds Kinds Kinds Kinds Kinds Kinds Kinds Kinds Kinds Kinds Kinds Kinds atom_step base_step join_step primary_step chain_step chain_link_step cond_step conj_step meet_step meet_link_step neg_step pick_step source_step (open_.Primary::Paren c)

pub spelled-MeetLink : (d : Bool) (p : Primary) → spelled_meet_link (roll-MeetLink (record { distinct = d; of = p })) ≡ terminal.Fixed fixed.Intersect ∷ (flag fixed.Distinct d ++ spelled_primary p)
unfolding spelled_meet_link spelled_primary
spelled-MeetLink d p = fold-roll-MeetLink Kinds Kinds Kinds Kinds Kinds Kinds Kinds Kinds Kinds Kinds Kinds Kinds Kinds atom_step base_step join_step primary_step chain_step chain_link_step cond_step conj_step meet_step meet_link_step neg_step pick_step source_step (record { distinct = d; of = p })

pub spelled-Meet : (h : Primary) (t : List MeetLink) → spelled_meet (roll-Meet (record { head = h; tail = t })) ≡ spelled_primary h ++ flat_map spelled_meet_link t
unfolding spelled_meet spelled_primary spelled_meet_link
spelled-Meet h t = fold-roll-Meet Kinds Kinds Kinds Kinds Kinds Kinds Kinds Kinds Kinds Kinds Kinds Kinds Kinds atom_step base_step join_step primary_step chain_step chain_link_step cond_step conj_step meet_step meet_link_step neg_step pick_step source_step (record { head = h; tail = t }) ∙ ap (λ (ks : Kinds). spelled_primary h ++ ks) (joined-map spelled_meet_link t)

pub spelled-ChainLink : (e : Bool) (d : Bool) (m : Meet) → spelled_chain_link (roll-ChainLink (record { except = e; distinct = d; of = m })) ≡ terminal.Fixed (union_word e) ∷ (flag fixed.Distinct d ++ spelled_meet m)
unfolding spelled_chain_link spelled_meet
spelled-ChainLink e d m = fold-roll-ChainLink Kinds Kinds Kinds Kinds Kinds Kinds Kinds Kinds Kinds Kinds Kinds Kinds Kinds atom_step base_step join_step primary_step chain_step chain_link_step cond_step conj_step meet_step meet_link_step neg_step pick_step source_step (record { except = e; distinct = d; of = m })

pub spelled-Chain : (h : Meet) (t : List ChainLink) → spelled_chain (roll-Chain (record { head = h; tail = t })) ≡ spelled_meet h ++ flat_map spelled_chain_link t
unfolding spelled_chain spelled_meet spelled_chain_link
spelled-Chain h t = fold-roll-Chain Kinds Kinds Kinds Kinds Kinds Kinds Kinds Kinds Kinds Kinds Kinds Kinds Kinds atom_step base_step join_step primary_step chain_step chain_link_step cond_step conj_step meet_step meet_link_step neg_step pick_step source_step (record { head = h; tail = t }) ∙ ap (λ (ks : Kinds). spelled_meet h ++ ks) (joined-map spelled_chain_link t)
