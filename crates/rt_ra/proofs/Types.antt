-- What a formed text becomes is typed over the schema: by induction over the tree, each layer being
-- the law of its operator.
use Rattle.std.proofs.Common.{◌≡◌, ◌∙◌, ℕ, zero, suc, ◌+◌, true, List, [], ◌∷◌, ◌++◌, map, length, Some, Result, Ok, Err, refl, sym, ap, subst, arith, slice_get}
use Rattle.std.specs.Prelude.{IfOk, codes}
use Rattle.std.proofs.lemmas.List.{length-map}
use Rattle.rt_algebra.specs.Columns as algebra
use Rattle.rt_algebra.specs.Typed.{IsTypedOf}
use Rattle.rt_algebra.specs.declared.typed.Typed.{Typed}
use Rattle.rt_token.specs.Readers.{plain_word}
use Rattle.rt_token.specs.Terminals.{Kinds, flag}
use Rattle.rt_token.specs.Words.{all_formed}
use Rattle.rt_token.specs.declared.fixed.Fixed.TheVariants as fixed
use Rattle.rt_token.specs.declared.terminal.Terminal.TheVariants as terminal
use Rattle.rt_ra.proofs.ConditionLaws.{then-ok}
use Rattle.rt_ra.proofs.Typings.{project-ok, rename-ok, select-ok, table-ok, two-ok}
use Rattle.rt_algebra.proofs.Fitting.{all-fit, table-as}
use Rattle.rt_relation.specs.Columns.{called, texts}
use Rattle.rt_relation.specs.Fault.{◌>>=◌}
use Rattle.rt_ra.specs.OperatorMeaning.{AreTables, HasColumns}
use Rattle.rt_relation.specs.Operators.{two, typed_of}
use Rattle.rt_ra.specs.Unary.{project, rename, select}
use Rattle.rt_relation.specs.declared.column.Column.{Column}
use Rattle.rt_relation.specs.declared.relation.Relation.{Relation}
use Rattle.rt_ra.proofs.Sizes.{formed-front, formed-operands, tests-fit}
use Rattle.rt_ra.specs.Lowered.{Lowering, ra_lowered, relation}
use Rattle.rt_ra.specs.Lowered as lowered
use Rattle.rt_ra_tree.specs.Formed.{IsFormed}
use Rattle.rt_ra_tree.specs.Refusals.{is_memory}
use Rattle.rt_ra_tree.specs.Spelled.{spelled_names, spelled_ra, spelled_tests, word_of_two}
use Rattle.rt_ra_tree.specs.Spelled as spelled
use Rattle.rt_ra_tree.specs.declared.fault.RaFault.{RaFault}
use Rattle.rt_ra_tree.specs.declared.tree.Ra.{Ra}
use Rattle.rt_ra_tree.specs.declared.tree.Ra.TheFolds.{fold-roll-Ra, ind-Ra, map-Ra}
use Rattle.rt_ra_tree.specs.declared.tree.Ra.TheOpen as open_
use Rattle.rt_ra_tree.specs.declared.tree.Ra.TheViews.{roll-Ra}
use Rattle.rt_ra_tree.specs.declared.tree.RaText.{RaText}
use Rattle.rt_schema.specs.Schema.{kinds_of, schema_kinds}
use Rattle.rt_schema.specs.declared.table.Table.{Table}
use Rattle.rt_value.specs.Gives.{Gives}

module _ (tables : List algebra.Columns) (db : List Table) (fit : AreTables tables 0 db) where
  abbrev RaLaw : Ra → Type 0
  RaLaw a = all_formed (spelled_ra a) ≡ true → IfOk (relation a db) (HasColumns tables)

  abbrev Such : Type 0
  Such = (a : Ra) × RaLaw a

  abbrev inner : open_.Ra-F Such → open_.Ra-F Ra
  inner y = map-Ra Such Ra (λ t. t.0) y

  ra-layer : (y : open_.Ra-F Such) → all_formed (spelled.ra_step (map-Ra Ra Kinds spelled_ra (inner y))) ≡ true → IfOk (lowered.ra_step (map-Ra Ra Lowering relation (inner y)) db) (HasColumns tables)
  ra-layer (open_.Table n) f = table-ok tables n.text 0 db fit
  ra-layer (open_.Select a ts) f =
      let both = formed-operands (terminal.Fixed fixed.Select) (spelled_ra a.0) (spelled_tests ts) f in
      then-ok (HasColumns tables) (HasColumns tables) (relation a.0 db) (λ t. select t ts) (a.1 both.0) (λ t h. select-ok tables t ts h (tests-fit ts both.1))
  ra-layer (open_.Project a ns) f =
      let both = formed-operands (plain_word (codes "project")) (spelled_ra a.0) (spelled_names ns) f in
      then-ok (HasColumns tables) (HasColumns tables) (relation a.0 db) (λ t. project t (texts ns)) (a.1 both.0) (λ t h. project-ok tables t (texts ns) h)
  ra-layer (open_.Rename a ns) f =
      let both = formed-operands (plain_word (codes "rename")) (spelled_ra a.0) (spelled_names ns) f in
      then-ok (HasColumns tables) (HasColumns tables) (relation a.0 db) (λ t. rename t (texts ns)) (a.1 both.0) (λ t h. rename-ok tables t (texts ns) h)
  ra-layer (open_.Two o a b) f =
      let both = formed-operands (word_of_two o) (spelled_ra a.0) (spelled_ra b.0) f in
      then-ok (HasColumns tables) (HasColumns tables) (relation a.0 db) (λ t. relation b.0 db >>= λ u. two o t u) (a.1 both.0)
      (λ t h. then-ok (HasColumns tables) (HasColumns tables) (relation b.0 db) (λ u. two o t u) (b.1 both.1) (λ u k. two-ok tables t u h k o))

  ra-rolls : (x : open_.Ra-F Ra) → (all_formed (spelled.ra_step (map-Ra Ra Kinds spelled_ra x)) ≡ true → IfOk (lowered.ra_step (map-Ra Ra Lowering relation x) db) (HasColumns tables)) → RaLaw (roll-Ra x)
  unfolding spelled_ra
  ra-rolls x h f =
      subst (λ (g : Lowering). IfOk (g db) (HasColumns tables)) (sym (fold-roll-Ra Lowering lowered.ra_step x))
      (h (subst (λ (ks : Kinds). all_formed ks ≡ true) (fold-roll-Ra Kinds spelled.ra_step x) f))

  ra-typed : (a : Ra) → RaLaw a
  ra-typed = ind-Ra RaLaw (λ x y is. subst (λ z. RaLaw (roll-Ra z)) is (ra-rolls (inner y) (ra-layer y)))

-- ---- the tables of a schema

table-at : (front : List algebra.Columns) (cs : algebra.Columns) (rest : List algebra.Columns) (at : ℕ) → length front ≡ at → slice_get (front ++ cs ∷ rest) at ≡ Some cs
table-at [] cs rest zero h = refl
table-at [] cs rest (suc at) h = absurd (omega arith)
table-at (x ∷ front) cs rest zero h = absurd (omega arith)
table-at (x ∷ front) cs rest (suc at) h = table-at front cs rest at (omega arith)

shift-tables : (front : List algebra.Columns) (cs : algebra.Columns) (rest : List algebra.Columns) → front ++ cs ∷ rest ≡ (front ++ cs ∷ []) ++ rest
shift-tables [] cs rest = refl
shift-tables (x ∷ front) cs rest = ap (λ (l : List algebra.Columns). x ∷ l) (shift-tables front cs rest)

longer : (front : List algebra.Columns) (cs : algebra.Columns) (at : ℕ) → length front ≡ at → length (front ++ cs ∷ []) ≡ at + 1
longer [] cs at h = omega (arith, h)
longer (x ∷ front) cs zero h = absurd (omega arith)
longer (x ∷ front) cs (suc at) h = let e = longer front cs at (omega arith) in omega (arith, e)

schema-tables : (ts : List Table) (front : List algebra.Columns) (at : ℕ) → length front ≡ at → AreTables (front ++ algebra.table_columns (schema_kinds ts)) at ts
schema-tables [] front at f = tt
schema-tables (t ∷ ts) front at f =
    let own = map algebra.table_column (kinds_of t.columns) in
    let rest = algebra.table_columns (schema_kinds ts) in (
      table-at front own rest at f ∙ ap (λ (cs : algebra.Columns). Some cs) (table-as Column (λ c. c.kind) (λ c. c.bound) called (λ n k b. refl) (λ n k b. refl) t.columns),
      subst (λ (l : List algebra.Columns). AreTables l (at + 1) ts) (sym (shift-tables front own rest)) (schema-tables ts (front ++ own ∷ []) (at + 1) (longer front own at f)),
    )

relation-typed : (db : List Table) (r : Relation) → HasColumns (algebra.table_columns (schema_kinds db)) r → IsTypedOf db (typed_of r)
relation-typed db r h = record {
  columns = rw (h []) (all-fit Column (λ c. c.kind) (λ c. c.bound) r.columns);
  names = length-map r.columns (λ c. Some c.name) ∙ sym (length-map r.columns (λ c. c.kind));
}

lowered-typed : (text : RaText) (db : List Table) → IsFormed text → IfOk (ra_lowered text db) (IsTypedOf db)
lowered-typed text db f = then-ok (HasColumns (algebra.table_columns (schema_kinds db))) (IsTypedOf db) (relation text.of db) (λ r. Ok (typed_of r))
    (ra-typed (algebra.table_columns (schema_kinds db)) db (schema-tables db [] 0 refl) text.of (formed-front (spelled_ra text.of) (flag fixed.Semicolon text.semi) f.0)) (λ r h. relation-typed db r h)

pub given-typed : (text : RaText) (db : List Table) (r : Result Typed RaFault) → Gives is_memory r (ra_lowered text db) → IsFormed text → IfOk r (IsTypedOf db)
given-typed text db (Ok q) g f = subst (λ (d : Result Typed RaFault). IfOk d (IsTypedOf db)) g (lowered-typed text db f)
given-typed text db (Err e) g f = tt
