use Rattle.std.proofs.Common.{◌≡◌, ◌+◌, ◌<◌, ◌++◌, ◌∷◌, [], ◌∙◌, true, List, sym, ap, subst, length, length-append, arith}
use Rattle.rt_clause.specs.Literal.{Literal}
use Rattle.rt_totalizer.specs.Sums.{IsSum}
use Rattle.rt_totalizer.proofs.Growing.{sum-first, sum-output, sum-never}
use Rattle.rt_totalizer.proofs.merge.merge_some.Goals as goal

pub loop-k-init : goal.loop-k-init
loop-k-init g c =
    let a = c.args in
    let lines = g.A.Adds.lines a.to.now in
    let e : c.push.new.self ≡ c.negated.result ∷ [] = c.in_ok-push.ensures.ok ∙ ap (λ (ls : List Literal). ls ++ c.negated.result ∷ []) c.new-list.ensures in
    let P : List Literal → Type 0 = λ ls. IsSum a.never a.left.now.list a.left.now.most a.right.now.list a.right.now.most a.next.now lines ls (a.left.now.most + a.right.now.most) a.next.now lines in
    record {
      len = ap length e;
      few = c.requires.few;
      sum = subst P (sym (e ∙ ap (λ (l : Literal). l ∷ []) c.negated.ensures))
          (sum-first a.never a.left.now.list a.left.now.most a.right.now.list a.right.now.most a.next.now lines c.requires.never c.requires.var);
    }

pub loop-k-preserved-then-k-most : goal.loop-k-preserved-then-k-most
loop-k-preserved-then-k-most g c =
    let a = c.args in
    let v = c.loop-k.invariant in
    let lines = g.A.Adds.lines a.to.now in
    let P : List Literal → Type 0 = λ ls. IsSum a.never a.left.now.list a.left.now.most a.right.now.list a.right.now.most a.next.now lines ls (a.left.now.most + a.right.now.most) c.loop-k.next (g.A.Adds.lines c.loop-k.to) in
    record {
      len = (let n = ap length c.in_ok-push-2.ensures.ok in let l = length-append c.loop-k.list (a.never ∷ []) in let k = v.len in omega (arith, n, l, k));
      few = v.few;
      sum = subst P (sym c.in_ok-push-2.ensures.ok)
          (sum-never a.never a.left.now.list a.left.now.most a.right.now.list a.right.now.most a.next.now lines c.loop-k.list c.loop-k.next (g.A.Adds.lines c.loop-k.to) c.loop-k.k
          c.requires.never c.requires.var v.sum v.len (let t = c.if-k-most.true in omega (arith, t)));
    }

pub loop-k-preserved : goal.loop-k-preserved
loop-k-preserved g c =
    let a = c.args in
    let v = c.loop-k.invariant in
    let lines = g.A.Adds.lines a.to.now in
    let left : c.loop-k.k < length a.left.now.list = (let t = c.loop-k-test.true in let n = c.len-k-end.ensures in omega (arith, t, n)) in
    let right : c.loop-k.k < length a.right.now.list = (let s = c.requires.same in omega (arith, left, s)) in
    let out : c.of-out.result ≡ record { var = c.loop-k.next; on = true } = (let x = c.of-out.ensures.var in let o = c.of-out.ensures.on in λ i. record { var = x i; on = o i }) in
    let w = c.in_ok-merging.ensures in
    let P : List Literal → Type 0 = λ ls. IsSum a.never a.left.now.list a.left.now.most a.right.now.list a.right.now.most a.next.now lines ls (a.left.now.most + a.right.now.most) (c.loop-k.next + 1) (g.A.Adds.lines c.merging.new.to) in
    let Q : List (List Literal) → Type 0 = λ ls. IsSum a.never a.left.now.list a.left.now.most a.right.now.list a.right.now.most a.next.now lines (c.loop-k.list ++ c.of-out.result ∷ []) (a.left.now.most + a.right.now.most) (c.loop-k.next + 1) ls in
    record {
      len = (let n = ap length c.in_ok-push-3.ensures.ok in let l = length-append c.loop-k.list (c.of-out.result ∷ []) in let k = v.len in omega (arith, n, l, k));
      few = (let t = c.if-var-ge-MOST_VARIABLES.false in omega (arith, t));
      sum = subst P (sym c.in_ok-push-3.ensures.ok) (subst Q (sym w.1)
          (sum-output a.never a.left.now.list a.left.now.most a.right.now.list a.right.now.most a.next.now lines c.loop-k.list c.loop-k.next (g.A.Adds.lines c.loop-k.to) w.0 c.loop-k.k c.of-out.result
          c.requires.never c.requires.var v.sum v.len (let k = c.loop-k.auto.k in omega (arith, k)) left right (let t = c.if-k-most.false in omega (arith, t)) out w.2));
    }
