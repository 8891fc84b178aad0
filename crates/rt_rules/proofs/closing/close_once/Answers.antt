use Rattle.std.proofs.Common.{◌≡◌, ◌∙◌, List, true, take_all, get_or, subst, arith}
use Rattle.std.specs.List.{All as Each}
use Rattle.rt_formula.specs.Under.{is_marked}
use Rattle.rt_rules.specs.declared.links.Link.{Link}
use Rattle.rt_rules.specs.Cone.{link}
use Rattle.rt_rules.proofs.LinkLemmas.{any-default}
use Rattle.rt_rules.proofs.SetLemmas.{item-closed, met-more}
use Rattle.rt_rules.proofs.closing.close_once.Goals as goal

pub loop-link-preserved : goal.loop-link-preserved
loop-link-preserved c =
    let v = c.loop-link.invariant in
    let k = c.follow.ensures in
    let links = c.args.links.now in
    let at = c.loop-link.link-index in
    let l = get_or links at (link 0 0) in
    let is : l ≡ get_or links at l = any-default links at (link 0 0) l c.loop-link-test.true in
    record {
      len = k.len ∙ v.len;
      stay = λ n h. k.stay n (v.stay n h);
      met = met-more c.args.set.now c.loop-link.set c.follow.new.set links at l c.loop-link-test.true is v.stay k.stay k.met v.met;
      least = λ others s h. k.least others (v.least others s h) (item-closed others links at l c.loop-link-test.true is h);
    }

pub returns-clause-met : goal.returns-clause-met
returns-clause-met c =
    let E : List Link → Type 0 = Each (λ k. is_marked c.args.set.now k.from ≡ true → is_marked c.loop-link.set k.to ≡ true) in
    subst E (take_all c.loop-link.link-index c.args.links.now (let t = c.loop-link-test.false in omega arith)) c.loop-link.invariant.met
