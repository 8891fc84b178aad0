use Rattle.std.proofs.Common.{ap, sym}
use Rattle.std.proofs.lemmas.Result.{IfOk-weaker}
use Rattle.rt_noted.specs.Annotated.{set_rows}
use Rattle.rt_noted.proofs.Distinct.{noted_at}
use Rattle.rt_noted.proofs.Growing.{grown_refl}
use Rattle.rt_noted.proofs.Layers.{gives_append, gives_as, gives_same, gives_sifted}
use Rattle.rt_annot.proofs.sets.set_rows.Goals as goal

pub sifted-requires-clause-from : goal.sifted-requires-clause-from
sifted-requires-clause-from c = noted_at c.args.dag.now c.as_slice.ensures c.requires.first

pub returns-in-Some-clause-gives : goal.returns-in-Some-clause-gives
returns-in-Some-clause-gives c =
    IfOk-weaker c.sifted.result _ _
    (λ out h f g i j. gives_as (λ s. set_rows c.args.side (f s) (g s)) (λ s. ap (λ side. set_rows side (f s) (g s)) (sym c.in-Some.is)) (gives_sifted c.in-Some.side (gives_same c.as_slice.ensures i) j h)) c.sifted.ensures.reads

pub returns-in-None-clause-grown : goal.returns-in-None-clause-grown
returns-in-None-clause-grown c = grown_refl _

pub returns-in-None-clause-gives : goal.returns-in-None-clause-gives
returns-in-None-clause-gives c =
    IfOk-weaker c.appended.result _ _
    (λ out h f g i j. gives_as (λ s. set_rows c.args.side (f s) (g s)) (λ s. ap (λ side. set_rows side (f s) (g s)) (sym c.in-None.is)) (gives_same h (gives_append i j))) c.appended.ensures
