-- Of any other number of parts than one, AND, OR or a product is made.
use Rattle.std.proofs.Common.{◌≡◌, List, [], ◌∷◌, refl, length}
use Rattle.rt_algebra.specs.declared.query.Pred.{Pred}
use Rattle.rt_algebra.specs.declared.query.Pred.TheVariants as p
use Rattle.rt_algebra.specs.declared.query.Query.{Query}
use Rattle.rt_algebra.specs.declared.query.Query.TheVariants as q
use Rattle.rt_algebra.specs.Parts.{all_of, any_of, product_of}

pub all_of_more : (ps : List Pred) → (length ps ≡ 1 → ⊥) → all_of ps ≡ p.And ps
all_of_more [] n = refl
all_of_more (a ∷ []) n = absurd (n refl)
all_of_more (a ∷ b ∷ rest) n = refl

pub any_of_more : (ps : List Pred) → (length ps ≡ 1 → ⊥) → any_of ps ≡ p.Or ps
any_of_more [] n = refl
any_of_more (a ∷ []) n = absurd (n refl)
any_of_more (a ∷ b ∷ rest) n = refl

pub product_of_more : (qs : List Query) → (length qs ≡ 1 → ⊥) → product_of qs ≡ q.Product qs
product_of_more [] n = refl
product_of_more (a ∷ []) n = absurd (n refl)
product_of_more (a ∷ b ∷ rest) n = refl
