-- The answers of parsing.
use Rattle.std.proofs.Common.{◌≡◌, sym, ap, subst, List, false, Ok}
use Rattle.rt_token.specs.Words.{kinds}
use Rattle.rt_token.specs.declared.token.Token.{Token}
use Rattle.rt_token.specs.declared.token.TokenKind.{TokenKind}
use Rattle.rt_value.specs.Gives.{Gives}
use Rattle.rt_ra_tree.specs.Depth.{is_deep}
use Rattle.rt_ra_tree.specs.Formed.{IsTreeOf}
use Rattle.rt_ra_tree.specs.Refusals.{is_memory}
use Rattle.rt_ra_tree.specs.Trees.{Spells}
use Rattle.rt_ra_tree.specs.declared.tree.RaText.{RaText}
use Rattle.rt_ra_tree.proofs.TreeLemmas.{one-tree}

pub shallow : (tokens : List Token) (t : RaText) → IsTreeOf tokens t → is_deep (kinds tokens) ≡ false
shallow tokens t f = subst (λ (ks : List TokenKind). is_deep ks ≡ false) f.1 f.0.1

pub tree-of : (tokens : List Token) (t : RaText) → is_deep (kinds tokens) ≡ false → Spells tokens t → IsTreeOf tokens t
tree-of tokens t d s = ((s.0, subst (λ (ks : List TokenKind). is_deep ks ≡ false) (sym s.1) d), s.1)

pub tree-gives : (tokens : List Token) (t : RaText) → is_deep (kinds tokens) ≡ false → Spells tokens t → (u : RaText) → IsTreeOf tokens u → Gives is_memory (Ok t) (Ok u)
tree-gives tokens t d s u g = ap (λ (t : RaText). Ok t) (one-tree tokens u t g (tree-of tokens t d s))
