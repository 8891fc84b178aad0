-- Lemmas on the command's arguments.
use Rattle.std.proofs.Common.{◌≡◌, [], ◌∷◌, refl, inl, inr, true}
use Rattle.clap.specs.Words.{HasKind, Kinds, is_simple, is_simple_and_free, kind_of}
use Rattle.clap.specs.declared.error.Error.{Error}
use Rattle.clap.specs.declared.error.kind.ErrorKind.TheVariants as kinds
use Rattle.clap.proofs.OnLiterals.{clap_on_literals}
use Rattle.rt_io.specs.App.{command_app}

pub app_is_simple : is_simple command_app ≡ true
unfolding command_app clap_on_literals
app_is_simple = refl

pub app_is_free : is_simple_and_free command_app ≡ true
unfolding command_app clap_on_literals
app_is_free = refl

-- an error that is not of memory has a kind
pub has-fault : (ks : Kinds) (e : Error) → HasKind ks e → (kind_of e ≡ kinds.OutOfMemory → ⊥) → ks ≡ [] → ⊥
has-fault [] e (inl m) n q = n m
has-fault [] e (inr m) n q = m
has-fault (k ∷ ks) e h n q = cc q
