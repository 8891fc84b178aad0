-- The arguments `prove ARGS` or `check CERT ARGS`.
use Rattle.std.specs.Prelude.{◌≡◌, List, [], ◌∷◌, None, codes, if◌then◌else◌, ⊤}
use Rattle.std.specs.Str.{bytes_eq}
use Rattle.rt_io.specs.Command.{command}
use Rattle.rt_input.specs.Source.{Text}

-- what the arguments ask for, and the arguments of a command of `ratest`
pub data Asked : Type 0 where
  -- a certificate
  prove : List Text → Asked
  -- the check of the certificate in the file of this name
  check : Text → List Text → Asked
  neither : Asked

abbrev pub check_of : List Text → Asked
check_of [] = neither
check_of (cert ∷ args) = check cert args

abbrev pub asked_by : List Text → Asked
asked_by [] = neither
asked_by (first ∷ rest) = if bytes_eq first (codes "prove") then prove rest else if bytes_eq first (codes "check") then check_of rest else neither

-- ---- facts on what is asked for

abbrev pub IsProveAnd : Asked → (List Text → Type 0) → Type 0
IsProveAnd (prove args) P = P args
IsProveAnd (check cert args) P = ⊥
IsProveAnd neither P = ⊥

abbrev pub IsCheckAnd : Asked → (Text → List Text → Type 0) → Type 0
IsCheckAnd (prove args) P = ⊥
IsCheckAnd (check cert args) P = P cert args
IsCheckAnd neither P = ⊥

-- one of the two, of the arguments of the command
abbrev pub IsEitherAnd : Asked → (List Text → Type 0) → Type 0
IsEitherAnd (prove args) P = P args
IsEitherAnd (check cert args) P = P args
IsEitherAnd neither P = ⊥

abbrev pub IfProve : Asked → (List Text → Type 0) → Type 0
IfProve (prove args) P = P args
IfProve (check cert args) P = ⊤
IfProve neither P = ⊤

abbrev pub IfCheck : Asked → (Text → List Text → Type 0) → Type 0
IfCheck (prove args) P = ⊤
IfCheck (check cert args) P = P cert args
IfCheck neither P = ⊤

abbrev pub IfEither : Asked → (List Text → Type 0) → Type 0
IfEither (prove args) P = P args
IfEither (check cert args) P = P args
IfEither neither P = ⊤

-- the arguments are neither, or those after them are no command
abbrev pub IsUsage : Asked → Type 0
IsUsage (prove args) = command args ≡ None
IsUsage (check cert args) = command args ≡ None
IsUsage neither = ⊤
