-- The reserved words (ISO/IEC 9075-2, 5.2 <reserved word>): those of the standard's list that
-- matter for the statements read here.
use Rattle.std.specs.Prelude.{Bool, List, [], ◌∷◌, codes}
use Rattle.std.specs.List.{list_any}
use Rattle.std.specs.Str.{bytes_eq}
use Rattle.rt_token.specs.Lexed.{Text}

abbrev pub reserved : List Text
reserved =
    codes "all" ∷ codes "and" ∷ codes "as" ∷ codes "between" ∷ codes "case" ∷ codes "cast" ∷ codes "check" ∷ codes "constraint"
    ∷ codes "create" ∷ codes "cross" ∷ codes "distinct" ∷ codes "except" ∷ codes "exists" ∷ codes "foreign" ∷ codes "from"
    ∷ codes "full" ∷ codes "group" ∷ codes "having" ∷ codes "in" ∷ codes "inner" ∷ codes "intersect" ∷ codes "is" ∷ codes "join"
    ∷ codes "left" ∷ codes "like" ∷ codes "limit" ∷ codes "natural" ∷ codes "not" ∷ codes "null" ∷ codes "on" ∷ codes "or"
    ∷ codes "order" ∷ codes "outer" ∷ codes "primary" ∷ codes "references" ∷ codes "right" ∷ codes "select" ∷ codes "table"
    ∷ codes "union" ∷ codes "unique" ∷ codes "using" ∷ codes "where" ∷ codes "with" ∷ []

unfoldable pub is_reserved : Text → Bool
is_reserved word = list_any (λ r. bytes_eq r word) reserved
