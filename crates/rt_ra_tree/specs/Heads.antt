-- The operator at the front of terminals: its keyword, before an opening parenthesis.
--
-- This is part of what defines the answer of reading a text. By the law `read_is_tree` that is the
-- tree that the tokens spell.
use Rattle.std.specs.Prelude.{ℕ, ◌==◌, if◌then◌else◌, List, [], ◌∷◌, Option, Some, None, codes, bytes_eq}
use Rattle.rt_token.specs.declared.fixed.Fixed.{Fixed}
use Rattle.rt_token.specs.declared.fixed.Fixed.TheVariants as fixed
use Rattle.rt_token.specs.declared.terminal.Terminal.{Terminal}
use Rattle.rt_token.specs.declared.terminal.Terminal.TheVariants as terminal
use Rattle.rt_token.specs.Readers.{plain_word, starts}
use Rattle.rt_token.specs.Terminals.{Kinds, Word, code}
use Rattle.rt_ra_tree.specs.Spelled.{word_of_two}
use Rattle.rt_ra_tree.specs.declared.heads.Head.{Head}
use Rattle.rt_ra_tree.specs.declared.heads.Head.TheVariants as head
use Rattle.rt_ra_tree.specs.declared.tree.RaOp.TheVariants as two

abbrev pub head_terminal : Head → Terminal
head_terminal head.Select = terminal.Fixed fixed.Select
head_terminal head.Project = plain_word (codes "project")
head_terminal head.Rename = plain_word (codes "rename")
head_terminal (head.Two o) = word_of_two o

abbrev pub fixed_heads : List (Fixed × Head)
fixed_heads = (fixed.Select, head.Select) ∷ (fixed.Cross, head.Two two.Cross) ∷ (fixed.Join, head.Two two.Join) ∷ (fixed.Union, head.Two two.Union) ∷ (fixed.Except, head.Two two.Except) ∷ (fixed.Intersect, head.Two two.Intersect) ∷ []

abbrev pub word_heads : List (Word × Head)
word_heads = (codes "project", head.Project) ∷ (codes "rename", head.Rename) ∷ (codes "semi", head.Two two.Semi) ∷ (codes "anti", head.Two two.Anti) ∷ (codes "leftjoin", head.Two two.LeftJoin) ∷ (codes "divide", head.Two two.Divide) ∷ []

abbrev pub by_code : List (Fixed × Head) → ℕ → Option Head
by_code [] c = None
by_code (e ∷ es) c = if c == code e.0 then Some e.1 else by_code es c

abbrev pub by_word : List (Word × Head) → Word → Option Head
by_word [] w = None
by_word (e ∷ es) w = if bytes_eq w e.0 then Some e.1 else by_word es w

abbrev pub head_of : Terminal → Option Head
head_of (terminal.Fixed f) = by_code fixed_heads (code f)
head_of (terminal.Name n) = if n.quoted then None else by_word word_heads n.text
head_of (terminal.Number n) = None
head_of (terminal.Str t) = None

abbrev pub before : Kinds → Option Head → Option (Head × Kinds)
before ks None = None
before ks (Some h) = Some (h, ks)

-- the operator at the front, where a parenthesis opens after it, and what follows it
abbrev pub head_at : Kinds → Option (Head × Kinds)
head_at [] = None
head_at (k ∷ ks) = if starts fixed.OpenParen ks then before ks (head_of k) else None
